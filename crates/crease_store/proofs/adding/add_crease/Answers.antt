use Rattle.std.proofs.Common.{List, ◌∙◌, sym, ap, subst}
use Rattle.plane_geometry.specs.declared.Point.{Point}
use Rattle.plane_geometry.specs.SegmentView.{stretch_of}
use Rattle.crease_model.specs.declared.Piece.{Piece}
use Rattle.crease_model.specs.Rules.{is_on_sheet}
use Rattle.crease_model.specs.Sheet.{is_within_side}
use Rattle.crease_store.specs.Held.{IsHeld}
use Rattle.crease_store.proofs.Held.{held_is_added}
use Rattle.crease_store.proofs.adding.add_crease.Goals as goal

pub returns-then-is_held : goal.returns-then-is_held
returns-then-is_held c =
    let old = c.args.pattern in
    let s = c.args.s.now in
    held_is_added old c.args.kind s c.pieces.ensures.rules
    (subst (λ (ps : List Piece). IsHeld ps c.args.kind s) c.pieces.ensures.value (c.is_held.ensures c.if-is_held.true))
    (sym (c.on_sheet.ensures ∙ ap (λ (corners : List Point). is_on_sheet corners (stretch_of s)) c.sheet.ensures.value) ∙ c.if-not-on_sheet.false)
    (sym (c.on_border.ensures ∙ ap (λ (corners : List Point). is_within_side corners (stretch_of s)) c.sheet-2.ensures.value) ∙ c.if-on_border.false)
