use Rattle.std.proofs.Common.{◌≡◌, ◌↔◌, List, arith, sym, ap, subst, ◌∙◌}
use Rattle.std.proofs.lemmas.Grind.{common_steps}
use Rattle.std.specs.Prelude.{Contains}
use Rattle.plane_geometry.specs.declared.Point.{Point}
use Rattle.plane_geometry.specs.Position.{position_of}
use Rattle.plane_geometry.specs.SegmentView.{stretch_of}
use Rattle.plane_geometry.specs.Stretch.{is_on}
use Rattle.crease_model.specs.declared.Piece.{Piece}
use Rattle.line_split.specs.Parts.{parts_of, IsPart}
use Rattle.line_split.proofs.Between.{lesser_on, greater_on}
use Rattle.line_split.proofs.SplitLaws.{parts_found}
use Rattle.line_split.proofs.parting.cut_at.Goals as goal

pub loop-point-init : goal.loop-point-init
unfolding parts_of
loop-point-init c =
    let piece = c.args.piece.now in
    record {
      parts = grind (arith, common_steps);
      start = ap (λ (v : Point). is_on (position_of v) (stretch_of piece.segment)) c.from.ensures.value
          ∙ lesser_on piece.segment;
    }

pub push_part-requires-2-clause-end : goal.push_part-requires-2-clause-end
push_part-requires-2-clause-end c =
    let piece = c.args.piece.now in
    ap (λ (v : Point). is_on (position_of v) (stretch_of piece.segment)) c.to.ensures
    ∙ greater_on piece.segment

pub returns-clause-parts : goal.returns-clause-parts
unfolding parts_of
returns-clause-parts c =
    λ up q.
    let piece = c.args.piece.now in
    let points = c.args.points.now in
    let exact : c.push_part-2.new.parts.items ≡ parts_of piece points = grind (arith, common_steps) in
    subst (λ (ps : List Piece). Contains ps q ↔ IsPart piece points q) (sym exact)
    (parts_found piece points up q)
