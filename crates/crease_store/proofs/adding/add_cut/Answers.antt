use Rattle.std.proofs.Common.{◌≡◌, ◌≤◌, not, List, length, sym, ap, ap₂, subst, ◌∙◌, arith, true}
use Rattle.crease_model.specs.declared.Piece.{Piece}
use Rattle.plane_geometry.specs.SegmentView.{stretch_of}
use Rattle.crease_model.specs.View.{PatternView}
use Rattle.crease_model.specs.Rules.{IsPattern, is_ascending, segments_of, size_of}
use Rattle.line_split.specs.Cuts.{is_touched, untouched}
use Rattle.line_split.specs.CutLaws.{cuts_ascend}
use Rattle.crease_store.specs.InOrder.{segment_at, with_all_in_order, HaveOneOnEach}
use Rattle.crease_store.specs.Adding.{new_parts, new_pieces, pieces_with, with_crease}
use Rattle.crease_store.proofs.AddedParts.{one_on_each}
use Rattle.crease_store.proofs.Ascending.{filter_ascends}
use Rattle.crease_store.proofs.Kept.{IsPattern-with_crease, pieces_with_few}
use Rattle.crease_store.proofs.adding.add_cut.Goals as goal

pub cut_parts-requires : goal.cut_parts-requires
cut_parts-requires c = cuts_ascend c.args.s.now c.args.pattern.pieces c.args.cutting.now.points.items c.requires.cuts

pub place_pieces-requires : goal.place_pieces-requires
place_pieces-requires c =
    let old = c.args.pattern.pieces in
    let s = c.args.s.now in
    let cuts = c.args.cutting.now.points.items in
    let others : c.as_slice.result.now ≡ untouched (stretch_of s) old = c.as_slice.ensures.value ∙ c.requires.others in
    let parts : c.in_ok-parts.parts.items ≡ new_pieces old c.args.kind s cuts =
    c.in_ok-parts.ensures ∙ ap (λ (ps : List Piece). new_parts ps c.args.kind s cuts) c.requires.touched in
    record {
      up = subst (λ (ps : List Piece). is_ascending (segments_of ps) ≡ true) (sym others)
          (filter_ascends segment_at (λ (p : Piece). not (is_touched (stretch_of s) p)) old c.requires.rules.order.0);
      one = subst (λ (ps : List Piece). HaveOneOnEach ps c.in_ok-parts.parts.items) (sym others)
          (subst (λ (ps : List Piece). HaveOneOnEach (untouched (stretch_of s) old) ps) (sym parts)
          (one_on_each old c.args.kind s cuts c.requires.rules.meetings c.requires.cuts));
    }

pub overflow_cast-result : goal.overflow_cast-result
overflow_cast-result c =
    let old = c.args.pattern in
    let s = c.args.s.now in
    let cuts = c.args.cutting.now.points.items in
    let few = pieces_with_few old c.args.kind s cuts c.requires.rules c.requires.cuts in
    let pieces : c.in_ok-pieces.pieces.items ≡ pieces_with old.pieces c.args.kind s cuts =
    c.in_ok-pieces.ensures
    ∙ ap₂ (λ (os ns : List Piece). with_all_in_order segment_at os ns) (c.as_slice.ensures.value ∙ c.requires.others)
    (c.in_ok-parts.ensures ∙ ap (λ (ps : List Piece). new_parts ps c.args.kind s cuts) c.requires.touched) in
    omega (arith, few, c.len.ensures, c.len-2.ensures, ap length pieces, ap (λ (p : PatternView). length p.aux) c.into_parts-sheet.ensures.value, c.requires.rules.size)

pub of-requires : goal.of-requires
of-requires c =
    let old = c.args.pattern in
    let s = c.args.s.now in
    let cuts = c.args.cutting.now.points.items in
    let is_old = c.into_parts-sheet.ensures.value in
    let pieces : c.in_ok-pieces.pieces.items ≡ pieces_with old.pieces c.args.kind s cuts =
    c.in_ok-pieces.ensures
    ∙ ap₂ (λ (os ns : List Piece). with_all_in_order segment_at os ns) (c.as_slice.ensures.value ∙ c.requires.others)
    (c.in_ok-parts.ensures ∙ ap (λ (ps : List Piece). new_parts ps c.args.kind s cuts) c.requires.touched) in
    let size : size_of (with_crease old c.args.kind s cuts) ≤ 2000 =
    omega (arith, c.if-size-gt-MOST_PIECES.false, c.len.ensures, c.len-2.ensures, ap length pieces, ap (λ (p : PatternView). length p.aux) is_old) in
    subst (λ (p : PatternView). IsPattern (record { corners = p.corners; pieces = c.in_ok-pieces.pieces.items; aux = p.aux })) is_old
    (subst (λ (ps : List Piece). IsPattern (record { corners = old.corners; pieces = ps; aux = old.aux })) (sym pieces)
    (IsPattern-with_crease old c.args.kind s cuts c.requires.rules c.requires.sheet c.requires.kind c.requires.on_sheet c.requires.inside c.requires.cuts size))
