use Rattle.std.proofs.Common.{◌≡◌, ◌≤◌, true, List, length, sym, ap, subst, ◌∙◌, arith}
use Rattle.plane_geometry.specs.declared.Point.{Point}
use Rattle.plane_geometry.specs.declared.Segment.{Segment}
use Rattle.plane_geometry.specs.SegmentView.{stretch_of}
use Rattle.crease_model.specs.View.{PatternView}
use Rattle.crease_model.specs.Rules.{IsPattern, is_on_sheet, size_of}
use Rattle.crease_store.specs.InOrder.{line_at}
use Rattle.crease_store.specs.Adding.{with_line}
use Rattle.crease_store.proofs.Kept.{IsPattern-with_line}
use Rattle.crease_store.proofs.InOrderLaws.{placed_length}
use Rattle.crease_store.proofs.adding.add_line.Goals as goal

pub of-requires : goal.of-requires
of-requires c =
    let parts : PatternView = record {
      corners = c.into_parts-sheet.result.0;
      pieces = c.into_parts-sheet.result.1.items;
      aux = c.into_parts-sheet.result.2.items;
    } in
    let is_old = c.into_parts-sheet.ensures.value in
    let size : size_of (with_line parts c.args.s.now) ≤ 2000 =
    omega (arith, c.if-size-gt-MOST_PIECES.false, c.len.ensures, c.len-2.ensures, ap length c.in_ok-place.ensures.ok) in
    let on_sheet : is_on_sheet c.args.pattern.corners (stretch_of c.args.s.now) ≡ true =
    sym (c.on_sheet.ensures ∙ ap (λ (corners : List Point). is_on_sheet corners (stretch_of c.args.s.now)) c.sheet.ensures.value) ∙ c.if-not-on_sheet.false in
    subst (λ (lines : List Segment). IsPattern (record { corners = parts.corners; pieces = parts.pieces; aux = lines })) (sym c.in_ok-place.ensures.ok)
    (IsPattern-with_line parts c.args.s.now (subst IsPattern is_old c.into_parts-sheet.ensures.rules)
    (subst (λ (p : PatternView). is_on_sheet p.corners (stretch_of c.args.s.now) ≡ true) is_old on_sheet) size)

pub overflow_cast-result : goal.overflow_cast-result
overflow_cast-result c =
    let size : size_of c.args.pattern ≤ 2000 = c.into_parts-sheet.ensures.rules.size in
    omega (
      arith,
      placed_length line_at c.into_parts-sheet.result.2.items c.args.s.now,
      c.len.ensures,
      c.len-2.ensures,
      ap length c.in_ok-place.ensures.ok,
      subst (λ (p : PatternView). size_of p ≤ 2000) c.into_parts-sheet.ensures.value size,
    )
