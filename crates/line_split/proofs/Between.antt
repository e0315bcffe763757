-- The segment between two points of a segment, by how they compare.
use Rattle.std.proofs.Common.{◌≡◌, true, ap, ◌∙◌}
use Rattle.std.specs.Cmp.{IsTotalOrder}
use Rattle.std.specs.declared.cmp.Ordering.TheVariants.{Greater}
use Rattle.std.specs.Ordering.{is_lt, ordering_reverse}
use Rattle.std.proofs.lemmas.Bool.{or_left}
use Rattle.std.proofs.lemmas.Cmp.{on_total, then_total}
use Rattle.surd_number.specs.SignLaws.{compare_of_total}
use Rattle.plane_geometry.specs.declared.Point.{Point}
use Rattle.plane_geometry.specs.declared.Segment.{Segment}
use Rattle.plane_geometry.specs.Position.{Position, position_of, compare_positions, ComesBefore}
use Rattle.plane_geometry.specs.SegmentView.{stretch_of, lesser_end, greater_end}
use Rattle.plane_geometry.specs.Stretch.{is_on}
use Rattle.plane_geometry.specs.StretchLaws.{from_end, to_end}

-- ---- ends are on a segment

pub lesser_on : (s : Segment) → is_on (position_of (lesser_end s)) (stretch_of s) ≡ true
lesser_on s = or_left _ _ (from_end (stretch_of s))

pub greater_on : (s : Segment) → is_on (position_of (greater_end s)) (stretch_of s) ≡ true
greater_on s = or_left _ _ (to_end (stretch_of s))

-- ---- how two points compare

compare_positions_total : IsTotalOrder compare_positions
compare_positions_total =
    then_total (on_total (λ (p : Position). p.x) compare_of_total)
    (on_total (λ (p : Position). p.y) compare_of_total)

-- where p comes after q, q comes before p
pub before_turned : (p q : Point) → compare_positions (position_of p) (position_of q) ≡ Greater
    → ComesBefore q p
before_turned p q e =
    ap is_lt (compare_positions_total.antisymm (position_of q) (position_of p) ∙ ap ordering_reverse e)
