-- Bounds that the lines of a region put on one number: on places along a line of the plane, and on heights.
use Rattle.std.specs.Prelude.{ℕ, ◌+◌, ◌%◌, ◌<◌, ◌≤◌, pos, IfSome, IsTrue}
use Rattle.surd_number.specs.Number.{Number, whole, sum_of, product_of}
use Rattle.plane_geometry.specs.Position.{Position, position_of}
use Rattle.plane_geometry.specs.Direction.{direction_vector}
use Rattle.plane_geometry.specs.declared.Segment.{Segment}
use Rattle.plane_geometry.specs.Stretch.{is_between}
use Rattle.plane_geometry.specs.SegmentView.{lesser_end, direction_number, stretch_of}
use Rattle.open_region.specs.declared.Region.{Region}
use Rattle.open_region.specs.Bound.{Bound, HoldsAt, turn_bound}
use Rattle.open_region.specs.EdgeView.{line_offset_of}
use Rattle.open_region.specs.Region.{edge_at, IsLeftOfLine}

-- the point that is z times direction n away from q
abbrev pub point_along : Position → ℕ → Number → Position
point_along q n z = record {
  x = sum_of q.x (product_of z (direction_vector n).x);
  y = sum_of q.y (product_of z (direction_vector n).y);
}

abbrev pub origin : Position
origin = record { x = whole (pos 0); y = whole (pos 0) }

-- strictly between the horizontal lines of a region
abbrev pub IsLevel : Region → Number → Type 0
IsLevel r y = IsLeftOfLine (point_along origin 4 y) r 0 × IsLeftOfLine (point_along origin 4 y) r 8

-- the bound on the heights y at which some x is left of a line in direction n and right of one in direction k
abbrev pub strip_bound : ℕ → Number → ℕ → Number → Bound
strip_bound n right k left =
    turn_bound n k (product_of (direction_vector k).y right) (product_of (direction_vector n).y left)

-- at the height y, the line in direction n leaves room for the one in direction k + 8, if there is one
abbrev pub HoldsAcross : Region → ℕ → Number → ℕ → Number → Type 0
HoldsAcross r n right k y =
    IfSome (edge_at r (k + 8)) (λ left. HoldsAt y (strip_bound n right k (line_offset_of left)))

-- and for each of directions 9 to 15
abbrev pub HoldsAcrossAll : Region → ℕ → Number → Number → Type 0
HoldsAcrossAll r n right y = (k : ℕ) → k < 8 → 1 ≤ k → HoldsAcross r n right k y

-- and for the region's line in direction n, if it has one
abbrev pub IsCrossed : Region → ℕ → Number → Type 0
IsCrossed r n y = IfSome (edge_at r n) (λ right. HoldsAcrossAll r n (line_offset_of right) y)

-- the point of a segment's line that is z times its direction modulo 8 away from its lesser end
abbrev pub point_on : Segment → Number → Position
point_on s z = point_along (position_of (lesser_end s)) (direction_number s % 8) z

abbrev pub IsBetweenEnds : Segment → Number → Type 0
IsBetweenEnds s z = IsTrue (is_between (point_on s z) (stretch_of s))
