-- Open regions: for each of the 16 directions at most one line, and the points strictly left of all lines.
use Rattle.std.specs.Prelude.{◌≡◌, ℕ, ◌+◌, ◌<◌, ◌⊎◌, Option, None, IfSome, IsTrue, option_map, nat_lt, slice_index_or, if◌then◌else◌}
use Rattle.std.specs.Option.{IsSomeAnd}
use Rattle.surd_number.specs.declared.Sgn.TheVariants.{Pos}
use Rattle.surd_number.specs.Number.{Number, IsSame, IsLess, negative_of}
use Rattle.plane_geometry.specs.Position.{Position, cross_of}
use Rattle.plane_geometry.specs.Direction.{direction_vector, side_of}
use Rattle.plane_geometry.specs.declared.Segment.{Segment}
use Rattle.plane_geometry.specs.Stretch.{is_between}
use Rattle.plane_geometry.specs.SegmentView.{stretch_of}
use Rattle.open_region.specs.declared.Region.{Region}
use Rattle.open_region.specs.declared.edge.Edge.{Edge}
use Rattle.open_region.specs.EdgeView.{line_offset_of}

abbrev pub edge_at : Region → ℕ → Option Edge
edge_at r n = slice_index_or r.edges n None

-- the cross product of direction n with the points of a line, from that of direction n modulo 8
abbrev pub turned_offset : ℕ → Number → Number
turned_offset n o = if nat_lt n 8 then o else negative_of o

-- that of an edge's line
abbrev pub edge_offset_of : ℕ → Edge → Number
edge_offset_of n e = turned_offset n (line_offset_of e)

-- the 16 offsets of a region: of direction n with the points of its line in that direction, if it has one
abbrev pub offset_at : Region → ℕ → Option Number
offset_at r n = option_map (edge_offset_of n) (edge_at r n)

-- strictly left of the line in direction n of offset o
abbrev pub IsBeyond : Number → ℕ → Position → Type 0
IsBeyond o n p = IsLess o (cross_of (direction_vector n) p)

-- the line of the edge, taken in direction n, passes through p
abbrev pub IsOffsetFrom : ℕ → Edge → Position → Type 0
IsOffsetFrom n e p = IsSame (edge_offset_of n e) (cross_of (direction_vector n) p)

-- strictly left of the line of an edge, taken in direction n
abbrev pub IsLeftOfEdge : Position → ℕ → Edge → Type 0
IsLeftOfEdge p n e = IsBeyond (edge_offset_of n e) n p

-- less is strictly left of e than of f, both taken in direction n
abbrev pub IsTighter : ℕ → Edge → Edge → Type 0
IsTighter n e f = IsLess (edge_offset_of n f) (edge_offset_of n e)

-- strictly left of the region's line in direction n, if it has one
abbrev pub IsLeftOfLine : Position → Region → ℕ → Type 0
IsLeftOfLine p r n = IfSome (offset_at r n) (λ o. IsBeyond o n p)

abbrev pub IsInRegion : Position → Region → Type 0
IsInRegion p r = (n : ℕ) → n < 16 → IsLeftOfLine p r n

-- strictly left of the line through q in direction n
abbrev pub IsLeftOf : Position → Position → ℕ → Type 0
IsLeftOf p q n = side_of q n p ≡ Pos

-- some point of the plane is in it
abbrev pub HasPoint : Region → Type 0
HasPoint r = (p : Position) × IsInRegion p r

-- some point of r is strictly left of the line through q in direction n
abbrev pub HasPointLeftOf : Region → Position → ℕ → Type 0
HasPointLeftOf r q n = (p : Position) × IsInRegion p r × IsLeftOf p q n

-- some point of r is at the height y
abbrev pub IsHeight : Region → Number → Type 0
IsHeight r y = (x : Number) × IsInRegion (record { x = x; y = y }) r

-- some point strictly between the ends of s is in r
abbrev pub HasPointBetween : Region → Segment → Type 0
HasPointBetween r s = (p : Position) × IsTrue (is_between p (stretch_of s)) × IsInRegion p r

-- the line of r opposite to direction n is there, and nothing is between it and an edge in direction n
abbrev pub LeavesNothing : Region → ℕ → Edge → Type 0
LeavesNothing r n right =
    IsSomeAnd (edge_at r (n + 8)) (λ left. ¬ IsLess (line_offset_of right) (line_offset_of left))

-- the line of r in direction n and that of s in the opposite direction are there, and nothing is between them
abbrev pub LeaveNothing : Region → Region → ℕ → Type 0
LeaveNothing r s n = IsSomeAnd (edge_at r n) (LeavesNothing s n)

-- in some direction one region's line and the other's opposite line leave nothing between them
abbrev pub AreApart : Region → Region → Type 0
AreApart r s = (n : ℕ) × (n < 8) × (LeaveNothing r s n ⊎ LeaveNothing s r n)
