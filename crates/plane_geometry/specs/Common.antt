-- The common point of two lines, given as lines or as those of two stretches.
use Rattle.std.specs.Prelude.{ℕ, ◌%◌, Bool, IsTrue, nat_eq, nat_lt, Option, None, Some, if◌then◌else◌}
use Rattle.surd_number.specs.declared.Surd.{Surd}
use Rattle.surd_number.specs.Number.{Number, difference_of, product_of, unit_inverse_of}
use Rattle.surd_number.specs.Value.{wide_number_of}
use Rattle.surd_number.specs.Exact.{surd_of}
use Rattle.std.specs.Bool.{IsFalse}
use Rattle.plane_geometry.specs.declared.Point.{Point}
use Rattle.plane_geometry.specs.declared.Line.{Line}
use Rattle.plane_geometry.specs.declared.Segment.{Segment}
use Rattle.plane_geometry.specs.Position.{Position, cross_of}
use Rattle.plane_geometry.specs.Direction.{direction_vector}
use Rattle.plane_geometry.specs.CrossTable.{cross_tangents, cross_roots}
use Rattle.plane_geometry.specs.LineView.{line_number, line_offset, IsPoint}
use Rattle.plane_geometry.specs.SegmentView.{stretch_of}
use Rattle.plane_geometry.specs.Stretch.{Stretch, is_in_line}

-- in one direction, or in opposite ones
abbrev pub is_parallel : Stretch → Stretch → Bool
is_parallel s u = nat_eq (s.dir % 8) (u.dir % 8)

abbrev pub AreParallel : Segment → Segment → Type 0
AreParallel s u = IsTrue (is_parallel (stretch_of s) (stretch_of u))

-- p is on the lines of both
abbrev pub IsOnBothLines : Position → Segment → Segment → Type 0
IsOnBothLines p s u = IsTrue (is_in_line p (stretch_of s)) × IsTrue (is_in_line p (stretch_of u))

-- they have different directions, and no point of two Surds is on the lines of both
abbrev pub IsMeetingOutOfRange : Segment → Segment → Type 0
IsMeetingOutOfRange s u =
    IsFalse (is_parallel (stretch_of s) (stretch_of u)) × ((p : Position) → IsOnBothLines p s u → ¬ IsPoint p)

-- the common point of the lines in directions d and e with the offsets o and u, by the inverse i of the cross product of
-- d and e
abbrev pub meeting_point : Position → Number → Position → Number → Number → Position
meeting_point d o e u i = record {
  x = product_of (difference_of (product_of e.x o) (product_of d.x u)) i;
  y = product_of (difference_of (product_of e.y o) (product_of d.y u)) i;
}

-- where the line in direction m of offset o meets the line in a later direction n of offset u, both 0 to 7
abbrev pub lines_meet_at : ℕ → Number → ℕ → Number → Position
lines_meet_at m o n u =
    meeting_point (direction_vector m) o (direction_vector n) u
    (unit_inverse_of (cross_tangents m n) (cross_roots m n))

-- where a line meets one of a later direction
abbrev pub meeting_of : Line → Line → Position
meeting_of l m =
    lines_meet_at (line_number l) (wide_number_of (line_offset l)) (line_number m)
    (wide_number_of (line_offset m))

-- the direction and the offset of the line of a stretch
abbrev pub line_direction : Stretch → ℕ
line_direction s = s.dir % 8

abbrev pub offset_of : Stretch → Number
offset_of s = cross_of (direction_vector (line_direction s)) s.from

-- where the lines of two stretches that are not parallel meet
abbrev pub crossing_of : Stretch → Stretch → Position
crossing_of s u =
    if nat_lt (line_direction s) (line_direction u)
    then lines_meet_at (line_direction s) (offset_of s) (line_direction u) (offset_of u)
    else lines_meet_at (line_direction u) (offset_of u) (line_direction s) (offset_of s)

abbrev pub both_of : Option Surd → Option Surd → Option Point
both_of (Some x) (Some y) = Some (record { x = x; y = y })
both_of (Some x) None = None
both_of None y = None

-- the point of two Surds there, if there is one
abbrev pub point_at : Position → Option Point
point_at p = both_of (surd_of p.x) (surd_of p.y)

-- the common point of the lines of two stretches, if they have just one and it is of two Surds
unfoldable pub common_of : Stretch → Stretch → Option Point
common_of s u = if is_parallel s u then None else point_at (crossing_of s u)
