-- Straight stretches from one point to another, in one of the 16 directions.
use Rattle.std.specs.Prelude.{ℕ, Bool, ◌&&◌, ◌||◌, not, IsTrue}
use Rattle.std.specs.Bool.{IsFalse}
use Rattle.std.specs.Ordering.{is_lt}
use Rattle.plane_geometry.specs.Position.{Position, compare_positions, is_same_position}
use Rattle.plane_geometry.specs.Direction.{side_of, is_positive, is_negative, is_zero}

-- from and to are the ends, dir the direction from one to the other
pub record Stretch : Type 0 where
  pub from : Position
  pub to : Position
  pub dir : ℕ

-- on the line of the stretch
abbrev pub is_in_line : Position → Stretch → Bool
is_in_line p s = is_zero (side_of s.from s.dir p)

-- strictly between the ends: in line, and between them in the order of points
abbrev pub is_between : Position → Stretch → Bool
is_between p s = is_in_line p s && (is_lt (compare_positions s.from p) && is_lt (compare_positions p s.to))

abbrev pub is_end : Position → Stretch → Bool
is_end p s = is_same_position p s.from || is_same_position p s.to

-- on the stretch: strictly between the ends, or an end
abbrev pub is_on : Position → Stretch → Bool
is_on p s = is_end p s || is_between p s

-- p and q are strictly on different sides of the line of s
abbrev pub is_parted : Position → Position → Stretch → Bool
is_parted p q s =
    (is_positive (side_of s.from s.dir p) && is_negative (side_of s.from s.dir q))
    || (is_negative (side_of s.from s.dir p) && is_positive (side_of s.from s.dir q))

-- each passes strictly from one side of the other to the other side
abbrev pub is_crossing : Stretch → Stretch → Bool
is_crossing s u = is_parted u.from u.to s && is_parted s.from s.to u

-- one ends before the other begins, in the order of points
abbrev pub is_apart : Stretch → Stretch → Bool
is_apart s u = is_lt (compare_positions s.to u.from) || is_lt (compare_positions u.to s.from)

-- some point is on both: an end of one lies on the other, or they cross
abbrev pub is_touching : Stretch → Stretch → Bool
is_touching s u = (is_on s.from u || is_on s.to u) || ((is_on u.from s || is_on u.to s) || is_crossing s u)

-- an end of s that is on u is an end of u
abbrev pub ends_at_ends : Stretch → Stretch → Bool
ends_at_ends s u = (not (is_on s.from u) || is_end s.from u) && (not (is_on s.to u) || is_end s.to u)

-- s and u have both ends in common
abbrev pub has_same_ends : Stretch → Stretch → Bool
has_same_ends s u = is_end s.from u && is_end s.to u

-- each common point is an end of both
abbrev pub meets_at_ends : Stretch → Stretch → Bool
meets_at_ends s u =
    not (is_crossing s u) && (not (has_same_ends s u) && (ends_at_ends s u && ends_at_ends u s))

-- a part of positive length is on both: they are on one line, and each begins before the other ends
abbrev pub is_overlapping : Stretch → Stretch → Bool
is_overlapping s u =
    (is_in_line u.from s && is_in_line u.to s)
    && (is_lt (compare_positions s.from u.to) && is_lt (compare_positions u.from s.to))

-- ---- the same by points: any pairs of numbers

-- some point is on both
abbrev pub ShareAPoint : Stretch → Stretch → Type 0
ShareAPoint s u = (p : Position) × IsTrue (is_on p s) × IsTrue (is_on p u)

-- each point on both is an end of both
abbrev pub MeetAtEnds : Stretch → Stretch → Type 0
MeetAtEnds s u = (p : Position) → IsTrue (is_on p s) → IsTrue (is_on p u)
    → IsTrue (is_end p s) × IsTrue (is_end p u)

-- two different points are on both
abbrev pub ShareTwoPoints : Stretch → Stretch → Type 0
ShareTwoPoints s u =
    (p : Position) × (q : Position) × IsFalse (is_same_position p q)
    × IsTrue (is_on p s) × IsTrue (is_on p u) × IsTrue (is_on q s) × IsTrue (is_on q u)
