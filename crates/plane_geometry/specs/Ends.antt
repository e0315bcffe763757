-- The ends of a segment between two points.
use Rattle.std.specs.Prelude.{◌≡◌, ◌≢◌, ℕ, ◌<◌, IsTrue, if◌then◌else◌}
use Rattle.std.specs.Bool.{IsFalse}
use Rattle.std.specs.Ordering.{is_lt}
use Rattle.plane_geometry.specs.declared.Point.{Point}
use Rattle.plane_geometry.specs.declared.Segment.{Segment}
use Rattle.plane_geometry.specs.Position.{Position, position_of, compare_positions}
use Rattle.plane_geometry.specs.Direction.{is_along}
use Rattle.plane_geometry.specs.SegmentView.{lesser_end, greater_end}

-- the lesser of two points
abbrev pub lesser_of : Point → Point → Point
lesser_of p q = if is_lt (compare_positions (position_of p) (position_of q)) then p else q

-- the greater of two points
abbrev pub greater_of : Point → Point → Point
greater_of p q = if is_lt (compare_positions (position_of p) (position_of q)) then q else p

-- the ends of s are p and q, the lesser one first
abbrev pub HasEnds : Segment → Point → Point → Type 0
HasEnds s p q = (lesser_end s ≡ p) × (greater_end s ≡ q)

-- from p to q it goes in direction n
abbrev pub GoesAlong : ℕ → Point → Point → Type 0
GoesAlong n p q = IsTrue (is_along n (position_of p) (position_of q))

-- from p to q it goes in none of the 16 directions
abbrev pub HasNoDirection : Position → Position → Type 0
HasNoDirection p q = (n : ℕ) → n < 16 → IsFalse (is_along n p q)

-- they differ, and from one to the other it goes in none of the 16 directions
abbrev pub HaveBadDirection : Point → Point → Type 0
HaveBadDirection p q = (p ≢ q) × HasNoDirection (position_of p) (position_of q)
