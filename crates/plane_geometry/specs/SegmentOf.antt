-- The segment between two points, where there is one.
use Rattle.std.specs.Prelude.{◌≡◌, ℕ, ◌≤◌, Bool, true, false, ◌&&◌, nat_le, Option, None, Some, if◌then◌else◌, option_and_then, refl}
use Rattle.std.specs.Ordering.{is_lt}
use Rattle.std.proofs.lemmas.Bool.{and_parts}
use Rattle.std.proofs.Common.{leb-true}
use Rattle.plane_geometry.specs.declared.Point.{Point}
use Rattle.plane_geometry.specs.declared.Segment.{Segment}
use Rattle.plane_geometry.specs.Position.{position_of, compare_positions}
use Rattle.plane_geometry.specs.Direction.{is_along, direction_of}

-- from p to q it goes in direction n, and p is the lesser end
abbrev pub is_segment : Point → Point → ℕ → Bool
is_segment p q n =
    nat_le n 15 && (is_lt (compare_positions (position_of p) (position_of q))
    && is_along n (position_of p) (position_of q))

pub number_in_range : (p q : Point) (n : ℕ) → is_segment p q n ≡ true → n ≤ 15
number_in_range p q n h = leb-true n 15 (and_parts (nat_le n 15) _ h).0

abbrev pub segment_by : (p q : Point) (n : ℕ) (b : Bool) → is_segment p q n ≡ b → Option Segment
segment_by p q n true h = Some (record {
  from = p;
  to = q;
  dir = record { number = n; in_range = number_in_range p q n h };
  stretch = and_parts _ _ (and_parts (nat_le n 15) _ h).1;
})
segment_by p q n false h = None

-- the segment with the lesser end p and the greater end q
abbrev pub segment_from : Point → Point → Option Segment
segment_from p q =
    option_and_then (λ n. segment_by p q n (is_segment p q n) refl)
    (direction_of (position_of p) (position_of q))

-- the segment between p and q, if they differ and lie in one of the 16 directions from each other
abbrev pub segment_of : Point → Point → Option Segment
segment_of p q =
    if is_lt (compare_positions (position_of p) (position_of q)) then segment_from p q else segment_from q p
