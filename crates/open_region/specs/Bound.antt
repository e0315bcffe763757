-- Strict linear bounds on one number.
use Rattle.std.specs.Prelude.{ℕ}
use Rattle.surd_number.specs.Number.{Number, IsLess, difference_of, product_of}
use Rattle.plane_geometry.specs.Position.{cross_of}
use Rattle.plane_geometry.specs.Direction.{direction_vector}

pub record Bound : Type 0 where
  pub slope : Number
  pub offset : Number

-- offset < slope * y
abbrev pub HoldsAt : Number → Bound → Type 0
HoldsAt y b = IsLess b.offset (product_of b.slope y)

-- m - n less than a multiple of the cross product of two directions
abbrev pub turn_bound : ℕ → ℕ → Number → Number → Bound
turn_bound j k m n = record {
  slope = cross_of (direction_vector j) (direction_vector k);
  offset = difference_of m n;
}
