-- What a direction shows: its number; and the direction of a number.
use Rattle.std.specs.Prelude.{ℕ, ◌%◌, ◌≤◌}
use Rattle.std.proofs.Common.{arith}
use Rattle.plane_geometry.specs.declared.Dir.{Dir}

abbrev pub dir_number : Dir → ℕ
dir_number d = d.number

pub remainder_in_range : (n : ℕ) → n % 16 ≤ 15
remainder_in_range n = omega arith

-- the direction of this number, modulo 16
abbrev pub dir_of : ℕ → Dir
dir_of n = record { number = n % 16; in_range = remainder_in_range n }
