-- Whole numbers as stored numbers.
use Rattle.std.specs.Prelude.{◌-◌, ◌^◌, min, ℤ, pos, negsuc}
use Rattle.std.proofs.Common.{arith}
use Rattle.surd_number.specs.declared.Surd.{Surd}
use Rattle.surd_number.specs.Number.{whole}
use Rattle.surd_number.specs.Stored.{IsStored}

-- n, or the nearest whole number that a Surd holds
abbrev pub nearest_whole : ℤ → ℤ
nearest_whole (pos n) = pos (min n (2 ^ 36))
nearest_whole (negsuc n) = negsuc (min n (2 ^ 36 - 1))

pub nearest_whole_is_stored : (n : ℤ) → IsStored (whole (nearest_whole n))
nearest_whole_is_stored (pos n) = (λ y _. omega arith, (omega arith, omega arith, omega arith))
nearest_whole_is_stored (negsuc n) = (λ y _. omega arith, (omega arith, omega arith, omega arith))

-- the whole number n, of at most 2^36 in absolute value
abbrev pub whole_surd : ℤ → Surd
whole_surd n = record { a = nearest_whole n; b = pos 0; k = 0; stored = nearest_whole_is_stored n }
