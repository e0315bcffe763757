-- What reading gives, by the value of the decimals.
use Rattle.std.specs.Prelude.{◌≡◌, ℕ, ◌*◌, ◌^◌, ◌↔◌, ℤ, ◌++◌, length, Some, Ok, Err}
use Rattle.surd_number.specs.declared.Surd.{Surd}
use Rattle.surd_number.specs.Number.{Number}
use Rattle.surd_number.specs.Stored.{IsSurd}
use Rattle.surd_number.specs.Exact.{IsSurdOf}
use Rattle.cp_text.specs.declared.number_reading.NumberFault.TheVariants.{OutOfRange}
use Rattle.cp_text.specs.Digits.{digits_value}
use Rattle.cp_text.specs.NumberWord.{SignedDecimal}
use Rattle.cp_text.specs.NumberReading.{magnitude_parts, parts_read}
use Rattle.cp_text.specs.NumberGrammar.{IsDecimal}

-- the digits of a decimal over their power of ten are n / 2^16
abbrev pub HasMagnitude : SignedDecimal → ℕ → Type 0
HasMagnitude d n = digits_value 0 (d.whole ++ d.fraction) * 2 ^ 16 ≡ n * 10 ^ length d.fraction

-- (a + b * sqrt 2) / 2^16
abbrev pub over_parts : ℤ → ℤ → Number
over_parts a b = record { a = a; b = b; k = 16 }

-- a decimal is exact where it is a whole number of parts of 2^16, and the answer is the Surd of both parts or that there is none
pub record ReadsTheValue : Type 0 where
  pub decimals : (d : SignedDecimal) → IsDecimal d → (n : ℕ) → (magnitude_parts d ≡ Some n) ↔ HasMagnitude d n
  pub surds : (a b : ℤ) (s : Surd) → (parts_read (Some a) (Some b) ≡ Ok s) ↔ IsSurdOf s (over_parts a b)
  pub others : (a b : ℤ) → (parts_read (Some a) (Some b) ≡ Err OutOfRange) ↔ (¬ IsSurd (over_parts a b))
