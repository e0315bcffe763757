-- The digits of fractions, and bounds of the powers that a number's text needs.
use Rattle.std.proofs.Common.{◌≡◌, ℕ, zero, suc, ◌+◌, ◌-◌, ◌*◌, ◌/◌, ◌%◌, ◌^◌, ◌<◌, ◌≤◌, ◌∷◌, arith, lit<, refl, sub-one}
use Rattle.std.proofs.lemmas.Nat.{mul-le}
use Rattle.std.proofs.Math.Nat.{pow-le-pow_right, one-le-pow}
use Rattle.cp_text.specs.Digits.{padded_digits}

-- the first of the digits, and the others
pub padded_more : (places n : ℕ) → 0 < places
    → (48 + n / 10 ^ (places - 1) % 10) ∷ padded_digits (places - 1) n ≡ padded_digits places n
padded_more zero n h = absurd (omega arith)
padded_more (suc places) n h = rw sub-one refl

-- powers of ten up to the sixteenth fit 64 bits
pub ten_fits : (k : ℕ) → k ≤ 16 → (0 < 10 ^ k) × (10 ^ k < 2 ^ 64)
ten_fits k h = (one-le-pow k 10 (lit< tt), omega (arith, pow-le-pow_right {n = 10} (lit< tt) h))

pub five_fits : (k : ℕ) → k ≤ 16 → 5 ^ k < 2 ^ 64
five_fits k h = omega (arith, pow-le-pow_right {n = 5} (lit< tt) h)

pub scaled_fits : (r k : ℕ) → r < 2 ^ k → k ≤ 16 → r * 5 ^ k < 2 ^ 64
scaled_fits r k below h =
    omega (
      arith,
      mul-le r (5 ^ k) (2 ^ 16) (5 ^ 16) (omega (arith, pow-le-pow_right {n = 2} (lit< tt) h))
          (pow-le-pow_right {n = 5} (lit< tt) h),
    )
