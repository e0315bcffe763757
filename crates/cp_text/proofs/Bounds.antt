-- Numbers of parts beyond every stored number may be replaced by nearer ones.
use Rattle.std.proofs.Common.{◌≡◌, ℕ, zero, suc, ◌-◌, ◌*◌, ◌^◌, ◌<◌, ◌≤◌, min, ℤ, pos, negsuc, unsigned_abs, ◌*ℤ◌, Bool, true, false, Option, Some, None, refl, ap, sym, ◌∙◌, arith, inl, inr, ◌⊎◌, option_map, ap₂}
use Rattle.std.specs.Prelude.{Result}
use Rattle.std.specs.Result.{result_ok}
use Rattle.std.proofs.lemmas.Bool.{cases_lt}
use Rattle.std.proofs.lemmas.Nat.{mul-le, pow_pos}
use Rattle.std.proofs.lemmas.Int.{ints, unsigned_abs-mul}
use Rattle.surd_number.specs.declared.Surd.{Surd}
use Rattle.surd_number.specs.declared.OutOfRange.{OutOfRange}
use Rattle.surd_number.specs.Exact.{IsExactly, surd_of}
use Rattle.surd_number.specs.Number.{Number, power}
use Rattle.surd_number.specs.ExactLaws.{surd_of-none, surd_of-exactly}
use Rattle.cp_text.specs.NumberReading.{signed, bounded, parts_read, surd_answer}

abbrev over_parts : ℤ → ℤ → Number
over_parts a b = record { a = a; b = b; k = 16 }

-- a numerator of at most 2^36 over 2^k is at most 2^52 over 2^16
small : (m n : ℤ) (k : ℕ) → unsigned_abs m ≤ 2 ^ 36 → m *ℤ power 16 ≡ n *ℤ power k → unsigned_abs n ≤ 2 ^ 52
small m n k h e =
    let sizes : unsigned_abs m * 2 ^ 16 ≡ unsigned_abs n * 2 ^ k = sym (unsigned_abs-mul m (power 16))
    ∙ ap unsigned_abs e ∙ unsigned_abs-mul n (power k) in
    let grows : unsigned_abs n * 1 ≤ unsigned_abs n * 2 ^ k = mul-le (unsigned_abs n) 1 (unsigned_abs n)
    (2 ^ k) (omega arith) (pow_pos k) in
    omega arith

large_first : (a b : ℤ) → 2 ^ 52 < unsigned_abs a → surd_of (over_parts a b) ≡ None
large_first a b h = surd_of-none (over_parts a b) (λ s. omega (arith, small s.0.a a s.0.k s.1.1.0 s.2.0))

large_second : (a b : ℤ) → 2 ^ 52 < unsigned_abs b → surd_of (over_parts a b) ≡ None
large_second a b h = surd_of-none (over_parts a b) (λ s. omega (arith, small s.0.b b s.0.k s.1.1.1 s.2.1))

bounded_cases : (z : ℤ) → (bounded z ≡ z) ⊎ (2 ^ 52 < unsigned_abs z) × (2 ^ 52 < unsigned_abs (bounded z))
bounded_cases (pos n) =
    elim (cases_lt (2 ^ 53) n) [
      | inl above ↦ inr (omega arith, omega arith)
      | inr h ↦ inl (ap pos (omega arith))
    ]
bounded_cases (negsuc n) =
    elim (cases_lt (2 ^ 53 - 1) n) [
      | inl above ↦ inr (omega arith, omega arith)
      | inr h ↦ inl (ap negsuc (omega arith))
    ]

surd_of-bounded : (a b : ℤ) → surd_of (over_parts (bounded a) (bounded b)) ≡ surd_of (over_parts a b)
surd_of-bounded a b =
    elim (bounded_cases a) [
      | inr h ↦ large_first (bounded a) (bounded b) h.1 ∙ sym (large_first a b h.0)
      | inl same_a ↦ elim (bounded_cases b) [
        | inr h ↦ large_second (bounded a) (bounded b) h.1 ∙ sym (large_second a b h.0)
        | inl same_b ↦ ap₂ (λ (m n : ℤ). surd_of (over_parts m n)) same_a same_b
      ]
    ]

-- the answer stays the same
pub parts_read_bounded : (a b : Option ℤ)
    → parts_read (option_map bounded a) (option_map bounded b) ≡ parts_read a b
parts_read_bounded (Some a) (Some b) = ap surd_answer (surd_of-bounded a b)
parts_read_bounded (Some a) None = refl
parts_read_bounded None b = refl

pub rational_bounded : (a : Option ℤ)
    → parts_read (option_map bounded a) (Some (pos 0)) ≡ parts_read a (Some (pos 0))
rational_bounded a = parts_read_bounded a (Some (pos 0))

pub root_bounded : (b : Option ℤ)
    → parts_read (Some (pos 0)) (option_map bounded b) ≡ parts_read (Some (pos 0)) b
root_bounded b = parts_read_bounded (Some (pos 0)) b

-- the sign of a bounded number of parts
pub signed_bounded : (negative : Bool) (n : ℕ)
    → signed negative (min n (2 ^ 53)) ≡ bounded (signed negative n)
signed_bounded false n = refl
signed_bounded true zero = refl
signed_bounded true (suc n) = omega (arith, ints)

-- what an exact sum of parts answers
pub surd_of_exactly : (a b : ℤ) (r : Result Surd OutOfRange) → IsExactly r (over_parts a b)
    → surd_of (over_parts a b) ≡ result_ok r
surd_of_exactly a b r h = surd_of-exactly (over_parts a b) r h
