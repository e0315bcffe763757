-- The digits of a whole number read as it.
use Rattle.std.proofs.Common.{◌≡◌, ℕ, zero, suc, ◌+◌, ◌*◌, ◌/◌, ◌%◌, ◌^◌, ◌<◌, ◌≤◌, min, Bool, true, false, ◌&&◌, List, [], ◌∷◌, ◌++◌, length, Some, None, cond, decimal, nat_le, inl, inr, refl, sym, ap, ap₂, ◌∙◌, arith}
use Rattle.std.proofs.lemmas.Bool.{cases_lt}
use Rattle.std.proofs.lemmas.Bool.Decides.{nat_tests}
use Rattle.std.proofs.lemmas.List.{length-append}
use Rattle.std.proofs.lemmas.Fmt.{decimal_by_steps}
use Rattle.std.proofs.Math.Nat.{pow-succ'}
use Rattle.cp_text.specs.Digits.{is_digits, digits_value}
use Rattle.cp_text.specs.WholeNumber.{number_between}
use Rattle.cp_text.specs.Laws.{WholeNumbersReadBack}
use Rattle.cp_text.proofs.DigitTexts.{AreDigits, decimal_is}

-- a number below a power of ten has no more digits than that
abbrev IsShort : ℕ → List ℕ → Type 0
IsShort n ds = (k : ℕ) → n < 10 ^ suc k → length ds ≤ suc k

short_one : (n : ℕ) → n < 10 → IsShort n ((48 + n) ∷ [])
short_one n h k below = omega arith

short_more : (n : ℕ) (ds : List ℕ) → 10 ≤ n → IsShort (n / 10) ds → IsShort n (ds ++ ((48 + n % 10) ∷ []))
short_more n ds h short zero below = absurd (omega arith)
short_more n ds h short (suc k) below =
    let ten : 10 ^ suc (suc k) ≡ 10 * 10 ^ suc k = pow-succ' 10 (suc k) in
    omega (arith, length-append ds ((48 + n % 10) ∷ []), short k (omega (arith, ten)))

short : (n : ℕ) → n < 2 ^ 64 → IsShort n (decimal n)
short n h = decimal_by_steps IsShort short_one short_more n h

digits_alone : (ds : List ℕ) → AreDigits ds → 0 < length ds → is_digits ds ≡ true
digits_alone [] h some = absurd (omega arith)
digits_alone (d ∷ ds) h some = h.all

pub whole_numbers_read_back : WholeNumbersReadBack
whole_numbers_read_back least most n above below fits =
    let is = decimal_is n (omega arith) in
    let digits : is_digits (decimal n) ≡ true = digits_alone (decimal n) is.digits is.some in
    let few : nat_le (length (decimal n)) 10 ≡ true = grind (arith, nat_tests, short n (omega arith) 9 fits) in
    let low : nat_le least n ≡ true = grind (arith, nat_tests) in
    let high : nat_le n most ≡ true = grind (arith, nat_tests) in
    ap₂ (λ p q. cond (p && q) (number_between least most (digits_value 0 (decimal n))) None) digits few
    ∙ ap (number_between least most) is.value
    ∙ ap₂ (λ p q. cond (p && q) (Some n) None) low high

-- a limit below the bound of a value doesn't see that it was bounded
pub bounded_between : (least most n : ℕ) → most < 2 ^ 37
    → number_between least most (min n (2 ^ 37)) ≡ number_between least most n
bounded_between least most n few = elim (cases_lt (2 ^ 37) n) [
  | inr within ↦ ap (number_between least most) (omega (arith, within))
  | inl above ↦ too_great least most (min n (2 ^ 37)) (omega (arith, above, few))
      ∙ sym (too_great least most n (omega (arith, above, few)))
]
  where
    refused : (b c : Bool) (m : ℕ) → c ≡ false → cond (b && c) (Some m) None ≡ None
    refused true c m e = ap (λ d. cond d (Some m) None) e
    refused false c m e = refl

    too_great : (l t m : ℕ) → t < m → number_between l t m ≡ None
    too_great l t m h = refused (nat_le l m) (nat_le m t) m (grind (arith, nat_tests))
