-- The digits of a fraction in lowest terms, and how many parts of 2^16 they are.
use Rattle.std.proofs.Common.{◌≡◌, ◌≢◌, ℕ, zero, suc, ◌+◌, ◌-◌, ◌*◌, ◌/◌, ◌%◌, ◌^◌, ◌<◌, ◌≤◌, ◌⊎◌, inl, inr, List, length, Some, refl, ap, ap₂, sym, ◌∙◌, arith, lit<, subst}
use Rattle.std.proofs.lemmas.Bool.{cases_eq}
use Rattle.std.proofs.lemmas.Bool.Decides.{nat_tests}
use Rattle.std.proofs.lemmas.Nat.{mul-le, mul-pow, mul-mod, pow-mod, pow-add}
use Rattle.std.proofs.Math.Nat.{pow-succ', mul-div_cancel, mul-mod_left, mod-eq_of_lt}
use Rattle.cp_text.specs.Digits.{digits_value, padded_digits, without_zeros}
use Rattle.cp_text.specs.NumberText.{fraction_digits}
use Rattle.cp_text.specs.NumberReading.{exact_parts, fraction_parts}
use Rattle.cp_text.proofs.DigitTexts.{AreDigits, padded_digits-digits, length-padded_digits, digits_value-padded, padded_digits-last}
use Rattle.cp_text.proofs.DigitValues.{without_zeros-digit, five_positive}

-- r / 2^k in lowest terms
pub record Lowest (k r : ℕ) : Type 0 where
  pub places : ℕ
  pub part : ℕ
  pub few : places ≤ k
  pub scaled : part * 2 ^ (k - places) ≡ r
  pub below : part < 2 ^ places
  pub odd : (places ≡ 0) ⊎ (part % 2 ≡ 1)
  pub digits : fraction_digits k r ≡ padded_digits places (part * 5 ^ places)

lowest_odd : (k r : ℕ) → r < 2 ^ suc k → r % 2 ≡ 1 → Lowest (suc k) r
lowest_odd k r below odd = record {
  places = suc k;
  part = r;
  few = omega arith;
  scaled = let none : suc k - suc k ≡ 0 = omega arith in rw none (omega arith);
  below = below;
  odd = inr odd;
  digits = let test : (r % 2 ≡ 0) → ⊥ = omega arith in grind (arith, nat_tests);
}

lowest_even : (k r : ℕ) → r % 2 ≡ 0 → Lowest k (r / 2) → Lowest (suc k) r
lowest_even k r even h = record {
  places = h.places;
  part = h.part;
  few = omega (arith, h.few);
  scaled =
      let more : suc k - h.places ≡ suc (k - h.places) = omega (arith, h.few) in
      rw (more, pow-succ' 2 (k - h.places)) (omega (arith, h.scaled));
  below = h.below;
  odd = h.odd;
  digits = rw even h.digits;
}

pub lowest_of : (k r : ℕ) → r < 2 ^ k → Lowest k r
lowest_of zero r below =
    record {
      places = 0;
      part = 0;
      few = omega arith;
      scaled = omega arith;
      below = lit< tt;
      odd = inl refl;
      digits = refl;
    }
lowest_of (suc k) r below =
    elim (cases_eq (r % 2) 0) [
      | inl even ↦ lowest_even k r even (lowest_of k (r / 2) (omega (arith, pow-succ' 2 k)))
      | inr odd ↦ lowest_odd k r below (omega arith)
    ]

-- ---- the parts of 2^16

one-pow : (k : ℕ) → 1 ^ k ≡ 1
one-pow zero = refl
one-pow (suc k) = pow-succ' 1 k ∙ omega (arith, one-pow k)

pub five-odd : (k : ℕ) → 5 ^ k % 2 ≡ 1
five-odd k = sym (pow-mod 5 k 2) ∙ ap (λ n. n % 2) (one-pow k)

pub odd_product : (m n : ℕ) → m % 2 ≡ 1 → n % 2 ≡ 1 → (m * n) % 2 ≡ 1
odd_product m n h h' = mul-mod m n 2 ∙ ap₂ (λ p q. (p * q) % 2) h h'

-- no zero at the end
pub without_zeros-padded : (places part : ℕ) → (places ≡ 0) ⊎ (part % 2 ≡ 1)
    → without_zeros (padded_digits places (part * 5 ^ places)) ≡ padded_digits places (part * 5 ^ places)
without_zeros-padded zero part h = refl
without_zeros-padded (suc places) part (inl none) = absurd (omega arith)
without_zeros-padded (suc places) part (inr odd) =
    let n = part * 5 ^ suc places in
    let n_odd : n % 2 ≡ 1 = odd_product part (5 ^ suc places) odd (five-odd (suc places)) in
    let last : 48 + n % 10 ≢ 48 = omega arith in
    ap without_zeros (padded_digits-last places n)
    ∙ without_zeros-digit (padded_digits places (n / 10)) (48 + n % 10) last
    ∙ sym (padded_digits-last places n)

times_below : (m n p : ℕ) → m < n → 0 < p → m * p < n * p
times_below m n p h h' = omega (arith, mul-le (m + 1) p n p (omega arith) (omega arith))

scaled_below : (places part : ℕ) → part < 2 ^ places → part * 5 ^ places < 10 ^ places
scaled_below places part below =
    omega (arith, mul-pow 2 5 places, times_below part (2 ^ places) (5 ^ places) below (five_positive places))

pub value_padded : (places part : ℕ) → part < 2 ^ places
    → digits_value 0 (padded_digits places (part * 5 ^ places)) ≡ part * 5 ^ places
value_padded places part below =
    digits_value-padded 0 places (part * 5 ^ places)
    ∙ omega (arith, mod-eq_of_lt (scaled_below places part below))

pub exact_from : (digits : List ℕ) (places part : ℕ) → length digits ≡ places
    → digits_value 0 digits ≡ part * 5 ^ places → places ≤ 16
    → exact_parts digits ≡ Some (part * 2 ^ (16 - places))
exact_from digits places part len val few =
    let multiple : (part * 5 ^ places) % 5 ^ places ≡ 0 = mul-mod_left part (5 ^ places) in
    let quotient : part * 5 ^ places / 5 ^ places ≡ part = mul-div_cancel part (five_positive places) in
    rw (len, val, multiple, quotient) (grind (arith, nat_tests))

pub fraction_parts-padded : (places part : ℕ) → part < 2 ^ places → (places ≡ 0) ⊎ (part % 2 ≡ 1)
    → places ≤ 16 → fraction_parts (padded_digits places (part * 5 ^ places))
    ≡ Some (part * 2 ^ (16 - places))
fraction_parts-padded places part below odd few =
    ap exact_parts (without_zeros-padded places part odd)
    ∙ exact_from (padded_digits places (part * 5 ^ places)) places part
    (length-padded_digits places (part * 5 ^ places)) (value_padded places part below) few

-- the digits of r / 2^k are r / 2^k
pub fraction_parts-digits : (k r : ℕ) → r < 2 ^ k → k ≤ 16
    → fraction_parts (fraction_digits k r) ≡ Some (r * 2 ^ (16 - k))
fraction_parts-digits k r below few =
    let l = lowest_of k r below in
    let power : 2 ^ (16 - l.places) ≡ 2 ^ (k - l.places) * 2 ^ (16 - k) =
    ap (λ j. 2 ^ j) (places_split k l.places l.few few) ∙ pow-add 2 (k - l.places) (16 - k) in
    ap fraction_parts l.digits
    ∙ fraction_parts-padded l.places l.part l.below l.odd (omega (arith, l.few))
    ∙ ap Some (ap (λ m. l.part * m) power ∙ regrouped l.part (2 ^ (k - l.places)) (2 ^ (16 - k))
    ∙ ap (λ m. m * 2 ^ (16 - k)) l.scaled)
  where
    places_split : (k places : ℕ) → places ≤ k → k ≤ 16 → 16 - places ≡ (k - places) + (16 - k)
    places_split k places h h' = omega arith

    regrouped : (p q s : ℕ) → p * (q * s) ≡ p * q * s
    regrouped p q s = omega arith

pub fraction_digits-digits : (k r : ℕ) → r < 2 ^ k → AreDigits (fraction_digits k r)
fraction_digits-digits k r below =
    let l = lowest_of k r below in
    let P : List ℕ → Type 0 = AreDigits in
    subst P (sym l.digits) (padded_digits-digits l.places (l.part * 5 ^ l.places))

pub length-fraction_digits : (k r : ℕ) → r < 2 ^ k → length (fraction_digits k r) ≤ k
length-fraction_digits k r below =
    let l = lowest_of k r below in
    omega (arith, ap length l.digits, length-padded_digits l.places (l.part * 5 ^ l.places), l.few)
