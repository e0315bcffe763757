-- Digits as text: how a list of digits is found at the front of a text, and what the digits of a number are.
use Rattle.std.proofs.Common.{◌≡◌, ℕ, zero, suc, ◌+◌, ◌-◌, ◌*◌, ◌/◌, ◌%◌, ◌^◌, ◌<◌, ◌≤◌, ◌⊎◌, inl, inr, List, [], ◌∷◌, ◌++◌, length, Bool, true, false, ◌&&◌, not, decimal, refl, ap, ap₂, sym, ◌∙◌, arith, lit<}
use Rattle.std.specs.List.{list_all}
use Rattle.std.proofs.lemmas.Bool.Decides.{nat_tests}
use Rattle.std.proofs.lemmas.List.{length-append}
use Rattle.std.proofs.lemmas.List.Folds.{list_all-append}
use Rattle.std.proofs.lemmas.Fmt.{decimal_by_steps}
use Rattle.std.proofs.Math.Arith.{mod-mul}
use Rattle.std.proofs.Math.Nat.{div-div-eq-div-mul, pow-succ', one-le-pow}
use Rattle.cp_text.specs.Digits.{is_digit, digits_value, leading_digits, behind_digits, padded_digits}

-- digits alone
pub record AreDigits (ds : List ℕ) : Type 0 where
  pub all : list_all is_digit ds ≡ true

-- the first byte is no digit
abbrev pub no_digit_first : List ℕ → Bool
no_digit_first [] = true
no_digit_first (b ∷ bs) = not (is_digit b)

pub bool_cases : (b : Bool) → (b ≡ true) ⊎ (b ≡ false)
bool_cases true = inl refl
bool_cases false = inr refl

-- both sides of `&&`
pub both_true : (p q : Bool) → (p && q) ≡ true → (p ≡ true) × (q ≡ true)
both_true true q h = (refl, h)
both_true false q h = cc

pub digits_first : (d : ℕ) (ds : List ℕ) → AreDigits (d ∷ ds) → is_digit d ≡ true
digits_first d ds h = (both_true (is_digit d) (list_all is_digit ds) h.all).0

pub digits_rest : (d : ℕ) (ds : List ℕ) → AreDigits (d ∷ ds) → AreDigits ds
digits_rest d ds h = record { all = (both_true (is_digit d) (list_all is_digit ds) h.all).1 }

pub digits_more : (d : ℕ) (ds : List ℕ) → is_digit d ≡ true → AreDigits ds → AreDigits (d ∷ ds)
digits_more d ds h hs = record { all = ap₂ (λ p q. p && q) h hs.all }

pub digits_none : AreDigits []
digits_none = record { all = refl }

pub digits_append : (ds es : List ℕ) → AreDigits ds → AreDigits es → AreDigits (ds ++ es)
digits_append ds es h h' = record { all = list_all-append is_digit ds es ∙ ap₂ (λ p q. p && q) h.all h'.all }

-- a byte from `0` to `9`
pub digit_byte : (n : ℕ) → n < 10 → is_digit (48 + n) ≡ true
digit_byte n h = grind (arith, nat_tests)

pub digit_byte_least : (b : ℕ) → is_digit b ≡ true → 48 ≤ b
digit_byte_least b h = grind (arith, nat_tests)

pub digit_byte_most : (b : ℕ) → is_digit b ≡ true → b ≤ 57
digit_byte_most b h = grind (arith, nat_tests)

-- digits in front of anything else are the leading ones
pub leading_digits-append : (ds rest : List ℕ) → AreDigits ds → no_digit_first rest ≡ true
    → leading_digits (ds ++ rest) ≡ ds
leading_digits-append [] [] h e = refl
leading_digits-append [] (b ∷ rest) h e = grind (arith, nat_tests)
leading_digits-append (d ∷ ds) rest h e =
    let first : is_digit d ≡ true = digits_first d ds h in
    rw first (ap (λ xs. d ∷ xs) (leading_digits-append ds rest (digits_rest d ds h) e))

pub behind_digits-append : (ds rest : List ℕ) → AreDigits ds → no_digit_first rest ≡ true
    → behind_digits (ds ++ rest) ≡ rest
behind_digits-append [] [] h e = refl
behind_digits-append [] (b ∷ rest) h e = grind (arith, nat_tests)
behind_digits-append (d ∷ ds) rest h e =
    let first : is_digit d ≡ true = digits_first d ds h in
    rw first (behind_digits-append ds rest (digits_rest d ds h) e)

pub digits_value-append : (n : ℕ) (ds : List ℕ) (d : ℕ)
    → digits_value n (ds ++ d ∷ []) ≡ 10 * digits_value n ds + (d - 48)
digits_value-append n [] d = refl
digits_value-append n (e ∷ ds) d = digits_value-append (10 * n + (e - 48)) ds d

-- ---- decimal

pub record IsDecimal (n : ℕ) (ds : List ℕ) : Type 0 where
  pub digits : AreDigits ds
  pub some : 0 < length ds
  pub value : digits_value 0 ds ≡ n

decimal_one : (n : ℕ) → n < 10 → IsDecimal n ((48 + n) ∷ [])
decimal_one n h = record {
  digits = digits_more (48 + n) [] (digit_byte n h) digits_none;
  some = omega arith;
  value = omega arith;
}

decimal_more : (n : ℕ) (ds : List ℕ) → 10 ≤ n → IsDecimal (n / 10) ds
    → IsDecimal n (ds ++ ((48 + n % 10) ∷ []))
decimal_more n ds h d = record {
  digits = digits_append ds ((48 + n % 10) ∷ []) d.digits
      (digits_more (48 + n % 10) [] (digit_byte (n % 10) (omega arith)) digits_none);
  some = omega (arith, length-append ds ((48 + n % 10) ∷ []));
  value = digits_value-append 0 ds (48 + n % 10) ∙ omega (arith, d.value);
}

pub decimal_is : (n : ℕ) → n < 2 ^ 64 → IsDecimal n (decimal n)
decimal_is n h = decimal_by_steps IsDecimal decimal_one decimal_more n h

-- ---- padded digits

pub padded_digits-digits : (places n : ℕ) → AreDigits (padded_digits places n)
padded_digits-digits zero n = digits_none
padded_digits-digits (suc places) n =
    digits_more (48 + n / 10 ^ places % 10) (padded_digits places n)
    (digit_byte (n / 10 ^ places % 10) (omega arith)) (padded_digits-digits places n)

pub length-padded_digits : (places n : ℕ) → length (padded_digits places n) ≡ places
length-padded_digits zero n = refl
length-padded_digits (suc places) n = ap suc (length-padded_digits places n)

pub digits_value-padded : (v places n : ℕ)
    → digits_value v (padded_digits places n) ≡ v * 10 ^ places + n % 10 ^ places
digits_value-padded v zero n = omega arith
digits_value-padded v (suc places) n =
    let ten : 10 ^ suc places ≡ 10 * 10 ^ places = pow-succ' 10 places in
    let split : n % (10 * 10 ^ places)
    ≡ (n / 10 ^ places % 10) * 10 ^ places + n % 10 ^ places =
    mod-mul n (lit< tt) (one-le-pow places 10 (lit< tt)) in
    let digit : 10 * v + (48 + n / 10 ^ places % 10 - 48) ≡ 10 * v + n / 10 ^ places % 10 = omega arith in
    ap (λ m. digits_value m (padded_digits places n)) digit
    ∙ digits_value-padded (10 * v + n / 10 ^ places % 10) places n ∙ rw ten (omega (arith, split))

div_one : (n : ℕ) → n / 10 ^ 0 ≡ n
div_one n = omega arith

-- the last of the digits
pub padded_digits-last : (places n : ℕ)
    → padded_digits (suc places) n ≡ padded_digits places (n / 10) ++ (48 + n % 10) ∷ []
padded_digits-last zero n = ap (λ d. (48 + d % 10) ∷ []) (div_one n)
padded_digits-last (suc places) n =
    let ten : 10 ^ suc places ≡ 10 * 10 ^ places = pow-succ' 10 places in
    let quotient : n / 10 ^ suc places ≡ n / 10 / 10 ^ places = ap (λ m. n / m) ten
    ∙ sym (div-div-eq-div-mul n 10 (10 ^ places)) in
    ap₂ (λ q ds. (48 + q % 10) ∷ ds) quotient (padded_digits-last places n)
