-- The value of digits, and the zeros at their end.
use Rattle.std.proofs.Common.{◌≡◌, ◌≢◌, ℕ, ◌+◌, ◌-◌, ◌*◌, ◌/◌, ◌%◌, ◌^◌, ◌<◌, ◌≤◌, min, List, [], ◌∷◌, ◌++◌, length, take, get_or, refl, ap, sym, ◌∙◌, arith, inl, inr, lit<}
use Rattle.std.proofs.lemmas.List.{take_more}
use Rattle.std.proofs.lemmas.Bool.{cases_lt}
use Rattle.std.proofs.lemmas.Bool.Decides.{nat_tests}
use Rattle.std.proofs.lemmas.Nat.{div_below, shl_whole, pow-add, mul-pow}
use Rattle.std.proofs.Math.Nat.{one-le-pow, pow-le-pow_right}
use Rattle.cp_text.specs.Digits.{digits_value, without_zeros, kept_digit}

pub digits_value-ge : (n : ℕ) (ds : List ℕ) → n ≤ digits_value n ds
digits_value-ge n [] = omega arith
digits_value-ge n (d ∷ ds) = omega (arith, digits_value-ge (10 * n + (d - 48)) ds)

-- a bound on the value so far is one on the whole value
pub bounded_value : (n most : ℕ) (ds : List ℕ)
    → min (digits_value (min n most) ds) most ≡ min (digits_value n ds) most
bounded_value n most ds =
    elim (cases_lt most n) [
      | inl above ↦
          let least : min n most ≡ most = omega arith in
          omega (arith, digits_value-ge n ds, digits_value-ge (min n most) ds)
      | inr h ↦
          let same : min n most ≡ n = omega arith in
          ap (λ m. min (digits_value m ds) most) same
    ]

without_zeros-zero : (ds : List ℕ) → without_zeros (ds ++ 48 ∷ []) ≡ without_zeros ds
without_zeros-zero [] = refl
without_zeros-zero (d ∷ ds) = ap (kept_digit d) (without_zeros-zero ds)

kept_digit-append : (d b : ℕ) (ds : List ℕ) → kept_digit d (ds ++ b ∷ []) ≡ d ∷ (ds ++ b ∷ [])
kept_digit-append d b [] = refl
kept_digit-append d b (c ∷ ds) = refl

pub without_zeros-digit : (ds : List ℕ) (b : ℕ) → b ≢ 48 → without_zeros (ds ++ b ∷ []) ≡ ds ++ b ∷ []
without_zeros-digit [] b h = grind (arith, nat_tests)
without_zeros-digit (d ∷ ds) b h = ap (kept_digit d) (without_zeros-digit ds b h) ∙ kept_digit-append d b ds

pub take_last : (n : ℕ) (ds : List ℕ) → 0 < n → n ≤ length ds
    → take n ds ≡ take (n - 1) ds ++ get_or ds (n - 1) 0 ∷ []
take_last n ds h l =
    let here : n - 1 + 1 ≡ n = omega arith in
    ap (λ m. take m ds) (sym here) ∙ take_more ds (n - 1) 0 (omega arith)

pub trim_zero : (n : ℕ) (ds : List ℕ) → 0 < n → n ≤ length ds → get_or ds (n - 1) 0 ≡ 48
    → without_zeros (take (n - 1) ds) ≡ without_zeros (take n ds)
trim_zero n ds h l e =
    sym (ap without_zeros (take_last n ds h l ∙ ap (λ b. take (n - 1) ds ++ b ∷ []) e)
    ∙ without_zeros-zero (take (n - 1) ds))

pub trim_digit : (n : ℕ) (ds : List ℕ) → 0 < n → n ≤ length ds → get_or ds (n - 1) 0 ≢ 48
    → without_zeros (take n ds) ≡ take n ds
trim_digit n ds h l ne =
    ap without_zeros (take_last n ds h l) ∙ without_zeros-digit (take (n - 1) ds) (get_or ds (n - 1) 0) ne
    ∙ sym (take_last n ds h l)

pub trim_none : (n : ℕ) (ds : List ℕ) → n ≡ 0 → without_zeros (take n ds) ≡ take n ds
trim_none n ds e = rw e refl

pub five_positive : (k : ℕ) → 0 < 5 ^ k
five_positive k = one-le-pow k 5 (lit< tt)

-- the parts of 2^16 fit 64 bits
pub parts_fit : (n d : ℕ) → n + 23 ≤ 23 * 10 ^ d → d ≤ 16
    → (n / 5 ^ d * 2 ^ (16 - d)) % 2 ^ 64 ≡ n / 5 ^ d * 2 ^ (16 - d)
parts_fit n d bound h =
    let tens : 10 ^ d ≡ 2 ^ d * 5 ^ d = mul-pow 2 5 d in
    let below : n < 2 ^ d * 32 * 5 ^ d = omega (arith, ap (λ m. 32 * m) tens) in
    let quotient : n / 5 ^ d < 2 ^ d * 32 = div_below n (5 ^ d) (2 ^ d * 32) (five_positive d) below in
    let power : 2 ^ (d + 5) ≡ 2 ^ d * 32 = pow-add 2 d 5 in
    shl_whole (n / 5 ^ d) (d + 5) (16 - d) 64 (omega arith) (omega arith)

-- one more digit behind up to fifteen fits 64 bits
pub digit_fits : (n d i : ℕ) → n + 23 ≤ 23 * 10 ^ i → i < 16 → d ≤ 207 → 10 * n + d < 2 ^ 64
digit_fits n d i bound h few =
    omega (arith, pow-le-pow_right {n = 10} (lit< tt) {i = i} {j = 16} (omega arith))
