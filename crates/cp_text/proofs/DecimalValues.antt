-- Which decimals are whole numbers of parts of 2^16.
use Rattle.std.specs.Prelude.{Ok, Err}
use Rattle.std.proofs.Common.{◌≡◌, ◌≢◌, ℕ, zero, suc, ◌+◌, ◌-◌, ◌*◌, ◌/◌, ◌%◌, ◌^◌, ◌<◌, ◌≤◌, ◌⊎◌, inl, inr, List, [], ◌∷◌, ◌++◌, length, replicate, true, false, ◌==◌, nat_le, Option, Some, None, option_map, refl, ap, ap₂, sym, ◌∙◌, arith, lit<, subst, pow-add}
use Rattle.std.specs.List.{list_all}
use Rattle.std.proofs.lemmas.Bool.{cases_eq, cases_lt}
use Rattle.std.proofs.lemmas.Bool.Decides.{nat_tests}
use Rattle.std.proofs.lemmas.List.{length-append, length-replicate}
use Rattle.std.proofs.lemmas.List.Folds.{list_all-append}
use Rattle.std.proofs.lemmas.Nat.{pow_pos, mul-pow, div-add-mod'}
use Rattle.std.proofs.Math.Nat.{pow-succ', one-le-pow, eq_of_mul-eq-mul_right, le_of_mul-le-mul_right}
use Rattle.surd_number.specs.declared.Surd.{Surd}
use Rattle.surd_number.specs.Exact.{surd_of}
use Rattle.surd_number.specs.ExactLaws.{surd_of-is, surd_of-none, surd_of-value}
use Rattle.cp_text.specs.declared.number_reading.NumberFault.TheVariants.{OutOfRange}
use Rattle.cp_text.specs.Digits.{is_digit, digits_value, without_zeros, kept_digit}
use Rattle.cp_text.specs.NumberReading.{exact_parts, fraction_parts, surd_answer}
use Rattle.cp_text.specs.NumberValue.{over_parts, ReadsTheValue}
use Rattle.cp_text.proofs.DigitTexts.{AreDigits, both_true, digits_first, digits_value-append, digit_byte_least, digit_byte_most}
use Rattle.cp_text.proofs.DigitValues.{five_positive}
use Rattle.cp_text.proofs.LowestTerms.{odd_product, five-odd, exact_from}

-- ---- values of joined digits

digits_value-split : (n : ℕ) (ds es : List ℕ)
    → digits_value n (ds ++ es) ≡ digits_value (digits_value n ds) es
digits_value-split n [] es = refl
digits_value-split n (d ∷ ds) es = digits_value-split (10 * n + (d - 48)) ds es

pub digits_value-from : (n : ℕ) (ds : List ℕ) → digits_value n ds ≡ n * 10 ^ length ds + digits_value 0 ds
digits_value-from n [] = omega arith
digits_value-from n (d ∷ ds) =
    let ten : 10 ^ suc (length ds) ≡ 10 * 10 ^ length ds = pow-succ' 10 (length ds) in
    digits_value-from (10 * n + (d - 48)) ds
    ∙ rw ten (omega (arith, digits_value-from (10 * 0 + (d - 48)) ds))

zeros-value : (z : ℕ) → digits_value 0 (replicate z 48) ≡ 0
zeros-value zero = refl
zeros-value (suc z) = zeros-value z

-- ---- digits without the zeros at their end

pub record Ends (ds : List ℕ) : Type 0 where
  pub front : List ℕ
  pub last : ℕ
  pub joined : front ++ last ∷ [] ≡ ds
  pub not_zero : last ≢ 48

pub record Trimmed (ds trimmed : List ℕ) : Type 0 where
  pub zeros : ℕ
  pub joined : trimmed ++ replicate zeros 48 ≡ ds
  pub end : (trimmed ≡ []) ⊎ Ends trimmed

trimmed-more : (d : ℕ) (ds ts : List ℕ) → Trimmed ds ts → Trimmed (d ∷ ds) (kept_digit d ts)
trimmed-more d ds [] h =
    elim (cases_eq d 48) [
      | inl is_zero ↦
          let test : (d == 48) ≡ true = grind (arith, nat_tests) in
          rw test (record {
            zeros = suc h.zeros;
            joined = ap₂ (λ x xs. x ∷ xs) (sym is_zero) h.joined;
            end = inl refl;
          })
      | inr other ↦
          let test : (d == 48) ≡ false = grind (arith, nat_tests) in
          rw test (record {
            zeros = h.zeros;
            joined = ap (λ xs. d ∷ xs) h.joined;
            end = inr (record { front = []; last = d; joined = refl; not_zero = other });
          })
    ]
trimmed-more d ds (t ∷ ts) h = record {
  zeros = h.zeros;
  joined = ap (λ xs. d ∷ xs) h.joined;
  end = ends h.end;
}
  where
    ends : ((t ∷ ts) ≡ []) ⊎ Ends (t ∷ ts) → ((d ∷ t ∷ ts) ≡ []) ⊎ Ends (d ∷ t ∷ ts)
    ends (inl e) = cc
    ends (inr e) = inr (record {
      front = d ∷ e.front;
      last = e.last;
      joined = ap (λ xs. d ∷ xs) e.joined;
      not_zero = e.not_zero;
    })

pub trimmed_of : (ds : List ℕ) → Trimmed ds (without_zeros ds)
trimmed_of [] = record { zeros = 0; joined = refl; end = inl refl }
trimmed_of (d ∷ ds) = trimmed-more d ds (without_zeros ds) (trimmed_of ds)

front_digits : (ds es : List ℕ) → AreDigits (ds ++ es) → AreDigits ds × AreDigits es
front_digits ds es h =
    let parts = both_true (list_all is_digit ds) (list_all is_digit es)
    (sym (list_all-append is_digit ds es) ∙ h.all) in
    (record { all = parts.0 }, record { all = parts.1 })

-- the value of digits with another last digit than zero is no multiple of ten
pub no_tens : (ds : List ℕ) → AreDigits ds → Ends ds → digits_value 0 ds % 10 ≢ 0
no_tens ds h e =
    let P : List ℕ → Type 0 = AreDigits in
    let last = (front_digits e.front (e.last ∷ []) (subst P (sym e.joined) h)).1 in
    let digit = digits_first e.last [] last in
    let value : digits_value 0 ds
    ≡ 10 * digits_value 0 e.front + (e.last - 48) =
    ap (digits_value 0) (sym e.joined) ∙ digits_value-append 0 e.front e.last in
    let other = e.not_zero in
    omega (arith, value, digit_byte_least e.last digit, digit_byte_most e.last digit, other)

-- ---- powers of two and five

-- a power of two is no help to an odd divisor
odd_divides : (P : ℕ) → P % 2 ≡ 1 → (j m c : ℕ) → m * 2 ^ j ≡ c * P → (q : ℕ) × (m ≡ q * P)
odd_divides P odd zero m c e = (c, omega arith)
odd_divides P odd (suc j) m c e =
    let two : 2 ^ suc j ≡ 2 * 2 ^ j = pow-succ' 2 j in
    let doubled : 2 * (m * 2 ^ j) ≡ c * P = omega (arith, ap (λ n. m * n) two) in
    elim (cases_eq (c % 2) 0) [
      | inl even ↦
          let half : 2 * (c / 2) ≡ c = omega arith in
          odd_divides P odd j m (c / 2) (omega (arith, ap (λ n. n * P) half))
      | inr c_odd ↦ absurd (omega (arith, odd_product c P (omega arith) odd))
    ]

ten_power : (t : ℕ) → 10 ^ t ≡ 2 ^ t * 5 ^ t
ten_power t = mul-pow 2 5 t

sixteen_split : (t : ℕ) → t ≤ 16 → 2 ^ 16 ≡ 2 ^ (16 - t) * 2 ^ t
sixteen_split t few =
    let here : 16 - t + t ≡ 16 = omega arith in ap (λ j. 2 ^ j) (sym here) ∙ pow-add 2 (16 - t) t

regrouped : (q f s t : ℕ) → q * f * (s * t) ≡ q * s * (t * f)
regrouped q f s t = omega arith

-- ---- trimmed digits

exact_has : (ds : List ℕ) (p : ℕ) → exact_parts ds ≡ Some p → digits_value 0 ds * 2 ^ 16 ≡ p * 10 ^ length ds
exact_has ds p e =
    elim (cases_lt 16 (length ds)) [
      | inl many ↦
          let test : nat_le (length ds) 16 ≡ false = grind (arith, nat_tests) in
          let none : None ≡ Some p = rw test at e in cc
      | inr few ↦ elim (cases_eq (digits_value 0 ds % 5 ^ length ds) 0) [
        | inr part ↦
            let test : nat_le (length ds) 16 ≡ true = grind (arith, nat_tests) in
            let test' : (digits_value 0 ds % 5 ^ length ds == 0) ≡ false = grind (arith, nat_tests) in
            let none : None ≡ Some p = rw (test, test') at e in cc
        | inl whole ↦
            let test : nat_le (length ds) 16 ≡ true = grind (arith, nat_tests) in
            let test' : (digits_value 0 ds % 5 ^ length ds == 0) ≡ true = grind (arith, nat_tests) in
            let t = length ds in
            let q = digits_value 0 ds / 5 ^ t in
            let found : Some (q * 2 ^ (16 - t)) ≡ Some p = rw (test, test') at e in
            let parts : q * 2 ^ (16 - t) ≡ p = cc in
            let value : q * 5 ^ t
            ≡ digits_value 0 ds = omega (arith, div-add-mod' (digits_value 0 ds) (5 ^ t)) in
            ap₂ (λ m n. m * n) (sym value) (sixteen_split t few)
            ∙ regrouped q (5 ^ t) (2 ^ (16 - t)) (2 ^ t)
            ∙ ap₂ (λ m n. m * n) parts (sym (ten_power t))
      ]
    ]

has_exact_few : (ds : List ℕ) (p q : ℕ) → length ds ≤ 16 → digits_value 0 ds ≡ q * 5 ^ length ds
    → q * 2 ^ 16 ≡ p * 2 ^ length ds → exact_parts ds ≡ Some p
has_exact_few ds p q few value e =
    let t = length ds in
    let part : q * 2 ^ (16 - t)
    ≡ p = eq_of_mul-eq-mul_right (2 ^ t) (pow_pos t) (q * 2 ^ (16 - t)) p
    (omega (arith, e, ap (λ n. q * n) (sixteen_split t few))) in
    exact_from ds t q refl value few ∙ ap Some part

has_exact_many : (ds : List ℕ) (p q : ℕ) → AreDigits ds → (ds ≡ []) ⊎ Ends ds → 16 < length ds
    → digits_value 0 ds ≡ q * 5 ^ length ds → q * 2 ^ 16 ≡ p * 2 ^ length ds → ⊥
has_exact_many ds p q h (inl none) many value e = omega (arith, ap length none)
has_exact_many ds p q h (inr end) many value e =
    let j = length ds - 17 in
    let t_is : length ds ≡ suc j + 16 = omega arith in
    let power : 2 ^ length ds ≡ 2 ^ suc j * 2 ^ 16 = ap (λ n. 2 ^ n) t_is ∙ pow-add 2 (suc j) 16 in
    let even : q ≡ p * 2 ^ suc j = eq_of_mul-eq-mul_right (2 ^ 16) (lit< tt) q (p * 2 ^ suc j)
    (omega (arith, e, ap (λ n. p * n) power)) in
    let two : 2 ^ suc j ≡ 2 * 2 ^ j = pow-succ' 2 j in
    let five : 5 ^ length ds ≡ 5 * 5 ^ (j + 16) = ap (λ n. 5 ^ n) (five_exponent (length ds) j t_is)
    ∙ pow-succ' 5 (j + 16) in
    let tens : digits_value 0 ds ≡ 10 * (p * 2 ^ j * 5 ^ (j + 16)) =
    value ∙ ap₂ (λ m n. m * n) (even ∙ ap (λ n. p * n) two) five ∙ ten_times p (2 ^ j) (5 ^ (j + 16)) in
    no_tens ds h end (omega (arith, tens))
  where
    five_exponent : (t j : ℕ) → t ≡ suc j + 16 → t ≡ suc (j + 16)
    five_exponent t j e = omega arith

    ten_times : (p a b : ℕ) → p * (2 * a) * (5 * b) ≡ 10 * (p * a * b)
    ten_times p a b = omega arith

rescaled : (v q f s m : ℕ) → v ≡ q * f → v * s ≡ m → q * s * f ≡ m
rescaled v q f s m h e = omega (arith, e, ap (λ n. n * s) h)

has_exact : (ds : List ℕ) (p : ℕ) → AreDigits ds → (ds ≡ []) ⊎ Ends ds
    → digits_value 0 ds * 2 ^ 16 ≡ p * 10 ^ length ds → exact_parts ds ≡ Some p
has_exact ds p h end e =
    let t = length ds in
    let by_five : digits_value 0 ds * 2 ^ 16
    ≡ p * 2 ^ t * 5 ^ t = omega (arith, e, ap (λ n. p * n) (ten_power t)) in
    let quotient = odd_divides (5 ^ t) (five-odd t) 16 (digits_value 0 ds) (p * 2 ^ t) by_five in
    let q = quotient.0 in
    let value : digits_value 0 ds ≡ q * 5 ^ t = quotient.1 in
    let scaled : q * 2 ^ 16 * 5 ^ t
    ≡ p * 2 ^ t * 5 ^ t = rescaled (digits_value 0 ds) q (5 ^ t) (2 ^ 16)
    (p * 2 ^ t * 5 ^ t) value by_five in
    let same : q * 2 ^ 16
    ≡ p * 2 ^ t = eq_of_mul-eq-mul_right (5 ^ t) (five_positive t) (q * 2 ^ 16) (p * 2 ^ t) scaled in
    elim (cases_lt 16 t) [
      | inl many ↦ absurd (has_exact_many ds p q h end many value same)
      | inr few ↦ has_exact_few ds p q few value same
    ]

-- ---- all digits behind a point

record Scaled (ds ts : List ℕ) : Type 0 where
  zeros : ℕ
  value : digits_value 0 ds ≡ digits_value 0 ts * 10 ^ zeros
  power : 10 ^ length ds ≡ 10 ^ length ts * 10 ^ zeros

scaled_of : (ds ts : List ℕ) → Trimmed ds ts → Scaled ds ts
scaled_of ds ts h = record {
  zeros = h.zeros;
  value =
      ap (digits_value 0) (sym h.joined)
      ∙ digits_value-split 0 ts (replicate h.zeros 48)
      ∙ digits_value-from (digits_value 0 ts) (replicate h.zeros 48)
      ∙ ap₂ (λ n z. digits_value 0 ts * 10 ^ n + z) (length-replicate h.zeros 48) (zeros-value h.zeros)
      ∙ plus_none (digits_value 0 ts * 10 ^ h.zeros);
  power =
      ap (λ n. 10 ^ n) (ap length (sym h.joined) ∙ length-append ts (replicate h.zeros 48)
      ∙ ap (λ n. length ts + n) (length-replicate h.zeros 48))
      ∙ pow-add 10 (length ts) h.zeros;
}
  where
    plus_none : (n : ℕ) → n + 0 ≡ n
    plus_none n = omega arith

pub ten_positive : (k : ℕ) → 0 < 10 ^ k
ten_positive k = one-le-pow k 10 (lit< tt)

pub fraction_has : (ds : List ℕ) (p : ℕ) → fraction_parts ds ≡ Some p
    → digits_value 0 ds * 2 ^ 16 ≡ p * 10 ^ length ds
fraction_has ds p e =
    let ts = without_zeros ds in
    let s = scaled_of ds ts (trimmed_of ds) in
    ap (λ n. n * 2 ^ 16) s.value
    ∙ swapped (digits_value 0 ts) (10 ^ s.zeros) (2 ^ 16)
    ∙ ap (λ n. n * 10 ^ s.zeros) (exact_has ts p e)
    ∙ grouped p (10 ^ length ts) (10 ^ s.zeros)
    ∙ ap (λ n. p * n) (sym s.power)
  where
    swapped : (v z s : ℕ) → v * z * s ≡ v * s * z
    swapped v z s = omega arith

    grouped : (p t z : ℕ) → p * t * z ≡ p * (t * z)
    grouped p t z = omega arith

has_fraction : (ds : List ℕ) (p : ℕ) → AreDigits ds → digits_value 0 ds * 2 ^ 16 ≡ p * 10 ^ length ds
    → fraction_parts ds ≡ Some p
has_fraction ds p h e =
    let ts = without_zeros ds in
    let trimmed = trimmed_of ds in
    let s = scaled_of ds ts trimmed in
    let P : List ℕ → Type 0 = AreDigits in
    let digits = (front_digits ts (replicate trimmed.zeros 48) (subst P (sym trimmed.joined) h)).0 in
    let both : digits_value 0 ts * 2 ^ 16 * 10 ^ s.zeros ≡ p * 10 ^ length ts * 10 ^ s.zeros =
    omega (arith, e, ap (λ n. n * 2 ^ 16) s.value, ap (λ n. p * n) s.power) in
    has_exact ts p digits trimmed.end
    (eq_of_mul-eq-mul_right (10 ^ s.zeros) (ten_positive s.zeros) (digits_value 0 ts * 2 ^ 16)
    (p * 10 ^ length ts) both)

-- ---- whole decimals

joined_value : (ds fs : List ℕ)
    → digits_value 0 (ds ++ fs) ≡ digits_value 0 ds * 10 ^ length fs + digits_value 0 fs
joined_value ds fs = digits_value-split 0 ds fs ∙ digits_value-from (digits_value 0 ds) fs

magnitude_has : (ds fs : List ℕ) (o : Option ℕ) (n : ℕ) → fraction_parts fs ≡ o
    → option_map (λ parts. digits_value 0 ds * 2 ^ 16 + parts) o ≡ Some n
    → digits_value 0 (ds ++ fs) * 2 ^ 16 ≡ n * 10 ^ length fs
magnitude_has ds fs None n found e = cc
magnitude_has ds fs (Some p) n found e =
    let w = digits_value 0 ds in
    let n_is : w * 2 ^ 16 + p ≡ n = cc in
    let fraction = fraction_has fs p found in
    ap (λ m. m * 2 ^ 16) (joined_value ds fs)
    ∙ spread w (10 ^ length fs) (digits_value 0 fs) (2 ^ 16)
    ∙ ap (λ m. w * 2 ^ 16 * 10 ^ length fs + m) fraction
    ∙ gathered (w * 2 ^ 16) p (10 ^ length fs)
    ∙ ap (λ m. m * 10 ^ length fs) n_is
  where
    spread : (w t f s : ℕ) → (w * t + f) * s ≡ w * s * t + f * s
    spread w t f s = omega arith

    gathered : (w p t : ℕ) → w * t + p * t ≡ (w + p) * t
    gathered w p t = omega arith

has_magnitude : (ds fs : List ℕ) (n : ℕ) → AreDigits fs
    → digits_value 0 (ds ++ fs) * 2 ^ 16 ≡ n * 10 ^ length fs
    → option_map (λ parts. digits_value 0 ds * 2 ^ 16 + parts) (fraction_parts fs) ≡ Some n
has_magnitude ds fs n h e =
    let w = digits_value 0 ds * 2 ^ 16 in
    let t = 10 ^ length fs in
    let sum : w * t + digits_value 0 fs * 2 ^ 16
    ≡ n * t = omega (arith, e, ap (λ m. m * 2 ^ 16) (joined_value ds fs)) in
    let least : w ≤ n = le_of_mul-le-mul_right (below w t (digits_value 0 fs * 2 ^ 16) (n * t) sum)
    (ten_positive (length fs)) in
    let n_is : w + (n - w) ≡ n = omega arith in
    let fraction : digits_value 0 fs * 2 ^ 16 ≡ (n - w) * t = omega (arith, sum, ap (λ m. m * t) n_is) in
    ap (option_map (λ parts. w + parts)) (has_fraction fs (n - w) h fraction) ∙ ap Some n_is
  where
    below : (w t f m : ℕ) → w * t + f ≡ m → w * t ≤ m
    below w t f m e = omega arith

-- ---- the law

pub surd_answer-ok : (o : Option Surd) (s : Surd) → surd_answer o ≡ Ok s → o ≡ Some s
surd_answer-ok None s e = cc
surd_answer-ok (Some t) s e = let same : t ≡ s = cc in ap Some same

surd_answer-err : (o : Option Surd) (s : Surd) → surd_answer o ≡ Err OutOfRange → o ≡ Some s → ⊥
surd_answer-err None s e h = cc
surd_answer-err (Some t) s e h = cc

pub reads_the_value : ReadsTheValue
reads_the_value = record {
  decimals = λ d h n. (
    magnitude_has d.whole d.fraction (fraction_parts d.fraction) n refl,
    has_magnitude d.whole d.fraction n (record { all = h.fraction }),
  );
  surds = λ a b s. (
    (λ e. surd_of-value (over_parts a b) s (surd_answer-ok (surd_of (over_parts a b)) s e)),
    (λ same. ap surd_answer (surd_of-is (over_parts a b) s same)),
  );
  others = λ a b. (
    (λ e h. surd_answer-err (surd_of (over_parts a b))
        (record { a = h.0.a; b = h.0.b; k = h.0.k; stored = h.1 }) e
        (surd_of-is (over_parts a b) (record { a = h.0.a; b = h.0.b; k = h.0.k; stored = h.1 }) h.2)),
    (λ none. ap surd_answer (surd_of-none (over_parts a b) none)),
  );
}
