-- No text that reads as a number is shorter than the one that is printed.
use Rattle.std.specs.Prelude.{Ok, Err}
use Rattle.std.proofs.Common.{◌≡◌, ◌≢◌, ℕ, zero, suc, ◌+◌, ◌-◌, ◌*◌, ◌/◌, ◌%◌, ◌^◌, ◌<◌, ◌≤◌, ◌⊎◌, inl, inr, ℤ, pos, negsuc, neg_ℤ, unsigned_abs, ◌*ℤ◌, List, [], ◌∷◌, ◌++◌, length, Bool, true, false, Option, Some, None, option_map, codes, decimal, refl, ap, sym, ◌∙◌, arith, lit<, subst, pow-add}
use Rattle.std.proofs.lemmas.Bool.{cases_lt}
use Rattle.std.proofs.lemmas.List.{length-append}
use Rattle.std.proofs.lemmas.Fmt.{length-decimal-le}
use Rattle.std.proofs.lemmas.Nat.{mul-le, mod_below, pow_pos}
use Rattle.std.proofs.Math.Nat.{pow-succ', pow-le-pow_right, eq_of_mul-eq-mul_right}
use Rattle.surd_number.specs.declared.Surd.{Surd}
use Rattle.surd_number.specs.Number.{power}
use Rattle.surd_number.specs.IntRing.{int_power_cancel}
use Rattle.surd_number.specs.Exact.{IsSurdOf, surd_of}
use Rattle.surd_number.specs.Value.{number_of}
use Rattle.surd_number.specs.ExactLaws.{surd_of-value}
use Rattle.cp_text.specs.declared.number_reading.NumberFault.TheVariants.{NotExact}
use Rattle.cp_text.specs.Digits.{digits_value, without_zeros, padded_digits}
use Rattle.cp_text.specs.NumberText.{fraction_digits, behind_point, magnitude_text, minus_text, joining_text, part_text, parts_text, number_text}
use Rattle.cp_text.specs.NumberGrammar.{IsDecimal, IsWellFormed, front_sign, middle_sign, decimal_text, front_text, root_mark, word_text, IsWordOf}
use Rattle.cp_text.specs.NumberWord.{SignedDecimal, NumberWord, Rational, Root, Both, number_word, is_exponential}
use Rattle.cp_text.specs.NumberReading.{fraction_parts, signed, magnitude_parts, decimal_parts, parts_read, word_value, word_read, number_read}
use Rattle.cp_text.specs.NumberValue.{over_parts}
use Rattle.cp_text.specs.Laws.{NumbersAreShortest}
use Rattle.cp_text.proofs.DigitTexts.{AreDigits, bool_cases, digits_first, digits_rest, digit_byte_most}
use Rattle.cp_text.proofs.LowestTerms.{lowest_of, fraction_digits-digits, fraction_parts-digits, without_zeros-padded}
use Rattle.cp_text.proofs.DecimalValues.{Ends, trimmed_of, no_tens, digits_value-from, fraction_has, surd_answer-ok}
use Rattle.cp_text.proofs.Grammar.{digits_some, number_word-form}
use Rattle.cp_text.proofs.PrintedNumbers.{parts_joined, part_same, signed-times, is_negative, number_text-reads}

-- ---- digits

value_below : (ds : List ℕ) → AreDigits ds → digits_value 0 ds < 10 ^ length ds
value_below [] h = omega arith
value_below (d ∷ ds) h =
    let ten : 10 ^ suc (length ds) ≡ 10 * 10 ^ length ds = pow-succ' 10 (length ds) in
    let digit = digit_byte_most d (digits_first d ds h) in
    let first : (10 * 0 + (d - 48)) * 10 ^ length ds ≤ 9 * 10 ^ length ds = mul-le (10 * 0 + (d - 48))
    (10 ^ length ds) 9 (10 ^ length ds) (omega arith) (omega arith) in
    omega (arith, ten, first, digits_value-from (10 * 0 + (d - 48)) ds, value_below ds (digits_rest d ds h))

whole_shortest : (ds : List ℕ) → AreDigits ds → 0 < length ds → digits_value 0 ds < 2 ^ 64
    → length (decimal (digits_value 0 ds)) ≤ length ds
whole_shortest ds h some small =
    length-decimal-le (length ds) (digits_value 0 ds) some (value_below ds h) small

point_more : (ds es : List ℕ) → length ds ≤ length es → length (behind_point ds) ≤ length (behind_point es)
point_more [] es h = omega arith
point_more (d ∷ ds) [] h = absurd (omega arith)
point_more (d ∷ ds) (e ∷ es) h = omega arith

-- the digits behind the point that are printed have no zero at their end
printed_end : (k r : ℕ) → r < 2 ^ k → (fraction_digits k r ≡ []) ⊎ Ends (fraction_digits k r)
printed_end k r below =
    let l = lowest_of k r below in
    let padded = padded_digits l.places (l.part * 5 ^ l.places) in
    let kept : without_zeros padded ≡ fraction_digits k r = without_zeros-padded l.places l.part l.odd
    ∙ sym l.digits in
    subst (λ ds. (ds ≡ []) ⊎ Ends ds) kept (trimmed_of padded).end

-- digits of one value, the second list longer: its value is a multiple of ten
longer_value : (ds es : List ℕ) (p : ℕ) → digits_value 0 ds * 2 ^ 16 ≡ p * 10 ^ length ds
    → digits_value 0 es * 2 ^ 16 ≡ p * 10 ^ length es → length ds < length es → digits_value 0 es % 10 ≡ 0
longer_value ds es p h h' longer =
    let j = length es - length ds - 1 in
    let len : length es ≡ length ds + suc j = omega arith in
    let power : 10 ^ length es ≡ 10 ^ length ds * 10 ^ suc j = ap (λ n. 10 ^ n) len
    ∙ pow-add 10 (length ds) (suc j) in
    let ten : 10 ^ suc j ≡ 10 * 10 ^ j = pow-succ' 10 j in
    let scaled : digits_value 0 es * 2 ^ 16 ≡ digits_value 0 ds * 10 ^ suc j * 2 ^ 16 =
    h' ∙ ap (λ n. p * n) power ∙ grouped p (10 ^ length ds) (10 ^ suc j) ∙ ap (λ n. n * 10 ^ suc j) (sym h)
    ∙ swapped (digits_value 0 ds) (2 ^ 16) (10 ^ suc j) in
    let value : digits_value 0 es
    ≡ digits_value 0 ds * 10 ^ suc j =
    eq_of_mul-eq-mul_right (2 ^ 16) (omega arith) (digits_value 0 es)
    (digits_value 0 ds * 10 ^ suc j) scaled in
    let tens : digits_value 0 es ≡ 10 * (digits_value 0 ds * 10 ^ j) = value
    ∙ ap (λ n. digits_value 0 ds * n) ten ∙ out (digits_value 0 ds) (10 ^ j) in
    omega (arith, tens)
  where
    grouped : (p t z : ℕ) → p * (t * z) ≡ p * t * z
    grouped p t z = omega arith

    swapped : (v s z : ℕ) → v * s * z ≡ v * z * s
    swapped v s z = omega arith

    out : (v t : ℕ) → v * (10 * t) ≡ 10 * (v * t)
    out v t = omega arith

fraction_shortest : (k r : ℕ) (fs : List ℕ) → r < 2 ^ k → k ≤ 16 → fraction_parts fs ≡ Some (r * 2 ^ (16 - k))
    → length (fraction_digits k r) ≤ length fs
fraction_shortest k r fs below few e =
    let p = r * 2 ^ (16 - k) in
    let printed = fraction_digits k r in
    let here = fraction_has printed p (fraction_parts-digits k r below few) in
    elim (cases_lt (length fs) (length printed)) [
      | inr fits ↦ fits
      | inl longer ↦ absurd
          (go (printed_end k r below) longer (longer_value fs printed p (fraction_has fs p e) here longer))
    ]
  where
    go : (fraction_digits k r ≡ []) ⊎ Ends (fraction_digits k r) → length fs < length (fraction_digits k r)
        → digits_value 0 (fraction_digits k r) % 10 ≡ 0 → ⊥
    go (inl none) longer tens = omega (arith, ap length none)
    go (inr end) longer tens = no_tens (fraction_digits k r) (fraction_digits-digits k r below) end tens

-- ---- magnitudes

option_was : (f : ℕ → ℕ) (o : Option ℕ) (n : ℕ) → option_map f o ≡ Some n → (p : ℕ) × (o ≡ Some p) × (f p ≡ n)
option_was f None n e = cc
option_was f (Some p) n e = (p, refl, cc)

parts_below : (v t p : ℕ) → v < t → v * 2 ^ 16 ≡ p * t → p < 2 ^ 16
parts_below v t p below e =
    elim (cases_lt p (2 ^ 16)) [
      | inl small ↦ small
      | inr large ↦ absurd (omega (arith, mul-le (2 ^ 16) t p t large (omega arith), e))
    ]

-- a whole part and the parts of 2^16 behind it are determined by their sum
parts_same : (v p w q : ℕ) → p < 2 ^ 16 → q < 2 ^ 16 → v * 2 ^ 16 + p ≡ w * 2 ^ 16 + q → (v ≡ w) × (p ≡ q)
parts_same v p w q h h' e = (omega arith, omega arith)

rest_below : (m k : ℕ) → k ≤ 16 → m % 2 ^ k * 2 ^ (16 - k) < 2 ^ 16
rest_below m k few =
    let here : k + (16 - k) ≡ 16 = omega arith in
    let whole : 2 ^ 16 ≡ 2 ^ k * 2 ^ (16 - k) = ap (λ j. 2 ^ j) (sym here) ∙ pow-add 2 k (16 - k) in
    let below : suc (m % 2 ^ k) ≤ 2 ^ k = mod_below m (2 ^ k) (pow_pos k) in
    let scaled : suc (m % 2 ^ k) * 2 ^ (16 - k) ≤ 2 ^ k * 2 ^ (16 - k) = mul-le (suc (m % 2 ^ k))
    (2 ^ (16 - k)) (2 ^ k) (2 ^ (16 - k)) below (omega arith) in
    less (m % 2 ^ k) (2 ^ (16 - k)) (2 ^ k * 2 ^ (16 - k)) (2 ^ 16) (pow_pos (16 - k)) scaled whole
  where
    less : (r s t u : ℕ) → 0 < s → suc r * s ≤ t → u ≡ t → r * s < u
    less r s t u h h' e = omega arith

magnitude_shortest : (m k : ℕ) (d : SignedDecimal) → m ≤ 2 ^ 36 → k ≤ 16 → IsDecimal d
    → magnitude_parts d ≡ Some (m * 2 ^ (16 - k)) → length (magnitude_text m k) ≤ length (decimal_text d)
unfolding magnitude_text
magnitude_shortest m k d small few h e =
    let ws = digits_some d.whole h.whole in
    let fs : AreDigits d.fraction = record { all = h.fraction } in
    let v = digits_value 0 d.whole in
    let found = option_was (λ parts. v * 2 ^ 16 + parts) (fraction_parts d.fraction) (m * 2 ^ (16 - k)) e in
    let p = found.0 in
    let p_small = parts_below (digits_value 0 d.fraction) (10 ^ length d.fraction) p
    (value_below d.fraction fs) (fraction_has d.fraction p found.1) in
    let same = parts_same v p (m / 2 ^ k) (m % 2 ^ k * 2 ^ (16 - k)) p_small (rest_below m k few)
    (found.2 ∙ sym (parts_joined m k few)) in
    let v_small : v < 2 ^ 64 = omega (arith, same.0, found.2, scale m (2 ^ (16 - k)) small (power_below k)) in
    let whole : length (decimal (m / 2 ^ k)) ≤ length d.whole = subst
    (λ n. length (decimal n) ≤ length d.whole) same.0 (whole_shortest d.whole ws.0 ws.1 v_small) in
    let behind = fraction_shortest k (m % 2 ^ k) d.fraction (mod_below m (2 ^ k) (pow_pos k)) few
    (found.1 ∙ ap Some same.1) in
    omega (
      arith,
      length-append (decimal (m / 2 ^ k)) (behind_point (fraction_digits k (m % 2 ^ k))),
      length-append d.whole (behind_point d.fraction),
      whole,
      point_more (fraction_digits k (m % 2 ^ k)) d.fraction behind,
    )
  where
    scale : (m s : ℕ) → m ≤ 2 ^ 36 → s ≤ 2 ^ 16 → m * s ≤ 2 ^ 52
    scale m s h h' = omega (arith, mul-le m s (2 ^ 36) (2 ^ 16) h h')

    power_below : (k : ℕ) → 2 ^ (16 - k) ≤ 2 ^ 16
    power_below k = pow-le-pow_right {n = 2} (lit< tt) {i = 16 - k} {j = 16} (omega arith)

-- ---- parts with their signs

not_negative : (m n : ℕ) → 0 < m → neg_ℤ (pos m) ≡ pos n → ⊥
not_negative zero n h e = omega arith
not_negative (suc m) n h e = cc

signed_magnitude : (negative : Bool) (n : ℕ) → unsigned_abs (signed negative n) ≡ n
signed_magnitude true zero = refl
signed_magnitude true (suc n) = refl
signed_magnitude false n = refl

option_signed : (negative : Bool) (o : Option ℕ) (z : ℤ) → option_map (signed negative) o ≡ Some z
    → (n : ℕ) × (o ≡ Some n) × (signed negative n ≡ z)
option_signed negative None z e = cc
option_signed negative (Some n) z e = (n, refl, cc)

-- a decimal of the value a / 2^k, and its parts of 2^16
abbrev HasPart : ℤ → ℕ → SignedDecimal → Type 0
HasPart z k d = decimal_parts d ≡ Some (z *ℤ power (16 - k))

part_magnitude : (z : ℤ) (k : ℕ) (d : SignedDecimal) → HasPart z k d
    → magnitude_parts d ≡ Some (unsigned_abs z * 2 ^ (16 - k))
part_magnitude z k d e =
    let found = option_signed d.negative (magnitude_parts d) (z *ℤ power (16 - k)) e in
    let same : found.0 ≡ unsigned_abs z * 2 ^ (16 - k) =
    sym (signed_magnitude d.negative found.0)
    ∙ ap unsigned_abs (found.2 ∙ sym (signed-times z (2 ^ (16 - k))))
    ∙ signed_magnitude (is_negative z) (unsigned_abs z * 2 ^ (16 - k)) in
    found.1 ∙ ap Some same

positive_product : (m n : ℕ) → 0 < n → 0 < suc m * n
positive_product m n h = omega arith

minus_written : (z : ℤ) (k : ℕ) (negative : Bool) (n : ℕ) → signed negative n ≡ z *ℤ power (16 - k)
    → length (minus_text z) ≤ length (front_sign negative)
minus_written (pos m) k negative n e = omega arith
minus_written (negsuc m) k true n e = omega arith
minus_written (negsuc m) k false n e =
    absurd (not_negative (suc m * 2 ^ (16 - k)) n (positive_product m (2 ^ (16 - k)) (pow_pos (16 - k)))
    (signed-times (negsuc m) (2 ^ (16 - k)) ∙ sym e))

second_shortest : (z : ℤ) (k : ℕ) (d : SignedDecimal) → unsigned_abs z ≤ 2 ^ 36 → k ≤ 16 → IsDecimal d
    → HasPart z k d → length (magnitude_text (unsigned_abs z) k) ≤ length (decimal_text d)
second_shortest z k d small few h e =
    magnitude_shortest (unsigned_abs z) k d small few h (part_magnitude z k d e)

first_shortest : (z : ℤ) (k : ℕ) (d : SignedDecimal) → unsigned_abs z ≤ 2 ^ 36 → k ≤ 16 → IsDecimal d
    → HasPart z k d → length (part_text z k) ≤ length (front_text d)
first_shortest z k d small few h e =
    let found = option_signed d.negative (magnitude_parts d) (z *ℤ power (16 - k)) e in
    omega (
      arith,
      length-append (minus_text z) (magnitude_text (unsigned_abs z) k),
      length-append (front_sign d.negative) (decimal_text d),
      minus_written z k d.negative found.0 found.2,
      second_shortest z k d small few h e,
    )

-- ---- words

abbrev zero_decimal : SignedDecimal
zero_decimal = record { negative = false; whole = 48 ∷ []; fraction = [] }

-- the two decimals of a word, `0` for one that is not written
abbrev first_of : NumberWord → SignedDecimal
first_of (Rational part) = part
first_of (Root part) = zero_decimal
first_of (Both first second) = first

abbrev second_of : NumberWord → SignedDecimal
second_of (Rational part) = zero_decimal
second_of (Root part) = part
second_of (Both first second) = second

decimals : (word : NumberWord) → IsWellFormed word → IsDecimal (first_of word) × IsDecimal (second_of word)
decimals (Rational part) h = (h, record { whole = refl; fraction = refl })
decimals (Root part) h = (record { whole = refl; fraction = refl }, h)
decimals (Both first second) h = h

word_parts : (word : NumberWord)
    → word_value word ≡ parts_read (decimal_parts (first_of word)) (decimal_parts (second_of word))
word_parts (Rational part) = refl
word_parts (Root part) = refl
word_parts (Both first second) = refl

record HasParts (s : Surd) (first second : Option ℤ) : Type 0 where
  a : ℤ
  b : ℤ
  first_is : first ≡ Some a
  second_is : second ≡ Some b
  value : IsSurdOf s (over_parts a b)

parts_found : (s : Surd) (first second : Option ℤ) → parts_read first second ≡ Ok s → HasParts s first second
parts_found s None second e = cc
parts_found s (Some a) None e = cc
parts_found s (Some a) (Some b) e =
    record {
      a = a;
      b = b;
      first_is = refl;
      second_is = refl;
      value = surd_of-value (over_parts a b) s (surd_answer-ok (surd_of (over_parts a b)) s e);
    }

same_part : (z a : ℤ) (k : ℕ) → k ≤ 16 → z *ℤ power 16 ≡ a *ℤ power k → a ≡ z *ℤ power (16 - k)
same_part z a k few e = int_power_cancel a (z *ℤ power (16 - k)) k (sym e ∙ part_same z k few)

-- the word has the parts a / 2^k and b / 2^k, and each of its decimals is as long as the one that is printed
record IsWritten (a b : ℤ) (k : ℕ) (word : NumberWord) : Type 0 where
  form : IsWellFormed word
  first : HasPart a k (first_of word)
  second : HasPart b k (second_of word)
  first_fits : length (part_text a k) ≤ length (front_text (first_of word))
  second_fits : length (part_text b k) ≤ length (front_text (second_of word))
  root_fits : length (magnitude_text (unsigned_abs b) k) ≤ length (decimal_text (second_of word))

written : (s : Surd) (word : NumberWord) → IsWellFormed word → word_value word ≡ Ok s
    → IsWritten s.a s.b s.k word
written s word h e =
    let found = parts_found s (decimal_parts (first_of word)) (decimal_parts (second_of word))
    (sym (word_parts word) ∙ e) in
    let ds = decimals word h in
    let few = s.stored.1.2 in
    let first : HasPart s.a s.k (first_of word) = found.first_is
    ∙ ap Some (same_part s.a found.a s.k few found.value.0) in
    let second : HasPart s.b s.k (second_of word) = found.second_is
    ∙ ap Some (same_part s.b found.b s.k few found.value.1) in
    record {
      form = h;
      first = first;
      second = second;
      first_fits = first_shortest s.a s.k (first_of word) s.stored.1.0 few ds.0 first;
      second_fits = first_shortest s.b s.k (second_of word) s.stored.1.1 few ds.1 second;
      root_fits = second_shortest s.b s.k (second_of word) s.stored.1.1 few ds.1 second;
    }

zero_part : (z : ℤ) (k : ℕ) → HasPart z k zero_decimal → z ≡ pos 0
zero_part z k e =
    let none : unsigned_abs z * 2 ^ (16 - k) ≡ 0 = some_zero (part_magnitude z k zero_decimal e) in
    abs_zero z (no_factor (unsigned_abs z) (2 ^ (16 - k)) (pow_pos (16 - k)) none)
  where
    some_zero : magnitude_parts zero_decimal ≡ Some (unsigned_abs z * 2 ^ (16 - k))
        → unsigned_abs z * 2 ^ (16 - k) ≡ 0
    some_zero e = let same : 0 ≡ unsigned_abs z * 2 ^ (16 - k) = cc in sym same

    no_factor : (m n : ℕ) → 0 < n → m * n ≡ 0 → m ≡ 0
    no_factor zero n h e = refl
    no_factor (suc m) n h e = absurd (omega arith)

    abs_zero : (z : ℤ) → unsigned_abs z ≡ 0 → z ≡ pos 0
    abs_zero (pos n) e = ap pos e
    abs_zero (negsuc n) e = absurd (omega arith)

-- ---- the forms

first_within : (word : NumberWord) → length (front_text (first_of word)) ≤ length (word_text word)
first_within (Rational part) = omega arith
first_within (Root part) = omega (arith, length-append (front_text part) root_mark)
first_within (Both first second) =
    omega (
      arith,
      length-append (front_text first)
          (middle_sign second.negative ++ (decimal_text second ++ root_mark)),
    )

some_front : (d : SignedDecimal) → IsDecimal d → 0 < length (front_text d)
some_front d h =
    omega (
      arith,
      length-append (front_sign d.negative) (decimal_text d),
      length-append d.whole (behind_point d.fraction),
      (digits_some d.whole h.whole).1,
    )

one_sign : (negative : Bool) → length (front_sign negative) ≤ length (middle_sign negative)
one_sign true = omega arith
one_sign false = omega arith

middle_length : (negative : Bool) → length (middle_sign negative) ≡ 1
middle_length true = refl
middle_length false = refl

joining_length : (b : ℤ) → length (joining_text b) ≡ 1
joining_length (pos n) = refl
joining_length (negsuc n) = refl

both_length : (first second : SignedDecimal)
    → length (word_text (Both first second))
    ≡ length (front_text first) + (1 + (length (decimal_text second) + 2))
both_length first second =
    omega (
      arith,
      length-append (front_text first)
          (middle_sign second.negative ++ (decimal_text second ++ root_mark)),
      length-append (middle_sign second.negative) (decimal_text second ++ root_mark),
      length-append (decimal_text second) root_mark,
      middle_length second.negative,
    )

first_alone : (a b : ℤ) (k : ℕ) (word : NumberWord) → IsWritten a b k word
    → length (part_text a k) ≤ length (word_text word)
first_alone a b k word w = omega (arith, w.first_fits, first_within word)

second_alone : (a b : ℤ) (k : ℕ) (word : NumberWord) → IsWritten a b k word → b ≢ pos 0
    → length (part_text b k ++ codes "r2") ≤ length (word_text word)
second_alone a b k (Rational part) w some = absurd (some (zero_part b k w.second))
second_alone a b k (Root part) w some =
    omega (
      arith,
      length-append (part_text b k) (codes "r2"),
      length-append (front_text part) root_mark,
      w.second_fits,
    )
second_alone a b k (Both first second) w some =
    omega (
      arith,
      length-append (part_text b k) (codes "r2"),
      length-append (front_sign second.negative) (decimal_text second),
      one_sign second.negative,
      middle_length second.negative,
      both_length first second,
      some_front first w.form.0,
      w.second_fits,
    )

both_written : (a b : ℤ) (k : ℕ) (word : NumberWord) → IsWritten a b k word → a ≢ pos 0 → b ≢ pos 0
    → length (part_text a k ++ joining_text b ++ magnitude_text (unsigned_abs b) k ++ codes "r2") ≤ length
    (word_text word)
both_written a b k (Rational part) w some some' = absurd (some' (zero_part b k w.second))
both_written a b k (Root part) w some some' = absurd (some (zero_part a k w.first))
both_written a b k (Both first second) w some some' =
    omega (
      arith,
      length-append (part_text a k ++ joining_text b ++ magnitude_text (unsigned_abs b) k)
          (codes "r2"),
      length-append (part_text a k ++ joining_text b) (magnitude_text (unsigned_abs b) k),
      length-append (part_text a k) (joining_text b),
      joining_length b,
      both_length first second,
      w.first_fits,
      w.root_fits,
    )

more_none : (n : ℕ) → pos (suc n) ≢ pos 0
more_none n e = cc

less_none : (n : ℕ) → negsuc n ≢ pos 0
less_none n e = cc

shortest_of : (a b : ℤ) (k : ℕ) (word : NumberWord) → IsWritten a b k word
    → length (parts_text a b k) ≤ length (word_text word)
shortest_of a (pos zero) k word w = first_alone a (pos zero) k word w
shortest_of (pos zero) (pos (suc n)) k word w = second_alone (pos zero) (pos (suc n)) k word w (more_none n)
shortest_of (pos zero) (negsuc n) k word w = second_alone (pos zero) (negsuc n) k word w (less_none n)
shortest_of (pos (suc m)) (pos (suc n)) k word w =
    both_written (pos (suc m)) (pos (suc n)) k word w (more_none m) (more_none n)
shortest_of (pos (suc m)) (negsuc n) k word w =
    both_written (pos (suc m)) (negsuc n) k word w (more_none m) (less_none n)
shortest_of (negsuc m) (pos (suc n)) k word w =
    both_written (negsuc m) (pos (suc n)) k word w (less_none m) (more_none n)
shortest_of (negsuc m) (negsuc n) k word w =
    both_written (negsuc m) (negsuc n) k word w (less_none m) (less_none n)

read_as : (text : List ℕ) (s : Surd) → number_read text ≡ Ok s
    → (word : NumberWord) × IsWordOf text word × (word_value word ≡ Ok s)
unfolding number_read
read_as text s e =
    elim (bool_cases (is_exponential text)) [
      | inl power ↦ let none : Err NotExact ≡ Ok s = rw power at e in cc
      | inr plain ↦ go (number_word text) refl (rw plain at e)
    ]
  where
    go : (o : Option NumberWord) → number_word text ≡ o → word_read o ≡ Ok s
        → (word : NumberWord) × IsWordOf text word × (word_value word ≡ Ok s)
    go None found e = cc
    go (Some word) found e = (word, number_word-form text word found, e)

least : (s : Surd) (text : List ℕ) → number_read text ≡ Ok s
    → length (number_text (number_of s)) ≤ length text
unfolding number_text
least s text e =
    let found = read_as text s e in
    let w = written s found.0 found.1.0 found.2 in
    let short = shortest_of s.a s.b s.k found.0 w in
    omega (arith, short, ap length found.1.1)

pub numbers_are_shortest : NumbersAreShortest
numbers_are_shortest s = record { reads = number_text-reads s; least = least s }
