-- The reader's cases are exactly the forms of the grammar.
use Rattle.std.specs.Prelude.{Err}
use Rattle.std.proofs.Common.{◌≡◌, ℕ, ◌<◌, ◌⊎◌, inl, inr, List, [], ◌∷◌, ◌++◌, length, Bool, true, false, not, ◌&&◌, ◌||◌, ◌==◌, Option, Some, None, codes, refl, ap, ap₂, sym, ◌∙◌, arith, subst, append_assoc}
use Rattle.std.specs.List.{list_all}
use Rattle.std.proofs.lemmas.Bool.{cases_eq}
use Rattle.std.proofs.lemmas.Bool.Decides.{nat_tests}
use Rattle.std.proofs.lemmas.List.{append-nil}
use Rattle.std.proofs.lemmas.Slice.Eq.{bytes_eq-Decides}
use Rattle.cp_text.specs.declared.number_reading.NumberFault.TheVariants.{Bad, NotExact}
use Rattle.cp_text.specs.Digits.{is_digit, is_digits, leading_digits, behind_digits}
use Rattle.cp_text.specs.NumberText.{behind_point}
use Rattle.cp_text.specs.NumberWord.{Scan, with_fraction, behind_whole, with_whole, decimal_at, SignedDecimal, signed_decimal, NumberWord, Rational, Root, Both, is_root_mark, second_part, behind_first, first_part, has_minus, behind_minus, number_word, is_power, is_power_mark, has_power, is_exponential}
use Rattle.cp_text.specs.NumberReading.{word_value, word_read, number_read}
use Rattle.cp_text.specs.NumberGrammar.{IsDecimal, IsWellFormed, front_sign, middle_sign, decimal_text, front_text, root_mark, word_text, IsWordOf, IsExponential, ReadsByTheGrammar}
use Rattle.cp_text.proofs.DigitTexts.{AreDigits, bool_cases, both_true, no_digit_first, digits_none, digits_more, digits_first, digit_byte_least, leading_digits-append, behind_digits-append}

-- ---- what is scanned is what stands there

leading-behind : (bs : List ℕ) → leading_digits bs ++ behind_digits bs ≡ bs
leading-behind [] = refl
leading-behind (b ∷ bs) =
    elim (bool_cases (is_digit b)) [
      | inl digit ↦ rw digit (ap (λ xs. b ∷ xs) (leading-behind bs))
      | inr other ↦ rw other refl
    ]

leading-digits : (bs : List ℕ) → AreDigits (leading_digits bs)
leading-digits [] = digits_none
leading-digits (b ∷ bs) =
    elim (bool_cases (is_digit b)) [
      | inl digit ↦ rw digit (digits_more b (leading_digits bs) digit (leading-digits bs))
      | inr other ↦ rw other digits_none
    ]

point-some : (fs : List ℕ) → 0 < length fs → behind_point fs ≡ 46 ∷ fs
point-some [] h = absurd (omega arith)
point-some (f ∷ fs) h = refl

record IsScan (text : List ℕ) (scan : Scan) : Type 0 where
  whole : AreDigits scan.whole
  some : 0 < length scan.whole
  fraction : AreDigits scan.fraction
  written : scan.whole ++ (behind_point scan.fraction ++ scan.rest) ≡ text

some_same : {X : Type 0} (x y : X) → Some x ≡ Some y → x ≡ y
some_same x y e = cc

with_fraction-is : (whole fs rest : List ℕ) (scan : Scan) → with_fraction whole fs rest ≡ Some scan
    → (0 < length fs) × (record { whole = whole; fraction = fs; rest = rest } ≡ scan)
with_fraction-is whole [] rest scan e = cc
with_fraction-is whole (f ∷ fs) rest scan e =
    (omega arith, some_same (record { whole = whole; fraction = f ∷ fs; rest = rest }) scan e)

behind_whole-is : (whole rest : List ℕ) (scan : Scan) → AreDigits whole → 0 < length whole
    → behind_whole whole rest ≡ Some scan → IsScan (whole ++ rest) scan
behind_whole-is whole [] scan h some e =
    let P : Scan → Type 0 = IsScan (whole ++ []) in
    subst P (some_same (record { whole = whole; fraction = []; rest = [] }) scan e)
    (record { whole = h; some = some; fraction = digits_none; written = refl })
behind_whole-is whole (b ∷ bs) scan h some e =
    let P : Scan → Type 0 = IsScan (whole ++ (b ∷ bs)) in
    elim (cases_eq b 46) [
      | inl point ↦
          let test : (b == 46) ≡ true = grind (arith, nat_tests) in
          let found = with_fraction-is whole (leading_digits bs) (behind_digits bs) scan (rw test at e) in
          let written : behind_point (leading_digits bs) ++ behind_digits bs ≡ b ∷ bs =
          ap (λ xs. xs ++ behind_digits bs) (point-some (leading_digits bs) found.0)
          ∙ ap₂ (λ x xs. x ∷ xs) (sym point) (leading-behind bs) in
          subst P found.1 (record {
            whole = h;
            some = some;
            fraction = leading-digits bs;
            written = ap (λ xs. whole ++ xs) written;
          })
      | inr other ↦
          let test : (b == 46) ≡ false = grind (arith, nat_tests) in
          subst P (some_same (record { whole = whole; fraction = []; rest = b ∷ bs }) scan (rw test at e))
          (record { whole = h; some = some; fraction = digits_none; written = refl })
    ]

with_whole-is : (whole rest : List ℕ) (scan : Scan) → AreDigits whole → with_whole whole rest ≡ Some scan
    → IsScan (whole ++ rest) scan
with_whole-is [] rest scan h e = cc
with_whole-is (d ∷ ds) rest scan h e = behind_whole-is (d ∷ ds) rest scan h (omega arith) e

decimal_at-is : (text : List ℕ) (scan : Scan) → decimal_at text ≡ Some scan → IsScan text scan
decimal_at-is text scan e =
    let P : List ℕ → Type 0 = λ t. IsScan t scan in
    subst P (leading-behind text)
    (with_whole-is (leading_digits text) (behind_digits text) scan (leading-digits text) e)

-- ---- digits by their two names

pub some_digits : (ds : List ℕ) → AreDigits ds → 0 < length ds → is_digits ds ≡ true
some_digits [] h some = absurd (omega arith)
some_digits (d ∷ ds) h some = h.all

pub digits_some : (ds : List ℕ) → is_digits ds ≡ true → AreDigits ds × (0 < length ds)
digits_some [] h = cc
digits_some (d ∷ ds) h = (record { all = h }, omega arith)

scanned_decimal : (negative : Bool) (text : List ℕ) (scan : Scan) → IsScan text scan
    → IsDecimal (signed_decimal negative scan)
scanned_decimal negative text scan h =
    record { whole = some_digits scan.whole h.whole h.some; fraction = h.fraction.all }

-- ---- from the reader to the grammar

minus-is : (text : List ℕ) → front_sign (has_minus text) ++ behind_minus text ≡ text
minus-is [] = refl
minus-is (b ∷ bs) =
    elim (cases_eq b 45) [
      | inl minus ↦ let test : (b == 45) ≡ true = grind (arith, nat_tests)
          in rw test (ap (λ x. x ∷ bs) (sym minus))
      | inr other ↦ let test : (b == 45) ≡ false = grind (arith, nat_tests) in rw test refl
    ]

root_mark-is : (text : List ℕ) → is_root_mark text ≡ true → root_mark ≡ text
root_mark-is text h = sym ((bytes_eq-Decides text (codes "r2")).0 h)

second-form : (first : SignedDecimal) (negative : Bool) (text : List ℕ) (o : Option Scan) (word : NumberWord)
    → IsDecimal first → decimal_at text ≡ o → second_part first negative o ≡ Some word
    → IsWordOf (front_text first ++ (middle_sign negative ++ text)) word
second-form first negative text None word h scanned e = cc
second-form first negative text (Some scan) word h scanned e =
    elim (bool_cases (is_root_mark scan.rest)) [
      | inl mark ↦
          let s = decimal_at-is text scan scanned in
          let P : NumberWord → Type 0 = IsWordOf (front_text first ++ (middle_sign negative ++ text)) in
          let written : decimal_text (signed_decimal negative scan) ++ root_mark ≡ text =
          append_assoc scan.whole (behind_point scan.fraction) root_mark
          ∙ ap (λ rest. scan.whole ++ (behind_point scan.fraction ++ rest)) (root_mark-is scan.rest mark)
          ∙ s.written in
          subst P (some_same (Both first (signed_decimal negative scan)) word (rw mark at e)) (
            (h, scanned_decimal negative text scan s),
            ap (λ t. front_text first ++ (middle_sign negative ++ t)) written,
          )
      | inr other ↦ let none : None ≡ Some word = rw other at e in cc
    ]

behind-form : (first : SignedDecimal) (rest : List ℕ) (word : NumberWord) → IsDecimal first
    → behind_first first rest ≡ Some word → IsWordOf (front_text first ++ rest) word
behind-form first [] word h e =
    let P : NumberWord → Type 0 = IsWordOf (front_text first ++ []) in
    subst P (some_same (Rational first) word e) (h, sym (append-nil (front_text first)))
behind-form first (b ∷ bs) word h e =
    let P : NumberWord → Type 0 = IsWordOf (front_text first ++ (b ∷ bs)) in
    elim (bool_cases (is_root_mark (b ∷ bs))) [
      | inl mark ↦
          subst P (some_same (Root first) word (rw mark at e))
          (h, ap (λ t. front_text first ++ t) (root_mark-is (b ∷ bs) mark))
      | inr other ↦
          let e' = rw other at e in
          elim (cases_eq b 43) [
            | inl plus ↦
                let test : (b == 43) ≡ true = grind (arith, nat_tests) in
                let Q : ℕ → Type 0 = λ x. IsWordOf (front_text first ++ (x ∷ bs)) word in
                subst Q (sym plus) (second-form first false bs (decimal_at bs) word h refl (rw test at e'))
            | inr no_plus ↦
                let not_plus : (b == 43) ≡ false = grind (arith, nat_tests) in
                let e'' = rw not_plus at e' in
                elim (cases_eq b 45) [
                  | inl minus ↦
                      let test : (b == 45) ≡ true = grind (arith, nat_tests) in
                      let Q : ℕ → Type 0 = λ x. IsWordOf (front_text first ++ (x ∷ bs)) word in
                      subst Q (sym minus) (second-form first true bs (decimal_at bs) word h refl
                      (rw test at e''))
                  | inr no_minus ↦
                      let not_minus : (b == 45) ≡ false = grind (arith, nat_tests) in
                      let none : None ≡ Some word = rw not_minus at e'' in cc
                ]
          ]
    ]

front-is : (text : List ℕ) (scan : Scan) → IsScan (behind_minus text) scan
    → front_text (signed_decimal (has_minus text) scan) ++ scan.rest ≡ text
front-is text scan s =
    append_assoc (front_sign (has_minus text)) (scan.whole ++ behind_point scan.fraction) scan.rest
    ∙ ap (λ t. front_sign (has_minus text) ++ t)
    (append_assoc scan.whole (behind_point scan.fraction) scan.rest ∙ s.written)
    ∙ minus-is text

first-form : (text : List ℕ) (o : Option Scan) (word : NumberWord) → decimal_at (behind_minus text) ≡ o
    → first_part (has_minus text) o ≡ Some word → IsWordOf text word
first-form text None word scanned e = cc
first-form text (Some scan) word scanned e =
    let s = decimal_at-is (behind_minus text) scan scanned in
    let P : List ℕ → Type 0 = λ t. IsWordOf t word in
    subst P (front-is text scan s)
    (behind-form (signed_decimal (has_minus text) scan) scan.rest word
    (scanned_decimal (has_minus text) (behind_minus text) scan s) e)

pub number_word-form : (text : List ℕ) (word : NumberWord) → number_word text ≡ Some word → IsWordOf text word
number_word-form text word e = first-form text (decimal_at (behind_minus text)) word refl e

-- ---- from the grammar to the reader

-- neither a digit nor a point first
abbrev ends_decimal : List ℕ → Bool
ends_decimal [] = true
ends_decimal (b ∷ bs) = not (is_digit b) && not (b == 46)

no_digit-end : (rest : List ℕ) → ends_decimal rest ≡ true → no_digit_first rest ≡ true
no_digit-end [] h = refl
no_digit-end (b ∷ bs) h = grind (arith, nat_tests)

no_digit-point : (fs rest : List ℕ) → ends_decimal rest ≡ true
    → no_digit_first (behind_point fs ++ rest) ≡ true
no_digit-point [] rest h = no_digit-end rest h
no_digit-point (f ∷ fs) rest h = refl

with_whole-some : (ds rest : List ℕ) → 0 < length ds → with_whole ds rest ≡ behind_whole ds rest
with_whole-some [] rest h = absurd (omega arith)
with_whole-some (d ∷ ds) rest h = refl

behind_whole-none : (ds rest : List ℕ) → ends_decimal rest ≡ true
    → behind_whole ds rest ≡ Some (record { whole = ds; fraction = []; rest = rest })
behind_whole-none ds [] h = refl
behind_whole-none ds (b ∷ bs) h = grind (arith, nat_tests)

behind_whole-text : (ds fs rest : List ℕ) → AreDigits fs → ends_decimal rest ≡ true
    → behind_whole ds (behind_point fs ++ rest) ≡ Some (record { whole = ds; fraction = fs; rest = rest })
behind_whole-text ds [] rest h e = behind_whole-none ds rest e
behind_whole-text ds (f ∷ fs) rest h e =
    ap₂ (λ digits behind. with_fraction ds digits behind)
    (leading_digits-append (f ∷ fs) rest h (no_digit-end rest e))
    (behind_digits-append (f ∷ fs) rest h (no_digit-end rest e))

-- a decimal in front of anything that ends it
decimal_at-text : (ds fs rest : List ℕ) → AreDigits ds → 0 < length ds → AreDigits fs
    → ends_decimal rest ≡ true → decimal_at (ds ++ (behind_point fs ++ rest))
    ≡ Some (record { whole = ds; fraction = fs; rest = rest })
decimal_at-text ds fs rest h some h' e =
    let plain = no_digit-point fs rest e in
    ap₂ with_whole (leading_digits-append ds (behind_point fs ++ rest) h plain)
    (behind_digits-append ds (behind_point fs ++ rest) h plain)
    ∙ with_whole-some ds (behind_point fs ++ rest) some
    ∙ behind_whole-text ds fs rest h' e

no_minus : (ds rest : List ℕ) → AreDigits ds → 0 < length ds
    → (has_minus (ds ++ rest) ≡ false) × (behind_minus (ds ++ rest) ≡ ds ++ rest)
no_minus [] rest h some = absurd (omega arith)
no_minus (d ∷ ds) rest h some =
    let least = digit_byte_least d (digits_first d ds h) in
    (grind (arith, nat_tests), grind (arith, nat_tests))

abbrev scan_with : SignedDecimal → List ℕ → Scan
scan_with d rest = record { whole = d.whole; fraction = d.fraction; rest = rest }

decimal-scan : (d : SignedDecimal) (rest : List ℕ) → IsDecimal d → ends_decimal rest ≡ true
    → decimal_at (decimal_text d ++ rest) ≡ Some (scan_with d rest)
decimal-scan d rest h e =
    let ds = digits_some d.whole h.whole in
    ap decimal_at (append_assoc d.whole (behind_point d.fraction) rest)
    ∙ decimal_at-text d.whole d.fraction rest ds.0 ds.1 (record { all = h.fraction }) e

minus-front : (negative : Bool) (ds fs rest : List ℕ) → AreDigits ds → 0 < length ds
    → (has_minus ((front_sign negative ++ (ds ++ fs)) ++ rest) ≡ negative)
    × (behind_minus ((front_sign negative ++ (ds ++ fs)) ++ rest) ≡ (ds ++ fs) ++ rest)
minus-front true ds fs rest h some = (refl, refl)
minus-front false ds fs rest h some =
    let plain = no_minus ds (fs ++ rest) h some in
    let grouped : (ds ++ fs) ++ rest ≡ ds ++ (fs ++ rest) = append_assoc ds fs rest in
    (ap has_minus grouped ∙ plain.0, ap behind_minus grouped ∙ plain.1 ∙ sym grouped)

front-scan : (d : SignedDecimal) (rest : List ℕ) → IsDecimal d → ends_decimal rest ≡ true
    → (has_minus (front_text d ++ rest) ≡ d.negative)
    × (decimal_at (behind_minus (front_text d ++ rest)) ≡ Some (scan_with d rest))
front-scan d rest h e =
    let ds = digits_some d.whole h.whole in
    let minus = minus-front d.negative d.whole (behind_point d.fraction) rest ds.0 ds.1 in
    (minus.0, ap decimal_at minus.1 ∙ decimal-scan d rest h e)

front-reads : (d : SignedDecimal) (rest : List ℕ) → IsDecimal d → ends_decimal rest ≡ true
    → number_word (front_text d ++ rest) ≡ behind_first d rest
front-reads d rest h e = let s = front-scan d rest h e in ap₂ first_part s.0 s.1

front-power : (d : SignedDecimal) (rest : List ℕ) → IsDecimal d → ends_decimal rest ≡ true
    → is_exponential (front_text d ++ rest) ≡ is_power_mark rest
front-power d rest h e = ap has_power (front-scan d rest h e).1

middle-ends : (negative : Bool) (rest : List ℕ) → ends_decimal (middle_sign negative ++ rest) ≡ true
middle-ends true rest = refl
middle-ends false rest = refl

middle-power : (negative : Bool) (rest : List ℕ) → is_power_mark (middle_sign negative ++ rest) ≡ false
middle-power true rest = refl
middle-power false rest = refl

middle-reads : (first : SignedDecimal) (negative : Bool) (rest : List ℕ)
    → behind_first first (middle_sign negative ++ rest) ≡ second_part first negative (decimal_at rest)
middle-reads first true rest = refl
middle-reads first false rest = refl

-- each form is read as itself, and is no exponent notation
word-reads : (word : NumberWord) → IsWellFormed word
    → (number_word (word_text word) ≡ Some word) × (is_exponential (word_text word) ≡ false)
word-reads (Rational part) h =
    let whole : front_text part ≡ front_text part ++ [] = sym (append-nil (front_text part)) in
    (ap number_word whole ∙ front-reads part [] h refl, ap is_exponential whole ∙ front-power part [] h refl)
word-reads (Root part) h = (front-reads part root_mark h refl, front-power part root_mark h refl)
word-reads (Both first second) h =
    let rest = decimal_text second ++ root_mark in (
      front-reads first (middle_sign second.negative ++ rest) h.0 (middle-ends second.negative rest)
          ∙ middle-reads first second.negative rest
          ∙ ap (second_part first second.negative) (decimal-scan second root_mark h.1 refl),
      front-power first (middle_sign second.negative ++ rest) h.0 (middle-ends second.negative rest)
          ∙ middle-power second.negative rest,
    )

-- ---- exponent notation

record IsPower (text : List ℕ) : Type 0 where
  sign : List ℕ
  digits : List ℕ
  optional : (sign ≡ []) ⊎ (sign ≡ 43 ∷ []) ⊎ (sign ≡ 45 ∷ [])
  some : is_digits digits ≡ true
  written : sign ++ digits ≡ text

power-form : (text : List ℕ) → is_power text ≡ true → IsPower text
power-form [] h = cc
power-form (b ∷ bs) h =
    elim (cases_eq b 43) [
      | inl plus ↦
          let test : ((b == 43) || (b == 45)) ≡ true = grind (arith, nat_tests) in
          record {
            sign = 43 ∷ [];
            digits = bs;
            optional = inr (inl refl);
            some = rw test at h;
            written = ap (λ x. x ∷ bs) (sym plus);
          }
      | inr no_plus ↦ elim (cases_eq b 45) [
        | inl minus ↦
            let test : ((b == 43) || (b == 45)) ≡ true = grind (arith, nat_tests) in
            record {
              sign = 45 ∷ [];
              digits = bs;
              optional = inr (inr refl);
              some = rw test at h;
              written = ap (λ x. x ∷ bs) (sym minus);
            }
        | inr other ↦
            let test : ((b == 43) || (b == 45)) ≡ false = grind (arith, nat_tests) in
            record { sign = []; digits = b ∷ bs; optional = inl refl; some = rw test at h; written = refl }
      ]
    ]

letter_is : (b : ℕ) → ((b == 101) || (b == 69)) ≡ true → (b ≡ 101) ⊎ (b ≡ 69)
letter_is b h =
    elim (cases_eq b 101) [
      | inl small ↦ inl small
      | inr no_small ↦ inr (grind (arith, nat_tests))
    ]

exponential-rest : (text : List ℕ) (scan : Scan) (rest : List ℕ) → scan.rest ≡ rest
    → IsScan (behind_minus text) scan → is_power_mark rest ≡ true → IsExponential text
exponential-rest text scan [] same s h = cc
exponential-rest text scan (b ∷ bs) same s h =
    let parts = both_true ((b == 101) || (b == 69)) (is_power bs) h in
    let power = power-form bs parts.1 in
    record {
      part = signed_decimal (has_minus text) scan;
      mark = b;
      sign = power.sign;
      digits = power.digits;
      decimal = scanned_decimal (has_minus text) (behind_minus text) scan s;
      letter = letter_is b parts.0;
      optional = power.optional;
      some = power.some;
      written = ap (λ t. front_text (signed_decimal (has_minus text) scan) ++ (b ∷ t)) power.written
          ∙ ap (λ t. front_text (signed_decimal (has_minus text) scan) ++ t) (sym same)
          ∙ front-is text scan s;
    }

exponential-scan : (text : List ℕ) (o : Option Scan) → decimal_at (behind_minus text) ≡ o → has_power o ≡ true
    → IsExponential text
exponential-scan text None scanned h = cc
exponential-scan text (Some scan) scanned h =
    exponential-rest text scan scan.rest refl (decimal_at-is (behind_minus text) scan scanned) h

exponential-form : (text : List ℕ) → is_exponential text ≡ true → IsExponential text
exponential-form text h = exponential-scan text (decimal_at (behind_minus text)) refl h

unsigned-power : (ds : List ℕ) → is_digits ds ≡ true → is_power ds ≡ true
unsigned-power [] h = cc
unsigned-power (d ∷ ds) h =
    let digit = (both_true (is_digit d) (list_all is_digit ds) h).0 in
    let test : ((d == 43) || (d == 45)) ≡ false = grind (arith, nat_tests) in
    rw test h

power-reads : (sign digits : List ℕ) → (sign ≡ []) ⊎ (sign ≡ 43 ∷ []) ⊎ (sign ≡ 45 ∷ [])
    → is_digits digits ≡ true → is_power (sign ++ digits) ≡ true
power-reads sign digits (inl none) h = ap (λ s. is_power (s ++ digits)) none ∙ unsigned-power digits h
power-reads sign digits (inr (inl plus)) h = ap (λ s. is_power (s ++ digits)) plus ∙ h
power-reads sign digits (inr (inr minus)) h = ap (λ s. is_power (s ++ digits)) minus ∙ h

letter-ends : (b : ℕ) (rest : List ℕ) → (b ≡ 101) ⊎ (b ≡ 69)
    → (ends_decimal (b ∷ rest) ≡ true) × (((b == 101) || (b == 69)) ≡ true)
letter-ends b rest (inl small) =
    (ap (λ x. ends_decimal (x ∷ rest)) small, ap (λ x. (x == 101) || (x == 69)) small)
letter-ends b rest (inr capital) =
    (ap (λ x. ends_decimal (x ∷ rest)) capital, ap (λ x. (x == 101) || (x == 69)) capital)

exponential-reads : (text : List ℕ) → IsExponential text → is_exponential text ≡ true
exponential-reads text h =
    let rest = h.sign ++ h.digits in
    let letter = letter-ends h.mark rest h.letter in
    ap is_exponential (sym h.written)
    ∙ front-power h.part (h.mark ∷ rest) h.decimal letter.0
    ∙ ap₂ (λ p q. p && q) letter.1 (power-reads h.sign h.digits h.optional h.some)

-- ---- the law

exponents_read : (text : List ℕ) → IsExponential text → number_read text ≡ Err NotExact
unfolding number_read
exponents_read text h = let test : is_exponential text ≡ true = exponential-reads text h in rw test refl

pub words_read : (text : List ℕ) (word : NumberWord) → IsWordOf text word → number_read text ≡ word_value word
unfolding number_read
words_read text word h =
    let reads = word-reads word h.0 in
    let found : number_word text ≡ Some word = ap number_word (sym h.1) ∙ reads.0 in
    let plain : is_exponential text ≡ false = ap is_exponential (sym h.1) ∙ reads.1 in
    rw (plain, found) refl

no_word : (text : List ℕ) (o : Option NumberWord) → number_word text ≡ o
    → ((word : NumberWord) → ¬ IsWordOf text word) → word_read o ≡ Err Bad
no_word text None found h = refl
no_word text (Some word) found h = absurd (h word (number_word-form text word found))

others_read : (text : List ℕ) → ¬ IsExponential text → ((word : NumberWord) → ¬ IsWordOf text word)
    → number_read text ≡ Err Bad
unfolding number_read
others_read text no_power h =
    elim (bool_cases (is_exponential text)) [
      | inl power ↦ absurd (no_power (exponential-form text power))
      | inr plain ↦ rw plain (no_word text (number_word text) refl h)
    ]

pub reads_by_the_grammar : ReadsByTheGrammar
reads_by_the_grammar = record { exponents = exponents_read; words = words_read; others = others_read }
