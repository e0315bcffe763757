-- A number's text reads as the number.
use Rattle.std.specs.Prelude.{Ok}
use Rattle.std.proofs.Common.{◌≡◌, ℕ, zero, suc, ◌+◌, ◌-◌, ◌*◌, ◌/◌, ◌%◌, ◌^◌, ◌<◌, ◌≤◌, ℤ, pos, negsuc, unsigned_abs, ◌*ℤ◌, List, ◌++◌, Bool, true, false, Some, option_map, codes, decimal, refl, ap, ap₂, sym, ◌∙◌, arith, pow-add, append_assoc}
use Rattle.std.proofs.lemmas.Nat.{div-add-mod', mod_below, pow_pos}
use Rattle.std.proofs.lemmas.Int.{ints}
use Rattle.std.proofs.Math.Nat.{div-le_self}
use Rattle.surd_number.specs.declared.Surd.{Surd}
use Rattle.surd_number.specs.Number.{Number, power}
use Rattle.surd_number.specs.IntRing.{int_mul_assoc}
use Rattle.surd_number.specs.Value.{number_of}
use Rattle.surd_number.specs.Exact.{surd_of}
use Rattle.surd_number.specs.ExactLaws.{surd_of-is}
use Rattle.cp_text.specs.Digits.{digits_value}
use Rattle.cp_text.specs.NumberText.{fraction_digits, magnitude_text, joining_text, part_text, parts_text, number_text}
use Rattle.cp_text.specs.NumberGrammar.{IsDecimal, middle_sign, decimal_text, front_text, root_mark, word_text}
use Rattle.cp_text.specs.NumberWord.{SignedDecimal, Rational, Root, Both}
use Rattle.cp_text.specs.NumberReading.{signed, decimal_parts, parts_read, surd_answer, number_read}
use Rattle.cp_text.proofs.DigitTexts.{decimal_is}
use Rattle.cp_text.proofs.Grammar.{some_digits, words_read}
use Rattle.cp_text.proofs.LowestTerms.{fraction_digits-digits, fraction_parts-digits}

-- ---- the text of a magnitude

abbrev whole_digits : ℕ → ℕ → List ℕ
whole_digits m k = decimal (m / 2 ^ k)

whole_fits : (m k : ℕ) → m ≤ 2 ^ 36 → m / 2 ^ k < 2 ^ 64
whole_fits m k h = omega (arith, div-le_self m (2 ^ k))

part_below : (m k : ℕ) → m % 2 ^ k < 2 ^ k
part_below m k = mod_below m (2 ^ k) (pow_pos k)

-- ---- a part with its sign

abbrev pub is_negative : ℤ → Bool
is_negative (pos n) = false
is_negative (negsuc n) = true

abbrev part_of : ℤ → ℕ → SignedDecimal
part_of z k = record {
  negative = is_negative z;
  whole = whole_digits (unsigned_abs z) k;
  fraction = fraction_digits k (unsigned_abs z % 2 ^ k);
}

part-decimal : (z : ℤ) (k : ℕ) → unsigned_abs z ≤ 2 ^ 36 → IsDecimal (part_of z k)
part-decimal z k small =
    let m = unsigned_abs z in
    let d = decimal_is (m / 2 ^ k) (whole_fits m k small) in
    record {
      whole = some_digits (whole_digits m k) d.digits d.some;
      fraction = (fraction_digits-digits k (m % 2 ^ k) (part_below m k)).all;
    }

part-text : (z : ℤ) (k : ℕ) → front_text (part_of z k) ≡ part_text z k
unfolding magnitude_text
part-text (pos n) k = refl
part-text (negsuc n) k = refl

middle-text : (z : ℤ) (k : ℕ)
    → middle_sign (is_negative z) ++ (decimal_text (part_of z k) ++ root_mark) ≡ joining_text z
    ++ (magnitude_text (unsigned_abs z) k ++ codes "r2")
unfolding magnitude_text
middle-text (pos n) k = refl
middle-text (negsuc n) k = refl

-- ---- how many parts of 2^16

pub signed-times : (z : ℤ) (n : ℕ) → signed (is_negative z) (unsigned_abs z * n) ≡ z *ℤ pos n
signed-times (pos m) n = refl
signed-times (negsuc m) n = omega (arith, ints)

pub parts_joined : (m k : ℕ) → k ≤ 16 → m / 2 ^ k * 2 ^ 16 + m % 2 ^ k * 2 ^ (16 - k) ≡ m * 2 ^ (16 - k)
parts_joined m k few =
    let here : k + (16 - k) ≡ 16 = omega arith in
    let whole : 2 ^ 16 ≡ 2 ^ k * 2 ^ (16 - k) = ap (λ j. 2 ^ j) (sym here) ∙ pow-add 2 k (16 - k) in
    ap (λ p. m / 2 ^ k * p + m % 2 ^ k * 2 ^ (16 - k)) whole
    ∙ regrouped (m / 2 ^ k) (2 ^ k) (m % 2 ^ k) (2 ^ (16 - k))
    ∙ ap (λ n. n * 2 ^ (16 - k)) (div-add-mod' m (2 ^ k))
  where
    regrouped : (q p r s : ℕ) → q * (p * s) + r * s ≡ (q * p + r) * s
    regrouped q p r s = omega arith

decimal_parts-part : (z : ℤ) (k : ℕ) → unsigned_abs z ≤ 2 ^ 36 → k ≤ 16
    → decimal_parts (part_of z k) ≡ Some (z *ℤ power (16 - k))
decimal_parts-part z k small few =
    let m = unsigned_abs z in
    let d = decimal_is (m / 2 ^ k) (whole_fits m k small) in
    ap (λ parts. option_map (signed (is_negative z))
    (option_map (λ p. digits_value 0 (whole_digits m k) * 2 ^ 16 + p) parts))
    (fraction_parts-digits k (m % 2 ^ k) (part_below m k) few)
    ∙ ap (λ w. Some (signed (is_negative z) (w * 2 ^ 16 + m % 2 ^ k * 2 ^ (16 - k)))) d.value
    ∙ ap (λ n. Some (signed (is_negative z) n)) (parts_joined m k few)
    ∙ ap Some (signed-times z (2 ^ (16 - k)))

-- ---- both parts

abbrev over_parts : ℤ → ℤ → ℕ → Number
over_parts a b k = record { a = a *ℤ power (16 - k); b = b *ℤ power (16 - k); k = 16 }

no_parts : (n : ℕ) → pos 0 ≡ pos 0 *ℤ pos n
no_parts n = omega (arith, ints)

first_alone : (a : ℤ) (k : ℕ) → unsigned_abs a ≤ 2 ^ 36 → k ≤ 16
    → number_read (part_text a k) ≡ surd_answer (surd_of (over_parts a (pos 0) k))
first_alone a k small few =
    words_read (part_text a k) (Rational (part_of a k)) (part-decimal a k small, part-text a k)
    ∙ ap₂ parts_read (decimal_parts-part a k small few) (ap Some (no_parts (2 ^ (16 - k))))

second_alone : (b : ℤ) (k : ℕ) → unsigned_abs b ≤ 2 ^ 36 → k ≤ 16
    → number_read (part_text b k ++ codes "r2") ≡ surd_answer (surd_of (over_parts (pos 0) b k))
second_alone b k small few =
    words_read (part_text b k ++ codes "r2") (Root (part_of b k))
    (part-decimal b k small, ap (λ t. t ++ codes "r2") (part-text b k))
    ∙ ap₂ parts_read (ap Some (no_parts (2 ^ (16 - k)))) (decimal_parts-part b k small few)

both-text : (a b : ℤ) (k : ℕ)
    → word_text (Both (part_of a k) (part_of b k)) ≡ part_text a k ++ joining_text b
    ++ magnitude_text (unsigned_abs b) k ++ codes "r2"
both-text a b k =
    ap₂ (λ s t. s ++ t) (part-text a k) (middle-text b k)
    ∙ sym (append_assoc (part_text a k ++ joining_text b) (magnitude_text (unsigned_abs b) k) (codes "r2")
    ∙ append_assoc (part_text a k) (joining_text b) (magnitude_text (unsigned_abs b) k ++ codes "r2"))

both_parts : (a b : ℤ) (k : ℕ) → unsigned_abs a ≤ 2 ^ 36 → unsigned_abs b ≤ 2 ^ 36 → k ≤ 16
    → number_read (part_text a k ++ joining_text b ++ magnitude_text (unsigned_abs b) k ++ codes "r2")
    ≡ surd_answer (surd_of (over_parts a b k))
both_parts a b k small_a small_b few =
    words_read (part_text a k ++ joining_text b ++ magnitude_text (unsigned_abs b) k ++ codes "r2")
    (Both (part_of a k) (part_of b k))
    ((part-decimal a k small_a, part-decimal b k small_b), both-text a b k)
    ∙ ap₂ parts_read (decimal_parts-part a k small_a few) (decimal_parts-part b k small_b few)

pub parts_text-reads : (a b : ℤ) (k : ℕ) → unsigned_abs a ≤ 2 ^ 36 → unsigned_abs b ≤ 2 ^ 36 → k ≤ 16
    → number_read (parts_text a b k) ≡ surd_answer (surd_of (over_parts a b k))
parts_text-reads a (pos zero) k small_a small_b few = first_alone a k small_a few
parts_text-reads (pos zero) (pos (suc n)) k small_a small_b few = second_alone (pos (suc n)) k small_b few
parts_text-reads (pos zero) (negsuc n) k small_a small_b few = second_alone (negsuc n) k small_b few
parts_text-reads (pos (suc m)) (pos (suc n)) k small_a small_b few =
    both_parts (pos (suc m)) (pos (suc n)) k small_a small_b few
parts_text-reads (pos (suc m)) (negsuc n) k small_a small_b few =
    both_parts (pos (suc m)) (negsuc n) k small_a small_b few
parts_text-reads (negsuc m) (pos (suc n)) k small_a small_b few =
    both_parts (negsuc m) (pos (suc n)) k small_a small_b few
parts_text-reads (negsuc m) (negsuc n) k small_a small_b few =
    both_parts (negsuc m) (negsuc n) k small_a small_b few

-- the parts are those of the number
pub part_same : (a : ℤ) (k : ℕ) → k ≤ 16 → a *ℤ power 16 ≡ (a *ℤ power (16 - k)) *ℤ power k
part_same a k few =
    let here : 16 - k + k ≡ 16 = omega arith in
    ap (λ j. a *ℤ power j) (sym here) ∙ ap (λ n. a *ℤ pos n) (pow-add 2 (16 - k) k)
    ∙ sym (int_mul_assoc a (power (16 - k)) (power k))

pub number_text-reads : (s : Surd) → number_read (number_text (number_of s)) ≡ Ok s
unfolding number_text
number_text-reads s =
    parts_text-reads s.a s.b s.k s.stored.1.0 s.stored.1.1 s.stored.1.2
    ∙ ap surd_answer (surd_of-is (over_parts s.a s.b s.k) s
    (part_same s.a s.k s.stored.1.2, part_same s.b s.k s.stored.1.2))
