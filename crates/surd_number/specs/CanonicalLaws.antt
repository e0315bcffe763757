-- Each number has one canonical triple, and only one.
use Rattle.std.proofs.Common.{◌≡◌, [], ◌∷◌, ℕ, zero, suc, ◌+◌, ◌-◌, ◌*◌, ◌/◌, ◌^◌, ◌%◌, ◌≤◌, ◌⊎◌, inl, inr, ℤ, pos, negsuc, neg_ℤ, unsigned_abs, ◌*ℤ◌, refl, ap, subst, sym, ◌∙◌, arith, add-one}
use Rattle.std.proofs.lemmas.Int.{unsigned_abs-mul, ints}
use Rattle.std.proofs.lemmas.Nat.{pow_pos, pow-add}
use Rattle.std.proofs.lemmas.Bool.{cases_lt, cases_eq}
use Rattle.std.proofs.Math.Nat.{pow-succ', eq_of_mul-eq-mul_right}
use Rattle.surd_number.specs.RingTool.{◌⊗◌, con, v0, v1}
use Rattle.surd_number.specs.IntRing.{int_mul_assoc, int_ring}
use Rattle.surd_number.specs.NumberLaws.{IsSame-refl, IsSame-sym, IsSame-trans, negative_of-same, doubled-same, canonical-same}
use Rattle.surd_number.specs.Number.{Number, power, IsSame, IsCanonical, IsWithin, negative_of}
use Rattle.surd_number.specs.Stored.{IsStored, IsStoredWide, IsSurd, IsWide}

power-above : (k j : ℕ) → k ≡ j + 1 → power k ≡ pos 2 *ℤ power j
power-above k j e = ap power (omega arith) ∙ ap pos (pow-succ' 2 j)

twice-same : (x y : ℤ) → pos 2 *ℤ x ≡ pos 2 *ℤ y → x ≡ y
twice-same x y h = omega (arith, ints)

-- a numerator halved with its power of two keeps its value
pub half-same : (a half a' : ℤ) (k j k' : ℕ) → a ≡ pos 2 *ℤ half → k ≡ j + 1 → a *ℤ power k' ≡ a' *ℤ power k
    → half *ℤ power k' ≡ a' *ℤ power j
half-same a half a' k j k' e p h =
    let left : a *ℤ power k' ≡ pos 2 *ℤ (half *ℤ power k') = ap (λ z. z *ℤ power k') e
    ∙ int_mul_assoc (pos 2) half (power k') in
    let right : a' *ℤ power k ≡ pos 2 *ℤ (a' *ℤ power j) =
    ap (λ z. a' *ℤ z) (power-above k j p)
    ∙ int_ring (a' ∷ power j ∷ []) (v0 ⊗ (con (pos 2) ⊗ v1)) (con (pos 2) ⊗ (v0 ⊗ v1)) refl in
    twice-same (half *ℤ power k') (a' *ℤ power j) (sym left ∙ h ∙ right)

odd-least-nat : (m n j d : ℕ) → m % 2 ≡ 1 → n * 2 ^ (j + suc d) ≡ m * 2 ^ j → ⊥
odd-least-nat m n j d odd h =
    let split : 2 ^ (j + suc d) ≡ 2 ^ j * (2 * 2 ^ d) = pow-add 2 j (suc d)
    ∙ ap (λ z. 2 ^ j * z) (pow-succ' 2 d) in
    let by_split : n * 2 ^ (j + suc d) ≡ n * (2 ^ j * (2 * 2 ^ d)) = ap (λ z. n * z) split in
    let even : n * 2 ^ d * 2 ≡ m = eq_of_mul-eq-mul_right (2 ^ j) (pow_pos j) (n * 2 ^ d * 2) m (omega arith)
    in
    omega arith

-- an odd numerator has the least power of two
pub odd-least : (m n : ℤ) (k j : ℕ) → unsigned_abs m % 2 ≡ 1 → n *ℤ power j ≡ m *ℤ power k → j ≤ k
odd-least m n k j odd h =
    let sizes : unsigned_abs n * 2 ^ j ≡ unsigned_abs m * 2 ^ k = sym (unsigned_abs-mul n (power j))
    ∙ ap unsigned_abs h ∙ unsigned_abs-mul m (power k) in
    elim (cases_lt k j) [
      | inr h' ↦ h'
      | inl below ↦
          let j_is : k + suc (j - k - 1) ≡ j = omega arith in
          absurd (odd-least-nat (unsigned_abs m) (unsigned_abs n) k (j - k - 1) odd
          (ap (λ i. unsigned_abs n * 2 ^ i) j_is ∙ sizes))
    ]

-- a number that is not even is odd
pub is_odd : (n : ℕ) → ¬ (n % 2 ≡ 0) → n % 2 ≡ 1
is_odd n h = omega arith

-- ---- only one

-- two canonical triples for one number are one triple
pub canonical_for : (x y z : Number) → IsCanonical x → IsCanonical y → IsSame x z → IsSame y z → x ≡ y
canonical_for x y z least_x least_y same_x same_y =
    canonical-same x y least_x least_y (IsSame-trans x z y same_x (IsSame-sym y z same_y))

-- the canonical triple of a Surd's number is a Surd's
pub stored_from_surd : (x z : Number) → IsCanonical x → IsSame x z → IsSurd z → IsStored x
stored_from_surd x z least same h =
    let P : Number → Type 0 = IsStored in subst P (canonical_for h.0 x z h.1.0 least h.2 same) h.1

pub stored_from_wide : (x z : Number) → IsCanonical x → IsSame x z → IsWide z → IsStoredWide x
stored_from_wide x z least same h =
    let P : Number → Type 0 = IsStoredWide in subst P (canonical_for h.0 x z h.1.0 least h.2 same) h.1

-- a Surd's triple is a Wide's
pub stored_wide_from_stored : (x : Number) → IsStored x → IsStoredWide x
stored_wide_from_stored x h = (h.0, (omega (arith, h.1.0), omega (arith, h.1.1), omega (arith, h.1.2)))

-- ---- the negative

neg_twice : (z : ℤ) → neg_ℤ (neg_ℤ z) ≡ z
neg_twice z = omega (arith, ints)

pub unsigned_abs-neg : (z : ℤ) → unsigned_abs (neg_ℤ z) ≡ unsigned_abs z
unsigned_abs-neg (pos zero) = refl
unsigned_abs-neg (pos (suc n)) = refl
unsigned_abs-neg (negsuc n) = refl

pub canonical_negative : (x : Number) → IsCanonical x → IsCanonical (negative_of x)
canonical_negative x least y same =
    least (negative_of y) (simp neg_twice at (negative_of-same y (negative_of x) same))

pub within_negative : (bits places : ℕ) (x : Number) → IsWithin bits places x
    → IsWithin bits places (negative_of x)
within_negative bits places x h = simp unsigned_abs-neg h

-- ---- each number has one

abbrev int_half : ℤ → ℤ
int_half (pos n) = pos (n / 2)
int_half (negsuc n) = neg_ℤ (pos (suc n / 2))

int_half_is : (z : ℤ) → unsigned_abs z % 2 ≡ 0 → z ≡ int_half z *ℤ pos 2
int_half_is (pos n) h = omega (arith, ints)
int_half_is (negsuc n) h = omega (arith, ints)

unsigned_abs-half : (z : ℤ) → unsigned_abs (int_half z) ≤ unsigned_abs z
unsigned_abs-half (pos n) = omega arith
unsigned_abs-half (negsuc n) = rw (unsigned_abs-neg (pos (suc n / 2))) (omega arith)

-- a canonical triple of the number, with numerators and a power of two that are not greater
pub record Reduction (x : Number) : Type 0 where
  pub form : Number
  pub least : IsCanonical form
  pub same : IsSame form x
  pub a_not_greater : unsigned_abs form.a ≤ unsigned_abs x.a
  pub b_not_greater : unsigned_abs form.b ≤ unsigned_abs x.b
  pub k_not_greater : form.k ≤ x.k

reduced_already : (x : Number) → IsCanonical x → Reduction x
reduced_already x least =
    record {
      form = x;
      least = least;
      same = IsSame-refl x;
      a_not_greater = omega arith;
      b_not_greater = omega arith;
      k_not_greater = omega arith;
    }

reduced_by_half : (a b : ℤ) (k : ℕ) → unsigned_abs a % 2 ≡ 0 → unsigned_abs b % 2 ≡ 0
    → Reduction (record { a = int_half a; b = int_half b; k = k })
    → Reduction (record { a = a; b = b; k = suc k })
reduced_by_half a b k even_a even_b r =
    let half : Number = record { a = int_half a; b = int_half b; k = k } in
    let twice : Number = record { a = int_half a *ℤ pos 2; b = int_half b *ℤ pos 2; k = k + 1 } in
    let whole : Number = record { a = a; b = b; k = suc k } in
    let doubled : twice ≡ whole = λ i. record {
      a = sym (int_half_is a even_a) i;
      b = sym (int_half_is b even_b) i;
      k = add-one k i;
    } in
    let P : Number → Type 0 = λ y. IsSame half y in
    let same : IsSame half whole = subst P doubled (IsSame-sym twice half (doubled-same half)) in
    record {
      form = r.form;
      least = r.least;
      same = IsSame-trans r.form half whole r.same same;
      a_not_greater = omega (arith, r.a_not_greater, unsigned_abs-half a);
      b_not_greater = omega (arith, r.b_not_greater, unsigned_abs-half b);
      k_not_greater = omega (arith, r.k_not_greater);
    }

reduction_from : (k : ℕ) (a b : ℤ) → Reduction (record { a = a; b = b; k = k })
reduction_from zero a b = reduced_already _ (λ y same. omega arith)
reduction_from (suc k) a b =
    elim (cases_eq (unsigned_abs a % 2) 0) [
      | inr odd_a ↦ reduced_already _ (λ y same. odd-least a y.a y.k (suc k) (is_odd _ odd_a) same.0)
      | inl even_a ↦ elim (cases_eq (unsigned_abs b % 2) 0) [
        | inr odd_b ↦ reduced_already _ (λ y same. odd-least b y.b y.k (suc k) (is_odd _ odd_b) same.1)
        | inl even_b ↦ reduced_by_half a b k even_a even_b (reduction_from k (int_half a) (int_half b))
      ]
    ]

pub reduction_of : (x : Number) → Reduction x
reduction_of x = reduction_from x.k x.a x.b

-- ---- whether it is within the limits

at_most_or_not : (m n : ℕ) → (m ≤ n) ⊎ ¬ (m ≤ n)
at_most_or_not m n = elim (cases_lt n m) [ inl above ↦ inr (λ h. omega arith) | inr h ↦ inl h ]

both_or_not : {P Q R : Type 0} → P ⊎ ¬ P → Q ⊎ ¬ Q → R ⊎ ¬ R → (P × Q × R) ⊎ ¬ (P × Q × R)
both_or_not (inl p) (inl q) (inl r) = inl (p, q, r)
both_or_not (inl p) (inl q) (inr r) = inr (λ h. r h.2)
both_or_not (inl p) (inr q) r = inr (λ h. q h.1)
both_or_not (inr p) q r = inr (λ h. p h.0)

-- whether a triple is within the limits of a Surd
pub within_or_not : (x : Number) → IsWithin 36 16 x ⊎ ¬ IsWithin 36 16 x
within_or_not x = both_or_not (at_most_or_not (unsigned_abs x.a) (2 ^ 36))
    (at_most_or_not (unsigned_abs x.b) (2 ^ 36)) (at_most_or_not x.k 16)
