-- The sign of an exact number: it is the value's, it goes with sums and products, and the order by it is total.
use Rattle.std.proofs.Common.{◌≡◌, ℕ, zero, suc, ◌+◌, ◌*◌, ◌/◌, ◌%◌, ◌^◌, ◌<◌, ◌≤◌, ◌↔◌, ◌⊎◌, inl, inr, Bool, true, false, [], ◌∷◌, ℤ, pos, negsuc, ◌+ℤ◌, ◌*ℤ◌, ◌<ℤ◌, ◌≤ℤ◌, neg_ℤ, nat_abs, nat_lt, if◌then◌else◌, ltb-true, ltb-false, refl, sym, ap, ap₂, subst, ◌∙◌, arith, pow_pos, mul-le-mul}
use Rattle.std.proofs.lemmas.Int.{ints}
use Rattle.std.specs.Cmp.{IsTotalOrder}
use Rattle.std.specs.Ordering.{ordering_reverse}
use Rattle.std.specs.declared.cmp.Ordering.TheVariants.{Less, Equal, Greater}
use Rattle.surd_number.specs.RingTool.{◌⊕◌, ◌⊝◌, ◌⊗◌, ⊖◌, halved, con, v0, v1, v2, v3}
use Rattle.surd_number.specs.IntRing.{int_ring, int_ring_from_two, int_square_is, int_add_comm, int_mul_comm}
use Rattle.surd_number.specs.NumberLaws.{number_ring, number_ring_from, IsSame-refl, IsSame-sym, difference_of-same, same_from_difference, difference_from_same}
use Rattle.surd_number.specs.declared.Sgn.{Sgn}
use Rattle.surd_number.specs.declared.Sgn.TheVariants.{Neg, Zero, Pos}
use Rattle.surd_number.specs.Number.{Number, IsSame, power, whole, sum_of, product_of, negative_of, difference_of, half_of, root_sign, sign_of, ordering_of, compare_of, IsLess, tangent, root_two, power_of, unit_of, unit_inverse_of}
use Rattle.surd_number.specs.Number.{opposite_sign, times_sign}

-- ---- the square root of two is irrational

even_by : (m n j r : ℕ) → m * m ≡ 2 * (n * n) → m ≡ 2 * j + r → r < 2
    → (i : ℕ) × (m ≡ 2 * i) × (n * n ≡ 2 * (i * i))
even_by m n j zero e p q =
    let s : m * m ≡ (2 * j + 0) * (2 * j + 0) = ap (λ (x : ℕ). x * x) p in (j, omega arith, omega arith)
even_by m n j (suc zero) e p q =
    let s : m * m ≡ (2 * j + 1) * (2 * j + 1) = ap (λ (x : ℕ). x * x) p in absurd (omega arith)
even_by m n j (suc (suc r)) e p q = absurd (omega arith)

even : (m n : ℕ) → m * m ≡ 2 * (n * n) → (i : ℕ) × (m ≡ 2 * i) × (n * n ≡ 2 * (i * i))
even m n e = even_by m n (m / 2) (m % 2) e (omega arith) (omega arith)

descent : (f m n : ℕ) → m + n ≤ f → m * m ≡ 2 * (n * n) → (m ≡ 0) × (n ≡ 0)
descent zero m n h e = omega arith
descent (suc f) zero zero h e = (refl, refl)
descent (suc f) zero (suc n) h e = absurd (omega arith)
descent (suc f) (suc m) n h e =
    let w = even (suc m) n e in let p : suc m ≡ 2 * w.0 = w.1 in let r = descent f n w.0 (omega arith) w.2
    in absurd (omega arith)

-- no square of a natural number is twice a square, but 0
pub nat_root_two : (m n : ℕ) → m * m ≡ 2 * (n * n) → (m ≡ 0) × (n ≡ 0)
nat_root_two m n e = descent (m + n) m n (omega arith) e

abs_zero : (a : ℤ) → nat_abs a ≡ 0 → a ≡ pos 0
abs_zero (pos n) e = ap pos e
abs_zero (negsuc n) e = absurd (omega arith)

-- no square of a whole number is twice a square, but 0
pub root_two_irrational : (a b : ℤ) → a *ℤ a ≡ pos 2 *ℤ (b *ℤ b) → (a ≡ pos 0) × (b ≡ pos 0)
root_two_irrational a b e = (abs_zero a r.0, abs_zero b r.1)
  where
    p : pos (nat_abs a * nat_abs a) ≡ pos (2 * (nat_abs b * nat_abs b))
    p = sym (int_square_is a) ∙ e ∙ ap (λ (z : ℤ). pos 2 *ℤ z) (int_square_is b)

    r : (nat_abs a ≡ 0) × (nat_abs b ≡ 0)
    r = nat_root_two (nat_abs a) (nat_abs b) (ap nat_abs p)

-- ---- products of whole numbers, and their signs

pub nat_product_lt : (u v s t : ℕ) → u < s → v < t → u * v < s * t
nat_product_lt u v s t h k = omega (arith, mul-le-mul {n₁ = suc u} {m₁ = suc v} {n₂ = s} {m₂ = t} h k)

pub nat_square_lt : (m n : ℕ) → n * n < m * m → n < m
nat_square_lt m n h = grind arith

pub int_mul_positive : (x y : ℤ) → pos 0 <ℤ x → pos 0 <ℤ y → pos 0 <ℤ (x *ℤ y)
int_mul_positive (pos zero) y h k = absurd (omega (arith, ints))
int_mul_positive (pos (suc a)) (pos zero) h k = absurd (omega (arith, ints))
int_mul_positive (pos (suc a)) (pos (suc b)) h k = omega (arith, ints)
int_mul_positive (pos (suc a)) (negsuc b) h k = absurd (omega (arith, ints))
int_mul_positive (negsuc a) y h k = absurd (omega (arith, ints))

pub int_product_lt : (u v s t : ℤ) → pos 0 ≤ℤ u → pos 0 ≤ℤ v → u <ℤ s → v <ℤ t → (u *ℤ v) <ℤ (s *ℤ t)
int_product_lt (pos u) (pos v) (pos s) (pos t) p q h k =
    let r = nat_product_lt u v s t (omega (arith, ints)) (omega (arith, ints)) in omega (arith, ints)
int_product_lt (pos u) (pos v) (pos s) (negsuc t) p q h k = absurd (omega (arith, ints))
int_product_lt (pos u) (pos v) (negsuc s) t p q h k = absurd (omega (arith, ints))
int_product_lt (pos u) (negsuc v) s t p q h k = absurd (omega (arith, ints))
int_product_lt (negsuc u) v s t p q h k = absurd (omega (arith, ints))

pub int_square_lt : (s t : ℤ) → pos 0 <ℤ s → (t *ℤ t) <ℤ (s *ℤ s) → t <ℤ s
int_square_lt (pos m) (pos n) p h = let r = nat_square_lt m n (omega (arith, ints)) in omega (arith, ints)
int_square_lt (pos m) (negsuc n) p h = omega (arith, ints)
int_square_lt (negsuc m) t p h = absurd (omega (arith, ints))

-- ---- the sign of a + b * sqrt 2, told by its norm

-- a * a - 2 * b * b
abbrev pub norm : ℤ → ℤ → ℤ
norm a b = a *ℤ a +ℤ neg_ℤ (pos 2 *ℤ (b *ℤ b))

-- a + b * sqrt 2 is positive: the part with the greater square is
abbrev pub IsPositiveRoot : ℤ → ℤ → Type 0
IsPositiveRoot a b = (pos 0 <ℤ norm a b) × (pos 0 <ℤ a) ⊎ (norm a b <ℤ pos 0) × (pos 0 <ℤ b)

-- a + b * sqrt 2 has the sign s
abbrev pub IsSignOf : Sgn → ℤ → ℤ → Type 0
IsSignOf Neg a b = IsPositiveRoot (neg_ℤ a) (neg_ℤ b)
IsSignOf Zero a b = (a ≡ pos 0) × (b ≡ pos 0)
IsSignOf Pos a b = IsPositiveRoot a b

norm_positive : (a b : ℤ) → 2 * (nat_abs b * nat_abs b) < nat_abs a * nat_abs a → pos 0 <ℤ norm a b
norm_positive a b h = rw (int_square_is a, int_square_is b) (omega (arith, ints))

norm_negative : (a b : ℤ) → nat_abs a * nat_abs a < 2 * (nat_abs b * nat_abs b) → norm a b <ℤ pos 0
norm_negative a b h = rw (int_square_is a, int_square_is b) (omega (arith, ints))

-- both parts not negative, and not both zero
both_positive : (m n : ℕ) → 0 < m + n → IsPositiveRoot (pos m) (pos n)
both_positive m n h =
    by (nat_root_two m n) (nat_lt (2 * (n * n)) (m * m)) (nat_lt (m * m) (2 * (n * n))) refl refl
  where
    by : (m * m ≡ 2 * (n * n) → (m ≡ 0) × (n ≡ 0)) → (s t : Bool) → nat_lt (2 * (n * n)) (m * m) ≡ s
        → nat_lt (m * m) (2 * (n * n)) ≡ t → IsPositiveRoot (pos m) (pos n)
    by r true t p q = let l = ltb-true (2 * (n * n)) (m * m) p
        in inl (norm_positive (pos m) (pos n) l, grind (arith, ints))
    by r false true p q =
        let l = ltb-true (m * m) (2 * (n * n)) q in inr (norm_negative (pos m) (pos n) l, grind (arith, ints))
    by r false false p q =
        let l = ltb-false (2 * (n * n)) (m * m) p in
        let k = ltb-false (m * m) (2 * (n * n)) q in
        let z = r (omega arith) in
        absurd (omega arith)

abs_neg : (n : ℕ) → nat_abs (neg_ℤ (pos n)) ≡ n
abs_neg zero = refl
abs_neg (suc n) = refl

strict : (m n : ℕ) → m * m ≤ 2 * (suc n * suc n) → m * m < 2 * (suc n * suc n)
strict m n h = by (nat_root_two m (suc n)) (nat_lt (m * m) (2 * (suc n * suc n))) refl
  where
    by : (m * m ≡ 2 * (suc n * suc n) → (m ≡ 0) × (suc n ≡ 0)) → (t : Bool)
        → nat_lt (m * m) (2 * (suc n * suc n)) ≡ t → m * m < 2 * (suc n * suc n)
    by r true e = ltb-true (m * m) (2 * (suc n * suc n)) e
    by r false e = let k = ltb-false (m * m) (2 * (suc n * suc n)) e in let z = r (omega arith)
        in absurd (omega arith)

first_above : (a b : ℕ) (t : Bool) → nat_lt (2 * (suc b * suc b)) (a * a) ≡ t
    → IsSignOf (if t then Pos else Neg) (pos a) (negsuc b)
first_above zero b true e = let l = ltb-true (2 * (suc b * suc b)) 0 e in absurd (omega arith)
first_above (suc a) b true e =
    inl (
      norm_positive (pos (suc a)) (negsuc b) (ltb-true (2 * (suc b * suc b)) (suc a * suc a) e),
      omega (arith, ints),
    )
first_above a b false e =
    inr (
      norm_negative (neg_ℤ (pos a)) (pos (suc b))
          (rw (abs_neg a) (strict a b (ltb-false (2 * (suc b * suc b)) (a * a) e))),
      omega (arith, ints),
    )

second_above : (a b : ℕ) (t : Bool) → nat_lt (2 * (b * b)) (suc a * suc a) ≡ t
    → IsSignOf (if t then Neg else Pos) (negsuc a) (pos b)
second_above a b true e =
    inl (
      norm_positive (pos (suc a)) (neg_ℤ (pos b))
          (rw (abs_neg b) (ltb-true (2 * (b * b)) (suc a * suc a) e)),
      omega (arith, ints),
    )
second_above a zero false e = let l = ltb-false 0 (suc a * suc a) e in absurd (omega arith)
second_above a (suc b) false e =
    inr (
      norm_negative (negsuc a) (pos (suc b))
          (strict (suc a) b (ltb-false (2 * (suc b * suc b)) (suc a * suc a) e)),
      omega (arith, ints),
    )

-- the sign of Number.antt is the one told by the norm
pub root_sign_is : (a b : ℤ) → IsSignOf (root_sign a b) a b
root_sign_is (pos zero) (pos zero) = (refl, refl)
root_sign_is (pos zero) (pos (suc b)) = both_positive zero (suc b) (omega arith)
root_sign_is (pos (suc a)) (pos b) = both_positive (suc a) b (omega arith)
root_sign_is (pos a) (negsuc b) = first_above a b (nat_lt (2 * (suc b * suc b)) (a * a)) refl
root_sign_is (negsuc a) (pos b) = second_above a b (nat_lt (2 * (b * b)) (suc a * suc a)) refl
root_sign_is (negsuc a) (negsuc b) = both_positive (suc a) (suc b) (omega arith)

norm_of_negative : (a b : ℤ) → norm (neg_ℤ a) (neg_ℤ b) ≡ norm a b
norm_of_negative a b =
    int_ring (a ∷ b ∷ []) (⊖ v0 ⊗ (⊖ v0) ⊕ (⊖ (con (pos 2) ⊗ (⊖ v1 ⊗ (⊖ v1)))))
    (v0 ⊗ v0 ⊕ (⊖ (con (pos 2) ⊗ (v1 ⊗ v1)))) refl

-- not both a number and its opposite are positive
positive_once : (a b : ℤ) → IsPositiveRoot a b → IsPositiveRoot (neg_ℤ a) (neg_ℤ b) → ⊥
positive_once a b (inl p) (inl q) = omega (arith, ints, p, q)
positive_once a b (inl p) (inr q) = let e = norm_of_negative a b in omega (arith, ints, p, q, e)
positive_once a b (inr p) (inl q) = let e = norm_of_negative a b in omega (arith, ints, p, q, e)
positive_once a b (inr p) (inr q) = omega (arith, ints, p, q)

positive_not_zero : (a b : ℤ) → IsPositiveRoot a b → (a ≡ pos 0) × (b ≡ pos 0) → ⊥
positive_not_zero a b (inl p) q = omega (arith, ints, p, q)
positive_not_zero a b (inr p) q = omega (arith, ints, p, q)

negated_not_zero : (a b : ℤ) → IsPositiveRoot (neg_ℤ a) (neg_ℤ b) → (a ≡ pos 0) × (b ≡ pos 0) → ⊥
negated_not_zero a b (inl p) q = omega (arith, ints, p, q)
negated_not_zero a b (inr p) q = omega (arith, ints, p, q)

-- a number has one sign
pub one_sign : (s t : Sgn) (a b : ℤ) → IsSignOf s a b → IsSignOf t a b → s ≡ t
one_sign Neg Neg a b p q = refl
one_sign Neg Zero a b p q = absurd (negated_not_zero a b p q)
one_sign Neg Pos a b p q = absurd (positive_once a b q p)
one_sign Zero Neg a b p q = absurd (negated_not_zero a b q p)
one_sign Zero Zero a b p q = refl
one_sign Zero Pos a b p q = absurd (positive_not_zero a b q p)
one_sign Pos Neg a b p q = absurd (positive_once a b p q)
one_sign Pos Zero a b p q = absurd (positive_not_zero a b p q)
one_sign Pos Pos a b p q = refl

pub root_sign_from : (s : Sgn) (a b : ℤ) → IsSignOf s a b → root_sign a b ≡ s
root_sign_from s a b p = one_sign (root_sign a b) s a b (root_sign_is a b) p

pub root_sign_means : (s : Sgn) (a b : ℤ) → root_sign a b ≡ s → IsSignOf s a b
root_sign_means s a b e = subst (λ (t : Sgn). IsSignOf t a b) e (root_sign_is a b)

-- ---- sums

sum_norm : (a b c d : ℤ)
    → norm (a +ℤ c) (b +ℤ d) ≡ norm a b +ℤ norm c d +ℤ pos 2 *ℤ (a *ℤ c +ℤ neg_ℤ (pos 2 *ℤ (b *ℤ d)))
sum_norm a b c d = int_ring (a ∷ b ∷ c ∷ d ∷ [])
    ((v0 ⊕ v2) ⊗ (v0 ⊕ v2) ⊝ con (pos 2) ⊗ ((v1 ⊕ v3) ⊗ (v1 ⊕ v3)))
    ((v0 ⊗ v0 ⊝ con (pos 2) ⊗ (v1 ⊗ v1)) ⊕ (v2 ⊗ v2 ⊝ con (pos 2) ⊗ (v3 ⊗ v3))
    ⊕ con (pos 2) ⊗ (v0 ⊗ v2 ⊝ con (pos 2) ⊗ (v1 ⊗ v3))) refl

twice_square_not_negative : (b : ℤ) → pos 0 ≤ℤ (pos 2 *ℤ (b *ℤ b))
twice_square_not_negative b = rw (int_square_is b) (omega (arith, ints))

square_not_negative : (b : ℤ) → pos 0 ≤ℤ (b *ℤ b)
square_not_negative b = rw (int_square_is b) (omega (arith, ints))

above_zero : (x y : ℤ) → pos 0 <ℤ (x +ℤ neg_ℤ y) → y <ℤ x
above_zero x y h = omega (arith, ints)

below_zero : (x y : ℤ) → (x +ℤ neg_ℤ y) <ℤ pos 0 → x <ℤ y
below_zero x y h = omega (arith, ints)

halved_lt : (x y : ℤ) → (pos 2 *ℤ x) <ℤ (pos 2 *ℤ y) → x <ℤ y
halved_lt x y h = omega (arith, ints)

-- a root of u * v is less than one of s * t, where u < s and v < t
root_below : (u v s t r w : ℤ) → pos 0 ≤ℤ u → pos 0 ≤ℤ v → u <ℤ s → v <ℤ t → r *ℤ r ≡ u *ℤ v → w *ℤ w ≡ s *ℤ t
    → pos 0 <ℤ w → r <ℤ w
root_below u v s t r w p q h k e f z = int_square_lt w r z (rw (e, f) (int_product_lt u v s t p q h k))

double_root_below : (u v s t r w : ℤ) → pos 0 ≤ℤ u → pos 0 ≤ℤ v → u <ℤ s → v <ℤ t → pos 2 *ℤ (r *ℤ r) ≡ u *ℤ v
    → pos 2 *ℤ (w *ℤ w) ≡ s *ℤ t → pos 0 <ℤ w → r <ℤ w
double_root_below u v s t r w p q h k e f z =
    int_square_lt w r z (halved_lt (r *ℤ r) (w *ℤ w) (rw (e, f) (int_product_lt u v s t p q h k)))

-- both with the greater first part: the product of the second parts is less than that of the first
seconds_below : (a b c d : ℤ) → pos 0 <ℤ norm a b → pos 0 <ℤ a → pos 0 <ℤ norm c d → pos 0 <ℤ c
    → (pos 2 *ℤ (b *ℤ d)) <ℤ (a *ℤ c)
seconds_below a b c d p q h k =
    root_below (pos 2 *ℤ (b *ℤ b)) (pos 2 *ℤ (d *ℤ d)) (a *ℤ a) (c *ℤ c) (pos 2 *ℤ (b *ℤ d)) (a *ℤ c)
    (twice_square_not_negative b) (twice_square_not_negative d) (above_zero (a *ℤ a) (pos 2 *ℤ (b *ℤ b)) p)
    (above_zero (c *ℤ c) (pos 2 *ℤ (d *ℤ d)) h)
    (int_ring (b ∷ d ∷ []) (con (pos 2) ⊗ (v0 ⊗ v1) ⊗ (con (pos 2) ⊗ (v0 ⊗ v1)))
    (con (pos 2) ⊗ (v0 ⊗ v0) ⊗ (con (pos 2) ⊗ (v1 ⊗ v1))) refl)
    (int_ring (a ∷ c ∷ []) (v0 ⊗ v1 ⊗ (v0 ⊗ v1)) (v0 ⊗ v0 ⊗ (v1 ⊗ v1)) refl) (int_mul_positive a c q k)

-- both with the greater second part
firsts_below : (a b c d : ℤ) → norm a b <ℤ pos 0 → pos 0 <ℤ b → norm c d <ℤ pos 0 → pos 0 <ℤ d
    → (a *ℤ c) <ℤ (pos 2 *ℤ (b *ℤ d))
firsts_below a b c d p q h k =
    root_below (a *ℤ a) (c *ℤ c) (pos 2 *ℤ (b *ℤ b)) (pos 2 *ℤ (d *ℤ d)) (a *ℤ c) (pos 2 *ℤ (b *ℤ d))
    (square_not_negative a) (square_not_negative c) (below_zero (a *ℤ a) (pos 2 *ℤ (b *ℤ b)) p)
    (below_zero (c *ℤ c) (pos 2 *ℤ (d *ℤ d)) h)
    (int_ring (a ∷ c ∷ []) (v0 ⊗ v1 ⊗ (v0 ⊗ v1)) (v0 ⊗ v0 ⊗ (v1 ⊗ v1)) refl)
    (int_ring (b ∷ d ∷ []) (con (pos 2) ⊗ (v0 ⊗ v1) ⊗ (con (pos 2) ⊗ (v0 ⊗ v1)))
    (con (pos 2) ⊗ (v0 ⊗ v0) ⊗ (con (pos 2) ⊗ (v1 ⊗ v1))) refl)
    (int_mul_positive (pos 2) (b *ℤ d) (omega (arith, ints)) (int_mul_positive b d q k))

-- the first with the greater first part, the other with the greater second part
crossed_below : (a b c d : ℤ) → pos 0 <ℤ norm a b → pos 0 <ℤ a → norm c d <ℤ pos 0 → pos 0 <ℤ d
    → (b *ℤ c) <ℤ (a *ℤ d)
crossed_below a b c d p q h k =
    double_root_below (pos 2 *ℤ (b *ℤ b)) (c *ℤ c) (a *ℤ a) (pos 2 *ℤ (d *ℤ d)) (b *ℤ c) (a *ℤ d)
    (twice_square_not_negative b) (square_not_negative c) (above_zero (a *ℤ a) (pos 2 *ℤ (b *ℤ b)) p)
    (below_zero (c *ℤ c) (pos 2 *ℤ (d *ℤ d)) h)
    (int_ring (b ∷ c ∷ []) (con (pos 2) ⊗ (v0 ⊗ v1 ⊗ (v0 ⊗ v1))) (con (pos 2) ⊗ (v0 ⊗ v0) ⊗ (v1 ⊗ v1)) refl)
    (int_ring (a ∷ d ∷ []) (con (pos 2) ⊗ (v0 ⊗ v1 ⊗ (v0 ⊗ v1))) (v0 ⊗ v0 ⊗ (con (pos 2) ⊗ (v1 ⊗ v1))) refl)
    (int_mul_positive a d q k)

-- a + x + x with a > 0, b > 0, x > 0 in the shape of sum_norm
sum_above : (n u v s t : ℤ) → n ≡ u +ℤ v +ℤ pos 2 *ℤ (s +ℤ neg_ℤ t) → pos 0 <ℤ u → pos 0 <ℤ v → t <ℤ s
    → pos 0 <ℤ n
sum_above n u v s t e p q h = omega (arith, ints)

sum_below : (n u v s t : ℤ) → n ≡ u +ℤ v +ℤ pos 2 *ℤ (s +ℤ neg_ℤ t) → u <ℤ pos 0 → v <ℤ pos 0 → s <ℤ t
    → n <ℤ pos 0
sum_below n u v s t e p q h = omega (arith, ints)

add_positive : (x y : ℤ) → pos 0 <ℤ x → pos 0 <ℤ y → pos 0 <ℤ (x +ℤ y)
add_positive x y p q = omega (arith, ints)

firsts_sum : (a b c d : ℤ) → pos 0 <ℤ norm a b → pos 0 <ℤ a → pos 0 <ℤ norm c d → pos 0 <ℤ c
    → pos 0 <ℤ norm (a +ℤ c) (b +ℤ d)
firsts_sum a b c d p q h k =
    sum_above _ (norm a b) (norm c d) (a *ℤ c) (pos 2 *ℤ (b *ℤ d)) (sum_norm a b c d) p h
    (seconds_below a b c d p q h k)

seconds_sum : (a b c d : ℤ) → norm a b <ℤ pos 0 → pos 0 <ℤ b → norm c d <ℤ pos 0 → pos 0 <ℤ d
    → norm (a +ℤ c) (b +ℤ d) <ℤ pos 0
seconds_sum a b c d p q h k =
    sum_below _ (norm a b) (norm c d) (a *ℤ c) (pos 2 *ℤ (b *ℤ d)) (sum_norm a b c d) p h
    (firsts_below a b c d p q h k)

opposite_norm : (a b c d : ℤ) → a +ℤ c ≡ pos 0 → b +ℤ d ≡ pos 0 → norm c d ≡ norm a b
opposite_norm a b c d p q =
    int_ring_from_two (a ∷ b ∷ c ∷ d ∷ []) (v0 ⊕ v2) (con (pos 0)) (v2 ⊝ v0) (v1 ⊕ v3) (con (pos 0))
    (con (negsuc 1) ⊗ (v3 ⊝ v1))
    (v2 ⊗ v2 ⊝ con (pos 2) ⊗ (v3 ⊗ v3)) (v0 ⊗ v0 ⊝ con (pos 2) ⊗ (v1 ⊗ v1)) refl p q

less_first : (a b c d : ℤ) → norm (neg_ℤ (a +ℤ c) +ℤ a) (neg_ℤ (b +ℤ d) +ℤ b) ≡ norm c d
less_first a b c d =
    int_ring (a ∷ b ∷ c ∷ d ∷ [])
    ((⊖ (v0 ⊕ v2) ⊕ v0) ⊗ (⊖ (v0 ⊕ v2) ⊕ v0) ⊝ con (pos 2) ⊗ ((⊖ (v1 ⊕ v3) ⊕ v1) ⊗ (⊖ (v1 ⊕ v3) ⊕ v1)))
    (v2 ⊗ v2 ⊝ con (pos 2) ⊗ (v3 ⊗ v3)) refl

less_second : (a b c d : ℤ) → norm (neg_ℤ (a +ℤ c) +ℤ c) (neg_ℤ (b +ℤ d) +ℤ d) ≡ norm a b
less_second a b c d =
    int_ring (a ∷ b ∷ c ∷ d ∷ [])
    ((⊖ (v0 ⊕ v2) ⊕ v2) ⊗ (⊖ (v0 ⊕ v2) ⊕ v2) ⊝ con (pos 2) ⊗ ((⊖ (v1 ⊕ v3) ⊕ v3) ⊗ (⊖ (v1 ⊕ v3) ⊕ v3)))
    (v0 ⊗ v0 ⊝ con (pos 2) ⊗ (v1 ⊗ v1)) refl

unlike : (x y z : ℤ) → x ≡ y → pos 0 <ℤ x → y <ℤ pos 0 → ⊥
unlike x y z e p q = omega (arith, ints)

-- a number with the greater first part, and one with the greater second part
mixed_by : (a b c d : ℤ) (s : Sgn) → IsSignOf s (a +ℤ c) (b +ℤ d) → pos 0 <ℤ norm a b → pos 0 <ℤ a
    → norm c d <ℤ pos 0 → pos 0 <ℤ d → IsPositiveRoot (a +ℤ c) (b +ℤ d)
mixed_by a b c d Pos z p q h k = z
mixed_by a b c d Zero z p q h k =
    absurd (unlike (norm a b) (norm c d) (pos 0) (sym (opposite_norm a b c d z.0 z.1)) p h)
mixed_by a b c d Neg (inl z) p q h k =
    absurd (unlike _ (norm c d) (pos 0) (less_first a b c d)
    (firsts_sum (neg_ℤ (a +ℤ c)) (neg_ℤ (b +ℤ d)) a b z.0 z.1 p q) h)
mixed_by a b c d Neg (inr z) p q h k =
    absurd (unlike (norm a b) _ (pos 0) (sym (less_second a b c d)) p
    (seconds_sum (neg_ℤ (a +ℤ c)) (neg_ℤ (b +ℤ d)) c d z.0 z.1 h k))

positive_sum : (a b c d : ℤ) → IsPositiveRoot a b → IsPositiveRoot c d → IsPositiveRoot (a +ℤ c) (b +ℤ d)
positive_sum a b c d (inl p) (inl q) = inl (firsts_sum a b c d p.0 p.1 q.0 q.1, add_positive a c p.1 q.1)
positive_sum a b c d (inl p) (inr q) =
    mixed_by a b c d (root_sign (a +ℤ c) (b +ℤ d)) (root_sign_is (a +ℤ c) (b +ℤ d)) p.0 p.1 q.0 q.1
positive_sum a b c d (inr p) (inl q) =
    subst (λ (x : ℤ). IsPositiveRoot x (b +ℤ d)) (int_add_comm c a)
    (subst (λ (y : ℤ). IsPositiveRoot (c +ℤ a) y) (int_add_comm d b)
    (mixed_by c d a b (root_sign (c +ℤ a) (d +ℤ b)) (root_sign_is (c +ℤ a) (d +ℤ b)) q.0 q.1 p.0 p.1))
positive_sum a b c d (inr p) (inr q) = inr (seconds_sum a b c d p.0 p.1 q.0 q.1, add_positive b d p.1 q.1)

-- ---- products

product_norm : (a b c d : ℤ) → norm (a *ℤ c +ℤ pos 2 *ℤ (b *ℤ d)) (a *ℤ d +ℤ b *ℤ c) ≡ norm a b *ℤ norm c d
product_norm a b c d =
    int_ring (a ∷ b ∷ c ∷ d ∷ [])
    ((v0 ⊗ v2 ⊕ con (pos 2) ⊗ (v1 ⊗ v3)) ⊗ (v0 ⊗ v2 ⊕ con (pos 2) ⊗ (v1 ⊗ v3))
    ⊝ con (pos 2) ⊗ ((v0 ⊗ v3 ⊕ v1 ⊗ v2) ⊗ (v0 ⊗ v3 ⊕ v1 ⊗ v2)))
    ((v0 ⊗ v0 ⊝ con (pos 2) ⊗ (v1 ⊗ v1)) ⊗ (v2 ⊗ v2 ⊝ con (pos 2) ⊗ (v3 ⊗ v3))) refl

pub int_mul_negative : (x y : ℤ) → pos 0 <ℤ x → y <ℤ pos 0 → (x *ℤ y) <ℤ pos 0
int_mul_negative (pos zero) y h k = absurd (omega (arith, ints))
int_mul_negative (pos (suc a)) (pos b) h k = absurd (omega (arith, ints))
int_mul_negative (pos (suc a)) (negsuc b) h k = omega (arith, ints)
int_mul_negative (negsuc a) y h k = absurd (omega (arith, ints))

pub int_mul_negatives : (x y : ℤ) → x <ℤ pos 0 → y <ℤ pos 0 → pos 0 <ℤ (x *ℤ y)
int_mul_negatives (pos a) y h k = absurd (omega (arith, ints))
int_mul_negatives (negsuc a) (pos b) h k = absurd (omega (arith, ints))
int_mul_negatives (negsuc a) (negsuc b) h k = omega (arith, ints)

-- the same over the opposite of the second number's conjugate
conjugate_norm : (c d : ℤ) → norm c (neg_ℤ d) ≡ norm c d
conjugate_norm c d =
    int_ring (c ∷ d ∷ []) (v0 ⊗ v0 ⊝ con (pos 2) ⊗ (⊖ v1 ⊗ (⊖ v1))) (v0 ⊗ v0 ⊝ con (pos 2) ⊗ (v1 ⊗ v1)) refl

conjugate_norm_first : (c d : ℤ) → norm (neg_ℤ c) d ≡ norm c d
conjugate_norm_first c d =
    int_ring (c ∷ d ∷ []) (⊖ v0 ⊗ (⊖ v0) ⊝ con (pos 2) ⊗ (v1 ⊗ v1)) (v0 ⊗ v0 ⊝ con (pos 2) ⊗ (v1 ⊗ v1)) refl

-- what lies above the negative of y is positive with y
positive_from_above : (x y z w : ℤ) → x <ℤ w → neg_ℤ y ≡ x → pos 0 <ℤ (w +ℤ y)
positive_from_above x y z w h e = omega (arith, ints)

positive_with_above : (x y z w : ℤ) → x <ℤ w → neg_ℤ y ≡ x → pos 0 <ℤ (y +ℤ w)
positive_with_above x y z w h e = omega (arith, ints)

positive_product : (a b c d : ℤ) → IsPositiveRoot a b → IsPositiveRoot c d
    → IsPositiveRoot (a *ℤ c +ℤ pos 2 *ℤ (b *ℤ d)) (a *ℤ d +ℤ b *ℤ c)
positive_product a b c d (inl p) (inl q) =
    inl (
      rw (product_norm a b c d) (int_mul_positive (norm a b) (norm c d) p.0 q.0),
      positive_from_above _ (pos 2 *ℤ (b *ℤ d)) (pos 0) (a *ℤ c)
          (seconds_below a b c (neg_ℤ d) p.0 p.1 (rw (conjugate_norm c d) q.0) q.1)
          (int_ring (b ∷ d ∷ []) (⊖ (con (pos 2) ⊗ (v0 ⊗ v1))) (con (pos 2) ⊗ (v0 ⊗ (⊖ v1))) refl),
    )
positive_product a b c d (inl p) (inr q) =
    inr (
      rw (product_norm a b c d) (int_mul_negative (norm a b) (norm c d) p.0 q.0),
      positive_from_above _ (b *ℤ c) (pos 0) (a *ℤ d)
          (crossed_below a b (neg_ℤ c) d p.0 p.1 (rw (conjugate_norm_first c d) q.0) q.1)
          (int_ring (b ∷ c ∷ []) (⊖ (v0 ⊗ v1)) (v0 ⊗ (⊖ v1)) refl),
    )
positive_product a b c d (inr p) (inl q) =
    inr (
      rw (product_norm a b c d, int_mul_comm (norm a b) (norm c d))
          (int_mul_negative (norm c d) (norm a b) q.0 p.0),
      positive_with_above _ (a *ℤ d) (pos 0) (b *ℤ c)
          (subst (λ (x : ℤ). (d *ℤ neg_ℤ a) <ℤ x) (int_mul_comm c b)
          (crossed_below c d (neg_ℤ a) b q.0 q.1 (rw (conjugate_norm_first a b) p.0) p.1))
          (int_ring (a ∷ d ∷ []) (⊖ (v0 ⊗ v1)) (v1 ⊗ (⊖ v0)) refl),
    )
positive_product a b c d (inr p) (inr q) =
    inl (
      rw (product_norm a b c d) (int_mul_negatives (norm a b) (norm c d) p.0 q.0),
      positive_with_above _ (a *ℤ c) (pos 0) (pos 2 *ℤ (b *ℤ d))
          (firsts_below a b (neg_ℤ c) d p.0 p.1 (rw (conjugate_norm_first c d) q.0) q.1)
          (int_ring (a ∷ c ∷ []) (⊖ (v0 ⊗ v1)) (v0 ⊗ (⊖ v1)) refl),
    )

-- ---- signs

times_positive : (s : Sgn) → times_sign s Pos ≡ s
times_positive Neg = refl
times_positive Zero = refl
times_positive Pos = refl

root_moved : (a b c d : ℤ) → a ≡ c → b ≡ d → IsPositiveRoot a b → IsPositiveRoot c d
root_moved a b c d p q h = subst (λ (y : ℤ). IsPositiveRoot c y) q (subst (λ (x : ℤ). IsPositiveRoot x b) p h)

sign_opposite : (s : Sgn) (a b : ℤ) → IsSignOf s a b → IsSignOf (opposite_sign s) (neg_ℤ a) (neg_ℤ b)
sign_opposite Neg a b p = p
sign_opposite Zero a b p = (ap neg_ℤ p.0, ap neg_ℤ p.1)
sign_opposite Pos a b p =
    root_moved a b (neg_ℤ (neg_ℤ a)) (neg_ℤ (neg_ℤ b)) (int_ring (a ∷ []) v0 (⊖ (⊖ v0)) refl)
    (int_ring (b ∷ []) v0 (⊖ (⊖ v0)) refl) p

sign_product : (s t : Sgn) (a b c d : ℤ) → IsSignOf s a b → IsSignOf t c d
    → IsSignOf (times_sign s t) (a *ℤ c +ℤ pos 2 *ℤ (b *ℤ d)) (a *ℤ d +ℤ b *ℤ c)
sign_product Pos Pos a b c d p q = positive_product a b c d p q
sign_product Neg Pos a b c d p q =
    root_moved _ _ _ _
    (int_ring (a ∷ b ∷ c ∷ d ∷ []) (⊖ v0 ⊗ v2 ⊕ con (pos 2) ⊗ (⊖ v1 ⊗ v3))
    (⊖ (v0 ⊗ v2 ⊕ con (pos 2) ⊗ (v1 ⊗ v3))) refl)
    (int_ring (a ∷ b ∷ c ∷ d ∷ []) (⊖ v0 ⊗ v3 ⊕ ⊖ v1 ⊗ v2) (⊖ (v0 ⊗ v3 ⊕ v1 ⊗ v2)) refl)
    (positive_product (neg_ℤ a) (neg_ℤ b) c d p q)
sign_product Pos Neg a b c d p q =
    root_moved _ _ _ _
    (int_ring (a ∷ b ∷ c ∷ d ∷ []) (v0 ⊗ (⊖ v2) ⊕ con (pos 2) ⊗ (v1 ⊗ (⊖ v3)))
    (⊖ (v0 ⊗ v2 ⊕ con (pos 2) ⊗ (v1 ⊗ v3))) refl)
    (int_ring (a ∷ b ∷ c ∷ d ∷ []) (v0 ⊗ (⊖ v3) ⊕ v1 ⊗ (⊖ v2)) (⊖ (v0 ⊗ v3 ⊕ v1 ⊗ v2)) refl)
    (positive_product a b (neg_ℤ c) (neg_ℤ d) p q)
sign_product Neg Neg a b c d p q =
    root_moved _ _ _ _
    (int_ring (a ∷ b ∷ c ∷ d ∷ []) (⊖ v0 ⊗ (⊖ v2) ⊕ con (pos 2) ⊗ (⊖ v1 ⊗ (⊖ v3)))
    (v0 ⊗ v2 ⊕ con (pos 2) ⊗ (v1 ⊗ v3)) refl)
    (int_ring (a ∷ b ∷ c ∷ d ∷ []) (⊖ v0 ⊗ (⊖ v3) ⊕ ⊖ v1 ⊗ (⊖ v2)) (v0 ⊗ v3 ⊕ v1 ⊗ v2) refl)
    (positive_product (neg_ℤ a) (neg_ℤ b) (neg_ℤ c) (neg_ℤ d) p q)
sign_product Zero t a b c d p q = (
  int_ring_from_two (a ∷ b ∷ c ∷ d ∷ []) v0 (con (pos 0)) v2 v1 (con (pos 0)) (con (pos 2) ⊗ v3)
      (v0 ⊗ v2 ⊕ con (pos 2) ⊗ (v1 ⊗ v3)) (con (pos 0)) refl p.0 p.1,
  int_ring_from_two (a ∷ b ∷ c ∷ d ∷ []) v0 (con (pos 0)) v3 v1 (con (pos 0)) v2 (v0 ⊗ v3 ⊕ v1 ⊗ v2)
      (con (pos 0)) refl p.0 p.1,
)
sign_product Neg Zero a b c d p q = (
  int_ring_from_two (a ∷ b ∷ c ∷ d ∷ []) v2 (con (pos 0)) v0 v3 (con (pos 0)) (con (pos 2) ⊗ v1)
      (v0 ⊗ v2 ⊕ con (pos 2) ⊗ (v1 ⊗ v3)) (con (pos 0)) refl q.0 q.1,
  int_ring_from_two (a ∷ b ∷ c ∷ d ∷ []) v2 (con (pos 0)) v1 v3 (con (pos 0)) v0 (v0 ⊗ v3 ⊕ v1 ⊗ v2)
      (con (pos 0)) refl q.0 q.1,
)
sign_product Pos Zero a b c d p q = (
  int_ring_from_two (a ∷ b ∷ c ∷ d ∷ []) v2 (con (pos 0)) v0 v3 (con (pos 0)) (con (pos 2) ⊗ v1)
      (v0 ⊗ v2 ⊕ con (pos 2) ⊗ (v1 ⊗ v3)) (con (pos 0)) refl q.0 q.1,
  int_ring_from_two (a ∷ b ∷ c ∷ d ∷ []) v2 (con (pos 0)) v1 v3 (con (pos 0)) v0 (v0 ⊗ v3 ⊕ v1 ⊗ v2)
      (con (pos 0)) refl q.0 q.1,
)

pair_moved : (s : Sgn) (a b c d : ℤ) → a ≡ c → b ≡ d → IsSignOf s a b → IsSignOf s c d
pair_moved s a b c d p q h = subst (λ (y : ℤ). IsSignOf s c y) q (subst (λ (x : ℤ). IsSignOf s x b) p h)

sign_scaled : (s : Sgn) (a b : ℤ) (n : ℕ) → 0 < n → IsSignOf s a b → IsSignOf s (a *ℤ pos n) (b *ℤ pos n)
sign_scaled s a b n h p =
    pair_moved s _ _ _ _
    (int_ring (a ∷ b ∷ pos n ∷ []) (v0 ⊗ v2 ⊕ con (pos 2) ⊗ (v1 ⊗ con (pos 0))) (v0 ⊗ v2) refl)
    (int_ring (a ∷ b ∷ pos n ∷ []) (v0 ⊗ con (pos 0) ⊕ v1 ⊗ v2) (v1 ⊗ v2) refl)
    (subst (λ (t : Sgn). IsSignOf t (a *ℤ pos n +ℤ pos 2 *ℤ (b *ℤ pos 0)) (a *ℤ pos 0 +ℤ b *ℤ pos n))
    (times_positive s) (sign_product s Pos a b (pos n) (pos 0) p (both_positive n 0 (omega arith))))

pub root_sign-scaled : (a b : ℤ) (n : ℕ) → 0 < n → root_sign (a *ℤ pos n) (b *ℤ pos n) ≡ root_sign a b
root_sign-scaled a b n h =
    root_sign_from (root_sign a b) (a *ℤ pos n) (b *ℤ pos n)
    (sign_scaled (root_sign a b) a b n h (root_sign_is a b))

-- ---- the sign of a number

-- it is the value's
pub sign_of-same : (x y : Number) → IsSame x y → sign_of x ≡ sign_of y
sign_of-same x y p =
    sym (root_sign-scaled x.a x.b (2 ^ y.k) (pow_pos y.k)) ∙ ap₂ root_sign p.0 p.1
    ∙ root_sign-scaled y.a y.b (2 ^ x.k) (pow_pos x.k)

zero_part : (a P : ℤ) → a ≡ pos 0 → a *ℤ pos 1 ≡ pos 0 *ℤ P
zero_part a P p = p' ∙ int_ring (P ∷ []) (con (pos 0)) (con (pos 0) ⊗ v0) refl
  where
    p' : a *ℤ pos 1 ≡ pos 0
    p' = ap (λ (z : ℤ). z *ℤ pos 1) p

pub sign_of-zero : (x : Number) → sign_of x ≡ Zero → IsSame x (whole (pos 0))
sign_of-zero x e = let r = root_sign_means Zero x.a x.b e
    in (zero_part x.a (power x.k) r.0, zero_part x.b (power x.k) r.1)

pub zero_sign_of : (x : Number) → IsSame x (whole (pos 0)) → sign_of x ≡ Zero
zero_sign_of x p = sign_of-same x (whole (pos 0)) p

pub sign_of-negative : (x : Number) → sign_of (negative_of x) ≡ opposite_sign (sign_of x)
sign_of-negative x =
    root_sign_from (opposite_sign (sign_of x)) (neg_ℤ x.a) (neg_ℤ x.b)
    (sign_opposite (sign_of x) x.a x.b (root_sign_is x.a x.b))

pub sign_of-half : (x : Number) → sign_of (half_of x) ≡ sign_of x
sign_of-half x = refl

pub sign_of-product : (x y : Number) → sign_of (product_of x y) ≡ times_sign (sign_of x) (sign_of y)
sign_of-product x y =
    root_sign_from (times_sign (sign_of x) (sign_of y)) _ _
    (sign_product (sign_of x) (sign_of y) x.a x.b y.a y.b (root_sign_is x.a x.b) (root_sign_is y.a y.b))

-- ---- sums

pub sign_of-sum_positive : (x y : Number) → sign_of x ≡ Pos → sign_of y ≡ Pos → sign_of (sum_of x y) ≡ Pos
sign_of-sum_positive x y p q =
    root_sign_from Pos _ _
    (positive_sum (x.a *ℤ power y.k) (x.b *ℤ power y.k) (y.a *ℤ power x.k) (y.b *ℤ power x.k)
    (sign_scaled Pos x.a x.b (2 ^ y.k) (pow_pos y.k) (root_sign_means Pos x.a x.b p))
    (sign_scaled Pos y.a y.b (2 ^ x.k) (pow_pos x.k) (root_sign_means Pos y.a y.b q)))

pub sign_of-sum_zero : (x y : Number) → sign_of x ≡ Zero → sign_of (sum_of x y) ≡ sign_of y
sign_of-sum_zero x y p =
    sign_of-same (sum_of x y) y (number_ring_from (x ∷ y ∷ []) v0 (con (whole (pos 0))) (con (whole (pos 1)))
    (v0 ⊕ v1) v1 refl (sign_of-zero x p))

pub sign_of-sum_zero_right : (x y : Number) → sign_of y ≡ Zero → sign_of (sum_of x y) ≡ sign_of x
sign_of-sum_zero_right x y p =
    sign_of-same (sum_of x y) x (number_ring_from (x ∷ y ∷ []) v1 (con (whole (pos 0))) (con (whole (pos 1)))
    (v0 ⊕ v1) v0 refl (sign_of-zero y p))

turned_sign : (s t : Sgn) → opposite_sign s ≡ t → s ≡ opposite_sign t
turned_sign Neg t e = ap opposite_sign e
turned_sign Zero t e = ap opposite_sign e
turned_sign Pos t e = ap opposite_sign e

pub sign_of-sum_negative : (x y : Number) → sign_of x ≡ Neg → sign_of y ≡ Neg → sign_of (sum_of x y) ≡ Neg
sign_of-sum_negative x y p q =
    turned_sign (sign_of (sum_of x y)) Pos
    (sym (sign_of-negative (sum_of x y))
    ∙ sign_of-same (negative_of (sum_of x y)) (sum_of (negative_of x) (negative_of y))
    (number_ring (x ∷ y ∷ []) (⊖ (v0 ⊕ v1)) (⊖ v0 ⊕ ⊖ v1) refl)
    ∙ sign_of-sum_positive (negative_of x) (negative_of y) (sign_of-negative x ∙ ap opposite_sign p)
    (sign_of-negative y ∙ ap opposite_sign q))

-- a positive number and one that is not negative
pub sign_of-sum_positive_left : (x y : Number) → sign_of x ≡ Pos → ¬ (sign_of y ≡ Neg)
    → sign_of (sum_of x y) ≡ Pos
sign_of-sum_positive_left x y p n = by (sign_of y) refl
  where
    by : (s : Sgn) → sign_of y ≡ s → sign_of (sum_of x y) ≡ Pos
    by Neg e = absurd (n e)
    by Zero e = sign_of-sum_zero_right x y e ∙ p
    by Pos e = sign_of-sum_positive x y p e

pub sign_of-sum_not_negative : (x y : Number) → ¬ (sign_of x ≡ Neg) → ¬ (sign_of y ≡ Neg)
    → ¬ (sign_of (sum_of x y) ≡ Neg)
sign_of-sum_not_negative x y m n h = by (sign_of x) refl
  where
    by : (s : Sgn) → sign_of x ≡ s → ⊥
    by Neg e = m e
    by Zero e = n (sym (sign_of-sum_zero x y e) ∙ h)
    by Pos e = cc (sign_of-sum_positive_left x y e n, h)

-- ---- products

pub sign_of-product_positive : (x y : Number) → sign_of x ≡ Pos → sign_of (product_of x y) ≡ sign_of y
sign_of-product_positive x y p = sign_of-product x y ∙ ap (λ (s : Sgn). times_sign s (sign_of y)) p

pub sign_of-product_positive_right : (x y : Number) → sign_of y ≡ Pos → sign_of (product_of x y) ≡ sign_of x
sign_of-product_positive_right x y p =
    sign_of-product x y ∙ ap (times_sign (sign_of x)) p ∙ times_positive (sign_of x)

pub sign_of-square : (x : Number) → (sign_of (product_of x x) ≡ Pos) ⊎ (IsSame x (whole (pos 0)))
sign_of-square x = by (sign_of x) refl
  where
    by : (s : Sgn) → sign_of x ≡ s → (sign_of (product_of x x) ≡ Pos) ⊎ (IsSame x (whole (pos 0)))
    by Neg e = inl (sign_of-product x x ∙ ap (λ (s : Sgn). times_sign s s) e)
    by Zero e = inr (sign_of-zero x e)
    by Pos e = inl (sign_of-product x x ∙ ap (λ (s : Sgn). times_sign s s) e)

-- a product is zero only where a factor is
pub product_of-zero_factor : (x y : Number) → IsSame (product_of x y) (whole (pos 0))
    → IsSame x (whole (pos 0)) ⊎ IsSame y (whole (pos 0))
product_of-zero_factor x y p =
    by (sign_of x) (sign_of y) refl refl (sym (sign_of-product x y) ∙ zero_sign_of (product_of x y) p)
  where
    by : (s t : Sgn) → sign_of x ≡ s → sign_of y ≡ t → times_sign (sign_of x) (sign_of y) ≡ Zero
        → IsSame x (whole (pos 0)) ⊎ IsSame y (whole (pos 0))
    by Zero t e f h = inl (sign_of-zero x e)
    by Neg Zero e f h = inr (sign_of-zero y f)
    by Pos Zero e f h = inr (sign_of-zero y f)
    by Neg Neg e f h = cc (h, ap₂ times_sign e f)
    by Neg Pos e f h = cc (h, ap₂ times_sign e f)
    by Pos Neg e f h = cc (h, ap₂ times_sign e f)
    by Pos Pos e f h = cc (h, ap₂ times_sign e f)

-- ---- the units are positive

pub tangent_positive : sign_of tangent ≡ Pos
tangent_positive = refl

pub root_two_positive : sign_of root_two ≡ Pos
root_two_positive = refl

pub power_of-positive : (x : Number) → sign_of x ≡ Pos → (n : ℕ) → sign_of (power_of x n) ≡ Pos
power_of-positive x p zero = refl
power_of-positive x p (suc n) = sign_of-product_positive x (power_of x n) p ∙ power_of-positive x p n

pub unit_of-positive : (i j : ℕ) → sign_of (unit_of i j) ≡ Pos
unit_of-positive i j =
    sign_of-product_positive (power_of tangent i) (power_of root_two j) (power_of-positive tangent refl i)
    ∙ power_of-positive root_two refl j

pub unit_inverse_of-positive : (i j : ℕ) → sign_of (unit_inverse_of i j) ≡ Pos
unit_inverse_of-positive i j =
    sign_of-product_positive (power_of (record { a = pos 1; b = pos 1; k = 0 }) i)
    (power_of (record { a = pos 0; b = pos 1; k = 1 }) j)
    (power_of-positive (record { a = pos 1; b = pos 1; k = 0 }) refl i)
    ∙ power_of-positive (record { a = pos 0; b = pos 1; k = 1 }) refl j

-- ---- the order

pub sign_of-difference_turned : (x y : Number)
    → sign_of (difference_of y x) ≡ opposite_sign (sign_of (difference_of x y))
sign_of-difference_turned x y =
    sign_of-same (difference_of y x) (negative_of (difference_of x y))
    (number_ring (x ∷ y ∷ []) (v1 ⊝ v0) (⊖ (v0 ⊝ v1)) refl) ∙ sign_of-negative (difference_of x y)

-- x is less than y where y less x is positive
pub IsLess-positive : (x y : Number) → IsLess x y ↔ (sign_of (difference_of y x) ≡ Pos)
IsLess-positive x y = (
  λ p. sign_of-difference_turned x y ∙ ap opposite_sign p,
  λ p. sign_of-difference_turned y x
      ∙ ap opposite_sign p,
)

pub IsLess-irrefl : (x : Number) → ¬ IsLess x x
IsLess-irrefl x p = cc
    (p, zero_sign_of (difference_of x x) (number_ring (x ∷ []) (v0 ⊝ v0) (con (whole (pos 0))) refl))

pub IsLess-trans : (x y z : Number) → IsLess x y → IsLess y z → IsLess x z
IsLess-trans x y z p q =
    sign_of-same (difference_of x z) (sum_of (difference_of x y) (difference_of y z))
    (number_ring (x ∷ y ∷ z ∷ []) (v0 ⊝ v2) ((v0 ⊝ v1) ⊕ (v1 ⊝ v2)) refl)
    ∙ sign_of-sum_negative (difference_of x y) (difference_of y z) p q

pub IsLess-asym : (x y : Number) → IsLess x y → ¬ IsLess y x
IsLess-asym x y p q = IsLess-irrefl x (IsLess-trans x y x p q)

-- one of the three holds
pub IsLess-total : (x y : Number) → IsLess x y ⊎ (IsSame x y ⊎ IsLess y x)
IsLess-total x y = by (sign_of (difference_of x y)) refl
  where
    by : (s : Sgn) → sign_of (difference_of x y) ≡ s → IsLess x y ⊎ (IsSame x y ⊎ IsLess y x)
    by Neg e = inl e
    by Zero e = inr (inl (same_from_difference x y (sign_of-zero (difference_of x y) e)))
    by Pos e = inr (inr (sign_of-difference_turned x y ∙ ap opposite_sign e))

pub not_less-same : (x y : Number) → ¬ IsLess x y → ¬ IsLess y x → IsSame x y
not_less-same x y m n = by (IsLess-total x y)
  where
    by : IsLess x y ⊎ (IsSame x y ⊎ IsLess y x) → IsSame x y
    by (inl p) = absurd (m p)
    by (inr (inl p)) = p
    by (inr (inr p)) = absurd (n p)

pub IsLess-same : (x y z w : Number) → IsSame x z → IsSame y w → IsLess x y → IsLess z w
IsLess-same x y z w p q h =
    sym (sign_of-same (difference_of x y) (difference_of z w) (difference_of-same x y z w p q)) ∙ h

-- x less than y, and y at most z
pub IsLess-not_less_trans : (x y z : Number) → IsLess x y → ¬ IsLess z y → IsLess x z
IsLess-not_less_trans x y z p n = by (IsLess-total y z)
  where
    by : IsLess y z ⊎ (IsSame y z ⊎ IsLess z y) → IsLess x z
    by (inl q) = IsLess-trans x y z p q
    by (inr (inl q)) = IsLess-same x y x z (IsSame-refl x) q p
    by (inr (inr q)) = absurd (n q)

-- x at most y, and y less than z
pub not_less-IsLess_trans : (x y z : Number) → ¬ IsLess y x → IsLess y z → IsLess x z
not_less-IsLess_trans x y z n q = by (IsLess-total x y)
  where
    by : IsLess x y ⊎ (IsSame x y ⊎ IsLess y x) → IsLess x z
    by (inl p) = IsLess-trans x y z p q
    by (inr (inl p)) = IsLess-same y z x z (IsSame-sym x y p) (IsSame-refl z) q
    by (inr (inr p)) = absurd (n p)

pub not_less-trans : (x y z : Number) → ¬ IsLess y x → ¬ IsLess z y → ¬ IsLess z x
not_less-trans x y z m n p = n (IsLess-not_less_trans z x y p m)

pub IsLess-not_same : (x y : Number) → IsLess x y → ¬ IsSame x y
IsLess-not_same x y p q = IsLess-irrefl y (IsLess-same x y y y q (IsSame-refl y) p)

pub IsLess-sum_right : (x y z : Number) → IsLess x y → IsLess (sum_of x z) (sum_of y z)
IsLess-sum_right x y z p =
    sign_of-same (difference_of (sum_of x z) (sum_of y z)) (difference_of x y)
    (number_ring (x ∷ y ∷ z ∷ []) ((v0 ⊕ v2) ⊝ (v1 ⊕ v2)) (v0 ⊝ v1) refl) ∙ p

pub IsLess-sum_left : (x y z : Number) → IsLess x y → IsLess (sum_of z x) (sum_of z y)
IsLess-sum_left x y z p =
    sign_of-same (difference_of (sum_of z x) (sum_of z y)) (difference_of x y)
    (number_ring (x ∷ y ∷ z ∷ []) ((v2 ⊕ v0) ⊝ (v2 ⊕ v1)) (v0 ⊝ v1) refl) ∙ p

pub IsLess-sum : (x y z w : Number) → IsLess x y → IsLess z w → IsLess (sum_of x z) (sum_of y w)
IsLess-sum x y z w p q =
    IsLess-trans (sum_of x z) (sum_of y z) (sum_of y w) (IsLess-sum_right x y z p) (IsLess-sum_left z w y q)

pub IsLess-negative : (x y : Number) → IsLess x y → IsLess (negative_of y) (negative_of x)
IsLess-negative x y p =
    sign_of-same (difference_of (negative_of y) (negative_of x)) (difference_of x y)
    (number_ring (x ∷ y ∷ []) (⊖ v1 ⊝ ⊖ v0) (v0 ⊝ v1) refl) ∙ p

-- the sign of a difference of products by one factor
pub sign_of-difference_product : (x y z : Number)
    → sign_of (difference_of (product_of x z) (product_of y z))
    ≡ times_sign (sign_of (difference_of x y)) (sign_of z)
sign_of-difference_product x y z =
    sign_of-same (difference_of (product_of x z) (product_of y z)) (product_of (difference_of x y) z)
    (number_ring (x ∷ y ∷ z ∷ []) (v0 ⊗ v2 ⊝ v1 ⊗ v2) ((v0 ⊝ v1) ⊗ v2) refl)
    ∙ sign_of-product (difference_of x y) z

pub IsLess-product : (x y z : Number) → sign_of z ≡ Pos → IsLess x y
    → IsLess (product_of x z) (product_of y z)
IsLess-product x y z h p = sign_of-difference_product x y z ∙ ap₂ times_sign p h

pub IsLess-product_cancel : (x y z : Number) → sign_of z ≡ Pos → IsLess (product_of x z) (product_of y z)
    → IsLess x y
IsLess-product_cancel x y z h p =
    sym (times_positive (sign_of (difference_of x y))) ∙ ap (times_sign (sign_of (difference_of x y))) (sym h)
    ∙ sym (sign_of-difference_product x y z) ∙ p

pub IsLess-product_negative : (x y z : Number) → sign_of z ≡ Neg → IsLess x y
    → IsLess (product_of y z) (product_of x z)
IsLess-product_negative x y z h p =
    sign_of-difference_turned (product_of x z) (product_of y z)
    ∙ ap opposite_sign (sign_of-difference_product x y z ∙ ap₂ times_sign p h)

pub IsLess-half : (x y : Number) → IsLess x y → IsLess (half_of x) (half_of y)
IsLess-half x y p = sign_of-same (difference_of (half_of x) (half_of y)) (half_of (difference_of x y))
    (number_ring (x ∷ y ∷ []) (halved v0 ⊝ halved v1) (halved (v0 ⊝ v1)) refl) ∙ p

-- the number halfway lies between
pub IsLess-halfway_left : (x y : Number) → IsLess x y → IsLess x (half_of (sum_of x y))
IsLess-halfway_left x y p =
    sign_of-same (difference_of x (half_of (sum_of x y))) (half_of (difference_of x y))
    (number_ring (x ∷ y ∷ []) (v0 ⊝ halved (v0 ⊕ v1)) (halved (v0 ⊝ v1)) refl) ∙ p

pub IsLess-halfway_right : (x y : Number) → IsLess x y → IsLess (half_of (sum_of x y)) y
IsLess-halfway_right x y p =
    sign_of-same (difference_of (half_of (sum_of x y)) y) (half_of (difference_of x y))
    (number_ring (x ∷ y ∷ []) (halved (v0 ⊕ v1) ⊝ v1) (halved (v0 ⊝ v1)) refl) ∙ p

-- a number is less than zero where its sign is Neg, and more where it is Pos
pub IsLess-zero : (x : Number) → IsLess x (whole (pos 0)) ↔ (sign_of x ≡ Neg)
IsLess-zero x = let e = sign_of-same (difference_of x (whole (pos 0))) x
    (number_ring (x ∷ []) (v0 ⊝ con (whole (pos 0))) v0 refl) in (λ p. sym e ∙ p, λ p. e ∙ p)

pub zero-IsLess : (x : Number) → IsLess (whole (pos 0)) x ↔ (sign_of x ≡ Pos)
zero-IsLess x =
    let e = sign_of-same (difference_of x (whole (pos 0))) x
    (number_ring (x ∷ []) (v0 ⊝ con (whole (pos 0))) v0 refl) in
    (λ p. sym e ∙ (IsLess-positive (whole (pos 0)) x).0 p, λ p. (IsLess-positive (whole (pos 0)) x).1 (e ∙ p))

-- ---- the comparison

pub compare_of-less : (x y : Number) → (compare_of x y ≡ Less) ↔ IsLess x y
compare_of-less x y = (by (sign_of (difference_of x y)), λ p. ap ordering_of p)
  where
    by : (s : Sgn) → ordering_of s ≡ Less → s ≡ Neg
    by Neg e = refl
    by Zero e = cc e
    by Pos e = cc e

pub compare_of-equal : (x y : Number) → (compare_of x y ≡ Equal) ↔ IsSame x y
compare_of-equal x y = (
  λ e. same_from_difference x y (sign_of-zero (difference_of x y) (by (sign_of (difference_of x y)) e)),
  λ p. ap ordering_of (zero_sign_of (difference_of x y) (difference_from_same x y p)),
)
  where
    by : (s : Sgn) → ordering_of s ≡ Equal → s ≡ Zero
    by Neg e = cc e
    by Zero e = refl
    by Pos e = cc e

turned_ordering : (s : Sgn) → ordering_of s ≡ ordering_reverse (ordering_of (opposite_sign s))
turned_ordering Neg = refl
turned_ordering Zero = refl
turned_ordering Pos = refl

pub compare_of-turned : (x y : Number) → compare_of x y ≡ ordering_reverse (compare_of y x)
compare_of-turned x y =
    turned_ordering (sign_of (difference_of x y))
    ∙ ap (λ (s : Sgn). ordering_reverse (ordering_of s)) (sym (sign_of-difference_turned x y))

pub compare_of-greater : (x y : Number) → (compare_of x y ≡ Greater) ↔ IsLess y x
compare_of-greater x y = (
  λ e. (compare_of-less y x).0 (compare_of-turned y x ∙ ap ordering_reverse e),
  λ p. compare_of-turned x y
      ∙ ap ordering_reverse ((compare_of-less y x).1 p),
)

pub compare_of-same : (x y z w : Number) → IsSame x z → IsSame y w → compare_of x y ≡ compare_of z w
compare_of-same x y z w p q =
    ap ordering_of (sign_of-same (difference_of x y) (difference_of z w) (difference_of-same x y z w p q))

-- the values are in a total order
pub compare_of_total : IsTotalOrder compare_of
compare_of_total = record {
  antisymm = compare_of-turned;
  trans = λ x y z p q. (compare_of-less x z).1
      (IsLess-trans x y z ((compare_of-less x y).0 p) ((compare_of-less y z).0 q));
  congr = λ x y z e. compare_of-same x z y z ((compare_of-equal x y).0 e) (IsSame-refl z);
}
