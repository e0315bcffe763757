-- The whole numbers are a commutative ring, and equations over them are proved by multiplying out.
--
-- To prove an equation, write its sides as expressions over the list of its variables, v0 the first of the list:
--
--     square_of_sum : (a b : ℤ) → (a +ℤ b) *ℤ (a +ℤ b) ≡ a *ℤ a +ℤ pos 2 *ℤ (a *ℤ b) +ℤ b *ℤ b
--     square_of_sum a b = int_ring (a ∷ b ∷ []) ((v0 ⊕ v1) ⊗ (v0 ⊕ v1)) (v0 ⊗ v0 ⊕ con (pos 2) ⊗ (v0 ⊗ v1) ⊕ v1 ⊗ v1) refl
--
-- A difference is `e ⊝ f` for `a +ℤ neg_ℤ b`. A variable may stand for any term, as `pos (2 ^ k)`; `simp (pow-add 2)` first takes
-- `2 ^ (k + l)` apart. `int_ring_from` and `int_ring_from_two` prove an equation from others (`NumberLaws` has an example).
use Rattle.std.proofs.Common.{◌≡◌, ℕ, ◌+◌, ◌*◌, ◌^◌, ◌<◌, Bool, true, false, List, ℤ, pos, negsuc, ◌+ℤ◌, ◌*ℤ◌, ◌≤ℤ◌, neg_ℤ, nat_abs, eqb, eqb-true, true≢false, refl, sym, ap, ap₂, ◌∙◌, arith, pow_pos, pow-add}
use Rattle.std.proofs.lemmas.Int.{ints}
use Rattle.std.proofs.Math.Nat.{eq_of_mul-eq-mul_right}
use lib.IntN.{+ℤ_comm, *ℤ_comm, +ℤ_assoc, +ℤ_invr, +ℤ_idr, *ℤ-zero}
use borrow.Author.Differences.{up, down, same_in, same_out, product_is, sum_is_lem}
use Rattle.surd_number.specs.RingTool.{Expression, Operations, IsRing, vanishes, sum_of_products, value, solved, solved_from, solved_from_two, ◌⊝◌, ◌⊗◌}

-- ---- the laws

pub int_add_comm : (x y : ℤ) → x +ℤ y ≡ y +ℤ x
int_add_comm = +ℤ_comm

pub int_add_assoc : (x y z : ℤ) → x +ℤ y +ℤ z ≡ x +ℤ (y +ℤ z)
int_add_assoc = +ℤ_assoc

pub int_add_zero : (x : ℤ) → x +ℤ pos 0 ≡ x
int_add_zero = +ℤ_idr

pub int_add_neg : (x : ℤ) → x +ℤ neg_ℤ x ≡ pos 0
int_add_neg = +ℤ_invr

pub int_mul_comm : (x y : ℤ) → x *ℤ y ≡ y *ℤ x
int_mul_comm = *ℤ_comm

pub int_mul_assoc : (x y z : ℤ) → x *ℤ y *ℤ z ≡ x *ℤ (y *ℤ z)
int_mul_assoc x y z = same_in _ _ (simp (int_up_mul, int_down_mul) (omega arith))
  where
    int_up_mul : (a b : ℤ) → up (a *ℤ b) ≡ up a * up b + down a * down b
    int_up_mul a b = (product_is a b).0

    int_down_mul : (a b : ℤ) → down (a *ℤ b) ≡ up a * down b + down a * up b
    int_down_mul a b = (product_is a b).1

pub int_mul_one : (x : ℤ) → x *ℤ pos 1 ≡ x
int_mul_one x = omega (arith, ints)

pub int_mul_zero : (x : ℤ) → x *ℤ pos 0 ≡ pos 0
int_mul_zero = *ℤ-zero

pub int_mul_add : (x y z : ℤ) → x *ℤ (y +ℤ z) ≡ x *ℤ y +ℤ x *ℤ z
int_mul_add x y z = same_in _ _
    (omega (
      arith,
      product_is x (y +ℤ z),
      product_is x y,
      product_is x z,
      sum_is_lem (x *ℤ y) (x *ℤ z),
      ap (λ (n : ℕ). up x * n) (sum_is_lem y z),
      ap (λ (n : ℕ). down x * n) (sum_is_lem y z),
    ))

pub int_add_mul : (x y z : ℤ) → (x +ℤ y) *ℤ z ≡ x *ℤ z +ℤ y *ℤ z
int_add_mul x y z = int_mul_comm (x +ℤ y) z ∙ int_mul_add z x y
    ∙ ap₂ ◌+ℤ◌ (int_mul_comm z x) (int_mul_comm z y)

pub int_neg_is_product : (x : ℤ) → neg_ℤ x ≡ negsuc 0 *ℤ x
int_neg_is_product x = omega (arith, ints)

-- ---- the ring

abbrev pub int_is_zero : ℤ → Bool
int_is_zero (pos n) = eqb n 0
int_is_zero (negsuc n) = false

pub int_zero_is : (x : ℤ) → int_is_zero x ≡ true → x ≡ pos 0
int_zero_is (pos n) e = ap pos (eqb-true n 0 e)
int_zero_is (negsuc n) e = absurd (true≢false (sym e))

abbrev pub whole_numbers : Operations ℤ
whole_numbers = record {
  add = ◌+ℤ◌;
  mul = ◌*ℤ◌;
  neg = neg_ℤ;
  half = λ x. x;
  nought = pos 0;
  unit = pos 1;
  factor = pos 1;
  is_nought = int_is_zero;
}

pub whole_numbers_IsRing : IsRing (λ (x y : ℤ). x ≡ y) whole_numbers
whole_numbers_IsRing = record {
  same_refl = λ x. refl;
  same_sym = λ x y p. sym p;
  same_trans = λ x y z p q. p ∙ q;
  add_same = λ x y z w p q. ap₂ ◌+ℤ◌ p q;
  mul_same = λ x y z w p q. ap₂ ◌*ℤ◌ p q;
  add_comm = int_add_comm;
  add_assoc = int_add_assoc;
  add_nought = int_add_zero;
  add_neg = int_add_neg;
  mul_comm = int_mul_comm;
  mul_assoc = int_mul_assoc;
  mul_unit = int_mul_one;
  mul_nought = int_mul_zero;
  mul_add = int_mul_add;
  neg_is_product = int_neg_is_product;
  half_is_product = λ x. sym (int_mul_comm (pos 1) x ∙ int_mul_one x);
  nought_is = int_zero_is;
}

-- an equation between whole numbers, by multiplying out
pub int_ring : (xs : List ℤ) (e f : Expression ℤ)
    → vanishes whole_numbers (sum_of_products whole_numbers (e ⊝ f)) ≡ true
    → value whole_numbers xs e ≡ value whole_numbers xs f
int_ring xs e f h = solved whole_numbers_IsRing xs e f h

-- from the equation of h and g, where e ⊝ f is c ⊗ (h ⊝ g)
pub int_ring_from : (xs : List ℤ) (h g c e f : Expression ℤ)
    → vanishes whole_numbers (sum_of_products whole_numbers (e ⊝ f ⊝ c ⊗ (h ⊝ g))) ≡ true
    → value whole_numbers xs h ≡ value whole_numbers xs g
    → value whole_numbers xs e ≡ value whole_numbers xs f
int_ring_from xs h g c e f t p = solved_from whole_numbers_IsRing xs h g c e f t p

-- from two equations, where e ⊝ f is c ⊗ (h ⊝ g) ⊕ c' ⊗ (h' ⊝ g')
pub int_ring_from_two : (xs : List ℤ) (h g c h' g' c' e f : Expression ℤ)
    → vanishes whole_numbers (sum_of_products whole_numbers (e ⊝ f ⊝ c ⊗ (h ⊝ g) ⊝ c' ⊗ (h' ⊝ g'))) ≡ true
    → value whole_numbers xs h ≡ value whole_numbers xs g
    → value whole_numbers xs h' ≡ value whole_numbers xs g'
    → value whole_numbers xs e ≡ value whole_numbers xs f
int_ring_from_two xs h g c h' g' c' e f t p p' =
    solved_from_two whole_numbers_IsRing xs h g c h' g' c' e f t p p'

-- ---- factors and powers

-- a factor that is not zero can be left out
pub int_mul_cancel : (x y : ℤ) (n : ℕ) → 0 < n → x *ℤ pos n ≡ y *ℤ pos n → x ≡ y
int_mul_cancel x y n h e = same_in x y (omega (arith, left, right))
  where
    left : up x ≡ up y
    left = eq_of_mul-eq-mul_right n h (up x) (up y)
        (omega (arith, product_is x (pos n), product_is y (pos n), same_out (x *ℤ pos n) (y *ℤ pos n) e))

    right : down x ≡ down y
    right = eq_of_mul-eq-mul_right n h (down x) (down y)
        (omega (arith, product_is x (pos n), product_is y (pos n), same_out (x *ℤ pos n) (y *ℤ pos n) e))

pub int_power_add : (k l : ℕ) → pos (2 ^ (k + l)) ≡ pos (2 ^ k) *ℤ pos (2 ^ l)
int_power_add k l = ap pos (pow-add 2 k l)

pub int_power_cancel : (x y : ℤ) (k : ℕ) → x *ℤ pos (2 ^ k) ≡ y *ℤ pos (2 ^ k) → x ≡ y
int_power_cancel x y k e = int_mul_cancel x y (2 ^ k) (pow_pos k) e

-- ---- squares

pub int_square_is : (x : ℤ) → x *ℤ x ≡ pos (nat_abs x * nat_abs x)
int_square_is (pos n) = refl
int_square_is (negsuc n) = refl

pub int_square_not_negative : (x : ℤ) → pos 0 ≤ℤ (x *ℤ x)
int_square_not_negative x = rw (int_square_is x) (omega (arith, ints))
