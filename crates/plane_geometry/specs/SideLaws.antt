-- Laws of sides and of the order of points.
use Rattle.std.proofs.Common.{◌≡◌, ℕ, zero, suc, ◌-◌, Bool, true, false, cond, ltb, [], ◌∷◌, pos, refl, sym, ap, ap₂, subst, ◌∙◌}
use Rattle.std.proofs.lemmas.Bool.{false≢true}
use Rattle.std.specs.Ordering.{ordering_then}
use Rattle.surd_number.specs.declared.Sgn.{Sgn}
use Rattle.surd_number.specs.declared.Sgn.TheVariants.{Neg, Zero, Pos}
use Rattle.surd_number.specs.Number.{Number, IsSame, whole, sum_of, difference_of, product_of, negative_of, sign_of, ordering_of, opposite_sign, times_sign}
use Rattle.surd_number.specs.RingTool.{◌⊕◌, ◌⊝◌, ◌⊗◌, ⊖◌, con, v0, v1, v2, v3, v4, v5, v6, v7}
use Rattle.plane_geometry.specs.Position.{Position, vector_of, opposite_of, cross_of, dot_of, compare_positions}
use Rattle.plane_geometry.specs.Direction.{direction_vector, upper_vector, side_of}
use Rattle.plane_geometry.specs.Direction.{turn_sign}
use Rattle.surd_number.specs.NumberLaws.{number_ring}
use Rattle.surd_number.specs.SignLaws.{sign_of-same, sign_of-negative, sign_of-product, sign_of-sum_positive, sign_of-sum_negative, sign_of-sum_zero, sign_of-sum_zero_right}

-- ---- signs

abbrev pub is_same_sign : Sgn → Sgn → Bool
is_same_sign Neg Neg = true
is_same_sign Zero Zero = true
is_same_sign Pos Pos = true
is_same_sign _ _ = false

-- r may be the sign of a sum of numbers of the signs s and t
abbrev pub may_sum : Sgn → Sgn → Sgn → Bool
may_sum Zero t r = is_same_sign t r
may_sum Neg Neg r = is_same_sign Neg r
may_sum Neg Zero r = is_same_sign Neg r
may_sum Neg Pos r = true
may_sum Pos Neg r = true
may_sum Pos Zero r = is_same_sign Pos r
may_sum Pos Pos r = is_same_sign Pos r

-- the first, unless it is Zero
abbrev pub then_sign : Sgn → Sgn → Sgn
then_sign Neg t = Neg
then_sign Zero t = t
then_sign Pos t = Pos

pub same_sign_is : (s t : Sgn) → is_same_sign s t ≡ true → s ≡ t
same_sign_is Neg Neg e = refl
same_sign_is Zero Zero e = refl
same_sign_is Pos Pos e = refl
same_sign_is _ _ e = absurd (false≢true e)

pub sum_from_zero : (t r : Sgn) → may_sum Zero t r ≡ true → r ≡ t
sum_from_zero t r e = sym (same_sign_is t r e)

pub sum_to_zero : (s r : Sgn) → may_sum s Zero r ≡ true → r ≡ s
sum_to_zero Neg r e = sym (same_sign_is Neg r e)
sum_to_zero Zero r e = sym (same_sign_is Zero r e)
sum_to_zero Pos r e = sym (same_sign_is Pos r e)

sums_then_neg : (a : Sgn) → may_sum a Neg Neg ≡ true
sums_then_neg Neg = refl
sums_then_neg Zero = refl
sums_then_neg Pos = refl

sums_then_pos : (a : Sgn) → may_sum a Pos Pos ≡ true
sums_then_pos Neg = refl
sums_then_pos Zero = refl
sums_then_pos Pos = refl

neg_sums_then : (a : Sgn) → may_sum Neg a Neg ≡ true
neg_sums_then Neg = refl
neg_sums_then Zero = refl
neg_sums_then Pos = refl

pos_sums_then : (a : Sgn) → may_sum Pos a Pos ≡ true
pos_sums_then Neg = refl
pos_sums_then Zero = refl
pos_sums_then Pos = refl

then_sums : (a b c s t r : Sgn) → may_sum a b c ≡ true → may_sum s t r ≡ true
    → may_sum (then_sign a s) (then_sign b t) (then_sign c r) ≡ true
then_sums Zero Zero Zero s t r e f = f
then_sums Zero Zero Neg s t r e f = absurd (false≢true e)
then_sums Zero Zero Pos s t r e f = absurd (false≢true e)
then_sums Zero Neg Neg s t r e f = sums_then_neg s
then_sums Zero Neg Zero s t r e f = absurd (false≢true e)
then_sums Zero Neg Pos s t r e f = absurd (false≢true e)
then_sums Zero Pos Pos s t r e f = sums_then_pos s
then_sums Zero Pos Zero s t r e f = absurd (false≢true e)
then_sums Zero Pos Neg s t r e f = absurd (false≢true e)
then_sums Neg Zero Neg s t r e f = neg_sums_then t
then_sums Neg Zero Zero s t r e f = absurd (false≢true e)
then_sums Neg Zero Pos s t r e f = absurd (false≢true e)
then_sums Neg Neg Neg s t r e f = refl
then_sums Neg Neg Zero s t r e f = absurd (false≢true e)
then_sums Neg Neg Pos s t r e f = absurd (false≢true e)
then_sums Neg Pos c s t r e f = refl
then_sums Pos Zero Pos s t r e f = pos_sums_then t
then_sums Pos Zero Zero s t r e f = absurd (false≢true e)
then_sums Pos Zero Neg s t r e f = absurd (false≢true e)
then_sums Pos Pos Pos s t r e f = refl
then_sums Pos Pos Zero s t r e f = absurd (false≢true e)
then_sums Pos Pos Neg s t r e f = absurd (false≢true e)
then_sums Pos Neg c s t r e f = refl

then_opposite : (s t : Sgn) → then_sign (opposite_sign s) (opposite_sign t) ≡ opposite_sign (then_sign s t)
then_opposite Neg t = refl
then_opposite Zero t = refl
then_opposite Pos t = refl

then_product : (s a b : Sgn) → then_sign (times_sign s a) (times_sign s b) ≡ times_sign s (then_sign a b)
then_product Neg a b = then_opposite a b
then_product Zero a b = refl
then_product Pos a b = refl

pub then_parts : (s t : Sgn) → then_sign s t ≡ Zero → (s ≡ Zero) × (t ≡ Zero)
then_parts Neg t e = cc
then_parts Zero t e = (refl, e)
then_parts Pos t e = cc

pub product_by_zero : (s : Sgn) → times_sign s Zero ≡ Zero
product_by_zero Neg = refl
product_by_zero Zero = refl
product_by_zero Pos = refl

pub product_by_pos : (s : Sgn) → times_sign s Pos ≡ s
product_by_pos Neg = refl
product_by_pos Zero = refl
product_by_pos Pos = refl

pub opposite_twice : (s : Sgn) → opposite_sign (opposite_sign s) ≡ s
opposite_twice Neg = refl
opposite_twice Zero = refl
opposite_twice Pos = refl

then_ordering : (s t : Sgn) → ordering_then (ordering_of s) (ordering_of t) ≡ ordering_of (then_sign s t)
then_ordering Neg t = refl
then_ordering Zero t = refl
then_ordering Pos t = refl

-- ---- signs of sums and differences

pub sign_sum : (x y : Number) → may_sum (sign_of x) (sign_of y) (sign_of (sum_of x y)) ≡ true
sign_sum x y = go (sign_of x) (sign_of y) refl refl
  where
    sure : (s r : Sgn) → r ≡ s → is_same_sign s r ≡ true
    sure Neg r e = ap (is_same_sign Neg) e
    sure Zero r e = ap (is_same_sign Zero) e
    sure Pos r e = ap (is_same_sign Pos) e

    go : (s t : Sgn) → sign_of x ≡ s → sign_of y ≡ t → may_sum s t (sign_of (sum_of x y)) ≡ true
    go Zero t e f = sure t (sign_of (sum_of x y)) (sign_of-sum_zero x y e ∙ f)
    go Neg Neg e f = sure Neg (sign_of (sum_of x y)) (sign_of-sum_negative x y e f)
    go Neg Zero e f = sure Neg (sign_of (sum_of x y)) (sign_of-sum_zero_right x y f ∙ e)
    go Neg Pos e f = refl
    go Pos Neg e f = refl
    go Pos Zero e f = sure Pos (sign_of (sum_of x y)) (sign_of-sum_zero_right x y f ∙ e)
    go Pos Pos e f = sure Pos (sign_of (sum_of x y)) (sign_of-sum_positive x y e f)

sign_without : (x y : Number) → sign_of y ≡ Zero → sign_of (sum_of x y) ≡ sign_of x
sign_without x y e =
    sum_to_zero (sign_of x) (sign_of (sum_of x y))
    (subst (λ t. may_sum (sign_of x) t (sign_of (sum_of x y)) ≡ true) e (sign_sum x y))

sign_left_out : (x y : Number) → sign_of x ≡ Zero → sign_of (sum_of x y) ≡ sign_of y
sign_left_out x y e =
    sum_from_zero (sign_of y) (sign_of (sum_of x y))
    (subst (λ s. may_sum s (sign_of y) (sign_of (sum_of x y)) ≡ true) e (sign_sum x y))

product_with_zero : (x y : Number) → sign_of y ≡ Zero → sign_of (product_of x y) ≡ Zero
product_with_zero x y e = sign_of-product x y ∙ ap (times_sign (sign_of x)) e ∙ product_by_zero (sign_of x)

product_of_zero : (x y : Number) → sign_of x ≡ Zero → sign_of (product_of x y) ≡ Zero
product_of_zero x y e = sign_of-product x y ∙ ap (λ s. times_sign s (sign_of y)) e

negative_zero : (x : Number) → sign_of x ≡ Zero → sign_of (negative_of x) ≡ Zero
negative_zero x e = sign_of-negative x ∙ ap opposite_sign e

chain_same : (x y z : Number) → IsSame (difference_of z x) (sum_of (difference_of y x) (difference_of z y))
chain_same x y z = number_ring (x ∷ y ∷ z ∷ []) (v2 ⊝ v0) ((v1 ⊝ v0) ⊕ (v2 ⊝ v1)) refl

chain_signs : (x y z : Number)
    → may_sum (sign_of (difference_of y x)) (sign_of (difference_of z y)) (sign_of (difference_of z x)) ≡ true
chain_signs x y z =
    subst (λ r. may_sum (sign_of (difference_of y x)) (sign_of (difference_of z y)) r ≡ true)
    (sym (sign_of-same (difference_of z x) (sum_of (difference_of y x) (difference_of z y))
    (chain_same x y z))) (sign_sum (difference_of y x) (difference_of z y))

turned_signs : (x y : Number) → sign_of (difference_of x y) ≡ opposite_sign (sign_of (difference_of y x))
turned_signs x y =
    sign_of-same (difference_of x y) (negative_of (difference_of y x))
    (number_ring (x ∷ y ∷ []) (v0 ⊝ v1) (⊖ (v1 ⊝ v0)) refl) ∙ sign_of-negative (difference_of y x)

self_sign : (x : Number) → sign_of (difference_of x x) ≡ Zero
self_sign x = sign_of-same (difference_of x x) (whole (pos 0))
    (number_ring (x ∷ []) (v0 ⊝ v0) (con (whole (pos 0))) refl)

-- ---- the order of points

-- where v leads in the order of points: Pos to a greater one
abbrev pub lex_sign : Position → Sgn
lex_sign v = then_sign (sign_of v.x) (sign_of v.y)

-- Pos where p comes before q, Zero where they are the same point
abbrev pub order_of : Position → Position → Sgn
order_of p q = lex_sign (vector_of p q)

pub compare_is : (p q : Position) → compare_positions p q ≡ ordering_of (order_of q p)
compare_is p q = then_ordering (sign_of (difference_of p.x q.x)) (sign_of (difference_of p.y q.y))

pub order_self : (p : Position) → order_of p p ≡ Zero
order_self p = ap₂ then_sign (self_sign p.x) (self_sign p.y)

pub order_turned : (p q : Position) → order_of q p ≡ opposite_sign (order_of p q)
order_turned p q =
    ap₂ then_sign (turned_signs p.x q.x) (turned_signs p.y q.y)
    ∙ then_opposite (sign_of (difference_of q.x p.x)) (sign_of (difference_of q.y p.y))

pub order_chain : (p q r : Position) → may_sum (order_of p q) (order_of q r) (order_of p r) ≡ true
order_chain p q r =
    then_sums (sign_of (difference_of q.x p.x)) (sign_of (difference_of r.x q.x))
    (sign_of (difference_of r.x p.x))
    (sign_of (difference_of q.y p.y)) (sign_of (difference_of r.y q.y)) (sign_of (difference_of r.y p.y))
    (chain_signs p.x q.x r.x) (chain_signs p.y q.y r.y)

-- ---- sides

cross_chain : (d p q r : Position)
    → IsSame (cross_of d (vector_of p r)) (sum_of (cross_of d (vector_of p q)) (cross_of d (vector_of q r)))
cross_chain d p q r =
    number_ring (d.x ∷ d.y ∷ p.x ∷ p.y ∷ q.x ∷ q.y ∷ r.x ∷ r.y ∷ [])
    (v0 ⊗ (v7 ⊝ v3) ⊝ v1 ⊗ (v6 ⊝ v2))
    ((v0 ⊗ (v5 ⊝ v3) ⊝ v1 ⊗ (v4 ⊝ v2)) ⊕ (v0 ⊗ (v7 ⊝ v5) ⊝ v1 ⊗ (v6 ⊝ v4))) refl

pub side_chain : (p : Position) (n : ℕ) (q r : Position)
    → may_sum (side_of p n q) (side_of q n r) (side_of p n r) ≡ true
side_chain p n q r =
    let d = direction_vector n in
    subst (λ s. may_sum (side_of p n q) (side_of q n r) s ≡ true)
    (sym (sign_of-same (cross_of d (vector_of p r))
    (sum_of (cross_of d (vector_of p q)) (cross_of d (vector_of q r))) (cross_chain d p q r)))
    (sign_sum (cross_of d (vector_of p q)) (cross_of d (vector_of q r)))

pub side_turned : (p : Position) (n : ℕ) (q : Position) → side_of q n p ≡ opposite_sign (side_of p n q)
side_turned p n q =
    let d = direction_vector n in
    sign_of-same (cross_of d (vector_of q p)) (negative_of (cross_of d (vector_of p q)))
    (number_ring (d.x ∷ d.y ∷ p.x ∷ p.y ∷ q.x ∷ q.y ∷ [])
    (v0 ⊗ (v3 ⊝ v5) ⊝ v1 ⊗ (v2 ⊝ v4)) (⊖ (v0 ⊗ (v5 ⊝ v3) ⊝ v1 ⊗ (v4 ⊝ v2))) refl)
    ∙ sign_of-negative (cross_of d (vector_of p q))

-- a point on the line through p in direction n stands for p
pub side_from : (p : Position) (n : ℕ) (q r : Position) → side_of p n q ≡ Zero → side_of p n r ≡ side_of q n r
side_from p n q r e =
    sum_from_zero (side_of q n r) (side_of p n r)
    (subst (λ s. may_sum s (side_of q n r) (side_of p n r) ≡ true) e (side_chain p n q r))

pub side_same : (p : Position) (n : ℕ) (q : Position) → order_of p q ≡ Zero → side_of p n q ≡ Zero
side_same p n q e =
    let d = direction_vector n in
    let w = vector_of p q in
    let z = then_parts (sign_of w.x) (sign_of w.y) e in
    sign_without (product_of d.x w.y) (negative_of (product_of d.y w.x))
    (negative_zero (product_of d.y w.x) (product_with_zero d.y w.x z.0)) ∙ product_with_zero d.x w.y z.1

-- ---- vectors along a direction

square_upper : (n : ℕ) → sign_of (dot_of (upper_vector n) (upper_vector n)) ≡ Pos
square_upper zero = refl
square_upper (suc zero) = refl
square_upper (suc (suc zero)) = refl
square_upper (suc (suc (suc zero))) = refl
square_upper (suc (suc (suc (suc zero)))) = refl
square_upper (suc (suc (suc (suc (suc zero))))) = refl
square_upper (suc (suc (suc (suc (suc (suc zero)))))) = refl
square_upper (suc (suc (suc (suc (suc (suc (suc n))))))) = refl

square_opposite : (d : Position) → IsSame (dot_of (opposite_of d) (opposite_of d)) (dot_of d d)
square_opposite d = number_ring (d.x ∷ d.y ∷ []) ((⊖ v0) ⊗ (⊖ v0) ⊕ (⊖ v1) ⊗ (⊖ v1)) (v0 ⊗ v0 ⊕ v1 ⊗ v1) refl

pub square_sign : (n : ℕ) → sign_of (dot_of (direction_vector n) (direction_vector n)) ≡ Pos
square_sign n = go (ltb n 8)
  where
    go : (b : Bool) → sign_of
        (dot_of (cond b (upper_vector n) (opposite_of (upper_vector (n - 8))))
        (cond b (upper_vector n) (opposite_of (upper_vector (n - 8))))) ≡ Pos
    go true = square_upper n
    go false = sign_of-same (dot_of (opposite_of (upper_vector (n - 8))) (opposite_of (upper_vector (n - 8))))
        (dot_of (upper_vector (n - 8)) (upper_vector (n - 8))) (square_opposite (upper_vector (n - 8)))
        ∙ square_upper (n - 8)

module _ (d w : Position) (square : sign_of (dot_of d d) ≡ Pos) (along : sign_of (cross_of d w) ≡ Zero) where
  by_square : (x y : Number) → IsSame (product_of (dot_of d d) x) y → sign_of x ≡ sign_of y
  by_square x y e = sym (sign_of-product (dot_of d d) x ∙ ap (λ s. times_sign s (sign_of x)) square)
      ∙ sign_of-same (product_of (dot_of d d) x) y e

  along_x : sign_of w.x ≡ times_sign (sign_of (dot_of d w)) (sign_of d.x)
  along_x =
      by_square w.x (sum_of (product_of (dot_of d w) d.x) (negative_of (product_of (cross_of d w) d.y)))
      (number_ring (d.x ∷ d.y ∷ w.x ∷ w.y ∷ []) ((v0 ⊗ v0 ⊕ v1 ⊗ v1) ⊗ v2)
      ((v0 ⊗ v2 ⊕ v1 ⊗ v3) ⊗ v0 ⊝ (v0 ⊗ v3 ⊝ v1 ⊗ v2) ⊗ v1) refl)
      ∙ sign_without (product_of (dot_of d w) d.x) (negative_of (product_of (cross_of d w) d.y))
      (negative_zero (product_of (cross_of d w) d.y) (product_of_zero (cross_of d w) d.y along))
      ∙ sign_of-product (dot_of d w) d.x

  along_y : sign_of w.y ≡ times_sign (sign_of (dot_of d w)) (sign_of d.y)
  along_y =
      by_square w.y (sum_of (product_of (dot_of d w) d.y) (product_of (cross_of d w) d.x))
      (number_ring (d.x ∷ d.y ∷ w.x ∷ w.y ∷ []) ((v0 ⊗ v0 ⊕ v1 ⊗ v1) ⊗ v3)
      ((v0 ⊗ v2 ⊕ v1 ⊗ v3) ⊗ v1 ⊕ (v0 ⊗ v3 ⊝ v1 ⊗ v2) ⊗ v0) refl)
      ∙ sign_without (product_of (dot_of d w) d.y) (product_of (cross_of d w) d.x)
      (product_of_zero (cross_of d w) d.x along)
      ∙ sign_of-product (dot_of d w) d.y

  pub along_lex : lex_sign w ≡ times_sign (sign_of (dot_of d w)) (lex_sign d)
  along_lex = ap₂ then_sign along_x along_y ∙ then_product (sign_of (dot_of d w)) (sign_of d.x) (sign_of d.y)

  pub along_cross : (e : Position)
      → sign_of (cross_of e w) ≡ times_sign (sign_of (dot_of d w)) (sign_of (cross_of e d))
  along_cross e =
      by_square (cross_of e w)
      (sum_of (product_of (dot_of d w) (cross_of e d)) (product_of (cross_of d w) (dot_of e d)))
      (number_ring (d.x ∷ d.y ∷ w.x ∷ w.y ∷ e.x ∷ e.y ∷ [])
      ((v0 ⊗ v0 ⊕ v1 ⊗ v1) ⊗ (v4 ⊗ v3 ⊝ v5 ⊗ v2))
      ((v0 ⊗ v2 ⊕ v1 ⊗ v3) ⊗ (v4 ⊗ v1 ⊝ v5 ⊗ v0) ⊕ (v0 ⊗ v3 ⊝ v1 ⊗ v2) ⊗ (v4 ⊗ v0 ⊕ v5 ⊗ v1)) refl)
      ∙ sign_without (product_of (dot_of d w) (cross_of e d)) (product_of (cross_of d w) (dot_of e d))
      (product_of_zero (cross_of d w) (dot_of e d) along)
      ∙ sign_of-product (dot_of d w) (cross_of e d)

  pub along_dot : (e : Position)
      → sign_of (dot_of e w) ≡ times_sign (sign_of (dot_of d w)) (sign_of (dot_of e d))
  along_dot e =
      by_square (dot_of e w)
      (sum_of (product_of (dot_of d w) (dot_of e d)) (product_of (cross_of d w) (cross_of d e)))
      (number_ring (d.x ∷ d.y ∷ w.x ∷ w.y ∷ e.x ∷ e.y ∷ [])
      ((v0 ⊗ v0 ⊕ v1 ⊗ v1) ⊗ (v4 ⊗ v2 ⊕ v5 ⊗ v3))
      ((v0 ⊗ v2 ⊕ v1 ⊗ v3) ⊗ (v4 ⊗ v0 ⊕ v5 ⊗ v1) ⊕ (v0 ⊗ v3 ⊝ v1 ⊗ v2) ⊗ (v0 ⊗ v5 ⊝ v1 ⊗ v4)) refl)
      ∙ sign_without (product_of (dot_of d w) (dot_of e d)) (product_of (cross_of d w) (cross_of d e))
      (product_of_zero (cross_of d w) (cross_of d e) along)
      ∙ sign_of-product (dot_of d w) (dot_of e d)
