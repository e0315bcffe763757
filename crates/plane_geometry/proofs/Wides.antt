-- What is computed with Wides: the values, and that they fit.
use Rattle.std.proofs.Common.{◌≡◌, ℕ, zero, suc, ◌+◌, ◌-◌, ◌*◌, ◌^◌, ◌≤◌, Bool, true, false, cond, ltb, [], ◌∷◌, pos, refl, subst, arith, lit≤}
use Rattle.surd_number.specs.Number.{Number, IsSame, IsCanonical, IsWithin, sum_of, difference_of, product_of, negative_of, tangent, unit_of, FitsOver}
use Rattle.surd_number.specs.Stored.{IsWide}
use Rattle.surd_number.specs.RingTool.{◌⊝◌, ◌⊗◌, ⊖◌, con, v0, v1, v2}
use Rattle.surd_number.specs.NumberLaws.{number_ring, number_ring_from, number_ring_from_two, sum_of-same, difference_of-same, product_of-same, IsSame-trans, IsSame-refl}
use Rattle.surd_number.specs.FitsLaws.{fits_same, fits_more, fits_sum, fits_difference, fits_negative, fits_tangent, within_from_fits, wide_from_fits}
use Rattle.plane_geometry.specs.declared.sides.Part.{Part}
use Rattle.plane_geometry.specs.declared.sides.Part.TheVariants.{Nought, One, Tangent, MinusOne, MinusTangent}
use Rattle.plane_geometry.specs.Position.{Position, vector_of, opposite_of, cross_of, dot_of}
use Rattle.plane_geometry.specs.Direction.{one, nought, upper_vector, direction_vector}
use Rattle.plane_geometry.specs.Part.{part_number}

-- sums and differences of numbers over 2^16
pub wide_difference : (x y : Number) → FitsOver (2 ^ 76) 16 x → FitsOver (2 ^ 76) 16 y
    → IsWide (difference_of x y)
wide_difference x y f g =
    wide_from_fits (2 ^ 76 + 2 ^ 76) 16 (difference_of x y) (lit≤ tt) (lit≤ tt)
    (fits_difference (2 ^ 76) (2 ^ 76) 16 x y f g)

pub wide_sum : (x y : Number) → FitsOver (2 ^ 76) 16 x → FitsOver (2 ^ 76) 16 y → IsWide (sum_of x y)
wide_sum x y f g = wide_from_fits (2 ^ 76 + 2 ^ 76) 16 (sum_of x y) (lit≤ tt) (lit≤ tt)
    (fits_sum (2 ^ 76) (2 ^ 76) 16 x y f g)

pub nought_fits : (x : Number) → IsSame x nought → FitsOver (2 ^ 76) 16 x
nought_fits x e = fits_same (2 ^ 76) 16 nought x e
    (record { a = pos 0; b = pos 0; same = (refl, refl); a_fits = lit≤ tt; b_fits = lit≤ tt })

pub difference_fits : (r x y : Number) → IsSame r (difference_of x y) → FitsOver (2 ^ 52) 16 x
    → FitsOver (2 ^ 52) 16 y → FitsOver (2 ^ 53) 16 r
difference_fits r x y e f g =
    fits_more (2 ^ 52 + 2 ^ 52) (2 ^ 53) 16 r (lit≤ tt)
    (fits_same (2 ^ 52 + 2 ^ 52) 16 (difference_of x y) r e
    (fits_difference (2 ^ 52) (2 ^ 52) 16 x y f g))

pub nothing_by : (r w : Number) → IsSame r (difference_of w w) → IsSame r nought
nothing_by r w e = number_ring_from (r ∷ w ∷ []) v0 (v1 ⊝ v1) (con one) v0 (con nought) refl e

pub negative_by : (r z w : Number) → IsSame r (difference_of z w) → IsSame z nought → IsSame r (negative_of w)
negative_by r z w e f =
    number_ring_from_two (r ∷ z ∷ w ∷ []) v0 (v1 ⊝ v2) (con one) v1 (con nought) (con one) v0 (⊖ v2) refl e f

-- `t * w`
pub tangent_product_is : (r w : Number) → IsSame r (product_of w (unit_of 1 0))
    → IsSame r (product_of tangent w)
tangent_product_is r w e =
    number_ring_from (r ∷ w ∷ []) v0 (v1 ⊗ con tangent) (con one) v0 (con tangent ⊗ v1) refl e

pub wide_tangent : (w : Number) → FitsOver (2 ^ 68) 16 w → IsWide (product_of w (unit_of 1 0))
wide_tangent w f = wide_from_fits (3 * 2 ^ 68) 16 (product_of w tangent) (lit≤ tt) (lit≤ tt)
    (fits_tangent (2 ^ 68) 16 w f)

pub times_nought : (r w : Number) → IsSame r nought → IsSame r (product_of nought w)
times_nought r w e = number_ring_from (r ∷ w ∷ []) v0 (con nought) (con one) v0 (con nought ⊗ v1) refl e

pub times_one : (w : Number) → IsSame w (product_of one w)
times_one w = number_ring (w ∷ []) v0 (con one ⊗ v0) refl

pub times_minus_one : (r w : Number) → IsSame r (negative_of w) → IsSame r (product_of (negative_of one) w)
times_minus_one r w e = number_ring_from (r ∷ w ∷ []) v0 (⊖ v1) (con one) v0 (⊖ con one ⊗ v1) refl e

pub times_minus_tangent : (r z w : Number) → IsSame r (negative_of z) → IsSame z (product_of tangent w)
    → IsSame r (product_of (negative_of tangent) w)
times_minus_tangent r z w e f =
    number_ring_from_two (r ∷ z ∷ w ∷ []) v0 (⊖ v1) (con one) v1 (con tangent ⊗ v2) (con (negative_of one)) v0
    (⊖ con tangent ⊗ v2) refl e f

-- a coordinate of a direction: a product with it is at most three times as great
pub record IsPart (u : Number) : Type 0 where
  pub bound : (most : ℕ) (w : Number) → FitsOver most 16 w → FitsOver (3 * most) 16 (product_of u w)

nought_part : IsPart nought
nought_part = record {
  bound = λ most w f. fits_same (3 * most) 16 nought (product_of nought w)
      (number_ring (w ∷ []) (con nought ⊗ v0) (con nought) refl)
      (record { a = pos 0; b = pos 0; same = (refl, refl); a_fits = omega arith; b_fits = omega arith });
}

one_part : IsPart one
one_part = record {
  bound = λ most w f. fits_same (3 * most) 16 w (product_of one w)
      (number_ring (w ∷ []) (con one ⊗ v0) v0 refl) (fits_more most (3 * most) 16 w (omega arith) f);
}

tangent_part : IsPart tangent
tangent_part = record {
  bound = λ most w f. fits_same (3 * most) 16 (product_of w tangent) (product_of tangent w)
      (number_ring (w ∷ []) (con tangent ⊗ v0) (v0 ⊗ con tangent) refl) (fits_tangent most 16 w f);
}

negative_part : (u : Number) → IsPart u → IsPart (negative_of u)
negative_part u h = record {
  bound = λ most w f. fits_same (3 * most) 16 (negative_of (product_of u w))
      (product_of (negative_of u) w) (number_ring (u ∷ w ∷ []) ((⊖ v0) ⊗ v1) (⊖ (v0 ⊗ v1)) refl)
      (fits_negative (3 * most) 16 (product_of u w) (h.bound most w f));
}

pub part_is : (part : Part) → IsPart (part_number part)
part_is Nought = nought_part
part_is One = one_part
part_is Tangent = tangent_part
part_is MinusOne = negative_part one one_part
part_is MinusTangent = negative_part tangent tangent_part

-- of a product with a coordinate
pub part_fits : (part : Part) (most : ℕ) (r w : Number) → IsSame r (product_of (part_number part) w)
    → FitsOver most 16 w → FitsOver (3 * most) 16 r
part_fits part most r w e f =
    fits_same (3 * most) 16 (product_of (part_number part) w) r e ((part_is part).bound most w f)

pub tangent_fits : (r w : Number) → IsSame r (product_of tangent w) → FitsOver (2 ^ 68) 16 w
    → FitsOver (2 ^ 70) 16 r
tangent_fits r w e f =
    fits_more (3 * 2 ^ 68) (2 ^ 70) 16 r (lit≤ tt)
    (fits_same (3 * 2 ^ 68) 16 (product_of tangent w) r e (tangent_part.bound (2 ^ 68) w f))

upper_parts : (n : ℕ) → IsPart (upper_vector n).x × IsPart (upper_vector n).y
upper_parts zero = (one_part, nought_part)
upper_parts (suc zero) = (one_part, tangent_part)
upper_parts (suc (suc zero)) = (one_part, one_part)
upper_parts (suc (suc (suc zero))) = (tangent_part, one_part)
upper_parts (suc (suc (suc (suc zero)))) = (nought_part, one_part)
upper_parts (suc (suc (suc (suc (suc zero))))) = (negative_part tangent tangent_part, one_part)
upper_parts (suc (suc (suc (suc (suc (suc zero)))))) = (negative_part one one_part, one_part)
upper_parts (suc (suc (suc (suc (suc (suc (suc n))))))) = (negative_part one one_part, tangent_part)

pub direction_parts : (n : ℕ) → IsPart (direction_vector n).x × IsPart (direction_vector n).y
direction_parts n = go (ltb n 8)
  where
    go : (b : Bool) → IsPart (cond b (upper_vector n) (opposite_of (upper_vector (n - 8)))).x
        × IsPart (cond b (upper_vector n) (opposite_of (upper_vector (n - 8)))).y
    go true = upper_parts n
    go false = let h = upper_parts (n - 8) in (negative_part _ h.0, negative_part _ h.1)

-- of the cross product of a direction
pub cross_fits : (n most : ℕ) (r x y : Number)
    → IsSame r (cross_of (direction_vector n) (record { x = x; y = y })) → FitsOver most 16 x
    → FitsOver most 16 y → FitsOver (3 * most + 3 * most) 16 r
cross_fits n most r x y e f g =
    let d = direction_vector n in
    let h = direction_parts n in
    fits_same (3 * most + 3 * most) 16 (difference_of (product_of d.x y) (product_of d.y x)) r e
    (fits_difference (3 * most) (3 * most) 16 (product_of d.x y) (product_of d.y x) (h.0.bound most y g)
    (h.1.bound most x f))

pub dot_fits : (n most : ℕ) (r x y : Number)
    → IsSame r (dot_of (direction_vector n) (record { x = x; y = y })) → FitsOver most 16 x
    → FitsOver most 16 y → FitsOver (3 * most + 3 * most) 16 r
dot_fits n most r x y e f g =
    let d = direction_vector n in
    let h = direction_parts n in
    fits_same (3 * most + 3 * most) 16 (sum_of (product_of d.x x) (product_of d.y y)) r e
    (fits_sum (3 * most) (3 * most) 16 (product_of d.x x) (product_of d.y y) (h.0.bound most x f)
    (h.1.bound most y g))

-- cross and dot products from their parts
pub cross_by : (r m n : Number) (d : Position) (x y : Number) (p q : Number) → p ≡ d.x → q ≡ d.y
    → IsSame m (product_of p y) → IsSame n (product_of q x) → IsSame r (difference_of m n)
    → IsSame r (cross_of d (record { x = x; y = y }))
cross_by r m n d x y p q e f g h k =
    let to_d : IsSame (difference_of m n) (difference_of (product_of d.x y) (product_of d.y x)) =
    difference_of-same m n (product_of d.x y) (product_of d.y x) (subst (λ u. IsSame m (product_of u y)) e g)
    (subst (λ u. IsSame n (product_of u x)) f h) in
    IsSame-trans r (difference_of m n) (difference_of (product_of d.x y) (product_of d.y x)) k to_d

pub dot_by : (r m n : Number) (d : Position) (x y : Number) (p q : Number) → p ≡ d.x → q ≡ d.y
    → IsSame m (product_of p x) → IsSame n (product_of q y) → IsSame r (sum_of m n)
    → IsSame r (dot_of d (record { x = x; y = y }))
dot_by r m n d x y p q e f g h k =
    let to_d : IsSame (sum_of m n) (sum_of (product_of d.x x) (product_of d.y y)) =
    sum_of-same m n (product_of d.x x) (product_of d.y y) (subst (λ u. IsSame m (product_of u x)) e g)
    (subst (λ u. IsSame n (product_of u y)) f h) in
    IsSame-trans r (sum_of m n) (sum_of (product_of d.x x) (product_of d.y y)) k to_d

-- small enough to tell the sign of
pub sgn_fits : (most : ℕ) (x : Number) → IsCanonical x → most ≤ 2 ^ 63 → FitsOver most 16 x → IsWithin 63 20 x
sgn_fits most x least few f = within_from_fits most 16 63 20 x least few (lit≤ tt) f

-- products with a difference of points
pub cross_from_differences : (r : Number) (d p q : Position) (x y : Number) → IsSame x (difference_of q.x p.x)
    → IsSame y (difference_of q.y p.y) → IsSame r (cross_of d (record { x = x; y = y }))
    → IsSame r (cross_of d (vector_of p q))
cross_from_differences r d p q x y e f g =
    let w = vector_of p q in
    IsSame-trans r (difference_of (product_of d.x y) (product_of d.y x)) (cross_of d w) g
    (difference_of-same (product_of d.x y) (product_of d.y x) (product_of d.x w.y) (product_of d.y w.x)
    (product_of-same d.x y d.x w.y (IsSame-refl d.x) f) (product_of-same d.y x d.y w.x (IsSame-refl d.y) e))

pub dot_from_differences : (r : Number) (d p q : Position) (x y : Number) → IsSame x (difference_of q.x p.x)
    → IsSame y (difference_of q.y p.y) → IsSame r (dot_of d (record { x = x; y = y }))
    → IsSame r (dot_of d (vector_of p q))
dot_from_differences r d p q x y e f g =
    let w = vector_of p q in
    IsSame-trans r (sum_of (product_of d.x x) (product_of d.y y)) (dot_of d w) g
    (sum_of-same (product_of d.x x) (product_of d.y y) (product_of d.x w.x) (product_of d.y w.y)
    (product_of-same d.x x d.x w.x (IsSame-refl d.x) e) (product_of-same d.y y d.y w.y (IsSame-refl d.y) f))
