-- Products with matrices, part by part.
use Rattle.std.proofs.Common.{◌≡◌, ℕ, Bool, true, false, cond, [], ◌∷◌, refl, subst, sym}
use Rattle.surd_number.specs.Number.{Number, IsSame, sum_of, difference_of, product_of, negative_of, half_root}
use Rattle.surd_number.specs.RingTool.{◌⊕◌, ◌⊝◌, ◌⊗◌, ⊖◌, con, v0, v1, v2, v3, v4, v5, v6}
use Rattle.surd_number.specs.NumberLaws.{number_ring, number_ring_from, number_ring_from_two, number_ring_from_three}
use Rattle.plane_geometry.specs.Position.{Position}
use Rattle.plane_geometry.specs.Direction.{one, nought}
use Rattle.plane_geometry.specs.Multiple.{IsSameVector}
use Rattle.isometry_map.specs.Linear.{is_reflection}
use Rattle.isometry_map.specs.Matrix.{cosine, sine, rotation_matrix, reflection_matrix, matrix_of, image_of}

-- ---- zero, negatives, products with entries

pub nothing_by : (r w : Number) → IsSame r (difference_of w w) → IsSame r nought
nothing_by r w e = number_ring_from (r ∷ w ∷ []) v0 (v1 ⊝ v1) (con one) v0 (con nought) refl e

pub negative_by : (r z w : Number) → IsSame r (difference_of z w) → IsSame z nought → IsSame r (negative_of w)
negative_by r z w e f =
    number_ring_from_two (r ∷ z ∷ w ∷ []) v0 (v1 ⊝ v2) (con one) v1 (con nought) (con one) v0 (⊖ v2) refl e f

pub times_nought : (r w : Number) → IsSame r nought → IsSame r (product_of nought w)
times_nought r w e = number_ring_from (r ∷ w ∷ []) v0 (con nought) (con one) v0 (con nought ⊗ v1) refl e

pub times_one : (w : Number) → IsSame w (product_of one w)
times_one w = number_ring (w ∷ []) v0 (con one ⊗ v0) refl

pub times_root : (r w : Number) → IsSame r (product_of w half_root) → IsSame r (product_of half_root w)
times_root r w e = number_ring_from (r ∷ w ∷ []) v0 (v1 ⊗ con half_root) (con one) v0
    (con half_root ⊗ v1) refl e

pub times_minus_one : (r w : Number) → IsSame r (negative_of w) → IsSame r (product_of (negative_of one) w)
times_minus_one r w e = number_ring_from (r ∷ w ∷ []) v0 (⊖ v1) (con one) v0 (⊖ con one ⊗ v1) refl e

pub times_minus_root : (r z w : Number) → IsSame r (negative_of z) → IsSame z (product_of w half_root)
    → IsSame r (product_of (negative_of half_root) w)
times_minus_root r z w e f =
    number_ring_from_two (r ∷ z ∷ w ∷ []) v0 (⊖ v1) (con one) v1 (v2 ⊗ con half_root)
    (con (negative_of one)) v0 (⊖ con half_root ⊗ v2) refl e f

pub entry_product : (r x u w : Number) → u ≡ w → IsSame r (product_of u x) → IsSame r (product_of w x)
entry_product r x u w e h = subst (λ (v : Number). IsSame r (product_of v x)) e h

-- ---- rows of a matrix

by_sum : (r a p c x s y : Number) → IsSame r (sum_of a p) → IsSame a (product_of c x)
    → IsSame p (product_of s y) → IsSame r (sum_of (product_of c x) (product_of s y))
by_sum r a p c x s y e f g =
    number_ring_from_three (r ∷ a ∷ p ∷ c ∷ x ∷ s ∷ y ∷ []) v0 (v1 ⊕ v2) (con one) v1 (v3 ⊗ v4) (con one) v2
    (v5 ⊗ v6) (con one) v0 (v3 ⊗ v4 ⊕ v5 ⊗ v6) refl e f g

by_difference : (r a p c x s y : Number) → IsSame r (difference_of a p) → IsSame a (product_of c x)
    → IsSame p (product_of s y) → IsSame r (sum_of (product_of c x) (product_of (negative_of s) y))
by_difference r a p c x s y e f g =
    number_ring_from_three (r ∷ a ∷ p ∷ c ∷ x ∷ s ∷ y ∷ []) v0 (v1 ⊝ v2) (con one) v1 (v3 ⊗ v4) (con one) v2
    (v5 ⊗ v6) (con (negative_of one)) v0 (v3 ⊗ v4 ⊕ (⊖ v5) ⊗ v6) refl e f g

-- the four products that an image is made of: c and s with the coordinates of v
pub record Products (n : ℕ) (v : Position) (cx sx cy sy : Number) : Type 0 where
  pub cx_is : IsSame cx (product_of (cosine n) v.x)
  pub sx_is : IsSame sx (product_of (sine n) v.x)
  pub cy_is : IsSame cy (product_of (cosine n) v.y)
  pub sy_is : IsSame sy (product_of (sine n) v.y)

pub reflected : (n : ℕ) (v : Position) (cx sx cy sy x y : Number) → is_reflection n ≡ true
    → Products n v cx sx cy sy → IsSame x (sum_of cx sy) → IsSame y (difference_of sx cy)
    → IsSameVector (record { x = x; y = y }) (image_of (matrix_of n) v)
reflected n v cx sx cy sy x y b h e f =
    subst (λ (t : Bool). IsSameVector (record { x = x; y = y })
    (image_of (cond t (reflection_matrix n) (rotation_matrix n)) v)) (sym b) (
      by_sum x cx sy (cosine n) v.x (sine n) v.y e h.cx_is h.sy_is,
      by_difference y sx cy (sine n) v.x (cosine n) v.y f h.sx_is h.cy_is,
    )

pub rotated : (n : ℕ) (v : Position) (cx sx cy sy x y : Number) → is_reflection n ≡ false
    → Products n v cx sx cy sy → IsSame x (difference_of cx sy) → IsSame y (sum_of sx cy)
    → IsSameVector (record { x = x; y = y }) (image_of (matrix_of n) v)
rotated n v cx sx cy sy x y b h e f =
    subst (λ (t : Bool). IsSameVector (record { x = x; y = y })
    (image_of (cond t (reflection_matrix n) (rotation_matrix n)) v)) (sym b) (
      by_difference x cx sy (cosine n) v.x (sine n) v.y e h.cx_is h.sy_is,
      by_sum y sx cy (sine n) v.x (cosine n) v.y f h.sx_is h.cy_is,
    )
