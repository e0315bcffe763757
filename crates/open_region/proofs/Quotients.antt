-- Bounds as limits: a bound whose slope is a cross product of two directions is a limit, its offset divided by a unit.
use Rattle.std.proofs.Common.{◌≡◌, ◌↔◌, ℕ, ◌<◌, [], ◌∷◌, pos, refl, sym, subst, ◌∙◌}
use Rattle.surd_number.specs.declared.Sgn.TheVariants.{Pos}
use Rattle.surd_number.specs.Number.{Number, IsSame, IsLess, whole, difference_of, product_of, negative_of, sign_of, unit_of, unit_inverse_of}
use Rattle.surd_number.specs.RingTool.{◌⊝◌, ◌⊗◌, ⊖◌, con, v0, v1, v2, v3, v4, v5, v6}
use Rattle.surd_number.specs.NumberLaws.{number_ring, number_ring_from_three, unit_of-inverse, negative_of-same, IsSame-trans}
use Rattle.surd_number.specs.SignLaws.{sign_of-same, sign_of-product_positive_right, unit_of-positive}
use Rattle.plane_geometry.specs.Position.{Position, cross_of}
use Rattle.plane_geometry.specs.Direction.{direction_vector}
use Rattle.plane_geometry.specs.CrossTable.{cross_tangents, cross_roots}
use Rattle.plane_geometry.specs.CrossLaws.{direction_cross}
use Rattle.open_region.specs.Bound.{HoldsAt}

-- x is less than y where a positive multiple of x - y is the difference of r and s, and r is less than s
pub less_by : (x y r s u : Number) → sign_of u ≡ Pos
    → IsSame (product_of (difference_of x y) u) (difference_of r s) → IsLess x y ↔ IsLess r s
less_by x y r s u positive e =
    let signs : sign_of (difference_of x y)
    ≡ sign_of (difference_of r s) =
    sym (sign_of-product_positive_right (difference_of x y) u positive)
    ∙ sign_of-same (product_of (difference_of x y) u) (difference_of r s) e in
    (λ less. sym signs ∙ less, λ less. signs ∙ less)

-- the same difference
pub less_as : (x y r s : Number) → IsSame (difference_of x y) (difference_of r s) → IsLess x y ↔ IsLess r s
less_as x y r s e =
    let signs : sign_of (difference_of x y)
    ≡ sign_of (difference_of r s) = sign_of-same (difference_of x y) (difference_of r s) e in
    (λ less. sym signs ∙ less, λ less. signs ∙ less)

-- the limit l is (f - g) / u, with v the inverse of u, and the slope s is u
rising : (f g l s u v y : Number) → sign_of u ≡ Pos → IsSame (product_of u v) (whole (pos 1)) → IsSame s u
    → IsSame l (product_of (difference_of f g) v) → IsLess l y ↔ IsLess (difference_of f g) (product_of s y)
rising f g l s u v y positive inverse slope limit =
    less_by l y (difference_of f g) (product_of s y) u positive
    (number_ring_from_three (f ∷ g ∷ l ∷ s ∷ u ∷ v ∷ y ∷ []) v2 ((v0 ⊝ v1) ⊗ v5) v4 (v4 ⊗ v5)
    (con (whole (pos 1))) (v0 ⊝ v1) v3 v4 v6
    ((v2 ⊝ v6) ⊗ v4) ((v0 ⊝ v1) ⊝ v3 ⊗ v6) refl limit inverse slope)

-- the slope is -u, and the limit is (g - f) / u
falling : (f g l s u v y : Number) → sign_of u ≡ Pos → IsSame (product_of u v) (whole (pos 1))
    → IsSame s (negative_of u) → IsSame l (product_of (difference_of g f) v)
    → IsLess y l ↔ IsLess (difference_of f g) (product_of s y)
falling f g l s u v y positive inverse slope limit =
    less_by y l (difference_of f g) (product_of s y) u positive
    (number_ring_from_three (f ∷ g ∷ l ∷ s ∷ u ∷ v ∷ y ∷ []) v2 ((v1 ⊝ v0) ⊗ v5) (⊖ v4) (v4 ⊗ v5)
    (con (whole (pos 1))) (v0 ⊝ v1) v3 (⊖ v4) v6
    ((v6 ⊝ v2) ⊗ v4) ((v0 ⊝ v1) ⊝ v3 ⊗ v6) refl limit inverse slope)

-- the slope is zero
pub level : (u : Position) (f g y : Number)
    → IsLess f g ↔ IsLess (difference_of f g) (product_of (cross_of u u) y)
level u f g y =
    less_as f g (difference_of f g) (product_of (cross_of u u) y)
    (number_ring (u.x ∷ u.y ∷ f ∷ g ∷ y ∷ []) (v2 ⊝ v3) ((v2 ⊝ v3) ⊝ (v0 ⊗ v1 ⊝ v1 ⊗ v0) ⊗ v4) refl)

cross_turned : (u v : Position) → IsSame (cross_of u v) (negative_of (cross_of v u))
cross_turned u v = number_ring (u.x ∷ u.y ∷ v.x ∷ v.y ∷ []) (v0 ⊗ v3 ⊝ v1 ⊗ v2) (⊖ (v2 ⊗ v1 ⊝ v3 ⊗ v0)) refl

module _ (m n i j : ℕ) (few_m : m < 8) (few_n : n < 8) (f g l y : Number) where
  pub rising_bound : m < n → i ≡ cross_tangents m n → j ≡ cross_roots m n
      → IsSame l (product_of (difference_of f g) (unit_inverse_of i j))
      → IsLess l y ↔ HoldsAt y (record {
        slope = cross_of (direction_vector m) (direction_vector n);
        offset = difference_of f g;
      })
  rising_bound later at_i at_j limit =
      let s = cross_of (direction_vector m) (direction_vector n) in
      let slope : IsSame s (unit_of i j) = subst (λ k. IsSame s (unit_of k j)) (sym at_i)
      (subst (λ k. IsSame s (unit_of (cross_tangents m n) k)) (sym at_j)
      (direction_cross m n later few_n)) in
      rising f g l s (unit_of i j) (unit_inverse_of i j) y (unit_of-positive i j)
      (unit_of-inverse i j) slope limit

  pub falling_bound : n < m → i ≡ cross_tangents n m → j ≡ cross_roots n m
      → IsSame l (product_of (difference_of g f) (unit_inverse_of i j))
      → IsLess y l ↔ HoldsAt y (record {
        slope = cross_of (direction_vector m) (direction_vector n);
        offset = difference_of f g;
      })
  falling_bound later at_i at_j limit =
      let s = cross_of (direction_vector m) (direction_vector n) in
      let t = cross_of (direction_vector n) (direction_vector m) in
      let turned : IsSame t (unit_of i j) = subst (λ k. IsSame t (unit_of k j)) (sym at_i)
      (subst (λ k. IsSame t (unit_of (cross_tangents n m) k)) (sym at_j)
      (direction_cross n m later few_m)) in
      let slope : IsSame s (negative_of (unit_of i j)) = IsSame-trans s (negative_of t)
      (negative_of (unit_of i j)) (cross_turned (direction_vector m) (direction_vector n))
      (negative_of-same t (unit_of i j) turned) in
      falling f g l s (unit_of i j) (unit_inverse_of i j) y (unit_of-positive i j)
      (unit_of-inverse i j) slope limit

  pub level_bound : n ≡ m
      → IsLess f g ↔ HoldsAt y (record {
        slope = cross_of (direction_vector m) (direction_vector n);
        offset = difference_of f g;
      })
  level_bound same = subst
      (λ k. IsLess f g ↔ HoldsAt y (record {
        slope = cross_of (direction_vector m) (direction_vector k);
        offset = difference_of f g;
      })) (sym same) (level (direction_vector m) f g y)
