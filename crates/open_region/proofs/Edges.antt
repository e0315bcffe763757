-- Lines in the 16 directions by their offsets, and what is strictly left of them.
use Rattle.std.proofs.Common.{◌≡◌, ◌↔◌, ℕ, ◌-◌, ◌%◌, ◌<◌, ◌≤◌, cond, [], ◌∷◌, pos, inl, inr, refl, sym, ap, subst, ◌∙◌, arith}
use Rattle.std.proofs.lemmas.Bool.{cases_lt, lt-ltb, le-ltb}
use Rattle.surd_number.specs.declared.Sgn.TheVariants.{Pos}
use Rattle.surd_number.specs.Number.{Number, IsSame, IsLess, whole, sum_of, difference_of, product_of, negative_of}
use Rattle.surd_number.specs.RingTool.{◌⊕◌, ◌⊝◌, ◌⊗◌, ⊖◌, con, v0, v1, v2, v3, v4, v5, v6, v7, v8}
use Rattle.surd_number.specs.NumberLaws.{number_ring, number_ring_from, difference_of-same, negative_of-same, IsSame-refl, IsSame-trans}
use Rattle.surd_number.specs.SignLaws.{IsLess-positive}
use Rattle.plane_geometry.specs.Position.{Position, opposite_of, cross_of}
use Rattle.plane_geometry.specs.Direction.{direction_vector, upper_vector, side_of}
use Rattle.plane_geometry.specs.CrossLaws.{cross_opposite}
use Rattle.plane_geometry.specs.LineLaws.{through_side}
use Rattle.open_region.specs.Bound.{HoldsAt}
use Rattle.open_region.specs.Region.{turned_offset, IsBeyond}
use Rattle.open_region.specs.Strip.{point_along}
use Rattle.open_region.proofs.Quotients.{less_as}

-- ---- directions below 8 and their opposites

pub upper_is : (n : ℕ) → n < 8 → direction_vector n ≡ upper_vector n
upper_is n few = ap (λ b. cond b (upper_vector n) (opposite_of (upper_vector (n - 8)))) (lt-ltb n 8 few)

pub lower_is : (n : ℕ) → 8 ≤ n → n < 16 → direction_vector n ≡ opposite_of (direction_vector (n - 8))
lower_is n many few =
    ap (λ b. cond b (upper_vector n) (opposite_of (upper_vector (n - 8)))) (le-ltb n 8 many)
    ∙ ap opposite_of (sym (upper_is (n - 8) (omega arith)))

pub first_offset : (n : ℕ) (o : Number) → n < 8 → turned_offset n o ≡ o
first_offset n o few = ap (λ b. cond b o (negative_of o)) (lt-ltb n 8 few)

pub second_offset : (n : ℕ) (o : Number) → 8 ≤ n → turned_offset n o ≡ negative_of o
second_offset n o many = ap (λ b. cond b o (negative_of o)) (le-ltb n 8 many)

-- the offset of a line through p, turned to its direction
pub through_turned : (n k : ℕ) (o : Number) (p : Position) → n < 16 → k ≡ n % 8
    → IsSame o (cross_of (direction_vector k) p)
    → IsSame (turned_offset n o) (cross_of (direction_vector n) p)
through_turned n k o p few at e =
    elim (cases_lt n 8) [
      | inl less ↦ (
          let same : k ≡ n = omega arith in
          subst (λ t. IsSame t (cross_of (direction_vector n) p)) (sym (first_offset n o less))
          (subst (λ i. IsSame o (cross_of (direction_vector i) p)) same e))
      | inr many ↦ (
          let same : k ≡ n - 8 = omega arith in
          let d = direction_vector (n - 8) in
          let e' : IsSame o (cross_of d p) = subst (λ i. IsSame o (cross_of (direction_vector i) p)) same e in
          subst (λ t. IsSame t (cross_of (direction_vector n) p)) (sym (second_offset n o many))
          (subst (λ v. IsSame (negative_of o) (cross_of v p)) (sym (lower_is n many few))
          (IsSame-trans (negative_of o) (negative_of (cross_of d p)) (cross_of (opposite_of d) p)
          (negative_of-same o (cross_of d p) e') (cross_opposite d p))))
    ]

-- ---- comparisons of offsets

negated_less : (x y : Number) → IsLess x y ↔ IsLess (negative_of y) (negative_of x)
negated_less x y = less_as x y (negative_of y) (negative_of x)
    (number_ring (x ∷ y ∷ []) (v0 ⊝ v1) (⊖ v1 ⊝ ⊖ v0) refl)

pub turned_less : (n : ℕ) (x y : Number) → 8 ≤ n → IsLess x y ↔ IsLess (turned_offset n y) (turned_offset n x)
turned_less n x y many =
    subst (λ t. IsLess x y ↔ IsLess t (turned_offset n x)) (sym (second_offset n y many))
    (subst (λ t. IsLess x y ↔ IsLess (negative_of y) t) (sym (second_offset n x many)) (negated_less x y))

pub less_right_same : (x y z : Number) → IsSame y z → IsLess x y ↔ IsLess x z
less_right_same x y z e = less_as x y x z (difference_of-same x y x z (IsSame-refl x) e)

-- left of a line through p, by the side of p
pub left_is_side : (n : ℕ) (o : Number) (p q : Position) → IsSame o (cross_of (direction_vector n) p)
    → IsBeyond o n q ↔ (side_of p n q ≡ Pos)
left_is_side n o p q e =
    let h = IsLess-positive o (cross_of (direction_vector n) q) in
    let side = through_side n o p q e in
    (λ less. sym side ∙ h.0 less, λ positive. h.1 (side ∙ positive))

-- ---- along a line

-- the same bound with equal numbers in its offset
pub offsets_as : {L : Type 0} (s o f x y z : Number) → x ≡ o → y ≡ f
    → HoldsAt z (record { slope = s; offset = difference_of o f }) ↔ L
    → HoldsAt z (record { slope = s; offset = difference_of x y }) ↔ L
offsets_as {L} s o f x y z at at' h =
    let P : Number → Number
    → Type 0 = λ u v. HoldsAt z (record { slope = s; offset = difference_of u v }) ↔ L in
    subst (λ u. P u y) (sym at) (subst (P o) (sym at') h)

-- n x (q + z * e) is n x q + z * (n x e)
cross_along : (d e q : Position) (f z o : Number) → IsSame f (cross_of d q)
    → IsSame (difference_of (difference_of o f) (product_of (cross_of d e) z))
    (difference_of o (cross_of d (record {
      x = sum_of q.x (product_of z e.x);
      y = sum_of q.y (product_of z e.y);
    })))
cross_along d e q f z o h =
    number_ring_from (d.x ∷ d.y ∷ e.x ∷ e.y ∷ q.x ∷ q.y ∷ f ∷ z ∷ o ∷ []) v6 (v0 ⊗ v5 ⊝ v1 ⊗ v4)
    (con (negative_of (whole (pos 1))))
    ((v8 ⊝ v6) ⊝ (v0 ⊗ v3 ⊝ v1 ⊗ v2) ⊗ v7) (v8 ⊝ (v0 ⊗ (v5 ⊕ v7 ⊗ v3) ⊝ v1 ⊗ (v4 ⊕ v7 ⊗ v2))) refl h

cross_along_opposite : (d e q : Position) (f z o : Number)
    → IsSame (negative_of f) (cross_of (opposite_of d) q)
    → IsSame (difference_of (difference_of f o) (product_of (cross_of e d) z))
    (difference_of (negative_of o)
    (cross_of (opposite_of d) (record {
      x = sum_of q.x (product_of z e.x);
      y = sum_of q.y (product_of z e.y);
    })))
cross_along_opposite d e q f z o h =
    number_ring_from (d.x ∷ d.y ∷ e.x ∷ e.y ∷ q.x ∷ q.y ∷ f ∷ z ∷ o ∷ []) (⊖ v6) (⊖ v0 ⊗ v5 ⊝ ⊖ v1 ⊗ v4)
    (con (negative_of (whole (pos 1))))
    ((v6 ⊝ v8) ⊝ (v2 ⊗ v1 ⊝ v3 ⊗ v0) ⊗ v7) (⊖ v8 ⊝ (⊖ v0 ⊗ (v5 ⊕ v7 ⊗ v3) ⊝ ⊖ v1 ⊗ (v4 ⊕ v7 ⊗ v2))) refl h

module _ (n along : ℕ) (q : Position) (o f z : Number)
    (through : IsSame (turned_offset n f) (cross_of (direction_vector n) q)) where
  pub left_along : n < 8
      → HoldsAt z (record {
        slope = cross_of (direction_vector n) (direction_vector along);
        offset = difference_of o f;
      }) ↔ IsBeyond (turned_offset n o) n (point_along q along z)
  left_along few =
      let d = direction_vector n in
      let e = direction_vector along in
      let f_is : IsSame f (cross_of d q) = subst (λ t. IsSame t (cross_of d q)) (first_offset n f few) through
      in
      subst (λ t. HoldsAt z (record { slope = cross_of d e; offset = difference_of o f })
      ↔ IsBeyond t n (point_along q along z)) (sym (first_offset n o few))
      (less_as (difference_of o f) (product_of (cross_of d e) z) o (cross_of d (point_along q along z))
      (cross_along d e q f z o f_is))

  pub left_along_opposite : 8 ≤ n → n < 16
      → HoldsAt z (record {
        slope = cross_of (direction_vector along) (direction_vector (n - 8));
        offset = difference_of f o;
      }) ↔ IsBeyond (turned_offset n o) n (point_along q along z)
  left_along_opposite many few =
      let d = direction_vector (n - 8) in
      let e = direction_vector along in
      let at = lower_is n many few in
      let f_is : IsSame (negative_of f) (cross_of (opposite_of d) q) = subst
      (λ t. IsSame t (cross_of (opposite_of d) q)) (second_offset n f many)
      (subst (λ v. IsSame (turned_offset n f) (cross_of v q)) at through) in
      let p = point_along q along z in
      let here : HoldsAt z (record { slope = cross_of e d; offset = difference_of f o })
      ↔ IsLess (negative_of o) (cross_of (opposite_of d) p) =
      less_as (difference_of f o) (product_of (cross_of e d) z) (negative_of o) (cross_of (opposite_of d) p)
      (cross_along_opposite d e q f z o f_is) in
      subst (λ t. HoldsAt z (record { slope = cross_of e d; offset = difference_of f o }) ↔ IsBeyond t n p)
      (sym (second_offset n o many))
      (subst (λ v. HoldsAt z (record { slope = cross_of e d; offset = difference_of f o })
      ↔ IsLess (negative_of o) (cross_of v p)) (sym at) here)
