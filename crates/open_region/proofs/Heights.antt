-- Heights of the points of a region: the bounds on y that are left when x is eliminated.
use Rattle.std.proofs.Common.{◌≡◌, ◌↔◌, ℕ, zero, suc, ◌+◌, ◌-◌, ◌<◌, ◌≤◌, [], ◌∷◌, Option, Some, None, IfSome, length, get_or, pos, inl, inr, refl, ap, subst, sym, ◌∙◌, arith}
use Rattle.std.specs.Option.{option_map}
use Rattle.std.proofs.lemmas.Bool.{cases_lt}
use Rattle.std.proofs.lemmas.List.{get_or_default}
use Rattle.surd_number.specs.declared.Sgn.TheVariants.{Pos}
use Rattle.surd_number.specs.Number.{Number, IsSame, IsLess, whole, tangent, difference_of, product_of, negative_of, sign_of}
use Rattle.surd_number.specs.RingTool.{◌⊕◌, ◌⊝◌, ◌⊗◌, ⊖◌, con, v0, v1, v2, v3, v4, v5, v6, v7, v8}
use Rattle.surd_number.specs.NumberLaws.{number_ring, number_ring_from, number_ring_from_two, difference_of-same, IsSame-refl}
use Rattle.surd_number.specs.SignLaws.{IsLess-trans, sign_of-product_positive}
use Rattle.plane_geometry.specs.Position.{Position, opposite_of, cross_of}
use Rattle.plane_geometry.specs.Direction.{direction_vector}
use Rattle.open_region.specs.declared.Region.{Region}
use Rattle.open_region.specs.declared.edge.Edge.{Edge}
use Rattle.open_region.specs.Bound.{HoldsAt}
use Rattle.open_region.specs.EdgeView.{line_offset_of}
use Rattle.open_region.specs.Region.{edge_at, offset_at, turned_offset, IsBeyond, IsLeftOfLine, IsInRegion}
use Rattle.open_region.specs.Strip.{point_along, origin, strip_bound, IsLevel, HoldsAcross, IsCrossed}
use Rattle.open_region.proofs.Between.{one_dimension}
use Rattle.open_region.proofs.Quotients.{less_as, less_by}
use Rattle.open_region.proofs.Edges.{lower_is, first_offset, second_offset, less_right_same}

-- ---- the second coordinates of directions

pub rise_first : (k : ℕ) → k ≡ 1 → (direction_vector k).y ≡ tangent
rise_first k e = ap (λ n. (direction_vector n).y) e

pub rise_last : (k : ℕ) → k ≡ 7 → (direction_vector k).y ≡ tangent
rise_last k e = ap (λ n. (direction_vector n).y) e

pub rise_one : (k : ℕ) → 2 ≤ k → k < 7 → (direction_vector k).y ≡ whole (pos 1)
rise_one zero many few = absurd (omega arith)
rise_one (suc zero) many few = absurd (omega arith)
rise_one (suc (suc zero)) many few = refl
rise_one (suc (suc (suc zero))) many few = refl
rise_one (suc (suc (suc (suc zero)))) many few = refl
rise_one (suc (suc (suc (suc (suc zero))))) many few = refl
rise_one (suc (suc (suc (suc (suc (suc zero)))))) many few = refl
rise_one (suc (suc (suc (suc (suc (suc (suc k))))))) many few = absurd (omega arith)

-- its inverse, of direction k + 1
abbrev rise_inverse : ℕ → Number
rise_inverse zero = record { a = pos 1; b = pos 1; k = 0 }
rise_inverse (suc zero) = whole (pos 1)
rise_inverse (suc (suc zero)) = whole (pos 1)
rise_inverse (suc (suc (suc zero))) = whole (pos 1)
rise_inverse (suc (suc (suc (suc zero)))) = whole (pos 1)
rise_inverse (suc (suc (suc (suc (suc zero))))) = whole (pos 1)
rise_inverse (suc (suc (suc (suc (suc (suc k)))))) = record { a = pos 1; b = pos 1; k = 0 }

rise_product : (k : ℕ) → k < 7
    → IsSame (product_of (direction_vector (suc k)).y (rise_inverse k)) (whole (pos 1))
rise_product zero few = (refl, refl)
rise_product (suc zero) few = (refl, refl)
rise_product (suc (suc zero)) few = (refl, refl)
rise_product (suc (suc (suc zero))) few = (refl, refl)
rise_product (suc (suc (suc (suc zero)))) few = (refl, refl)
rise_product (suc (suc (suc (suc (suc zero))))) few = (refl, refl)
rise_product (suc (suc (suc (suc (suc (suc zero)))))) few = (refl, refl)
rise_product (suc (suc (suc (suc (suc (suc (suc k))))))) few = absurd (omega arith)

rise_positive : (k : ℕ) → k < 7 → sign_of (direction_vector (suc k)).y ≡ Pos
rise_positive zero few = refl
rise_positive (suc zero) few = refl
rise_positive (suc (suc zero)) few = refl
rise_positive (suc (suc (suc zero))) few = refl
rise_positive (suc (suc (suc (suc zero)))) few = refl
rise_positive (suc (suc (suc (suc (suc zero))))) few = refl
rise_positive (suc (suc (suc (suc (suc (suc zero)))))) few = refl
rise_positive (suc (suc (suc (suc (suc (suc (suc k))))))) few = absurd (omega arith)

-- ---- the bound of two lines

-- what was read there
pub edge_read : (r : Region) (n : ℕ) (e : Edge) (d : Option Edge) → n < length r.edges
    → get_or r.edges n d ≡ Some e → edge_at r n ≡ Some e
edge_read r n e d inside h = get_or_default r.edges n None d inside ∙ h

pub across_is : (r : Region) (n : ℕ) (right : Number) (k : ℕ) (left : Edge) (first second y : Number)
    → edge_at r (k + 8) ≡ Some left → IsSame first (product_of (direction_vector k).y right)
    → IsSame second (product_of (direction_vector n).y (line_offset_of left))
    → HoldsAt y (record {
      slope = cross_of (direction_vector n) (direction_vector k);
      offset = difference_of first second;
    }) ↔ HoldsAcross r n right k y
across_is r n right k left first second y at e f =
    let u = product_of (direction_vector k).y right in
    let v = product_of (direction_vector n).y (line_offset_of left) in
    let s = product_of (cross_of (direction_vector n) (direction_vector k)) y in
    let bound : HoldsAt y
    (record {
      slope = cross_of (direction_vector n) (direction_vector k);
      offset = difference_of first second;
    }) ↔ HoldsAt y (strip_bound n right k (line_offset_of left)) =
    less_as (difference_of first second) s (difference_of u v) s
    (difference_of-same (difference_of first second) s (difference_of u v) s
    (difference_of-same first second u v e f) (IsSame-refl s)) in
    subst (λ (o : Option Edge). HoldsAt y
    (record {
      slope = cross_of (direction_vector n) (direction_vector k);
      offset = difference_of first second;
    })
    ↔ IfSome o (λ l. HoldsAt y (strip_bound n right k (line_offset_of l)))) (sym at) bound

-- ---- where a line meets the height y

-- the first coordinate there, for a line in direction d of offset o, with w the inverse of d.y
limit_at : Position → Number → Number → Number → Number
limit_at d w y o = product_of (difference_of (product_of d.x y) o) w

-- left of the line is on the lesser side of it
right_limit : (d : Position) (w x y o : Number) → sign_of d.y ≡ Pos
    → IsSame (product_of d.y w) (whole (pos 1))
    → IsLess o (cross_of d (record { x = x; y = y })) ↔ IsLess x (limit_at d w y o)
unfolding limit_at
right_limit d w x y o positive inverse =
    let h = less_by x (limit_at d w y o) o (cross_of d (record { x = x; y = y })) d.y positive
    (number_ring_from (d.x ∷ d.y ∷ w ∷ x ∷ y ∷ o ∷ []) (v1 ⊗ v2) (con (whole (pos 1))) (⊖ (v0 ⊗ v4 ⊝ v5))
    ((v3 ⊝ (v0 ⊗ v4 ⊝ v5) ⊗ v2) ⊗ v1) (v5 ⊝ (v0 ⊗ v4 ⊝ v1 ⊗ v3)) refl inverse) in
    (h.1, h.0)

-- left of the opposite line is on its greater side
left_limit : (d : Position) (w x y o : Number) → sign_of d.y ≡ Pos → IsSame (product_of d.y w) (whole (pos 1))
    → IsLess (negative_of o) (cross_of (opposite_of d) (record { x = x; y = y }))
    ↔ IsLess (limit_at d w y o) x
unfolding limit_at
left_limit d w x y o positive inverse =
    let h = less_by (limit_at d w y o) x (negative_of o)
    (cross_of (opposite_of d) (record { x = x; y = y })) d.y positive
    (number_ring_from (d.x ∷ d.y ∷ w ∷ x ∷ y ∷ o ∷ []) (v1 ⊗ v2) (con (whole (pos 1))) (v0 ⊗ v4 ⊝ v5)
    (((v0 ⊗ v4 ⊝ v5) ⊗ v2 ⊝ v3) ⊗ v1) (⊖ v5 ⊝ (⊖ v0 ⊗ v4 ⊝ ⊖ v1 ⊗ v3)) refl inverse) in
    (h.1, h.0)

-- one is less than the other where the bound of the two lines holds
strip_limits : (d e : Position) (w z y right left : Number) → sign_of d.y ≡ Pos → sign_of e.y ≡ Pos
    → IsSame (product_of d.y w) (whole (pos 1)) → IsSame (product_of e.y z) (whole (pos 1))
    → IsLess (limit_at e z y left) (limit_at d w y right)
    ↔ HoldsAt y (record {
      slope = cross_of d e;
      offset = difference_of (product_of e.y right) (product_of d.y left);
    })
unfolding limit_at
strip_limits d e w z y right left positive positive' inverse inverse' =
    less_by (limit_at e z y left) (limit_at d w y right)
    (difference_of (product_of e.y right) (product_of d.y left)) (product_of (cross_of d e) y)
    (product_of e.y d.y)
    (sign_of-product_positive e.y d.y positive' ∙ positive)
    (number_ring_from_two (d.x ∷ d.y ∷ e.x ∷ e.y ∷ w ∷ z ∷ y ∷ right ∷ left ∷ []) (v1 ⊗ v4)
    (con (whole (pos 1))) (⊖ ((v0 ⊗ v6 ⊝ v7) ⊗ v3)) (v3 ⊗ v5) (con (whole (pos 1))) ((v2 ⊗ v6 ⊝ v8) ⊗ v1)
    (((v2 ⊗ v6 ⊝ v8) ⊗ v5 ⊝ (v0 ⊗ v6 ⊝ v7) ⊗ v4) ⊗ (v3 ⊗ v1))
    ((v3 ⊗ v7 ⊝ v1 ⊗ v8) ⊝ (v0 ⊗ v3 ⊝ v1 ⊗ v2) ⊗ v6) refl inverse inverse')

-- ---- the lines of a region at a height

map_iff : {A : Type 0} (f g : A → Number) (P Q : Number → Type 0) (o : Option A)
    → ((a : A) → P (f a) ↔ Q (g a)) → IfSome (option_map f o) P ↔ IfSome (option_map g o) Q
map_iff f g P Q None h = ((λ t. tt), λ t. tt)
map_iff f g P Q (Some a) h = h a

module _ (r : Region) (y : Number) where
  -- of direction k + 1
  limit_of_edge : ℕ → Edge → Number
  limit_of_edge k e = limit_at (direction_vector (suc k)) (rise_inverse k) y (line_offset_of e)

  -- the first coordinates less than which the points are, and those above which they are
  abbrev upper : ℕ → Option Number
  upper k = option_map (limit_of_edge k) (edge_at r (suc k))

  abbrev lower : ℕ → Option Number
  lower k = option_map (limit_of_edge k) (edge_at r (suc k + 8))

  upper_iff : (k : ℕ) (x : Number) → k < 7
      → IfSome (offset_at r (suc k)) (λ o. IsBeyond o (suc k) (record { x = x; y = y }))
      ↔ IfSome (upper k) (λ u. IsLess x u)
  unfolding limit_of_edge
  upper_iff k x few =
      map_iff (λ e. turned_offset (suc k) (line_offset_of e)) (limit_of_edge k)
      (λ o. IsBeyond o (suc k) (record { x = x; y = y })) (λ u. IsLess x u) (edge_at r (suc k))
      (λ e. subst (λ o. IsBeyond o (suc k) (record { x = x; y = y }) ↔ IsLess x (limit_of_edge k e))
      (sym (first_offset (suc k) (line_offset_of e) (omega arith)))
      (right_limit (direction_vector (suc k)) (rise_inverse k) x y (line_offset_of e) (rise_positive k few)
      (rise_product k few)))

  lower_iff : (k : ℕ) (x : Number) → k < 7
      → IfSome (offset_at r (suc k + 8)) (λ o. IsBeyond o (suc k + 8) (record { x = x; y = y }))
      ↔ IfSome (lower k) (λ l. IsLess l x)
  unfolding limit_of_edge
  lower_iff k x few =
      let n = suc k + 8 in
      let p : Position = record { x = x; y = y } in
      let same : n - 8 ≡ suc k = omega arith in
      let back : direction_vector (n - 8) ≡ direction_vector (suc k) = ap direction_vector same in
      let turned : direction_vector n
      ≡ opposite_of (direction_vector (suc k)) =
      lower_is n (omega arith) (omega arith) ∙ ap opposite_of back in
      map_iff (λ e. turned_offset n (line_offset_of e)) (limit_of_edge k) (λ o. IsBeyond o n p)
      (λ l. IsLess l x) (edge_at r n)
      (λ e. subst (λ o. IsLess o (cross_of (direction_vector n) p) ↔ IsLess (limit_of_edge k e) x)
      (sym (second_offset n (line_offset_of e) (omega arith)))
      (subst (λ d. IsLess (negative_of (line_offset_of e)) (cross_of d p) ↔ IsLess (limit_of_edge k e) x)
      (sym turned)
      (left_limit (direction_vector (suc k)) (rise_inverse k) x y (line_offset_of e) (rise_positive k few)
      (rise_product k few))))

  -- the bound of the lines of directions n + 1 and k + 9
  across_iff : (n k : ℕ) → n < 7 → k < 7 → (right left : Edge)
      → IsLess (limit_of_edge k left) (limit_of_edge n right)
      ↔ HoldsAt y (strip_bound (suc n) (line_offset_of right) (suc k) (line_offset_of left))
  unfolding limit_of_edge
  across_iff n k few few' right left =
      strip_limits (direction_vector (suc n)) (direction_vector (suc k)) (rise_inverse n) (rise_inverse k) y
      (line_offset_of right) (line_offset_of left)
      (rise_positive n few) (rise_positive k few') (rise_product n few) (rise_product k few')

  -- where the bounds hold, each lower limit is less than each upper one
  limits_agree : (n k : ℕ) → n < 7 → k < 7 → (o o' : Option Edge)
      → IfSome o (λ right. IfSome o'
      (λ left. HoldsAt y (strip_bound (suc n) (line_offset_of right) (suc k) (line_offset_of left))))
      → IfSome (option_map (limit_of_edge k) o')
      (λ l. IfSome (option_map (limit_of_edge n) o) (λ u. IsLess l u))
  limits_agree n k few few' None None h = tt
  limits_agree n k few few' None (Some left) h = tt
  limits_agree n k few few' (Some right) None h = tt
  limits_agree n k few few' (Some right) (Some left) h = (across_iff n k few few' right left).1 h

  -- and the other way round, for a number between them
  limits_hold : (n k : ℕ) (x : Number) → n < 7 → k < 7 → (right : Edge) → IsLess x (limit_of_edge n right)
      → (o' : Option Edge) → IfSome (option_map (limit_of_edge k) o') (λ l. IsLess l x)
      → IfSome o' (λ left. HoldsAt y
      (strip_bound (suc n) (line_offset_of right) (suc k) (line_offset_of left)))
  limits_hold n k x few few' right below None h = tt
  limits_hold n k x few few' right below (Some left) above =
      (across_iff n k few few' right left).0
      (IsLess-trans (limit_of_edge k left) x (limit_of_edge n right) above below)

  -- ---- the horizontal lines

  level_first : (x : Number)
      → IfSome (offset_at r 0) (λ o. IsBeyond o 0 (point_along origin 4 y))
      ↔ IfSome (offset_at r 0) (λ o. IsBeyond o 0 (record { x = x; y = y }))
  level_first x =
      map_iff (λ e. turned_offset 0 (line_offset_of e)) (λ e. turned_offset 0 (line_offset_of e))
      (λ o. IsBeyond o 0 (point_along origin 4 y)) (λ o. IsBeyond o 0 (record { x = x; y = y }))
      (edge_at r 0)
      (λ e. less_right_same (turned_offset 0 (line_offset_of e))
      (cross_of (direction_vector 0) (point_along origin 4 y))
      (cross_of (direction_vector 0) (record { x = x; y = y }))
      (number_ring (x ∷ y ∷ [])
      (con (whole (pos 1)) ⊗ (con (whole (pos 0)) ⊕ v1 ⊗ con (whole (pos 1)))
      ⊝ con (whole (pos 0)) ⊗ (con (whole (pos 0)) ⊕ v1 ⊗ con (whole (pos 0))))
      (con (whole (pos 1)) ⊗ v1 ⊝ con (whole (pos 0)) ⊗ v0) refl))

  level_second : (x : Number)
      → IfSome (offset_at r 8) (λ o. IsBeyond o 8 (point_along origin 4 y))
      ↔ IfSome (offset_at r 8) (λ o. IsBeyond o 8 (record { x = x; y = y }))
  level_second x =
      map_iff (λ e. turned_offset 8 (line_offset_of e)) (λ e. turned_offset 8 (line_offset_of e))
      (λ o. IsBeyond o 8 (point_along origin 4 y)) (λ o. IsBeyond o 8 (record { x = x; y = y }))
      (edge_at r 8)
      (λ e. less_right_same (turned_offset 8 (line_offset_of e))
      (cross_of (direction_vector 8) (point_along origin 4 y))
      (cross_of (direction_vector 8) (record { x = x; y = y }))
      (number_ring (x ∷ y ∷ [])
      ((⊖ con (whole (pos 1))) ⊗ (con (whole (pos 0)) ⊕ v1 ⊗ con (whole (pos 1)))
      ⊝ (⊖ con (whole (pos 0))) ⊗ (con (whole (pos 0)) ⊕ v1 ⊗ con (whole (pos 0))))
      ((⊖ con (whole (pos 1))) ⊗ v1 ⊝ (⊖ con (whole (pos 0))) ⊗ v0) refl))

  -- ---- elimination

  abbrev IsLeftAt : Number → ℕ → Type 0
  IsLeftAt x n = IfSome (offset_at r n) (λ o. IsBeyond o n (record { x = x; y = y }))

  -- what the bounds of the line of direction n + 1 say
  crossed_at : (n k : ℕ) (o : Option Edge) → k < 7
      → IfSome o (λ right. (j : ℕ) → j < 8 → 1 ≤ j → HoldsAcross r (suc n) (line_offset_of right) j y)
      → IfSome o (λ right. HoldsAcross r (suc n) (line_offset_of right) (suc k) y)
  crossed_at n k None few h = tt
  crossed_at n k (Some right) few h = h (suc k) (omega arith) (omega arith)

  crossed_from : (n : ℕ) (x : Number) → n < 7 → ((k : ℕ) → k < 7 → IfSome (lower k) (λ l. IsLess l x))
      → (o : Option Edge) → IfSome (option_map (limit_of_edge n) o) (λ u. IsLess x u)
      → IfSome o (λ right. (j : ℕ) → j < 8 → 1 ≤ j → HoldsAcross r (suc n) (line_offset_of right) j y)
  crossed_from n x few above None below = tt
  crossed_from n x few above (Some right) below = at
    where
      at : (j : ℕ) → j < 8 → 1 ≤ j → HoldsAcross r (suc n) (line_offset_of right) j y
      at zero few_j many = absurd (omega arith)
      at (suc k) few_j many =
          limits_hold n k x few (omega arith) right below (edge_at r (suc k + 8)) (above k (omega arith))

  abbrev IsHeight : Type 0
  IsHeight = IsLevel r y × ((n : ℕ) → n < 8 → 1 ≤ n → IsCrossed r n y)

  point_from : IsHeight → (x : Number) × IsInRegion (record { x = x; y = y }) r
  point_from h = (x, inside)
    where
      found : (x : Number) × ((k : ℕ) → k < 7 → IfSome (lower k) (λ l. IsLess l x))
          × ((n : ℕ) → n < 7 → IfSome (upper n) (λ u. IsLess x u))
      found =
          one_dimension lower upper 7 7
          (λ k n few_k few_n. limits_agree n k few_n few_k (edge_at r (suc n)) (edge_at r (suc k + 8))
          (crossed_at n k (edge_at r (suc n)) few_k (h.1 (suc n) (omega arith) (omega arith))))

      x : Number
      x = found.0

      first : (n : ℕ) → n < 8 → IsLeftAt found.0 n
      first zero few = (level_first found.0).0 h.0.0
      first (suc n) few = (upper_iff n found.0 (omega arith)).1 (found.2 n (omega arith))

      second : (n : ℕ) → n < 8 → IsLeftAt found.0 (n + 8)
      second zero few = (level_second found.0).0 h.0.1
      second (suc k) few = (lower_iff k found.0 (omega arith)).1 (found.1 k (omega arith))

      inside : (n : ℕ) → n < 16 → IsLeftAt found.0 n
      inside n few =
          elim (cases_lt n 8) [
            | inl less ↦ first n less
            | inr more ↦ (let e : n - 8 + 8 ≡ n = omega arith
                in subst (IsLeftAt found.0) e (second (n - 8) (omega arith)))
          ]

  height_from : (x : Number) → IsInRegion (record { x = x; y = y }) r → IsHeight
  height_from x h = (((level_first x).1 (h 0 (omega arith)), (level_second x).1 (h 8 (omega arith))), crossed)
    where
      above : (k : ℕ) → k < 7 → IfSome (lower k) (λ l. IsLess l x)
      above k few = (lower_iff k x few).0 (h (suc k + 8) (omega arith))

      crossed : (n : ℕ) → n < 8 → 1 ≤ n → IsCrossed r n y
      crossed zero few many = absurd (omega arith)
      crossed (suc n) few many =
          crossed_from n x (omega arith) above (edge_at r (suc n))
          ((upper_iff n x (omega arith)).0 (h (suc n) (omega arith)))

-- at the height y there is a point exactly where the bounds without x hold
pub heights_are : (r : Region) (y : Number)
    → (IsLevel r y × ((n : ℕ) → n < 8 → 1 ≤ n → IsCrossed r n y))
    ↔ ((x : Number) × IsInRegion (record { x = x; y = y }) r)
heights_are r y = (point_from r y, λ w. height_from r y w.0 w.1)

-- ---- what the code computes

-- the horizontal lines, from the origin as a point
pub level_is : (r : Region) (s t y : Number) (A B C : Type 0) → s ≡ whole (pos 0) → t ≡ whole (pos 0) → A
    → B ↔ (A × IsLeftOfLine (point_along (record { x = s; y = t }) 4 y) r 0)
    → C ↔ (B × IsLeftOfLine (point_along (record { x = s; y = t }) 4 y) r 8) → C ↔ IsLevel r y
level_is r s t y A B C at at' a f g =
    let P : Number → Number
    → Type 0 = λ u v. IsLeftOfLine (point_along (record { x = u; y = v }) 4 y) r 0
    × IsLeftOfLine (point_along (record { x = u; y = v }) 4 y) r 8 in
    let here : C ↔ P s t = ((λ c. ((f.0 (g.0 c).0).1, (g.0 c).1)), λ h. g.1 (f.1 (a, h.0), h.1)) in
    subst (λ u. C ↔ P u (whole (pos 0))) at (subst (λ v. C ↔ P s v) at' here)
