-- Where a region has a point, one of its two cuts by any line has one: near each point of the region there are others in it.
use Rattle.std.proofs.Common.{◌≡◌, ◌≢◌, ℕ, zero, suc, ◌+◌, ◌-◌, ◌<◌, Bool, true, false, ◌⊎◌, inl, inr, [], ◌∷◌, Option, Some, None, IfSome, pos, refl, sym, ap, subst, ◌∙◌, arith}
use Rattle.std.specs.Option.{option_map}
use Rattle.std.proofs.lemmas.Bool.{agree_below, agree_below_at, true≢false}
use Rattle.surd_number.specs.declared.Sgn.{Sgn}
use Rattle.surd_number.specs.declared.Sgn.TheVariants.{Neg, Zero, Pos}
use Rattle.surd_number.specs.Number.{Number, IsSame, IsLess, whole, sum_of, difference_of, product_of, negative_of, sign_of, opposite_sign}
use Rattle.surd_number.specs.RingTool.{◌⊕◌, ◌⊝◌, ◌⊗◌, ⊖◌, con, v0, v1, v2, v3, v4, v5, v6, v7, v8}
use Rattle.surd_number.specs.NumberLaws.{number_ring, number_ring_from}
use Rattle.surd_number.specs.SignLaws.{sign_of-same, sign_of-zero, sign_of-negative, sign_of-product_positive, sign_of-sum_positive_left, IsLess-positive, zero-IsLess}
use Rattle.plane_geometry.specs.Position.{Position, opposite_of, vector_of, cross_of}
use Rattle.plane_geometry.specs.Direction.{direction_vector, side_of, is_negative, is_zero, turn_sign}
use Rattle.open_region.specs.declared.Region.{Region}
use Rattle.open_region.specs.declared.edge.Edge.{Edge}
use Rattle.open_region.specs.EdgeView.{line_offset_of}
use Rattle.open_region.specs.Region.{edge_at, turned_offset, IsBeyond, IsInRegion, HasPoint, HasPointLeftOf}
use Rattle.open_region.specs.Strip.{point_along}
use Rattle.open_region.proofs.Between.{one_dimension}
use Rattle.open_region.proofs.Edges.{lower_is}

-- ---- near a point of a region

-- in the directions 0 and 4 cross products are -1 at least
is_steep : ℕ → ℕ → Bool
is_steep e n = is_negative
    (sign_of (sum_of (whole (pos 1)) (cross_of (direction_vector n) (direction_vector e))))

flat_first : agree_below (is_steep 0) (λ _. false) 16 ≡ true
unfolding is_steep
flat_first = refl

flat_second : agree_below (is_steep 4) (λ _. false) 16 ≡ true
unfolding is_steep
flat_second = refl

IsFlat : ℕ → Type 0
IsFlat e = (n : ℕ) → n < 16 → is_steep e n ≡ false

first_IsFlat : IsFlat 0
unfolding IsFlat
first_IsFlat n few = agree_below_at (is_steep 0) (λ _. false) 16 n flat_first few

second_IsFlat : IsFlat 4
unfolding IsFlat
second_IsFlat n few = agree_below_at (is_steep 4) (λ _. false) 16 n flat_second few

not_negative : (s : Sgn) → is_negative s ≡ false → ¬ (s ≡ Neg)
not_negative Neg f e = true≢false f
not_negative Zero f e = cc
not_negative Pos f e = cc

-- z less than the distance to the line
still_left : (d e p : Position) (o z : Number) → ¬ (sign_of (sum_of (whole (pos 1)) (cross_of d e)) ≡ Neg)
    → sign_of z ≡ Pos → IsLess z (difference_of (cross_of d p) o)
    → IsLess o (cross_of d (record { x = sum_of p.x (product_of z e.x); y = sum_of p.y (product_of z e.y) }))
still_left d e p o z flat positive less =
    let p' : Position = record { x = sum_of p.x (product_of z e.x); y = sum_of p.y (product_of z e.y) } in
    let s = sum_of (whole (pos 1)) (cross_of d e) in
    let rest = difference_of (difference_of (cross_of d p) o) z in
    let split : IsSame (difference_of (cross_of d p') o) (sum_of rest (product_of z s)) =
    number_ring (d.x ∷ d.y ∷ e.x ∷ e.y ∷ p.x ∷ p.y ∷ o ∷ z ∷ [])
    ((v0 ⊗ (v5 ⊕ v7 ⊗ v3) ⊝ v1 ⊗ (v4 ⊕ v7 ⊗ v2)) ⊝ v6)
    (((v0 ⊗ v5 ⊝ v1 ⊗ v4) ⊝ v6) ⊝ v7 ⊕ v7 ⊗ (con (whole (pos 1)) ⊕ (v0 ⊗ v3 ⊝ v1 ⊗ v2))) refl in
    (IsLess-positive o (cross_of d p')).1
    (sign_of-same (difference_of (cross_of d p') o) (sum_of rest (product_of z s)) split
    ∙ sign_of-sum_positive_left rest (product_of z s)
    ((IsLess-positive z (difference_of (cross_of d p) o)).0 less)
    (λ negative. flat (sym (sign_of-product_positive z s positive) ∙ negative)))

module _ (r : Region) (p : Position) (inside : IsInRegion p r) (e : ℕ) (flat : IsFlat e) where
  distance_of : ℕ → Edge → Number
  distance_of n edge = difference_of (cross_of (direction_vector n) p) (turned_offset n (line_offset_of edge))

  positive_distance : (n : ℕ) (o : Option Edge)
      → IfSome (option_map (λ edge. turned_offset n (line_offset_of edge)) o) (λ x. IsBeyond x n p)
      → IfSome (option_map (distance_of n) o) (λ u. IsLess (whole (pos 0)) u)
  unfolding distance_of
  positive_distance n None h = tt
  positive_distance n (Some edge) h =
      (zero-IsLess (distance_of n edge)).1
      ((IsLess-positive (turned_offset n (line_offset_of edge)) (cross_of (direction_vector n) p)).0 h)

  left_near : (n : ℕ) (z : Number) → n < 16 → sign_of z ≡ Pos → (o : Option Edge)
      → IfSome (option_map (distance_of n) o) (λ u. IsLess z u)
      → IfSome (option_map (λ edge. turned_offset n (line_offset_of edge)) o)
      (λ x. IsBeyond x n (point_along p e z))
  unfolding distance_of is_steep IsFlat
  left_near n z few positive None h = tt
  left_near n z few positive (Some edge) h =
      still_left (direction_vector n) (direction_vector e) p (turned_offset n (line_offset_of edge)) z
      (not_negative _ (flat n few)) positive h

  near : (z : Number) × (sign_of z ≡ Pos) × IsInRegion (point_along p e z) r
  near = (found.0, positive, λ n few. left_near n found.0 few positive (edge_at r n) (found.2 n few))
    where
      found : (z : Number) × ((k : ℕ) → k < 1 → IfSome (Some (whole (pos 0))) (λ l. IsLess l z))
          × ((n : ℕ) → n < 16 → IfSome (option_map (distance_of n) (edge_at r n)) (λ u. IsLess z u))
      found = one_dimension (λ _. Some (whole (pos 0))) (λ n. option_map (distance_of n) (edge_at r n)) 1 16
          (λ k n few_k few_n. positive_distance n (edge_at r n) (inside n few_n))

      positive : sign_of found.0 ≡ Pos
      positive = (zero-IsLess found.0).0 (found.1 0 (omega arith))

-- ---- off the line

off_line : (d e q p : Position) (z : Number) → sign_of (cross_of d (vector_of q p)) ≡ Zero → sign_of z ≡ Pos
    → sign_of (cross_of d (vector_of q
    (record { x = sum_of p.x (product_of z e.x); y = sum_of p.y (product_of z e.y) })))
    ≡ sign_of (cross_of d e)
off_line d e q p z on positive =
    let p' : Position = record { x = sum_of p.x (product_of z e.x); y = sum_of p.y (product_of z e.y) } in
    sign_of-same (cross_of d (vector_of q p')) (product_of z (cross_of d e))
    (number_ring_from (d.x ∷ d.y ∷ e.x ∷ e.y ∷ q.x ∷ q.y ∷ p.x ∷ p.y ∷ z ∷ [])
    (v0 ⊗ (v7 ⊝ v5) ⊝ v1 ⊗ (v6 ⊝ v4)) (con (whole (pos 0))) (con (whole (pos 1)))
    (v0 ⊗ ((v7 ⊕ v8 ⊗ v3) ⊝ v5) ⊝ v1 ⊗ ((v6 ⊕ v8 ⊗ v2) ⊝ v4)) (v8 ⊗ (v0 ⊗ v3 ⊝ v1 ⊗ v2)) refl
    (sign_of-zero (cross_of d (vector_of q p)) on))
    ∙ sign_of-product_positive z (cross_of d e) positive

opposite_side : (d q p : Position)
    → sign_of (cross_of (opposite_of d) (vector_of q p))
    ≡ opposite_sign (sign_of (cross_of d (vector_of q p)))
opposite_side d q p =
    sign_of-same (cross_of (opposite_of d) (vector_of q p)) (negative_of (cross_of d (vector_of q p)))
    (number_ring (d.x ∷ d.y ∷ q.x ∷ q.y ∷ p.x ∷ p.y ∷ []) (⊖ v0 ⊗ (v5 ⊝ v3) ⊝ ⊖ v1 ⊗ (v4 ⊝ v2))
    (⊖ (v0 ⊗ (v5 ⊝ v3) ⊝ v1 ⊗ (v4 ⊝ v2))) refl)
    ∙ sign_of-negative (cross_of d (vector_of q p))

right_is_left : (q p : Position) (n : ℕ) → n < 8 → side_of q n p ≡ Neg → side_of q (n + 8) p ≡ Pos
right_is_left q p n few e =
    let same : n + 8 - 8 ≡ n = omega arith in
    let at : direction_vector (n + 8)
    ≡ opposite_of (direction_vector n) =
    lower_is (n + 8) (omega arith) (omega arith) ∙ ap (λ k. opposite_of (direction_vector k)) same in
    subst (λ d. sign_of (cross_of d (vector_of q p)) ≡ Pos) (sym at)
    (opposite_side (direction_vector n) q p ∙ ap opposite_sign e)

-- a point off the line is on one of its sides
on_a_side : (r : Region) (q : Position) (n : ℕ) → n < 8 → (p : Position) → IsInRegion p r → (s : Sgn)
    → side_of q n p ≡ s → s ≢ Zero → HasPointLeftOf r q n ⊎ HasPointLeftOf r q (n + 8)
on_a_side r q n few p inside Neg e off = inr (p, inside, right_is_left q p n few e)
on_a_side r q n few p inside Zero e off = absurd (off refl)
on_a_side r q n few p inside Pos e off = inl (p, inside, e)

-- a direction that leaves the line
leaves : (n : ℕ) → n < 8 → (e : ℕ) × IsFlat e × (turn_sign n e ≢ Zero)
leaves zero few = (4, second_IsFlat, λ h. cc)
leaves (suc n) few = (0, first_IsFlat, leaves_first n few)
  where
    is_left : ℕ → Bool
    is_left k = is_zero (turn_sign (suc k) 0)

    table : agree_below is_left (λ _. false) 7 ≡ true
    table = refl

    leaves_first : (k : ℕ) → suc k < 8 → turn_sign (suc k) 0 ≢ Zero
    leaves_first k few_k h =
        true≢false (sym (ap is_zero h) ∙ agree_below_at is_left (λ _. false) 7 k table (omega arith))

pub a_cut_keeps : (r : Region) (q : Position) (n : ℕ) → n < 8 → HasPoint r
    → HasPointLeftOf r q n ⊎ HasPointLeftOf r q (n + 8)
a_cut_keeps r q n few h = by (side_of q n h.0) refl
  where
    by : (s : Sgn) → side_of q n h.0 ≡ s → HasPointLeftOf r q n ⊎ HasPointLeftOf r q (n + 8)
    by Neg e = on_a_side r q n few h.0 h.1 Neg e (λ z. cc)
    by Pos e = on_a_side r q n few h.0 h.1 Pos e (λ z. cc)
    by Zero e =
        let way = leaves n few in
        let z = near r h.0 h.1 way.0 way.1 in
        let p = point_along h.0 way.0 z.0 in
        let side : side_of q n p
        ≡ turn_sign n way.0 = off_line (direction_vector n) (direction_vector way.0) q h.0 z.0 e z.1 in
        on_a_side r q n few p z.2 (turn_sign n way.0) side way.2
