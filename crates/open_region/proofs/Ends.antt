-- The points strictly between the ends of a segment: those on its line that are strictly left of two lines across it.
use Rattle.std.proofs.Common.{◌≡◌, ◌↔◌, ℕ, ◌+◌, ◌-◌, ◌%◌, ◌<◌, Bool, true, ◌&&◌, [], ◌∷◌, pos, inl, inr, refl, sym, ap, ap₂, subst, ◌∙◌, arith}
use Rattle.std.proofs.lemmas.Bool.{agree_below, agree_below_at, and_parts, and_from, cases_lt}
use Rattle.surd_number.specs.declared.Sgn.TheVariants.{Zero, Pos}
use Rattle.surd_number.specs.Number.{Number, IsSame, whole, sum_of, difference_of, product_of, negative_of, sign_of, times_sign}
use Rattle.surd_number.specs.RingTool.{◌⊕◌, ◌⊝◌, ◌⊗◌, ⊖◌, con, v0, v1, v2, v3, v4, v5, v6, v7}
use Rattle.surd_number.specs.NumberLaws.{number_ring, number_ring_from, number_ring_from_two, is_zero_number, exact_numbers_IsRing, same_from_difference, difference_of-same, product_of-same, IsSame-refl}
use Rattle.surd_number.specs.SignLaws.{sign_of-same}
use Rattle.plane_geometry.specs.declared.Segment.{Segment}
use Rattle.plane_geometry.specs.SegmentView.{lesser_end, greater_end, direction_number, stretch_of}
use Rattle.plane_geometry.specs.Position.{Position, position_of, opposite_of, vector_of, cross_of, dot_of}
use Rattle.plane_geometry.specs.Direction.{direction_vector, side_of, is_zero, is_positive}
use Rattle.plane_geometry.specs.Stored.{IsStretch}
use Rattle.plane_geometry.specs.Stretch.{Stretch, is_between}
use Rattle.plane_geometry.specs.Multiple.{IsSameVector, IsPositiveMultiple}
use Rattle.plane_geometry.specs.SideLaws.{lex_sign, order_of, square_sign, along_lex, product_by_pos, side_from}
use Rattle.plane_geometry.specs.StretchLaws.{zero_is, positive_is, before_is, ends_order, to_in_line, along_sign}
use Rattle.plane_geometry.specs.DirectionLaws.{along_from_parts, along_is_multiple}
use Rattle.open_region.specs.declared.Region.{Region}
use Rattle.open_region.specs.Region.{offset_at, turned_offset, IsBeyond, IsInRegion}
use Rattle.open_region.specs.Strip.{point_along, IsBetweenEnds}
use Rattle.open_region.proofs.Edges.{lower_is, less_right_same, left_is_side}
use Rattle.open_region.proofs.Steps.{some_iff}

-- ---- order and dot products along a line

between_is : (p : Position) (s : Stretch)
    → is_between p s ≡ (is_zero (side_of s.from s.dir p)
    && (is_positive (order_of s.from p) && is_positive (order_of p s.to)))
between_is p s = ap (λ (b : Bool). is_zero (side_of s.from s.dir p) && b)
    (ap₂ ◌&&◌ (before_is s.from p) (before_is p s.to))

module _ (s : Stretch) (stretch : IsStretch s) where
  abbrev d : Position
  d = direction_vector s.dir

  -- the direction of a stretch leads to greater points
  leads_on : lex_sign d ≡ Pos
  leads_on =
      let w = vector_of s.from s.to in
      ap (λ t. times_sign t (lex_sign d)) (sym (along_sign s stretch))
      ∙ sym (along_lex d w (square_sign s.dir) (to_in_line s stretch)) ∙ ends_order s stretch

  order_by_dot : (p q : Position) → side_of p s.dir q ≡ Zero
      → order_of p q ≡ sign_of (dot_of d (vector_of p q))
  order_by_dot p q e =
      let w = vector_of p q in
      along_lex d w (square_sign s.dir) e ∙ ap (times_sign (sign_of (dot_of d w))) leads_on
      ∙ product_by_pos (sign_of (dot_of d w))

  module _ (p : Position) (in_line : side_of s.from s.dir p ≡ Zero) where
    to_end : side_of p s.dir s.to ≡ Zero
    to_end = sym (side_from s.from s.dir p s.to in_line) ∙ to_in_line s stretch

    between_test : is_between p s
        ≡ (is_positive (sign_of (dot_of d (vector_of s.from p)))
        && is_positive (sign_of (dot_of d (vector_of p s.to))))
    between_test =
        between_is p s ∙ ap (λ z. is_zero z
        && (is_positive (order_of s.from p) && is_positive (order_of p s.to))) in_line
        ∙ ap₂ (λ a b. is_positive a && is_positive b) (order_by_dot s.from p in_line)
        (order_by_dot p s.to to_end)

    pub between_iff : (is_between p s ≡ true)
        ↔ ((sign_of (dot_of d (vector_of s.from p)) ≡ Pos) × (sign_of (dot_of d (vector_of p s.to)) ≡ Pos))
    between_iff = (
      (λ e. let k = and_parts (is_positive (sign_of (dot_of d (vector_of s.from p)))) _ (sym between_test ∙ e)
          in (positive_is _ k.0, positive_is _ k.1)),
      λ h. between_test ∙ and_from _ _ (ap is_positive h.0) (ap is_positive h.1),
    )

pub between_in_line : (s : Stretch) (p : Position) → is_between p s ≡ true → side_of s.from s.dir p ≡ Zero
between_in_line s p e =
    zero_is _ (and_parts (is_zero (side_of s.from s.dir p)) _ (sym (between_is p s) ∙ e)).0

-- ---- directions across

is_turned_back : ℕ → Bool
is_turned_back n =
    is_zero_number (difference_of (direction_vector ((n + 12) % 16)).x (direction_vector n).y)
    && is_zero_number (difference_of (direction_vector ((n + 12) % 16)).y
    (negative_of (direction_vector n).x))

is_turned_on : ℕ → Bool
is_turned_on n =
    is_zero_number (difference_of (direction_vector ((n + 4) % 16)).x (negative_of (direction_vector n).y))
    && is_zero_number (difference_of (direction_vector ((n + 4) % 16)).y (direction_vector n).x)

back_table : agree_below is_turned_back (λ _. true) 16 ≡ true
unfolding is_turned_back
back_table = refl

on_table : agree_below is_turned_on (λ _. true) 16 ≡ true
unfolding is_turned_on
on_table = refl

same_told : (x y : Number) → is_zero_number (difference_of x y) ≡ true → IsSame x y
same_told x y e = same_from_difference x y (exact_numbers_IsRing.nought_is (difference_of x y) e)

turned_back : (n : ℕ) → n < 16
    → IsSame (direction_vector ((n + 12) % 16)).x (direction_vector n).y
    × IsSame (direction_vector ((n + 12) % 16)).y (negative_of (direction_vector n).x)
unfolding is_turned_back
turned_back n few =
    let k = and_parts (is_zero_number
    (difference_of (direction_vector ((n + 12) % 16)).x (direction_vector n).y)) _
    (agree_below_at is_turned_back (λ _. true) 16 n back_table few) in (
      same_told (direction_vector ((n + 12) % 16)).x (direction_vector n).y k.0,
      same_told (direction_vector ((n + 12) % 16)).y (negative_of (direction_vector n).x) k.1,
    )

turned_on : (n : ℕ) → n < 16
    → IsSame (direction_vector ((n + 4) % 16)).x (negative_of (direction_vector n).y)
    × IsSame (direction_vector ((n + 4) % 16)).y (direction_vector n).x
unfolding is_turned_on
turned_on n few =
    let k = and_parts (is_zero_number
    (difference_of (direction_vector ((n + 4) % 16)).x (negative_of (direction_vector n).y))) _
    (agree_below_at is_turned_on (λ _. true) 16 n on_table few) in (
      same_told (direction_vector ((n + 4) % 16)).x (negative_of (direction_vector n).y) k.0,
      same_told (direction_vector ((n + 4) % 16)).y (direction_vector n).x k.1,
    )

back_side : (d e q p : Position) → IsSame e.x d.y → IsSame e.y (negative_of d.x)
    → sign_of (cross_of e (vector_of q p)) ≡ sign_of (dot_of d (vector_of q p))
back_side d e q p f g =
    sign_of-same (cross_of e (vector_of q p)) (dot_of d (vector_of q p))
    (number_ring_from_two (d.x ∷ d.y ∷ e.x ∷ e.y ∷ q.x ∷ q.y ∷ p.x ∷ p.y ∷ []) v2 v1 (v7 ⊝ v5) v3 (⊖ v0)
    (⊖ (v6 ⊝ v4))
    (v2 ⊗ (v7 ⊝ v5) ⊝ v3 ⊗ (v6 ⊝ v4)) (v0 ⊗ (v6 ⊝ v4) ⊕ v1 ⊗ (v7 ⊝ v5)) refl f g)

on_side : (d e q p : Position) → IsSame e.x (negative_of d.y) → IsSame e.y d.x
    → sign_of (cross_of e (vector_of q p)) ≡ sign_of (dot_of d (vector_of p q))
on_side d e q p f g =
    sign_of-same (cross_of e (vector_of q p)) (dot_of d (vector_of p q))
    (number_ring_from_two (d.x ∷ d.y ∷ e.x ∷ e.y ∷ q.x ∷ q.y ∷ p.x ∷ p.y ∷ []) v2 (⊖ v1) (v7 ⊝ v5) v3 v0
    (⊖ (v6 ⊝ v4))
    (v2 ⊗ (v7 ⊝ v5) ⊝ v3 ⊗ (v6 ⊝ v4)) (v0 ⊗ (v4 ⊝ v6) ⊕ v1 ⊗ (v5 ⊝ v7)) refl f g)

-- strictly between the ends, by two sides
pub between_sides : (s : Stretch) → IsStretch s → s.dir < 16 → (p : Position) → side_of s.from s.dir p ≡ Zero
    → ((side_of s.from ((s.dir + 12) % 16) p ≡ Pos) × (side_of s.to ((s.dir + 4) % 16) p ≡ Pos))
    ↔ (is_between p s ≡ true)
between_sides s stretch few p in_line =
    let n = s.dir in
    let back = turned_back n few in
    let on = turned_on n few in
    let e = back_side (direction_vector n) (direction_vector ((n + 12) % 16)) s.from p back.0 back.1 in
    let f = on_side (direction_vector n) (direction_vector ((n + 4) % 16)) s.to p on.0 on.1 in
    let h = between_iff s stretch p in_line in
    ((λ k. h.1 (sym e ∙ k.0, sym f ∙ k.1)), λ t. let k = h.0 t in (e ∙ k.0, f ∙ k.1))

-- ---- along the line of a segment

line_first : (d q : Position) (z : Number)
    → sign_of (cross_of d (vector_of q
    (record { x = sum_of q.x (product_of z d.x); y = sum_of q.y (product_of z d.y) }))) ≡ Zero
line_first d q z =
    sign_of-same (cross_of d
    (vector_of q (record { x = sum_of q.x (product_of z d.x); y = sum_of q.y (product_of z d.y) })))
    (whole (pos 0))
    (number_ring (d.x ∷ d.y ∷ q.x ∷ q.y ∷ z ∷ []) (v0 ⊗ ((v3 ⊕ v4 ⊗ v1) ⊝ v3) ⊝ v1 ⊗ ((v2 ⊕ v4 ⊗ v0) ⊝ v2))
    (con (whole (pos 0))) refl)

line_second : (d q : Position) (z : Number)
    → sign_of (cross_of (opposite_of d)
    (vector_of q (record { x = sum_of q.x (product_of z d.x); y = sum_of q.y (product_of z d.y) }))) ≡ Zero
line_second d q z =
    sign_of-same (cross_of (opposite_of d)
    (vector_of q (record { x = sum_of q.x (product_of z d.x); y = sum_of q.y (product_of z d.y) })))
    (whole (pos 0))
    (number_ring (d.x ∷ d.y ∷ q.x ∷ q.y ∷ z ∷ [])
    (⊖ v0 ⊗ ((v3 ⊕ v4 ⊗ v1) ⊝ v3) ⊝ ⊖ v1 ⊗ ((v2 ⊕ v4 ⊗ v0) ⊝ v2)) (con (whole (pos 0))) refl)

-- the points along a direction modulo 8 are on the line
pub along_in_line : (n : ℕ) (q : Position) (z : Number) → n < 16
    → side_of q n (point_along q (n % 8) z) ≡ Zero
along_in_line n q z few =
    elim (cases_lt n 8) [
      | inl less ↦ (let e : n ≡ n % 8 = omega arith
          in subst (λ k. side_of q n (point_along q k z) ≡ Zero) e (line_first (direction_vector n) q z))
      | inr many ↦ (
          let e : n - 8 ≡ n % 8 = omega arith in
          subst (λ k. side_of q n (point_along q k z) ≡ Zero) e
          (subst (λ d. sign_of (cross_of d (vector_of q (point_along q (n - 8) z))) ≡ Zero)
          (sym (lower_is n many few)) (line_second (direction_vector (n - 8)) q z)))
    ]

first_multiple : (p q d m : Number) → IsSame (difference_of p q) (product_of m d)
    → IsSame p (sum_of q (product_of m d))
first_multiple p q d m h =
    number_ring_from (p ∷ q ∷ d ∷ m ∷ []) (v0 ⊝ v1) (v3 ⊗ v2) (con (whole (pos 1))) v0 (v1 ⊕ v3 ⊗ v2) refl h

second_multiple : (p q d m : Number) → IsSame (difference_of p q) (product_of m (negative_of d))
    → IsSame p (sum_of q (product_of (negative_of m) d))
second_multiple p q d m h =
    number_ring_from (p ∷ q ∷ d ∷ m ∷ []) (v0 ⊝ v1) (v3 ⊗ (⊖ v2)) (con (whole (pos 1))) v0
    (v1 ⊕ (⊖ v3) ⊗ v2) refl h

-- and a point that lies in direction n from q is one of them
along_place : (n : ℕ) (q p : Position) → n < 16 → IsPositiveMultiple n q p
    → (z : Number) × IsSameVector p (point_along q (n % 8) z)
along_place n q p few w =
    elim (cases_lt n 8) [
      | inl less ↦ (
          let e : n ≡ n % 8 = omega arith in
          let d = direction_vector n in
          let here : IsSameVector p (point_along q n w.0) =
          (first_multiple p.x q.x d.x w.0 w.2.0, first_multiple p.y q.y d.y w.0 w.2.1) in
          (w.0, subst (λ k. IsSameVector p (point_along q k w.0)) e here))
      | inr many ↦ (
          let e : n - 8 ≡ n % 8 = omega arith in
          let d = direction_vector (n - 8) in
          let at = lower_is n many few in
          let x : IsSame (difference_of p.x q.x) (product_of w.0 (negative_of d.x)) = subst
          (λ (v : Position). IsSame (difference_of p.x q.x) (product_of w.0 v.x)) at w.2.0 in
          let y : IsSame (difference_of p.y q.y) (product_of w.0 (negative_of d.y)) = subst
          (λ (v : Position). IsSame (difference_of p.y q.y) (product_of w.0 v.y)) at w.2.1 in
          let here : IsSameVector p (point_along q (n - 8) (negative_of w.0)) =
          (second_multiple p.x q.x d.x w.0 x, second_multiple p.y q.y d.y w.0 y) in
          (negative_of w.0, subst (λ k. IsSameVector p (point_along q k (negative_of w.0))) e here))
    ]

-- ---- points in one place

cross_same : (d p q : Position) → IsSameVector p q → IsSame (cross_of d p) (cross_of d q)
cross_same d p q e =
    difference_of-same (product_of d.x p.y) (product_of d.y p.x) (product_of d.x q.y) (product_of d.y q.x)
    (product_of-same d.x p.y d.x q.y (IsSame-refl d.x) e.1)
    (product_of-same d.y p.x d.y q.x (IsSame-refl d.y) e.0)

pub region_same : (r : Region) (p q : Position) → IsSameVector p q → IsInRegion p r → IsInRegion q r
region_same r p q e h n few =
    some_iff (λ o. IsBeyond o n p) (λ o. IsBeyond o n q) (offset_at r n)
    (λ o. less_right_same o (cross_of (direction_vector n) p) (cross_of (direction_vector n) q)
    (cross_same (direction_vector n) p q e)) (h n few)

from_same : (d q p p' : Position) → IsSameVector p p'
    → sign_of (dot_of d (vector_of q p)) ≡ sign_of (dot_of d (vector_of q p'))
from_same d q p p' e =
    sign_of-same (dot_of d (vector_of q p)) (dot_of d (vector_of q p'))
    (number_ring_from_two (d.x ∷ d.y ∷ q.x ∷ q.y ∷ p.x ∷ p.y ∷ p'.x ∷ p'.y ∷ []) v4 v6 v0 v5 v7 v1
    (v0 ⊗ (v4 ⊝ v2) ⊕ v1 ⊗ (v5 ⊝ v3)) (v0 ⊗ (v6 ⊝ v2) ⊕ v1 ⊗ (v7 ⊝ v3)) refl e.0 e.1)

to_same : (d q p p' : Position) → IsSameVector p p'
    → sign_of (dot_of d (vector_of p q)) ≡ sign_of (dot_of d (vector_of p' q))
to_same d q p p' e =
    sign_of-same (dot_of d (vector_of p q)) (dot_of d (vector_of p' q))
    (number_ring_from_two (d.x ∷ d.y ∷ q.x ∷ q.y ∷ p.x ∷ p.y ∷ p'.x ∷ p'.y ∷ []) v4 v6 (⊖ v0) v5 v7 (⊖ v1)
    (v0 ⊗ (v2 ⊝ v4) ⊕ v1 ⊗ (v3 ⊝ v5)) (v0 ⊗ (v2 ⊝ v6) ⊕ v1 ⊗ (v3 ⊝ v7)) refl e.0 e.1)

-- a point strictly between the ends that is in a region is in the place of one along the line
pub place_between : (r : Region) (s : Stretch) → IsStretch s → s.dir < 16 → (p : Position)
    → is_between p s ≡ true → IsInRegion p r
    → (z : Number) × (is_between (point_along s.from (s.dir % 8) z) s ≡ true)
    × IsInRegion (point_along s.from (s.dir % 8) z) r
place_between r s stretch few p between inside =
    let n = s.dir in
    let d = direction_vector n in
    let in_line = between_in_line s p between in
    let dots = (between_iff s stretch p in_line).0 between in
    let w = (along_is_multiple n s.from p).0 (along_from_parts n s.from p in_line dots.0) in
    let z = along_place n s.from p few w in
    let q = point_along s.from (n % 8) z.0 in (
      z.0,
      (between_iff s stretch q (along_in_line n s.from z.0 few)).1
          (sym (from_same d s.from p q z.1) ∙ dots.0, sym (to_same d s.to p q z.1) ∙ dots.1),
      region_same r p q z.1 inside,
    )

-- ---- segments

-- n is the segment's direction, m and m' are the directions across it, f, f', f'' its lesser end and t its greater one
abbrev IsToldByCuts : Segment → Number → Number → Number → Type 0 → Type 0 → Type 0 → ℕ → ℕ → ℕ → Position
    → Position → Position → Position → Type 0
IsToldByCuts s z o u A B C n m m' f f' f'' t =
    IsSame (turned_offset m o) (cross_of (direction_vector m) f)
    → IsSame (turned_offset m' u) (cross_of (direction_vector m') t) → A
    → B ↔ (A × IsBeyond (turned_offset ((n + 12) % 16) o) ((n + 12) % 16) (point_along f' (n % 8) z))
    → C ↔ (B × IsBeyond (turned_offset ((n + 4) % 16) u) ((n + 4) % 16) (point_along f'' (n % 8) z))
    → C ↔ IsBetweenEnds s z

told_by_cuts : (s : Segment) (z o u : Number) (A B C : Type 0)
    → IsToldByCuts s z o u A B C (direction_number s) ((direction_number s + 12) % 16)
    ((direction_number s + 4) % 16) (position_of (lesser_end s)) (position_of (lesser_end s))
    (position_of (lesser_end s)) (position_of (greater_end s))
told_by_cuts s z o u A B C right left a f g =
    let n = direction_number s in
    let few : n < 16 = omega (arith, s.dir.in_range) in
    let q = position_of (lesser_end s) in
    let p = point_along q (n % 8) z in
    let first = left_is_side ((n + 12) % 16) (turned_offset ((n + 12) % 16) o) q p right in
    let second = left_is_side ((n + 4) % 16) (turned_offset ((n + 4) % 16) u)
    (position_of (greater_end s)) p left in
    let h = between_sides (stretch_of s) s.stretch few p (along_in_line n q z few) in (
      (λ c. let b = g.0 c in h.0 (first.0 (f.0 b.0).1, second.0 b.1)),
      λ t. let k = h.1 t in g.1 (f.1 (a, first.1 k.0), second.1 k.1),
    )

pub told_by : (s : Segment) (z o u : Number) (A B C : Type 0) (n m m' : ℕ) (f f' f'' t : Position)
    → n ≡ direction_number s → m ≡ (n + 12) % 16 → m' ≡ (n + 4) % 16 → f ≡ position_of (lesser_end s)
    → f' ≡ position_of (lesser_end s) → f'' ≡ position_of (lesser_end s) → t ≡ position_of (greater_end s)
    → IsToldByCuts s z o u A B C n m m' f f' f'' t
told_by s z o u A B C n m m' f f' f'' t at_n at_m at_m' at_f at_f' at_f'' at_t =
    let T = IsToldByCuts s z o u A B C in
    let q = position_of (lesser_end s) in
    let r = position_of (greater_end s) in
    let canonical : T n ((n + 12) % 16) ((n + 4) % 16) q q q r = subst
    (λ (k : ℕ). T k ((k + 12) % 16) ((k + 4) % 16) q q q r) (sym at_n) (told_by_cuts s z o u A B C) in
    let by_m : T n m m' q q q r = subst (λ (k : ℕ). T n k m' q q q r) (sym at_m)
    (subst (λ (k : ℕ). T n ((n + 12) % 16) k q q q r) (sym at_m') canonical) in
    let by_f : T n m m' f f' q r = subst (λ (p : Position). T n m m' p f' q r) (sym at_f)
    (subst (λ (p : Position). T n m m' q p q r) (sym at_f') by_m) in
    subst (λ (p : Position). T n m m' f f' p t) (sym at_f'')
    (subst (λ (p : Position). T n m m' f f' q p) (sym at_t) by_f)

-- a region is entered where some point along the segment is in it
pub enters_iff : (r : Region) (s : Segment) (b : Bool) (I J : Number → Type 0)
    → (b ≡ true) ↔ ((z : Number) × J z)
    → ((z : Number) → J z ↔ (I z × IsInRegion
    (point_along (position_of (lesser_end s)) (direction_number s % 8) z) r))
    → ((z : Number) → I z ↔ IsBetweenEnds s z)
    → (b ≡ true) ↔ ((p : Position) × (is_between p (stretch_of s) ≡ true) × IsInRegion p r)
enters_iff r s b I J told along between = (to, from)
  where
    to : b ≡ true → (p : Position) × (is_between p (stretch_of s) ≡ true) × IsInRegion p r
    to e =
        let w = told.0 e in
        let h = (along w.0).0 w.1 in
        (point_along (position_of (lesser_end s)) (direction_number s % 8) w.0, (between w.0).0 h.0, h.1)

    from : (p : Position) × (is_between p (stretch_of s) ≡ true) × IsInRegion p r → b ≡ true
    from w =
        let z = place_between r (stretch_of s) s.stretch (omega (arith, s.dir.in_range)) w.0 w.1 w.2 in
        told.1 (z.0, (along z.0).1 ((between z.0).1 z.1, z.2))
