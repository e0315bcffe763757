-- The common point of two lines, and that it is the only one.
use Rattle.std.proofs.Common.{◌≡◌, ℕ, ◌<◌, ◌≤◌, true, [], ◌∷◌, pos, leb, leb-true, refl, ◌∙◌, arith}
use Rattle.std.proofs.lemmas.Bool.{agree_below, agree_below_at}
use Rattle.surd_number.specs.Number.{Number, IsSame, whole, difference_of, product_of, unit_of, unit_inverse_of}
use Rattle.surd_number.specs.RingTool.{◌⊝◌, ◌⊗◌, ⊖◌, con, v0, v1, v2, v3, v4, v5, v6, v7, v8}
use Rattle.surd_number.specs.NumberLaws.{number_ring, number_ring_from, number_ring_from_two, number_ring_from_three, same_from_difference, difference_from_same, unit_of-inverse}
use Rattle.surd_number.specs.SignLaws.{sign_of-same, sign_of-zero, zero_sign_of}
use Rattle.surd_number.specs.declared.Sgn.TheVariants.{Zero}
use Rattle.surd_number.specs.Value.{wide_number_of}
use Rattle.plane_geometry.specs.declared.Line.{Line}
use Rattle.plane_geometry.specs.Position.{Position, vector_of, cross_of}
use Rattle.plane_geometry.specs.Direction.{direction_vector, side_of}
use Rattle.plane_geometry.specs.CrossTable.{cross_tangents, cross_roots}
use Rattle.plane_geometry.specs.CrossLaws.{direction_cross}
use Rattle.plane_geometry.specs.LineView.{line_number, line_offset, IsOnLine}
use Rattle.plane_geometry.specs.Common.{meeting_point, meeting_of}

-- the powers in the table are small
few_tangents : agree_below (λ m. agree_below (λ n. leb (cross_tangents m n) 1) (λ _. true) 8) (λ _. true) 8
    ≡ true
few_tangents = refl

few_roots : agree_below (λ m. agree_below (λ n. leb (cross_roots m n) 3) (λ _. true) 8) (λ _. true) 8 ≡ true
few_roots = refl

pub cross_tangents-few : (m n : ℕ) → m < 8 → n < 8 → cross_tangents m n ≤ 1
cross_tangents-few m n h k =
    leb-true (cross_tangents m n) 1
    (agree_below_at (λ n. leb (cross_tangents m n) 1) (λ _. true) 8 n
    (agree_below_at (λ m. agree_below (λ n. leb (cross_tangents m n) 1) (λ _. true) 8)
    (λ _. true) 8 m few_tangents h) k)

pub cross_roots-few : (m n : ℕ) → m < 8 → n < 8 → cross_roots m n ≤ 3
cross_roots-few m n h k =
    leb-true (cross_roots m n) 3 (agree_below_at (λ n. leb (cross_roots m n) 3) (λ _. true) 8 n
    (agree_below_at (λ m. agree_below (λ n. leb (cross_roots m n) 3) (λ _. true) 8)
    (λ _. true) 8 m few_roots h) k)

-- on a line the cross product is the offset
pub on_line_offset : (l : Line) (p : Position) → IsOnLine p l
    → IsSame (cross_of (direction_vector (line_number l)) p) (wide_number_of (line_offset l))
on_line_offset l p e =
    let cross = cross_of (direction_vector (line_number l)) p in
    let o = wide_number_of (line_offset l) in
    same_from_difference cross o (sign_of-zero (difference_of cross o) e)

pub on_line_from_offset : (l : Line) (p : Position)
    → IsSame (cross_of (direction_vector (line_number l)) p) (wide_number_of (line_offset l)) → IsOnLine p l
on_line_from_offset l p e =
    let cross = cross_of (direction_vector (line_number l)) p in
    let o = wide_number_of (line_offset l) in
    zero_sign_of (difference_of cross o) (difference_from_same cross o e)

-- ---- offsets of lines by points on them

-- on the line through p in direction n exactly where the cross products are the same
pub offset_from_side : (p : Position) (n : ℕ) (v : Position) → side_of p n v ≡ Zero
    → IsSame (cross_of (direction_vector n) v) (cross_of (direction_vector n) p)
offset_from_side p n v e =
    let d = direction_vector n in
    let x = cross_of d (vector_of p v) in
    let y = difference_of (cross_of d v) (cross_of d p) in
    let same : IsSame y x = number_ring (d.x ∷ d.y ∷ p.x ∷ p.y ∷ v.x ∷ v.y ∷ [])
    ((v0 ⊗ v5 ⊝ v1 ⊗ v4) ⊝ (v0 ⊗ v3 ⊝ v1 ⊗ v2)) (v0 ⊗ (v5 ⊝ v3) ⊝ v1 ⊗ (v4 ⊝ v2)) refl in
    same_from_difference (cross_of d v) (cross_of d p) (sign_of-zero y (sign_of-same y x same ∙ e))

pub side_from_offset : (p : Position) (n : ℕ) (v : Position)
    → IsSame (cross_of (direction_vector n) v) (cross_of (direction_vector n) p) → side_of p n v ≡ Zero
side_from_offset p n v e =
    let d = direction_vector n in
    let x = cross_of d (vector_of p v) in
    let y = difference_of (cross_of d v) (cross_of d p) in
    let same : IsSame x y = number_ring (d.x ∷ d.y ∷ p.x ∷ p.y ∷ v.x ∷ v.y ∷ [])
    (v0 ⊗ (v5 ⊝ v3) ⊝ v1 ⊗ (v4 ⊝ v2)) ((v0 ⊗ v5 ⊝ v1 ⊗ v4) ⊝ (v0 ⊗ v3 ⊝ v1 ⊗ v2)) refl in
    sign_of-same x y same ∙ zero_sign_of y (difference_from_same (cross_of d v) (cross_of d p) e)

-- ---- the common point

pub meets_first : (d : Position) (o : Number) (e : Position) (u i : Number)
    → IsSame (product_of (cross_of d e) i) (whole (pos 1)) → IsSame (cross_of d (meeting_point d o e u i)) o
meets_first d o e u i h =
    number_ring_from (d.x ∷ d.y ∷ e.x ∷ e.y ∷ o ∷ u ∷ i ∷ []) ((v0 ⊗ v3 ⊝ v1 ⊗ v2) ⊗ v6)
    (con (whole (pos 1))) v4
    (v0 ⊗ ((v3 ⊗ v4 ⊝ v1 ⊗ v5) ⊗ v6) ⊝ v1 ⊗ ((v2 ⊗ v4 ⊝ v0 ⊗ v5) ⊗ v6)) v4 refl h

pub meets_second : (d : Position) (o : Number) (e : Position) (u i : Number)
    → IsSame (product_of (cross_of d e) i) (whole (pos 1)) → IsSame (cross_of e (meeting_point d o e u i)) u
meets_second d o e u i h =
    number_ring_from (d.x ∷ d.y ∷ e.x ∷ e.y ∷ o ∷ u ∷ i ∷ []) ((v0 ⊗ v3 ⊝ v1 ⊗ v2) ⊗ v6)
    (con (whole (pos 1))) v5
    (v2 ⊗ ((v3 ⊗ v4 ⊝ v1 ⊗ v5) ⊗ v6) ⊝ v3 ⊗ ((v2 ⊗ v4 ⊝ v0 ⊗ v5) ⊗ v6)) v5 refl h

pub only_x : (d : Position) (o : Number) (e : Position) (u i : Number) (q : Position)
    → IsSame (product_of (cross_of d e) i) (whole (pos 1)) → IsSame (cross_of d q) o → IsSame (cross_of e q) u
    → IsSame q.x (meeting_point d o e u i).x
only_x d o e u i q h f g =
    number_ring_from_three (d.x ∷ d.y ∷ e.x ∷ e.y ∷ q.x ∷ q.y ∷ o ∷ u ∷ i ∷ [])
    ((v0 ⊗ v3 ⊝ v1 ⊗ v2) ⊗ v8) (con (whole (pos 1))) (⊖ v4)
    (v0 ⊗ v5 ⊝ v1 ⊗ v4) v6 (v2 ⊗ v8)
    (v2 ⊗ v5 ⊝ v3 ⊗ v4) v7 (⊖ (v0 ⊗ v8))
    v4 ((v2 ⊗ v6 ⊝ v0 ⊗ v7) ⊗ v8) refl h f g

pub only_y : (d : Position) (o : Number) (e : Position) (u i : Number) (q : Position)
    → IsSame (product_of (cross_of d e) i) (whole (pos 1)) → IsSame (cross_of d q) o → IsSame (cross_of e q) u
    → IsSame q.y (meeting_point d o e u i).y
only_y d o e u i q h f g =
    number_ring_from_three (d.x ∷ d.y ∷ e.x ∷ e.y ∷ q.x ∷ q.y ∷ o ∷ u ∷ i ∷ [])
    ((v0 ⊗ v3 ⊝ v1 ⊗ v2) ⊗ v8) (con (whole (pos 1))) (⊖ v5)
    (v0 ⊗ v5 ⊝ v1 ⊗ v4) v6 (v3 ⊗ v8)
    (v2 ⊗ v5 ⊝ v3 ⊗ v4) v7 (⊖ (v1 ⊗ v8))
    v5 ((v3 ⊗ v6 ⊝ v1 ⊗ v7) ⊗ v8) refl h f g

-- ---- lines in directions 0 to 7

pub unit_is_inverse : (m n : ℕ) → m < n → n < 8
    → IsSame (product_of (cross_of (direction_vector m) (direction_vector n))
    (unit_inverse_of (cross_tangents m n) (cross_roots m n))) (whole (pos 1))
unit_is_inverse m n less few =
    let i = cross_tangents m n in
    let j = cross_roots m n in
    let c = cross_of (direction_vector m) (direction_vector n) in
    number_ring_from_two (c ∷ unit_of i j ∷ unit_inverse_of i j ∷ []) v0 v1 v2 (v1 ⊗ v2) (con (whole (pos 1)))
    (con (whole (pos 1))) (v0 ⊗ v2) (con (whole (pos 1))) refl
    (direction_cross m n less few) (unit_of-inverse i j)

module _ (l m : Line) (less : line_number l < line_number m) where
  few : line_number m < 8
  few = omega (arith, m.in_range)

  table_inverse : IsSame
      (product_of (cross_of (direction_vector (line_number l)) (direction_vector (line_number m)))
      (unit_inverse_of (cross_tangents (line_number l) (line_number m))
      (cross_roots (line_number l) (line_number m)))) (whole (pos 1))
  table_inverse = unit_is_inverse (line_number l) (line_number m) less few

  -- on both lines
  pub meeting_on_first : IsOnLine (meeting_of l m) l
  meeting_on_first =
      on_line_from_offset l (meeting_of l m)
      (meets_first (direction_vector (line_number l)) (wide_number_of (line_offset l))
      (direction_vector (line_number m)) (wide_number_of (line_offset m))
      (unit_inverse_of (cross_tangents (line_number l) (line_number m))
      (cross_roots (line_number l) (line_number m))) table_inverse)

  pub meeting_on_second : IsOnLine (meeting_of l m) m
  meeting_on_second =
      on_line_from_offset m (meeting_of l m)
      (meets_second (direction_vector (line_number l)) (wide_number_of (line_offset l))
      (direction_vector (line_number m)) (wide_number_of (line_offset m))
      (unit_inverse_of (cross_tangents (line_number l) (line_number m))
      (cross_roots (line_number l) (line_number m))) table_inverse)

  -- a point on both lines is this one
  pub meeting_only : (q : Position) → IsOnLine q l → IsOnLine q m
      → IsSame q.x (meeting_of l m).x × IsSame q.y (meeting_of l m).y
  meeting_only q f g =
      let d = direction_vector (line_number l) in
      let e = direction_vector (line_number m) in
      let o = wide_number_of (line_offset l) in
      let u = wide_number_of (line_offset m) in
      let i = unit_inverse_of (cross_tangents (line_number l) (line_number m))
      (cross_roots (line_number l) (line_number m)) in (
        only_x d o e u i q table_inverse (on_line_offset l q f) (on_line_offset m q g),
        only_y d o e u i q table_inverse (on_line_offset l q f) (on_line_offset m q g),
      )
