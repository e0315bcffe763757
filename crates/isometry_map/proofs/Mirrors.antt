-- Reflections, compositions and images as maps of points.
use Rattle.std.proofs.Common.{◌≡◌, ℕ, zero, suc, ◌+◌, ◌*◌, ◌^◌, ◌<◌, ◌≤◌, [], ◌∷◌, refl, sym, subst, arith, lit≤}
use Rattle.std.proofs.Math.Logic.{∥∥₁_elim}
use Rattle.surd_number.specs.Number.{Number, IsSame, sum_of, difference_of, product_of, negative_of}
use Rattle.surd_number.specs.RingTool.{◌⊕◌, ◌⊝◌, ◌⊗◌, ⊖◌, con, v0, v1, v2, v3, v4, v5, v6, v7, v8, v9, v10, v11, var}
use Rattle.surd_number.specs.NumberLaws.{number_ring, number_ring_from, number_ring_from_two, number_ring_from_three, IsSame-refl, IsSame-sym, IsSame-trans, sum_of-same, difference_of-same}
use Rattle.plane_geometry.specs.declared.Line.{Line}
use Rattle.plane_geometry.specs.Position.{Position, position_of, vector_of, cross_of, dot_of}
use Rattle.plane_geometry.specs.Direction.{one, nought, direction_vector, upper_vector}
use Rattle.plane_geometry.specs.Multiple.{IsSameVector}
use Rattle.plane_geometry.specs.LineView.{line_number, line_offset, IsOnLine}
use Rattle.plane_geometry.specs.CrossLaws.{upper_is}
use Rattle.plane_geometry.specs.MeetLaws.{on_line_offset, on_line_from_offset}
use Rattle.plane_geometry.specs.DirectionLaws.{square_inverse}
use Rattle.surd_number.specs.Value.{number_of, wide_number_of}
use Rattle.surd_number.specs.FitsLaws.{fits_sum, fits_stored, fits_prop}
use Rattle.plane_geometry.specs.declared.Point.{Point}
use Rattle.plane_geometry.specs.LineStored.{PassesThroughPoint}
use Rattle.isometry_map.specs.Linear.{reflection}
use Rattle.isometry_map.specs.Matrix.{Matrix, matrix_of, matrix_product, image_of, normal_of, IsSameMatrix, IsMirrorOf}
use Rattle.isometry_map.specs.Motion.{Motion, image_by, shifted, IsSameMap, IsComposition, IsReflectionIn, IsReflection, IsIdentity, IsShiftWithin, identity_motion, reflection_at}
use Rattle.isometry_map.proofs.Widths.{FitWithin, image_fits, point_more, point_finer, point_same, vector_fits}

-- ---- the same vector

pub same_vector-trans : (u v w : Position) → IsSameVector u v → IsSameVector v w → IsSameVector u w
same_vector-trans u v w e f = (IsSame-trans u.x v.x w.x e.0 f.0, IsSame-trans u.y v.y w.y e.1 f.1)

pub shifted-same : (u v w : Position) → IsSameVector u v → IsSameVector (shifted u w) (shifted v w)
shifted-same u v w e =
    (sum_of-same u.x w.x v.x w.x e.0 (IsSame-refl w.x), sum_of-same u.y w.y v.y w.y e.1 (IsSame-refl w.y))

pub vector_of-same : (u v q : Position) → IsSameVector u v → IsSameVector (vector_of u q) (vector_of v q)
vector_of-same u v q e = (
  difference_of-same q.x u.x q.x v.x (IsSame-refl q.x) e.0,
  difference_of-same q.y u.y q.y v.y (IsSame-refl q.y) e.1,
)

-- ---- vectors along the line stay

-- v is a multiple of d where their cross product is zero; i is the inverse of the square of d
multiple_x : (d v : Position) (i : Number) → IsSame (product_of i (dot_of d d)) one
    → IsSame (cross_of d v) nought → IsSame v.x (product_of (product_of i (dot_of d v)) d.x)
multiple_x d v i h e =
    number_ring_from_two (d.x ∷ d.y ∷ v.x ∷ v.y ∷ i ∷ [])
    (v4 ⊗ (v0 ⊗ v0 ⊕ v1 ⊗ v1)) (con one) (⊖ v2) (v0 ⊗ v3 ⊝ v1 ⊗ v2) (con nought) (⊖ (v4 ⊗ v1))
    v2 (v4 ⊗ (v0 ⊗ v2 ⊕ v1 ⊗ v3) ⊗ v0) refl h e

multiple_y : (d v : Position) (i : Number) → IsSame (product_of i (dot_of d d)) one
    → IsSame (cross_of d v) nought → IsSame v.y (product_of (product_of i (dot_of d v)) d.y)
multiple_y d v i h e =
    number_ring_from_two (d.x ∷ d.y ∷ v.x ∷ v.y ∷ i ∷ [])
    (v4 ⊗ (v0 ⊗ v0 ⊕ v1 ⊗ v1)) (con one) (⊖ v3) (v0 ⊗ v3 ⊝ v1 ⊗ v2) (con nought) (v4 ⊗ v0)
    v3 (v4 ⊗ (v0 ⊗ v2 ⊕ v1 ⊗ v3) ⊗ v1) refl h e

-- a row (a, b) of a matrix that keeps a coordinate of d keeps that of a multiple of d
row_keeps : (a b dx dy m vx vy : Number) (d v : Number) → IsSame vx (product_of m dx)
    → IsSame vy (product_of m dy) → IsSame v (product_of m d)
    → IsSame (sum_of (product_of a dx) (product_of b dy)) d
    → IsSame (sum_of (product_of a vx) (product_of b vy)) v
row_keeps a b dx dy m vx vy d v e f g h =
    let multiple : IsSame (sum_of (product_of a vx) (product_of b vy)) (product_of m d) =
    number_ring_from_three (a ∷ b ∷ dx ∷ dy ∷ m ∷ vx ∷ vy ∷ d ∷ []) v5 (v4 ⊗ v2) v0 v6 (v4 ⊗ v3) v1
    (v0 ⊗ v2 ⊕ v1 ⊗ v3) v7 v4 (v0 ⊗ v5 ⊕ v1 ⊗ v6) (v4 ⊗ v7) refl e f h in
    IsSame-trans (sum_of (product_of a vx) (product_of b vy)) (product_of m d) v multiple
    (IsSame-sym v (product_of m d) g)

along_stays : (n : ℕ) (m : Matrix) (v : Position)
    → IsSameVector (image_of m (direction_vector n)) (direction_vector n)
    → IsSame (cross_of (direction_vector n) v) nought → IsSameVector (image_of m v) v
along_stays n m v keeps e =
    let d = direction_vector n in
    let inverse = square_inverse n in
    let i = inverse.0 in
    let by = product_of i (dot_of d v) in
    let at_x : IsSame v.x (product_of by d.x) = multiple_x d v i inverse.1 e in
    let at_y : IsSame v.y (product_of by d.y) = multiple_y d v i inverse.1 e in (
      row_keeps m.xx m.xy d.x d.y by v.x v.y d.x v.x at_x at_y at_x keeps.0,
      row_keeps m.yx m.yy d.x d.y by v.x v.y d.y v.y at_x at_y at_y keeps.1,
    )

-- ---- a reflection whose shift is q less the image of q

cross_difference : (d p q : Position) (o : Number) → IsSame (cross_of d p) o → IsSame (cross_of d q) o
    → IsSame (cross_of d (vector_of q p)) nought
cross_difference d p q o e f =
    number_ring_from_two (d.x ∷ d.y ∷ p.x ∷ p.y ∷ q.x ∷ q.y ∷ o ∷ []) (v0 ⊗ v3 ⊝ v1 ⊗ v2) v6 (con one)
    (v0 ⊗ v5 ⊝ v1 ⊗ v4) v6 (con (negative_of one)) (v0 ⊗ (v3 ⊝ v5) ⊝ v1 ⊗ (v2 ⊝ v4)) (con nought) refl e f

-- a row (a, b) with the shift s: what stays
row_stays : (a b px py qx qy p q s : Number)
    → IsSame s (difference_of q (sum_of (product_of a qx) (product_of b qy)))
    → IsSame (sum_of (product_of a (difference_of px qx)) (product_of b (difference_of py qy)))
    (difference_of p q) → IsSame (sum_of (sum_of (product_of a px) (product_of b py)) s) p
row_stays a b px py qx qy p q s e f =
    number_ring_from_two (a ∷ b ∷ px ∷ py ∷ qx ∷ qy ∷ p ∷ q ∷ s ∷ []) v8 (v7 ⊝ (v0 ⊗ v4 ⊕ v1 ⊗ v5)) (con one)
    (v0 ⊗ (v2 ⊝ v4) ⊕ v1 ⊗ (v3 ⊝ v5)) (v6 ⊝ v7) (con one)
    (v0 ⊗ v2 ⊕ v1 ⊗ v3 ⊕ v8) v6 refl e f

-- and what is turned round: w is a coordinate of the normal (wx, wy)
row_turns : (a b px py wx wy m p w s : Number)
    → IsSame (sum_of (sum_of (product_of a px) (product_of b py)) s) p
    → IsSame (sum_of (product_of a wx) (product_of b wy)) (negative_of w)
    → IsSame (sum_of (sum_of (product_of a (sum_of px (product_of m wx)))
    (product_of b (sum_of py (product_of m wy)))) s) (sum_of p (product_of (negative_of m) w))
row_turns a b px py wx wy m p w s e f =
    number_ring_from_two (a ∷ b ∷ px ∷ py ∷ wx ∷ wy ∷ m ∷ p ∷ w ∷ s ∷ []) (v0 ⊗ v2 ⊕ v1 ⊗ v3 ⊕ v9) v7
    (con one) (v0 ⊗ v4 ⊕ v1 ⊗ v5) (⊖ v8) v6
    (v0 ⊗ (v2 ⊕ v6 ⊗ v4) ⊕ v1 ⊗ (v3 ⊕ v6 ⊗ v5) ⊕ v9) (v7 ⊕ (⊖ v6) ⊗ v8) refl e f

module _ (l : Line) (t : Motion) (q : Position) (mirror : IsMirrorOf (line_number l) (matrix_of t.linear))
    (on : IsSame (cross_of (direction_vector (line_number l)) q) (wide_number_of (line_offset l)))
    (shift : IsSameVector t.shift (vector_of (image_of (matrix_of t.linear) q) q)) where
  stays : (p : Position) → IsOnLine p l → IsSameVector (image_by t p) p
  stays p here =
      let m = matrix_of t.linear in
      let d = direction_vector (line_number l) in
      let v = vector_of q p in
      let kept = along_stays (line_number l) m v mirror.0
      (cross_difference d p q (wide_number_of (line_offset l)) (on_line_offset l p here) on) in (
        row_stays m.xx m.xy p.x p.y q.x q.y p.x q.x t.shift.x shift.0 kept.0,
        row_stays m.yx m.yy p.x p.y q.x q.y p.y q.y t.shift.y shift.1 kept.1,
      )

  pub reflects : IsReflectionIn l t
  reflects = record {
    stays = stays;
    turns = λ p m here.
        let a = matrix_of t.linear in
        let w = normal_of (direction_vector (line_number l)) in
        let kept = stays p here in (
          row_turns a.xx a.xy p.x p.y w.x w.y m p.x w.x t.shift.x kept.0 mirror.1.0,
          row_turns a.yx a.yy p.x p.y w.x w.y m p.y w.y t.shift.y kept.1 mirror.1.1,
        );
  }

-- the shift of a map that keeps q
row_shift : (a b qx qy q s : Number) → IsSame (sum_of (sum_of (product_of a qx) (product_of b qy)) s) q
    → IsSame s (difference_of q (sum_of (product_of a qx) (product_of b qy)))
row_shift a b qx qy q s e =
    number_ring_from (a ∷ b ∷ qx ∷ qy ∷ q ∷ s ∷ []) (v0 ⊗ v2 ⊕ v1 ⊗ v3 ⊕ v5) v4 (con one) v5
    (v4 ⊝ (v0 ⊗ v2 ⊕ v1 ⊗ v3)) refl e

pub shift_by : (t : Motion) (q : Position) → IsSameVector (image_by t q) q
    → IsSameVector t.shift (vector_of (image_of (matrix_of t.linear) q) q)
shift_by t q kept =
    let m = matrix_of t.linear in
    (row_shift m.xx m.xy q.x q.y q.x t.shift.x kept.0, row_shift m.yx m.yy q.x q.y q.y t.shift.y kept.1)

-- the shift as the code computes it
pub reflection_shift : (n : ℕ) (s image q : Position) → IsSameVector s (vector_of image q)
    → IsSameVector image (image_of (matrix_of n) q) → IsSameVector s (vector_of (image_of (matrix_of n) q) q)
reflection_shift n s image q e f =
    same_vector-trans s (vector_of image q) (vector_of (image_of (matrix_of n) q) q) e
    (vector_of-same image (image_of (matrix_of n) q) q f)

-- ---- maps with one linear part and the same shift

row_same : (x s u : Number) → IsSame s u → IsSame (sum_of x s) (sum_of x u)
row_same x s u e = number_ring_from (x ∷ s ∷ u ∷ []) v1 v2 (con one) (v0 ⊕ v1) (v0 ⊕ v2) refl e

pub same_maps : (n : ℕ) (u v : Position) → IsSameVector u v
    → IsSameMap (record { linear = n; shift = u }) (record { linear = n; shift = v })
same_maps n u v e =
    λ p. let image = image_of (matrix_of n) p in (row_same image.x u.x v.x e.0, row_same image.y u.y v.y e.1)

same_at : (n m : ℕ) (u v : Position) → n ≡ m → IsSameVector u (vector_of (image_of (matrix_of n) v) v)
    → IsSameMap (record { linear = n; shift = u })
    (record { linear = m; shift = vector_of (image_of (matrix_of m) v) v })
same_at n m u v e f =
    let P : ℕ → Type 0 = λ k. IsSameMap (record { linear = n; shift = u })
    (record { linear = k; shift = vector_of (image_of (matrix_of k) v) v }) in
    subst P e (same_maps n u (vector_of (image_of (matrix_of n) v) v) f)

pub reflects_at : (l : Line) (t : Motion) → t.linear ≡ reflection (line_number l) → IsReflectionIn l t
    → (q : Position) → IsOnLine q l → IsSameMap t (reflection_at (line_number l) q)
reflects_at l t e h q on =
    same_at t.linear (reflection (line_number l)) t.shift q e (shift_by t q (h.stays q on))

-- ---- compositions

-- a row of the product of two matrices, with its shift
row_composes : (a b xx xy yx yy px py sx sy u ra rb rs : Number)
    → IsSame ra (sum_of (product_of a xx) (product_of b yx))
    → IsSame rb (sum_of (product_of a xy) (product_of b yy))
    → IsSame rs (sum_of (sum_of (product_of a sx) (product_of b sy)) u)
    → IsSame (sum_of (sum_of (product_of ra px) (product_of rb py)) rs)
    (sum_of (sum_of (product_of a (sum_of (sum_of (product_of xx px) (product_of xy py)) sx))
    (product_of b (sum_of (sum_of (product_of yx px) (product_of yy py)) sy))) u)
row_composes a b xx xy yx yy px py sx sy u ra rb rs e f g =
    number_ring_from_three (a ∷ b ∷ xx ∷ xy ∷ yx ∷ yy ∷ px ∷ py ∷ sx ∷ sy ∷ u ∷ ra ∷ rb ∷ rs ∷ [])
    v11 (v0 ⊗ v2 ⊕ v1 ⊗ v4) v6 (var 12) (v0 ⊗ v3 ⊕ v1 ⊗ v5) v7 (var 13) (v0 ⊗ v8 ⊕ v1 ⊗ v9 ⊕ v10) (con one)
    (v11 ⊗ v6 ⊕ var 12 ⊗ v7 ⊕ var 13)
    (v0 ⊗ (v2 ⊗ v6 ⊕ v3 ⊗ v7 ⊕ v8) ⊕ v1 ⊗ (v4 ⊗ v6 ⊕ v5 ⊗ v7 ⊕ v9) ⊕ v10) refl e f g

pub composes : (r s t : Motion)
    → IsSameMatrix (matrix_of r.linear) (matrix_product (matrix_of s.linear) (matrix_of t.linear))
    → IsSameVector r.shift (image_by s t.shift) → IsComposition r s t
composes r s t e f p =
    let m = matrix_of r.linear in
    let a = matrix_of s.linear in
    let b = matrix_of t.linear in (
      row_composes a.xx a.xy b.xx b.xy b.yx b.yy p.x p.y t.shift.x t.shift.y s.shift.x m.xx m.xy r.shift.x e.xx
          e.xy f.0,
      row_composes a.yx a.yy b.xx b.xy b.yx b.yy p.x p.y t.shift.x t.shift.y s.shift.y m.yx m.yy
          r.shift.y e.yx e.yy f.1,
    )

-- ---- the point of a line on an axis

upper_right : (n : ℕ) → n < 3 → (upper_vector n).x ≡ one
upper_right zero few = refl
upper_right (suc zero) few = refl
upper_right (suc (suc zero)) few = refl
upper_right (suc (suc (suc n))) few = absurd (omega arith)

upper_up : (n : ℕ) → 3 ≤ n → n < 6 → (upper_vector n).y ≡ one
upper_up zero most few = absurd (omega arith)
upper_up (suc zero) most few = absurd (omega arith)
upper_up (suc (suc zero)) most few = absurd (omega arith)
upper_up (suc (suc (suc zero))) most few = refl
upper_up (suc (suc (suc (suc zero)))) most few = refl
upper_up (suc (suc (suc (suc (suc zero))))) most few = refl
upper_up (suc (suc (suc (suc (suc (suc n)))))) most few = absurd (omega arith)

upper_left : (n : ℕ) → 6 ≤ n → n < 8 → (upper_vector n).x ≡ negative_of one
upper_left zero most few = absurd (omega arith)
upper_left (suc zero) most few = absurd (omega arith)
upper_left (suc (suc zero)) most few = absurd (omega arith)
upper_left (suc (suc (suc zero))) most few = absurd (omega arith)
upper_left (suc (suc (suc (suc zero)))) most few = absurd (omega arith)
upper_left (suc (suc (suc (suc (suc zero))))) most few = absurd (omega arith)
upper_left (suc (suc (suc (suc (suc (suc zero)))))) most few = refl
upper_left (suc (suc (suc (suc (suc (suc (suc zero))))))) most few = refl
upper_left (suc (suc (suc (suc (suc (suc (suc (suc n)))))))) most few = absurd (omega arith)

pub axis_right : (n : ℕ) (z o : Number) → n < 3 → IsSame z nought
    → IsSame (cross_of (direction_vector n) (record { x = z; y = o })) o
axis_right n z o few e =
    let P : Position → Type 0 = λ d. IsSame (cross_of d (record { x = z; y = o })) o in
    let y = (upper_vector n).y in
    let Q : Number → Type 0 = λ x. IsSame (difference_of (product_of x o) (product_of y z)) o in
    subst P (sym (upper_is n (omega arith)))
    (subst Q (sym (upper_right n few))
    (number_ring_from (y ∷ z ∷ o ∷ []) v1 (con nought) (⊖ v0) (con one ⊗ v2 ⊝ v0 ⊗ v1) v2 refl e))

pub axis_up : (n : ℕ) (z r o : Number) → 3 ≤ n → n < 6 → IsSame z nought → IsSame r (negative_of o)
    → IsSame (cross_of (direction_vector n) (record { x = r; y = z })) o
axis_up n z r o most few e f =
    let P : Position → Type 0 = λ d. IsSame (cross_of d (record { x = r; y = z })) o in
    let x = (upper_vector n).x in
    let Q : Number → Type 0 = λ y. IsSame (difference_of (product_of x z) (product_of y r)) o in
    subst P (sym (upper_is n (omega arith)))
    (subst Q (sym (upper_up n most few))
    (number_ring_from_two (x ∷ z ∷ r ∷ o ∷ []) v1 (con nought) v0 v2 (⊖ v3) (con (negative_of one))
    (v0 ⊗ v1 ⊝ con one ⊗ v2) v3 refl e f))

pub axis_left : (n : ℕ) (z r o : Number) → 6 ≤ n → n < 8 → IsSame z nought → IsSame r (negative_of o)
    → IsSame (cross_of (direction_vector n) (record { x = z; y = r })) o
axis_left n z r o most few e f =
    let P : Position → Type 0 = λ d. IsSame (cross_of d (record { x = z; y = r })) o in
    let y = (upper_vector n).y in
    let Q : Number → Type 0 = λ x. IsSame (difference_of (product_of x r) (product_of y z)) o in
    subst P (sym (upper_is n few))
    (subst Q (sym (upper_left n most few))
    (number_ring_from_two (y ∷ z ∷ r ∷ o ∷ []) v1 (con nought) (⊖ v0) v2 (⊖ v3) (con (negative_of one))
    (con (negative_of one) ⊗ v2 ⊝ v0 ⊗ v1) v3 refl e f))

-- ---- the shift of a reflection

-- a map that keeps a point of two Surds
kept_shift_fits : (t : Motion) (p : Point) → IsSameVector (image_by t (position_of p)) (position_of p)
    → FitWithin (2 ^ 55) 17 t.shift
kept_shift_fits t p kept =
    let q = position_of p in
    let image = image_of (matrix_of t.linear) q in
    let own : FitWithin (2 ^ 52) 16 q =
    (fits_stored (number_of p.x) p.x.stored, fits_stored (number_of p.y) p.y.stored) in
    point_same (2 ^ 55) 17 t.shift (vector_of image q) (shift_by t q kept)
    (point_more (2 ^ 52 * 2 ^ 1 + 4 * 2 ^ 52) (2 ^ 55) 17 (vector_of image q) (lit≤ tt)
    (vector_fits (4 * 2 ^ 52) (2 ^ 52 * 2 ^ 1) 17 image q (image_fits t.linear (2 ^ 52) 16 q own)
    (point_finer (2 ^ 52) 16 1 q own)))

pub reflection_shift_fits : (t : Motion) → IsReflection t → FitWithin (2 ^ 55) 17 t.shift
reflection_shift_fits t h =
    let l = h.0 in
    let at : PassesThroughPoint l.direction l.offset → FitWithin (2 ^ 55) 17 t.shift =
    λ w. let q = position_of w.0 in
    kept_shift_fits t w.0
    (h.1.stays q (on_line_from_offset l q
    (IsSame-sym (wide_number_of l.offset) (cross_of (direction_vector l.direction) q) w.1))) in (
      ∥∥₁_elim l.passes (fits_prop (2 ^ 55) 17 t.shift.x)
          (λ (w : PassesThroughPoint l.direction l.offset). (at w).0),
      ∥∥₁_elim l.passes (fits_prop (2 ^ 55) 17 t.shift.y)
          (λ (w : PassesThroughPoint l.direction l.offset). (at w).1),
    )

pub reflection_fits : (t : Motion) → IsReflection t → FitWithin (2 ^ 70) 17 t.shift
reflection_fits t h = point_more (2 ^ 55) (2 ^ 70) 17 t.shift (lit≤ tt) (reflection_shift_fits t h)

pub reflection_within : (t : Motion) → IsReflection t → IsShiftWithin (2 ^ 57) t
reflection_within t h =
    point_more (2 ^ 55 * 2 ^ 1) (2 ^ 57) 18 t.shift (lit≤ tt)
    (point_finer (2 ^ 55) 17 1 t.shift (reflection_shift_fits t h))

-- what composing with it adds to a shift
pub term_fits : (n : ℕ) (u : Position) (t : Motion) → IsReflection t
    → IsSameVector u (image_of (matrix_of n) t.shift) → FitWithin (2 ^ 57) 18 u
term_fits n u t h e =
    point_same (2 ^ 57) 18 u (image_of (matrix_of n) t.shift) e
    (point_more (4 * 2 ^ 55) (2 ^ 57) 18 (image_of (matrix_of n) t.shift) (lit≤ tt)
    (image_fits n (2 ^ 55) 17 t.shift (reflection_shift_fits t h)))

pub shift_grows : (most : ℕ) (r u s : Position) → IsSameVector r (shifted u s) → FitWithin (2 ^ 57) 18 u
    → FitWithin most 18 s → FitWithin (most + 2 ^ 57) 18 r
shift_grows most r u s e f g =
    point_same (most + 2 ^ 57) 18 r (shifted u s) e
    (point_more (2 ^ 57 + most) (most + 2 ^ 57) 18 (shifted u s) (omega arith)
    (fits_sum (2 ^ 57) most 18 u.x s.x f.0 g.0, fits_sum (2 ^ 57) most 18 u.y s.y f.1 g.1))

-- ---- the identity

identity_x : (x y : Number)
    → IsSame (sum_of (sum_of (product_of one x) (product_of (negative_of nought) y)) nought) x
identity_x x y = number_ring (x ∷ y ∷ []) (con one ⊗ v0 ⊕ con (negative_of nought) ⊗ v1 ⊕ con nought) v0 refl

identity_y : (x y : Number) → IsSame (sum_of (sum_of (product_of nought x) (product_of one y)) nought) y
identity_y x y = number_ring (x ∷ y ∷ []) (con nought ⊗ v0 ⊕ con one ⊗ v1 ⊕ con nought) v1 refl

pub identity_stays : IsIdentity identity_motion
identity_stays p = (identity_x p.x p.y, identity_y p.x p.y)

-- ---- images as the code computes them

pub image_shifted : (t : Motion) (r u v : Position) → IsSameVector r (shifted u t.shift)
    → IsSameVector u (image_of (matrix_of t.linear) v) → IsSameVector r (image_by t v)
image_shifted t r u v e f =
    same_vector-trans r (shifted u t.shift) (image_by t v) e
    (shifted-same u (image_of (matrix_of t.linear) v) t.shift f)
