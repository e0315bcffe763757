-- What isometries keep: directions, sides, and themselves where each point has one image.
use Rattle.std.proofs.Common.{◌≡◌, ◌∙◌, ℕ, ◌<◌, ◌≤◌, Bool, true, false, cond, ◌&&◌, [], ◌∷◌, pos, negsuc, refl, sym, ap, ap₂, subst, arith}
use Rattle.std.proofs.lemmas.Bool.{and_parts, agree_below}
use Rattle.std.proofs.Math.Bridge.{le_prop}
use mathlib.Core.HLevel.{is_prop→PathP}
use Rattle.surd_number.specs.declared.Sgn.{Sgn}
use Rattle.surd_number.specs.declared.Sgn.TheVariants.{Neg, Zero, Pos}
use Rattle.surd_number.specs.Number.{Number, IsSame, whole, sum_of, difference_of, product_of, negative_of, sign_of, opposite_sign, times_sign}
use Rattle.surd_number.specs.RingTool.{◌⊕◌, ◌⊝◌, ◌⊗◌, ⊖◌, con, v0, v1, v2, v3, v4, v5, v6, v7}
use Rattle.surd_number.specs.NumberLaws.{number_ring, number_ring_from, number_ring_from_two, number_ring_from_three, IsSame-refl, sum_of-same, difference_of-same, product_of-same}
use Rattle.surd_number.specs.SignLaws.{sign_of-same, sign_of-negative, sign_of-product}
use Rattle.surd_number.specs.FitsLaws.{fits_more}
use Rattle.surd_number.specs.SurdLaws.{wide_is}
use Rattle.plane_geometry.specs.Position.{Position, vector_of, cross_of, dot_of}
use Rattle.plane_geometry.specs.Direction.{one, nought, direction_vector, side_of, is_positive, is_zero}
use Rattle.plane_geometry.specs.Multiple.{IsSameVector}
use Rattle.plane_geometry.specs.SideLaws.{along_cross, along_dot, square_sign, opposite_twice}
use Rattle.plane_geometry.specs.StretchLaws.{positive_is, zero_is}
use Rattle.isometry_map.specs.declared.linear_parts.Linear.{Linear}
use Rattle.isometry_map.specs.declared.isometries.Isometry.{Isometry}
use Rattle.isometry_map.specs.Linear.{is_reflection, direction_image, side_image}
use Rattle.isometry_map.specs.LinearView.{linear_number}
use Rattle.isometry_map.specs.Matrix.{Matrix, matrix_of, determinant, image_of, IsSameMatrix}
use Rattle.isometry_map.specs.Motion.{Motion, image_by, IsSameMap, IsShiftWithin}
use Rattle.isometry_map.specs.IsometryView.{motion_of}
use Rattle.isometry_map.specs.Laws.{DirectionsGoToDirections, SidesAreKept, IsometriesAreTheirMaps}
use Rattle.isometry_map.specs.MatrixLaws.{is_same_number, same_is, holds_at, holds_at_both, parts_differ, turned_reverse}

-- ---- tables

-- the image of a direction is a positive multiple of the direction that it becomes
is_turned_to : ℕ → ℕ → Bool
is_turned_to i n =
    is_zero (sign_of (cross_of (direction_vector (direction_image i n))
    (image_of (matrix_of i) (direction_vector n))))
    && is_positive (sign_of
    (dot_of (direction_vector (direction_image i n)) (image_of (matrix_of i) (direction_vector n))))

turned_table : agree_below (λ i. agree_below (is_turned_to i) (λ _. true) 16) (λ _. true) 16 ≡ true
unfolding is_turned_to
turned_table = refl

turned_across : (i n : ℕ) → i < 16 → n < 16
    → sign_of (cross_of (direction_vector (direction_image i n))
    (image_of (matrix_of i) (direction_vector n))) ≡ Zero
unfolding is_turned_to
turned_across i n few_i few_n =
    zero_is (sign_of (cross_of (direction_vector (direction_image i n))
    (image_of (matrix_of i) (direction_vector n))))
    (and_parts (is_zero (sign_of (cross_of (direction_vector (direction_image i n))
    (image_of (matrix_of i) (direction_vector n))))) _
    (holds_at_both is_turned_to i n turned_table few_i few_n)).0

turned_along : (i n : ℕ) → i < 16 → n < 16
    → sign_of (dot_of (direction_vector (direction_image i n)) (image_of (matrix_of i) (direction_vector n)))
    ≡ Pos
unfolding is_turned_to
turned_along i n few_i few_n =
    positive_is (sign_of (dot_of (direction_vector (direction_image i n))
    (image_of (matrix_of i) (direction_vector n))))
    (and_parts (is_zero (sign_of (cross_of (direction_vector (direction_image i n))
    (image_of (matrix_of i) (direction_vector n))))) _
    (holds_at_both is_turned_to i n turned_table few_i few_n)).1

-- the columns of a matrix are unit vectors at a right angle
pub record IsOrthogonal (m : Matrix) : Type 0 where
  pub first : IsSame (sum_of (product_of m.xx m.xx) (product_of m.yx m.yx)) one
  pub both : IsSame (sum_of (product_of m.xx m.xy) (product_of m.yx m.yy)) nought
  pub second : IsSame (sum_of (product_of m.xy m.xy) (product_of m.yy m.yy)) one

is_orthogonal : ℕ → Bool
is_orthogonal i =
    is_same_number (sum_of (product_of (matrix_of i).xx (matrix_of i).xx)
    (product_of (matrix_of i).yx (matrix_of i).yx)) one
    && (is_same_number (sum_of (product_of (matrix_of i).xx (matrix_of i).xy)
    (product_of (matrix_of i).yx (matrix_of i).yy)) nought
    && is_same_number (sum_of (product_of (matrix_of i).xy (matrix_of i).xy)
    (product_of (matrix_of i).yy (matrix_of i).yy)) one)

orthogonal_table : agree_below is_orthogonal (λ _. true) 16 ≡ true
unfolding is_orthogonal
orthogonal_table = refl

orthogonal : (i : ℕ) → i < 16 → IsOrthogonal (matrix_of i)
unfolding is_orthogonal
orthogonal i few =
    let m = matrix_of i in
    let a = sum_of (product_of m.xx m.xx) (product_of m.yx m.yx) in
    let b = sum_of (product_of m.xx m.xy) (product_of m.yx m.yy) in
    let d = sum_of (product_of m.xy m.xy) (product_of m.yy m.yy) in
    let h = and_parts (is_same_number a one) (is_same_number b nought && is_same_number d one)
    (holds_at is_orthogonal i orthogonal_table few) in
    let k = and_parts (is_same_number b nought) (is_same_number d one) h.1 in
    record { first = same_is a one h.0; both = same_is b nought k.0; second = same_is d one k.1 }

-- ---- cross and dot products of images

image_cross : (m : Matrix) (u v : Position)
    → IsSame (cross_of (image_of m u) (image_of m v)) (product_of (determinant m) (cross_of u v))
image_cross m u v =
    number_ring (m.xx ∷ m.xy ∷ m.yx ∷ m.yy ∷ u.x ∷ u.y ∷ v.x ∷ v.y ∷ [])
    ((v0 ⊗ v4 ⊕ v1 ⊗ v5) ⊗ (v2 ⊗ v6 ⊕ v3 ⊗ v7) ⊝ (v2 ⊗ v4 ⊕ v3 ⊗ v5) ⊗ (v0 ⊗ v6 ⊕ v1 ⊗ v7))
    ((v0 ⊗ v3 ⊝ v1 ⊗ v2) ⊗ (v4 ⊗ v7 ⊝ v5 ⊗ v6)) refl

image_dot : (m : Matrix) (u v : Position) → IsOrthogonal m
    → IsSame (dot_of (image_of m u) (image_of m v)) (dot_of u v)
image_dot m u v h =
    number_ring_from_three (m.xx ∷ m.xy ∷ m.yx ∷ m.yy ∷ u.x ∷ u.y ∷ v.x ∷ v.y ∷ [])
    (v0 ⊗ v0 ⊕ v2 ⊗ v2) (con one) (v4 ⊗ v6) (v0 ⊗ v1 ⊕ v2 ⊗ v3) (con nought) (v4 ⊗ v7 ⊕ v5 ⊗ v6)
    (v1 ⊗ v1 ⊕ v3 ⊗ v3) (con one) (v5 ⊗ v7)
    ((v0 ⊗ v4 ⊕ v1 ⊗ v5) ⊗ (v0 ⊗ v6 ⊕ v1 ⊗ v7) ⊕ (v2 ⊗ v4 ⊕ v3 ⊗ v5) ⊗ (v2 ⊗ v6 ⊕ v3 ⊗ v7))
    (v4 ⊗ v6 ⊕ v5 ⊗ v7) refl h.first h.both h.second

turned_cross : (u v : Position) → sign_of (cross_of u v) ≡ opposite_sign (sign_of (cross_of v u))
turned_cross u v =
    sign_of-same (cross_of u v) (negative_of (cross_of v u))
    (number_ring (u.x ∷ u.y ∷ v.x ∷ v.y ∷ []) (v0 ⊗ v3 ⊝ v1 ⊗ v2) (⊖ (v2 ⊗ v1 ⊝ v3 ⊗ v0)) refl)
    ∙ sign_of-negative (cross_of v u)

turned_dot : (u v : Position) → sign_of (dot_of u v) ≡ sign_of (dot_of v u)
turned_dot u v = sign_of-same (dot_of u v) (dot_of v u)
    (number_ring (u.x ∷ u.y ∷ v.x ∷ v.y ∷ []) (v0 ⊗ v2 ⊕ v1 ⊗ v3) (v2 ⊗ v0 ⊕ v3 ⊗ v1) refl)

pub cross_same : (d u v : Position) → IsSameVector u v → sign_of (cross_of d u) ≡ sign_of (cross_of d v)
cross_same d u v e =
    sign_of-same (cross_of d u) (cross_of d v)
    (difference_of-same (product_of d.x u.y) (product_of d.y u.x) (product_of d.x v.y)
    (product_of d.y v.x) (product_of-same d.x u.y d.x v.y (IsSame-refl d.x) e.1)
    (product_of-same d.y u.x d.y v.x (IsSame-refl d.y) e.0))

pub dot_same : (d u v : Position) → IsSameVector u v → sign_of (dot_of d u) ≡ sign_of (dot_of d v)
dot_same d u v e =
    sign_of-same (dot_of d u) (dot_of d v)
    (sum_of-same (product_of d.x u.x) (product_of d.y u.y) (product_of d.x v.x) (product_of d.y v.y)
    (product_of-same d.x u.x d.x v.x (IsSame-refl d.x) e.0)
    (product_of-same d.y u.y d.y v.y (IsSame-refl d.y) e.1))

row_difference : (a b px py qx qy s : Number)
    → IsSame (difference_of (sum_of (sum_of (product_of a qx) (product_of b qy)) s)
    (sum_of (sum_of (product_of a px) (product_of b py)) s))
    (sum_of (product_of a (difference_of qx px)) (product_of b (difference_of qy py)))
row_difference a b px py qx qy s =
    number_ring (a ∷ b ∷ px ∷ py ∷ qx ∷ qy ∷ s ∷ []) (v0 ⊗ v4 ⊕ v1 ⊗ v5 ⊕ v6 ⊝ (v0 ⊗ v2 ⊕ v1 ⊗ v3 ⊕ v6))
    (v0 ⊗ (v4 ⊝ v2) ⊕ v1 ⊗ (v5 ⊝ v3)) refl

-- the vector between two images is the image of the vector
image_vector : (t : Motion) (p q : Position)
    → IsSameVector (vector_of (image_by t p) (image_by t q)) (image_of (matrix_of t.linear) (vector_of p q))
image_vector t p q =
    let m = matrix_of t.linear in
    (row_difference m.xx m.xy p.x p.y q.x q.y t.shift.x, row_difference m.yx m.yy p.x p.y q.x q.y t.shift.y)

-- ---- signs

determinant_sign : (i : ℕ) (s : Sgn) → i < 16
    → times_sign (sign_of (determinant (matrix_of i))) s ≡ side_image i s
determinant_sign i s few =
    ap (λ r. times_sign r s) (sign_of-same (determinant (matrix_of i))
    (cond (is_reflection i) (whole (negsuc 0)) (whole (pos 1))) (turned_reverse i few)) ∙ go (is_reflection i)
  where
    go : (b : Bool) → times_sign (sign_of (cond b (whole (negsuc 0)) (whole (pos 1)))) s
        ≡ cond b (opposite_sign s) s
    go true = refl
    go false = refl

opposite_image : (i : ℕ) (s : Sgn) → opposite_sign (side_image i (opposite_sign s)) ≡ side_image i s
opposite_image i s = go (is_reflection i)
  where
    go : (b : Bool) → opposite_sign (cond b (opposite_sign (opposite_sign s)) (opposite_sign s))
        ≡ cond b (opposite_sign s) s
    go true = ap opposite_sign (opposite_twice s)
    go false = opposite_twice s

-- a direction's cross product with the image of a vector
cross_image : (i n : ℕ) (v : Position) → i < 16 → n < 16
    → sign_of (cross_of (direction_vector (direction_image i n)) (image_of (matrix_of i) v))
    ≡ side_image i (sign_of (cross_of (direction_vector n) v))
cross_image i n v few_i few_n =
    let d = direction_vector n in
    let e = direction_vector (direction_image i n) in
    let m = matrix_of i in
    let w = image_of m d in
    let along : sign_of (cross_of (image_of m v) w)
    ≡ sign_of (cross_of (image_of m v) e) =
    along_cross e w (square_sign (direction_image i n)) (turned_across i n few_i few_n) (image_of m v)
    ∙ ap (λ s. times_sign s (sign_of (cross_of (image_of m v) e))) (turned_along i n few_i few_n) in
    let by_determinant : sign_of (cross_of (image_of m v) w)
    ≡ side_image i (sign_of (cross_of v d)) =
    sign_of-same (cross_of (image_of m v) w) (product_of (determinant m) (cross_of v d))
    (image_cross m v d) ∙ sign_of-product (determinant m) (cross_of v d)
    ∙ determinant_sign i (sign_of (cross_of v d)) few_i in
    turned_cross e (image_of m v)
    ∙ ap opposite_sign (sym along ∙ by_determinant ∙ ap (side_image i) (turned_cross v d))
    ∙ opposite_image i (sign_of (cross_of d v))

dot_image : (i n : ℕ) (v : Position) → i < 16 → n < 16
    → sign_of (dot_of (direction_vector (direction_image i n)) (image_of (matrix_of i) v))
    ≡ sign_of (dot_of (direction_vector n) v)
dot_image i n v few_i few_n =
    let d = direction_vector n in
    let e = direction_vector (direction_image i n) in
    let m = matrix_of i in
    let w = image_of m d in
    let along : sign_of (dot_of (image_of m v) w)
    ≡ sign_of (dot_of (image_of m v) e) =
    along_dot e w (square_sign (direction_image i n)) (turned_across i n few_i few_n) (image_of m v)
    ∙ ap (λ s. times_sign s (sign_of (dot_of (image_of m v) e))) (turned_along i n few_i few_n) in
    turned_dot e (image_of m v) ∙ sym along
    ∙ sign_of-same (dot_of (image_of m v) w) (dot_of v d) (image_dot m v d (orthogonal i few_i))
    ∙ turned_dot v d

-- ---- sides and directions

pub sides_are_kept : SidesAreKept
sides_are_kept t n q p few_t few_n =
    let e = direction_vector (direction_image t.linear n) in
    cross_same e (vector_of (image_by t q) (image_by t p)) (image_of (matrix_of t.linear) (vector_of q p))
    (image_vector t q p) ∙ cross_image t.linear n (vector_of q p) few_t few_n

zero_image : (i : ℕ) (s : Sgn) → is_zero (side_image i s) ≡ is_zero s
zero_image i s = go (is_reflection i) s
  where
    go : (b : Bool) (s : Sgn) → is_zero (cond b (opposite_sign s) s) ≡ is_zero s
    go true Neg = refl
    go true Zero = refl
    go true Pos = refl
    go false s = refl

pub directions_go_to_directions : DirectionsGoToDirections
directions_go_to_directions t n p q few_t few_n =
    let e = direction_vector (direction_image t.linear n) in
    let v = vector_of (image_by t p) (image_by t q) in
    let w = image_of (matrix_of t.linear) (vector_of p q) in
    let side : is_zero (side_of (image_by t p) (direction_image t.linear n) (image_by t q))
    ≡ is_zero (side_of p n q) = ap is_zero (sides_are_kept t n p q few_t few_n)
    ∙ zero_image t.linear (side_of p n q) in
    ap₂ ◌&&◌ side (ap is_positive
    (dot_same e v w (image_vector t p q) ∙ dot_image t.linear n (vector_of p q) few_t few_n))

-- ---- isometries as their maps

-- parts of a row (a, b) with the shift s, from three points
row_shift_same : (a b s a' b' s' : Number)
    → IsSame (sum_of (sum_of (product_of a nought) (product_of b nought)) s)
    (sum_of (sum_of (product_of a' nought) (product_of b' nought)) s') → IsSame s s'
row_shift_same a b s a' b' s' e =
    number_ring_from (a ∷ b ∷ s ∷ a' ∷ b' ∷ s' ∷ []) (v0 ⊗ con nought ⊕ v1 ⊗ con nought ⊕ v2)
    (v3 ⊗ con nought ⊕ v4 ⊗ con nought ⊕ v5) (con one) v2 v5 refl e

row_first_same : (a b s a' b' s' : Number) → IsSame s s'
    → IsSame (sum_of (sum_of (product_of a one) (product_of b nought)) s)
    (sum_of (sum_of (product_of a' one) (product_of b' nought)) s') → IsSame a a'
row_first_same a b s a' b' s' e f =
    number_ring_from_two (a ∷ b ∷ s ∷ a' ∷ b' ∷ s' ∷ []) v2 v5 (con (negative_of one))
    (v0 ⊗ con one ⊕ v1 ⊗ con nought ⊕ v2) (v3 ⊗ con one ⊕ v4 ⊗ con nought ⊕ v5) (con one) v0 v3 refl e f

row_second_same : (a b s a' b' s' : Number) → IsSame s s'
    → IsSame (sum_of (sum_of (product_of a nought) (product_of b one)) s)
    (sum_of (sum_of (product_of a' nought) (product_of b' one)) s') → IsSame b b'
row_second_same a b s a' b' s' e f =
    number_ring_from_two (a ∷ b ∷ s ∷ a' ∷ b' ∷ s' ∷ []) v2 v5 (con (negative_of one))
    (v0 ⊗ con nought ⊕ v1 ⊗ con one ⊕ v2) (v3 ⊗ con nought ⊕ v4 ⊗ con one ⊕ v5) (con one) v1 v4 refl e f

origin : Position
origin = record { x = nought; y = nought }

-- maps with the same images have the same shift and the same matrix
pub shift_same : (s t : Motion) → IsSameMap s t → IsSameVector s.shift t.shift
unfolding origin
shift_same s t same =
    let m = matrix_of s.linear in
    let n = matrix_of t.linear in
    let h = same origin in (
      row_shift_same m.xx m.xy s.shift.x n.xx n.xy t.shift.x h.0,
      row_shift_same m.yx m.yy s.shift.y n.yx n.yy t.shift.y h.1,
    )

pub matrix_same : (s t : Motion) → IsSameMap s t → IsSameMatrix (matrix_of s.linear) (matrix_of t.linear)
matrix_same s t same =
    let m = matrix_of s.linear in
    let n = matrix_of t.linear in
    let e = shift_same s t same in
    let h = same (record { x = one; y = nought }) in
    let k = same (record { x = nought; y = one }) in
    record {
      xx = row_first_same m.xx m.xy s.shift.x n.xx n.xy t.shift.x e.0 h.0;
      xy = row_second_same m.xx m.xy s.shift.x n.xx n.xy t.shift.x e.0 k.0;
      yx = row_first_same m.yx m.yy s.shift.y n.yx n.yy t.shift.y e.1 h.1;
      yy = row_second_same m.yx m.yy s.shift.y n.yx n.yy t.shift.y e.1 k.1;
    }

pub linear_is : (l m : Linear) → linear_number l ≡ linear_number m → l ≡ m
linear_is l m e = λ i. record {
  number = e i;
  in_range = is_prop→PathP (λ j. e j ≤ 15) (λ j. le_prop) l.in_range m.in_range i;
}

pub isometries_are_their_maps : IsometriesAreTheirMaps
isometries_are_their_maps s t = (to, from)
  where
    to : s ≡ t → IsSameMap (motion_of s) (motion_of t)
    to e = let P : Isometry
        → Type 0 = λ u. IsSameMap (motion_of s) (motion_of u)
        in subst P e (λ p. (
          IsSame-refl (image_by (motion_of s) p).x,
          IsSame-refl (image_by (motion_of s) p).y,
        ))

    from : IsSameMap (motion_of s) (motion_of t) → s ≡ t
    from same =
        let number : linear_number s.linear
        ≡ linear_number t.linear = parts_differ (linear_number s.linear) (linear_number t.linear)
        (omega (arith, s.linear.in_range)) (omega (arith, t.linear.in_range))
        (matrix_same (motion_of s) (motion_of t) same) in
        let shift = shift_same (motion_of s) (motion_of t) same in
        let x : s.shift.x ≡ t.shift.x = wide_is s.shift.x t.shift.x shift.0 in
        let y : s.shift.y ≡ t.shift.y = wide_is s.shift.y t.shift.y shift.1 in
        let linear : s.linear ≡ t.linear = linear_is s.linear t.linear number in
        λ i. record { linear = linear i; shift = record { x = x i; y = y i } }

-- ---- bounds of shifts

pub shift_more : (most more : ℕ) (t : Motion) → most ≤ more → IsShiftWithin most t → IsShiftWithin more t
shift_more most more t less h =
    (fits_more most more 18 t.shift.x less h.0, fits_more most more 18 t.shift.y less h.1)
