-- What is strictly inside a polygon becomes what is strictly inside its image.
use Rattle.std.proofs.Common.{◌≡◌, ◌∙◌, ℕ, ◌+◌, ◌-◌, ◌<◌, Bool, true, false, cond, ◌&&◌, inl, inr, List, [], ◌∷◌, ◌++◌, reverse, refl, sym, ap, ap₂, arith}
use Rattle.std.specs.Bool.{IsTrue}
use Rattle.std.specs.List.{list_all}
use Rattle.std.proofs.lemmas.Bool.{and_parts, agree_below, cases_lt}
use Rattle.surd_number.specs.Number.{Number, IsSame, whole, sum_of, difference_of, product_of, negative_of, sign_of, opposite_sign}
use Rattle.surd_number.specs.RingTool.{◌⊕◌, ◌⊝◌, ◌⊗◌, ⊖◌, con, v0, v1, v2, v3, v4, v5, v6, v7}
use Rattle.surd_number.specs.NumberLaws.{number_ring_from, number_ring_from_two, IsSame-refl, IsSame-sym, difference_of-same}
use Rattle.surd_number.specs.SignLaws.{sign_of-same, sign_of-negative, sign_of-zero}
use Rattle.surd_number.specs.declared.Sgn.{Sgn}
use Rattle.surd_number.specs.declared.Sgn.TheVariants.{Neg, Zero, Pos}
use Rattle.plane_geometry.specs.declared.Point.{Point}
use Rattle.plane_geometry.specs.Position.{Position, position_of, vector_of, opposite_of, cross_of}
use Rattle.plane_geometry.specs.Direction.{one, nought, direction_vector, side_of, is_positive, is_along, opposite_number}
use Rattle.plane_geometry.specs.DirectionLaws.{along_parts, opposite_direction}
use Rattle.plane_geometry.specs.Multiple.{IsSameVector}
use Rattle.plane_geometry.specs.Polygon.{Side, sides_of, is_left_of, is_in_polygon, has_direction, have_directions}
use Rattle.isometry_map.specs.Linear.{is_reflection, direction_image, side_image}
use Rattle.isometry_map.specs.Matrix.{Matrix, matrix_of}
use Rattle.isometry_map.specs.MatrixLaws.{is_same_number, same_is, holds_at}
use Rattle.isometry_map.specs.Motion.{Motion, image_by}
use Rattle.isometry_map.specs.MotionLaws.{sides_are_kept, cross_same}
use Rattle.isometry_map.specs.Folded.{IsImage, AreImages, counterclockwise}
use Rattle.isometry_map.specs.Laws.{InsidesAreImages, EachIsAnImage}
use Rattle.isometry_map.specs.ConvexLaws.{Goes, goes_there, goes_image, goes_back, image_few, chain, closed, side_at, number_at, number_is, sides_closed, closed_backwards, all_rotated, all_backwards, all_parts, images_joined}

-- ---- the side of a line, from either of two points on it

crossed_back : (d p q x : Position) → sign_of (cross_of d (vector_of p q)) ≡ Zero
    → sign_of (cross_of (opposite_of d) (vector_of q x)) ≡ opposite_sign (sign_of (cross_of d (vector_of p x)))
crossed_back d p q x zero =
    sign_of-same (cross_of (opposite_of d) (vector_of q x)) (negative_of (cross_of d (vector_of p x)))
    (number_ring_from (d.x ∷ d.y ∷ p.x ∷ p.y ∷ q.x ∷ q.y ∷ x.x ∷ x.y ∷ [])
    (v0 ⊗ (v5 ⊝ v3) ⊝ v1 ⊗ (v4 ⊝ v2)) (con nought) (con one)
    ((⊖ v0) ⊗ (v7 ⊝ v5) ⊝ (⊖ v1) ⊗ (v6 ⊝ v4)) (⊖ (v0 ⊗ (v7 ⊝ v3) ⊝ v1 ⊗ (v6 ⊝ v2))) refl
    (sign_of-zero (cross_of d (vector_of p q)) zero))
    ∙ sign_of-negative (cross_of d (vector_of p x))

crossed_forth : (e p q x : Position) → sign_of (cross_of (opposite_of e) (vector_of p q)) ≡ Zero
    → sign_of (cross_of e (vector_of q x)) ≡ opposite_sign (sign_of (cross_of (opposite_of e) (vector_of p x)))
crossed_forth e p q x zero =
    sign_of-same (cross_of e (vector_of q x)) (negative_of (cross_of (opposite_of e) (vector_of p x)))
    (number_ring_from (e.x ∷ e.y ∷ p.x ∷ p.y ∷ q.x ∷ q.y ∷ x.x ∷ x.y ∷ [])
    ((⊖ v0) ⊗ (v5 ⊝ v3) ⊝ (⊖ v1) ⊗ (v4 ⊝ v2)) (con nought) (con one)
    (v0 ⊗ (v7 ⊝ v5) ⊝ v1 ⊗ (v6 ⊝ v4)) (⊖ ((⊖ v0) ⊗ (v7 ⊝ v3) ⊝ (⊖ v1) ⊗ (v6 ⊝ v2))) refl
    (sign_of-zero (cross_of (opposite_of e) (vector_of p q)) zero))
    ∙ sign_of-negative (cross_of (opposite_of e) (vector_of p x))

-- from the end of a way, backwards, left is right
side_back : (n : ℕ) (p q x : Position) → n < 16 → side_of p n q ≡ Zero
    → side_of q (opposite_number n) x ≡ opposite_sign (side_of p n x)
side_back n p q x few zero =
    elim (cases_lt n 8) [
      | inl less ↦
          (let d = direction_vector n in
          let number : opposite_number n ≡ n + 8 = omega (arith, less) in
          let back : direction_vector (opposite_number n) ≡ opposite_of d =
          ap direction_vector number ∙ opposite_direction n less in
          ap (λ e. sign_of (cross_of e (vector_of q x))) back ∙ crossed_back d p q x zero)
      | inr more ↦
          (let e = direction_vector (n - 8) in
          let number : opposite_number n ≡ n - 8 = omega (arith, few, more) in
          let again : n ≡ n - 8 + 8 = omega (arith, more) in
          let forth : direction_vector n ≡ opposite_of e =
          ap direction_vector again ∙ opposite_direction (n - 8) (omega (arith, few, more)) in
          ap (λ k. sign_of (cross_of (direction_vector k) (vector_of q x))) number
          ∙ crossed_forth e p q x (sym (ap (λ d. sign_of (cross_of d (vector_of p q))) forth) ∙ zero)
          ∙ ap (λ d. opposite_sign (sign_of (cross_of d (vector_of p x)))) (sym forth))
    ]

opposite_twice : (s : Sgn) → opposite_sign (opposite_sign s) ≡ s
opposite_twice Neg = refl
opposite_twice Zero = refl
opposite_twice Pos = refl

-- ---- sides of images

module _ (t : Motion) (few : t.linear < 16) (p q : Position) (image : IsSameVector q (image_by t p)) where
  -- on the same side, or on the other
  side_image_is : (m : ℕ) (a a' : Point) → m < 16 → IsImage t a a'
      → side_of (position_of a') (direction_image t.linear m) q
      ≡ side_image t.linear (side_of (position_of a) m p)
  side_image_is m a a' few_m e =
      let d = direction_vector (direction_image t.linear m) in
      cross_same d (vector_of (position_of a') q)
      (vector_of (image_by t (position_of a)) (image_by t p)) (
        difference_of-same q.x (position_of a').x (image_by t p).x (image_by t (position_of a)).x image.0 e.0,
        difference_of-same q.y (position_of a').y (image_by t p).y (image_by t (position_of a)).y image.1 e.1,
      )
      ∙ sides_are_kept t m (position_of a) p few few_m

  left_kept : is_reflection t.linear ≡ false → (a b a' b' : Point) → IsImage t a a' → IsImage t b b'
      → has_direction (side_at a b) ≡ true → is_left_of q (side_at a' b') ≡ is_left_of p (side_at a b)
  left_kept off a b a' b' e f there =
      let w = goes_there (position_of a) (position_of b) there in
      let m = w.0 in
      let image_goes = goes_image t few m a b a' b' e f w.1 in
      ap (λ n. is_positive (side_of (position_of a') n q)) (number_is (direction_image t.linear m) a' b' image_goes)
      ∙ ap is_positive (side_image_is m a a' w.1.few e)
      ∙ ap (λ r. is_positive (cond r (opposite_sign (side_of (position_of a) m p)) (side_of (position_of a) m p))) off
      ∙ ap (λ n. is_positive (side_of (position_of a) n p)) (sym (number_is m a b w.1))

  left_turned : is_reflection t.linear ≡ true → (a b a' b' : Point) → IsImage t a a' → IsImage t b b'
      → has_direction (side_at a b) ≡ true → is_left_of q (side_at b' a') ≡ is_left_of p (side_at a b)
  left_turned on a b a' b' e f there =
      let w = goes_there (position_of a) (position_of b) there in
      let m = w.0 in
      let n = direction_image t.linear m in
      let image_goes = goes_image t few m a b a' b' e f w.1 in
      let back_goes = goes_back t few m a b a' b' e f w.1 in
      let side = side_of (position_of a) m p in
      let back : side_of (position_of b') (opposite_number n) q ≡ opposite_sign (side_of (position_of a') n q) =
      side_back n (position_of a') (position_of b') q image_goes.few
      (along_parts n (position_of a') (position_of b') image_goes.along).0 in
      ap (λ k. is_positive (side_of (position_of b') k q)) (number_is (opposite_number n) b' a' back_goes)
      ∙ ap is_positive back
      ∙ ap (λ s. is_positive (opposite_sign s)) (side_image_is m a a' w.1.few e)
      ∙ ap (λ r. is_positive (opposite_sign (cond r (opposite_sign side) side))) on
      ∙ ap is_positive (opposite_twice side)
      ∙ ap (λ k. is_positive (side_of (position_of a) k p)) (sym (number_is m a b w.1))

  -- sides of neighbouring images, one way or the other
  module _ (image_side : Point → Point → Side)
      (kept : (a b a' b' : Point) → IsImage t a a' → IsImage t b b' → has_direction (side_at a b) ≡ true
      → is_left_of q (image_side a' b') ≡ is_left_of p (side_at a b)) where
    all_kept : (ps qs : List Point) → AreImages t ps qs → list_all has_direction (chain side_at ps) ≡ true
        → list_all (is_left_of q) (chain image_side qs) ≡ list_all (is_left_of p) (chain side_at ps)
    all_kept [] [] images there = refl
    all_kept [] (y ∷ ys) images there = absurd images
    all_kept (x ∷ xs) [] images there = absurd images
    all_kept (x ∷ []) (y ∷ []) images there = refl
    all_kept (x ∷ []) (y ∷ y' ∷ ys) images there = absurd images.1
    all_kept (x ∷ x' ∷ xs) (y ∷ []) images there = absurd images.1
    all_kept (x ∷ x' ∷ xs) (y ∷ y' ∷ ys) images there =
        let parts = all_parts has_direction (side_at x x') (chain side_at (x' ∷ xs)) there in
        ap₂ ◌&&◌ (kept x x' y y' images.0 images.1.0 parts.0) (all_kept (x' ∷ xs) (y' ∷ ys) images.1 parts.1)

    closed_kept : (ps qs : List Point) → AreImages t ps qs → list_all has_direction (closed side_at ps) ≡ true
        → list_all (is_left_of q) (closed image_side qs) ≡ list_all (is_left_of p) (closed side_at ps)
    closed_kept [] [] images there = refl
    closed_kept [] (y ∷ ys) images there = absurd images
    closed_kept (x ∷ xs) [] images there = absurd images
    closed_kept (x ∷ xs) (y ∷ ys) images there =
        all_kept (x ∷ xs ++ x ∷ []) (y ∷ ys ++ y ∷ [])
        (images_joined t (x ∷ xs) (y ∷ ys) (x ∷ []) (y ∷ []) images (images.0, tt)) there

  module _ (ps qs : List Point) (images : AreImages t ps qs) (directed : have_directions ps ≡ true) where
    there : list_all has_direction (closed side_at ps) ≡ true
    there = sym (ap (list_all has_direction) (sides_closed ps)) ∙ directed

    unturned_inside : is_reflection t.linear ≡ false → is_in_polygon qs q ≡ is_in_polygon ps p
    unturned_inside off =
        ap (list_all (is_left_of q)) (sides_closed qs)
        ∙ closed_kept side_at (left_kept off) ps qs images there
        ∙ sym (ap (list_all (is_left_of p)) (sides_closed ps))

    turned_inside : is_reflection t.linear ≡ true → is_in_polygon (reverse qs) q ≡ is_in_polygon ps p
    turned_inside on =
        ap (list_all (is_left_of q)) (sides_closed (reverse qs) ∙ closed_backwards side_at qs)
        ∙ all_rotated (is_left_of q) (reverse (closed (λ x y. side_at y x) qs))
        ∙ all_backwards (is_left_of q) (closed (λ x y. side_at y x) qs)
        ∙ closed_kept (λ x y. side_at y x) (left_turned on) ps qs images there
        ∙ sym (ap (list_all (is_left_of p)) (sides_closed ps))

    inside_is : (b : Bool) → is_reflection t.linear ≡ b → is_in_polygon (counterclockwise b qs) q
        ≡ is_in_polygon ps p
    inside_is true on = turned_inside on
    inside_is false off = unturned_inside off

pub insides_are_images : InsidesAreImages
insides_are_images t few ps qs images directed p q image =
    inside_is t few p q image ps qs images directed (is_reflection t.linear) refl

-- ---- each point is an image

-- the rows of a matrix are unit vectors at a right angle
record IsOrthogonalByRows (m : Matrix) : Type 0 where
  first : IsSame (sum_of (product_of m.xx m.xx) (product_of m.xy m.xy)) one
  both : IsSame (sum_of (product_of m.xx m.yx) (product_of m.xy m.yy)) nought
  second : IsSame (sum_of (product_of m.yx m.yx) (product_of m.yy m.yy)) one

has_unit_rows : ℕ → Bool
has_unit_rows i =
    is_same_number (sum_of (product_of (matrix_of i).xx (matrix_of i).xx)
    (product_of (matrix_of i).xy (matrix_of i).xy)) one
    && (is_same_number (sum_of (product_of (matrix_of i).xx (matrix_of i).yx)
    (product_of (matrix_of i).xy (matrix_of i).yy)) nought
    && is_same_number (sum_of (product_of (matrix_of i).yx (matrix_of i).yx)
    (product_of (matrix_of i).yy (matrix_of i).yy)) one)

rows_table : agree_below has_unit_rows (λ _. true) 16 ≡ true
unfolding has_unit_rows
rows_table = refl

by_rows : (i : ℕ) → i < 16 → IsOrthogonalByRows (matrix_of i)
unfolding has_unit_rows
by_rows i few =
    let m = matrix_of i in
    let a = sum_of (product_of m.xx m.xx) (product_of m.xy m.xy) in
    let b = sum_of (product_of m.xx m.yx) (product_of m.xy m.yy) in
    let d = sum_of (product_of m.yx m.yx) (product_of m.yy m.yy) in
    let h = and_parts (is_same_number a one) (is_same_number b nought && is_same_number d one)
    (holds_at has_unit_rows i rows_table few) in
    let k = and_parts (is_same_number b nought) (is_same_number d one) h.1 in
    record { first = same_is a one h.0; both = same_is b nought k.0; second = same_is d one k.1 }

-- by the transposed matrix, after the shift is taken back
source_of : Motion → Position → Position
source_of t q =
    let m = matrix_of t.linear in
    let u = difference_of q.x t.shift.x in
    let v = difference_of q.y t.shift.y in
    record {
      x = sum_of (product_of m.xx u) (product_of m.yx v);
      y = sum_of (product_of m.xy u) (product_of m.yy v);
    }

pub each_is_an_image : EachIsAnImage
unfolding source_of
each_is_an_image t q few =
    let m = matrix_of t.linear in
    let rows = by_rows t.linear few in
    let p = source_of t q in (
      p,
      (
        IsSame-sym (image_by t p).x q.x
            (number_ring_from_two
            (m.xx ∷ m.xy ∷ m.yx ∷ m.yy ∷ q.x ∷ q.y ∷ t.shift.x ∷ t.shift.y ∷ [])
            (v0 ⊗ v0 ⊕ v1 ⊗ v1) (con one) (v4 ⊝ v6) (v0 ⊗ v2 ⊕ v1 ⊗ v3) (con nought) (v5 ⊝ v7)
            (v0 ⊗ (v0 ⊗ (v4 ⊝ v6) ⊕ v2 ⊗ (v5 ⊝ v7)) ⊕ v1 ⊗ (v1 ⊗ (v4 ⊝ v6) ⊕ v3 ⊗ (v5 ⊝ v7)) ⊕ v6) v4 refl
            rows.first rows.both),
        IsSame-sym (image_by t p).y q.y
            (number_ring_from_two
            (m.xx ∷ m.xy ∷ m.yx ∷ m.yy ∷ q.x ∷ q.y ∷ t.shift.x ∷ t.shift.y ∷ [])
            (v0 ⊗ v2 ⊕ v1 ⊗ v3) (con nought) (v4 ⊝ v6) (v2 ⊗ v2 ⊕ v3 ⊗ v3) (con one) (v5 ⊝ v7)
            (v2 ⊗ (v0 ⊗ (v4 ⊝ v6) ⊕ v2 ⊗ (v5 ⊝ v7)) ⊕ v3 ⊗ (v1 ⊗ (v4 ⊝ v6) ⊕ v3 ⊗ (v5 ⊝ v7)) ⊕ v7) v5 refl
            rows.both rows.second),
      ),
    )
