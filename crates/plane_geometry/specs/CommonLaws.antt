-- The common point of the lines of two stretches is on both of them, and no other point is.
use Rattle.std.proofs.Common.{◌≡◌, ℕ, ◌<◌, ◌%◌, ◌+◌, inl, inr, Bool, true, false, cond, refl, sym, ap, ap₂, subst, ◌∙◌, arith}
use Rattle.std.specs.Prelude.{Option, None, Some, nat_eq, nat_lt}
use Rattle.std.proofs.lemmas.Bool.{cases_lt, lt-ltb, ltb-true, eqb-false, false≢true}
use Rattle.surd_number.specs.declared.Surd.{Surd}
use Rattle.surd_number.specs.declared.Sgn.{Sgn}
use Rattle.surd_number.specs.declared.Sgn.TheVariants.{Neg, Zero, Pos}
use Rattle.surd_number.specs.Number.{IsSame, difference_of, negative_of, sign_of, unit_inverse_of, opposite_sign}
use Rattle.surd_number.specs.NumberLaws.{difference_from_same, IsSame-trans, IsSame-sym}
use Rattle.surd_number.specs.SignLaws.{zero_sign_of, sign_of-same, sign_of-negative}
use Rattle.surd_number.specs.Value.{number_of}
use Rattle.surd_number.specs.Exact.{surd_of}
use Rattle.surd_number.specs.ExactLaws.{surd_of-is, surd_of-value}
use Rattle.plane_geometry.specs.declared.Point.{Point}
use Rattle.plane_geometry.specs.Position.{Position, position_of, vector_of, opposite_of, cross_of}
use Rattle.plane_geometry.specs.Direction.{direction_vector, side_of}
use Rattle.plane_geometry.specs.CrossTable.{cross_tangents, cross_roots}
use Rattle.plane_geometry.specs.CrossLaws.{cross_opposite}
use Rattle.plane_geometry.specs.DirectionLaws.{opposite_direction}
use Rattle.plane_geometry.specs.SideLaws.{then_sign, order_of, side_same}
use Rattle.plane_geometry.specs.StretchLaws.{side_to}
use Rattle.plane_geometry.specs.MeetLaws.{offset_from_side, side_from_offset, meets_first, meets_second, only_x, only_y, unit_is_inverse}
use Rattle.plane_geometry.specs.Stretch.{Stretch}
use Rattle.plane_geometry.specs.Common.{is_parallel, lines_meet_at, crossing_of, both_of, point_at, common_of}

-- ---- lines in directions 0 to 7

-- where the line through p in direction m meets the line through q in direction n
abbrev meet_at : Position → ℕ → Position → ℕ → Position
meet_at p m q n = lines_meet_at m (cross_of (direction_vector m) p) n (cross_of (direction_vector n) q)

module _ (p : Position) (m : ℕ) (q : Position) (n : ℕ) (less : m < n) (few : n < 8) where
  pub meet_in_first : side_of p m (meet_at p m q n) ≡ Zero
  meet_in_first =
      side_from_offset p m (meet_at p m q n)
      (meets_first (direction_vector m) (cross_of (direction_vector m) p) (direction_vector n)
      (cross_of (direction_vector n) q) (unit_inverse_of (cross_tangents m n) (cross_roots m n))
      (unit_is_inverse m n less few))

  pub meet_in_second : side_of q n (meet_at p m q n) ≡ Zero
  meet_in_second =
      side_from_offset q n (meet_at p m q n)
      (meets_second (direction_vector m) (cross_of (direction_vector m) p) (direction_vector n)
      (cross_of (direction_vector n) q) (unit_inverse_of (cross_tangents m n) (cross_roots m n))
      (unit_is_inverse m n less few))

  pub meet_only : (v : Position) → side_of p m v ≡ Zero → side_of q n v ≡ Zero
      → IsSame v.x (meet_at p m q n).x × IsSame v.y (meet_at p m q n).y
  meet_only v e f =
      let d = direction_vector m in
      let o = cross_of d p in
      let d' = direction_vector n in
      let u = cross_of d' q in
      let i = unit_inverse_of (cross_tangents m n) (cross_roots m n) in (
        only_x d o d' u i v (unit_is_inverse m n less few) (offset_from_side p m v e)
            (offset_from_side q n v f),
        only_y d o d' u i v (unit_is_inverse m n less few)
            (offset_from_side p m v e) (offset_from_side q n v f),
      )

-- ---- directions modulo 8

-- a direction and the opposite one have the same lines
side_opposite : (p : Position) (n : ℕ) (v : Position) → n < 8
    → side_of p (n + 8) v ≡ opposite_sign (side_of p n v)
side_opposite p n v few =
    let d = direction_vector n in
    let w = vector_of p v in
    ap (λ (e : Position). sign_of (cross_of e w)) (opposite_direction n few)
    ∙ sym (sign_of-same (negative_of (cross_of d w)) (cross_of (opposite_of d) w) (cross_opposite d w))
    ∙ sign_of-negative (cross_of d w)

zero_opposite : (s : Sgn) → opposite_sign s ≡ Zero → s ≡ Zero
zero_opposite Zero e = refl
zero_opposite Neg e = cc
zero_opposite Pos e = cc

pub side_modulo : (p : Position) (n : ℕ) (v : Position) → n < 16 → side_of p n v ≡ Zero
    → side_of p (n % 8) v ≡ Zero
side_modulo p n v few e =
    elim (cases_lt n 8) [
      | inl less ↦ (let number : n ≡ n % 8 = omega arith in subst (λ (m : ℕ). side_of p m v ≡ Zero) number e)
      | inr more ↦
          (let number : n ≡ n % 8 + 8 = omega arith in
          zero_opposite (side_of p (n % 8) v)
          (sym (side_opposite p (n % 8) v (omega arith))
          ∙ subst (λ (m : ℕ). side_of p m v ≡ Zero) number e))
    ]

pub side_from_modulo : (p : Position) (n : ℕ) (v : Position) → n < 16 → side_of p (n % 8) v ≡ Zero
    → side_of p n v ≡ Zero
side_from_modulo p n v few e =
    elim (cases_lt n 8) [
      | inl less ↦ (let number : n % 8 ≡ n = omega arith in subst (λ (m : ℕ). side_of p m v ≡ Zero) number e)
      | inr more ↦
          (let number : n % 8 + 8 ≡ n = omega arith
          in subst (λ (m : ℕ). side_of p m v ≡ Zero) number
          (side_opposite p (n % 8) v (omega arith) ∙ ap opposite_sign e))
    ]

-- ---- the common point

later : (m n : ℕ) → nat_eq m n ≡ false → nat_lt m n ≡ false → n < m
later m n e f =
    elim (cases_lt m n) [
      | inl less ↦ absurd (false≢true (sym f ∙ lt-ltb m n less))
      | inr more ↦ omega (arith, eqb-false m n e)
    ]

both_of_parts : (x y : Option Surd) (p : Point) → both_of x y ≡ Some p → (x ≡ Some p.x) × (y ≡ Some p.y)
both_of_parts (Some x) (Some y) p e =
    let f : (let q : Point = record { x = x; y = y } in q) ≡ p = cc in
    (ap (λ (q : Point). Some q.x) f, ap (λ (q : Point). Some q.y) f)
both_of_parts (Some x) None p e = absurd (cc)
both_of_parts None y p e = absurd (cc)

point_at_value : (q : Position) (p : Point) → point_at q ≡ Some p
    → IsSame (number_of p.x) q.x × IsSame (number_of p.y) q.y
point_at_value q p e =
    let parts = both_of_parts (surd_of q.x) (surd_of q.y) p e
    in (surd_of-value q.x p.x parts.0, surd_of-value q.y p.y parts.1)

point_at-is : (q : Position) (p : Point) → IsSame (number_of p.x) q.x → IsSame (number_of p.y) q.y
    → point_at q ≡ Some p
point_at-is q p e f = ap₂ both_of (surd_of-is q.x p.x e) (surd_of-is q.y p.y f)

-- points with the same coordinates are in one place
pub same_place : (v w : Position) → IsSame v.x w.x → IsSame v.y w.y → order_of v w ≡ Zero
same_place v w e f =
    ap₂ then_sign (zero_sign_of (difference_of w.x v.x) (difference_from_same w.x v.x (IsSame-sym v.x w.x e)))
    (zero_sign_of (difference_of w.y v.y) (difference_from_same w.y v.y (IsSame-sym v.y w.y f)))

module _ (s u : Stretch) (h : s.dir < 16) (k : u.dir < 16) (apart : is_parallel s u ≡ false) where
  -- on both lines
  abbrev IsOnBoth : Position → Type 0
  IsOnBoth v = (side_of s.from s.dir v ≡ Zero) × (side_of u.from u.dir v ≡ Zero)

  data Meets (v : Position) : Type 0 where
    meets : IsOnBoth v → ((w : Position) → IsOnBoth w → IsSame w.x v.x × IsSame w.y v.y) → Meets v

  crossing_meets : Meets (crossing_of s u)
  crossing_meets = go (nat_lt (s.dir % 8) (u.dir % 8)) refl
    where
      go : (b : Bool) → nat_lt (s.dir % 8) (u.dir % 8) ≡ b
          → Meets (cond b (meet_at s.from (s.dir % 8) u.from (u.dir % 8))
          (meet_at u.from (u.dir % 8) s.from (s.dir % 8)))
      go true e =
          let less : s.dir % 8 < u.dir % 8 = ltb-true (s.dir % 8) (u.dir % 8) e in
          let v = meet_at s.from (s.dir % 8) u.from (u.dir % 8) in
          meets (
            side_from_modulo s.from s.dir v h
                (meet_in_first s.from (s.dir % 8) u.from (u.dir % 8) less (omega arith)),
            side_from_modulo u.from u.dir v k
                (meet_in_second s.from (s.dir % 8) u.from (u.dir % 8) less (omega arith)),
          )
          (λ w on. meet_only s.from (s.dir % 8) u.from (u.dir % 8) less (omega arith) w
          (side_modulo s.from s.dir w h on.0) (side_modulo u.from u.dir w k on.1))
      go false e =
          let less : u.dir % 8 < s.dir % 8 = later (s.dir % 8) (u.dir % 8) apart e in
          let v = meet_at u.from (u.dir % 8) s.from (s.dir % 8) in
          meets (
            side_from_modulo s.from s.dir v h
                (meet_in_second u.from (u.dir % 8) s.from (s.dir % 8) less (omega arith)),
            side_from_modulo u.from u.dir v k
                (meet_in_first u.from (u.dir % 8) s.from (s.dir % 8) less (omega arith)),
          )
          (λ w on. meet_only u.from (u.dir % 8) s.from (s.dir % 8) less (omega arith) w
          (side_modulo u.from u.dir w k on.1) (side_modulo s.from s.dir w h on.0))

  same_on_both : (v w : Position) → IsSame w.x v.x → IsSame w.y v.y → IsOnBoth v → IsOnBoth w
  same_on_both v w e f on =
      let same = same_place w v e f in (
        sym (side_to s.from s.dir w v (side_same w s.dir v same)) ∙ on.0,
        sym (side_to u.from u.dir w v (side_same w u.dir v same)) ∙ on.1,
      )

  common_is : common_of s u ≡ point_at (crossing_of s u)
  unfolding common_of
  common_is = ap (λ (b : Bool). cond b None (point_at (crossing_of s u))) apart

  pub common_on_both : (p : Point) → common_of s u ≡ Some p → IsOnBoth (position_of p)
  common_on_both p e =
      elim crossing_meets [
        | meets on only ↦ (let at = point_at_value (crossing_of s u) p (sym common_is ∙ e)
            in same_on_both (crossing_of s u) (position_of p) at.0 at.1 on)
      ]

  -- a point on both lines is in its place
  pub common_only : (p : Point) → common_of s u ≡ Some p → (v : Position) → IsOnBoth v
      → order_of v (position_of p) ≡ Zero
  common_only p e v on_v =
      elim crossing_meets [
        | meets on only ↦
            (let at = point_at_value (crossing_of s u) p (sym common_is ∙ e) in
            let same = only v on_v in
            same_place v (position_of p)
            (IsSame-trans v.x (crossing_of s u).x (number_of p.x) same.0
            (IsSame-sym (number_of p.x) (crossing_of s u).x at.0))
            (IsSame-trans v.y (crossing_of s u).y (number_of p.y) same.1
            (IsSame-sym (number_of p.y) (crossing_of s u).y at.1)))
      ]

  -- a point of two Surds on both lines is the common point
  pub common_some : (p : Point) → IsOnBoth (position_of p) → common_of s u ≡ Some p
  common_some p on_p =
      elim crossing_meets [
        | meets on only ↦ (let same = only (position_of p) on_p in common_is
            ∙ point_at-is (crossing_of s u) p same.0 same.1)
      ]

  -- there is none where no point of two Surds is on both lines
  pub common_none : ((p : Point) → IsOnBoth (position_of p) → ⊥) → common_of s u ≡ None
  common_none none = go (common_of s u) refl
    where
      go : (o : Option Point) → common_of s u ≡ o → o ≡ None
      go None e = refl
      go (Some p) e = absurd (none p (common_on_both p e))

pub common_parallel : (s u : Stretch) → is_parallel s u ≡ true → common_of s u ≡ None
unfolding common_of
common_parallel s u e = ap (λ (b : Bool). cond b None (point_at (crossing_of s u))) e
