-- The table of cross products holds, and cross products of directions that are not parallel have inverses.
use Rattle.std.proofs.Common.{◌≡◌, ◌≢◌, ℕ, zero, suc, ◌-◌, ◌<◌, Bool, true, false, cond, not, ◌||◌, ltb, ◌⊎◌, inl, inr, [], ◌∷◌, pos, refl, sym, ap, subst, ◌∙◌, arith}
use Rattle.std.proofs.lemmas.Bool.{cases_order, lt-ltb, agree_below, agree_below_at}
use Rattle.surd_number.specs.declared.Sgn.TheVariants.{Zero}
use Rattle.surd_number.specs.Number.{Number, IsSame, whole, difference_of, product_of, negative_of, sign_of, unit_of, unit_inverse_of, opposite_sign}
use Rattle.surd_number.specs.RingTool.{◌⊝◌, ◌⊗◌, ⊖◌, con, v0, v1, v2, v3}
use Rattle.surd_number.specs.NumberLaws.{number_ring, is_zero_number, exact_numbers_IsRing, same_from_difference, IsSame-trans, IsSame-sym, product_of-same, IsSame-refl, unit_of-inverse}
use Rattle.surd_number.specs.SignLaws.{sign_of-same, sign_of-negative}
use Rattle.plane_geometry.specs.Position.{Position, opposite_of, cross_of}
use Rattle.plane_geometry.specs.Direction.{direction_vector, upper_vector, turn_sign}
use Rattle.plane_geometry.specs.CrossTable.{cross_tangents, cross_roots}

-- ---- the table

agrees : ℕ → ℕ → Bool
agrees m n = not (ltb m n)
    || is_zero_number (difference_of (cross_of (upper_vector m) (upper_vector n))
    (unit_of (cross_tangents m n) (cross_roots m n)))

table_agrees : agree_below (λ m. agree_below (agrees m) (λ _. true) 8) (λ _. true) 8 ≡ true
unfolding agrees
table_agrees = refl

agrees_at : (m n : ℕ) → m < 8 → n < 8 → agrees m n ≡ true
agrees_at m n few_m few_n =
    agree_below_at (agrees m) (λ _. true) 8 n
    (agree_below_at (λ m. agree_below (agrees m) (λ _. true) 8) (λ _. true) 8 m table_agrees few_m) few_n

pub upper_cross : (m n : ℕ) → m < n → n < 8
    → IsSame (cross_of (upper_vector m) (upper_vector n)) (unit_of (cross_tangents m n) (cross_roots m n))
unfolding agrees
upper_cross m n less few =
    let cross = cross_of (upper_vector m) (upper_vector n) in
    let unit = unit_of (cross_tangents m n) (cross_roots m n) in
    let zero_difference : is_zero_number (difference_of cross unit)
    ≡ true = subst (λ b. (not b || is_zero_number (difference_of cross unit)) ≡ true) (lt-ltb m n less)
    (agrees_at m n (omega arith) few) in
    same_from_difference cross unit
    (exact_numbers_IsRing.nought_is (difference_of cross unit) zero_difference)

pub upper_is : (n : ℕ) → n < 8 → direction_vector n ≡ upper_vector n
upper_is n few = ap (λ b. cond b (upper_vector n) (opposite_of (upper_vector (n - 8)))) (lt-ltb n 8 few)

pub direction_cross : (m n : ℕ) → m < n → n < 8
    → IsSame (cross_of (direction_vector m) (direction_vector n))
    (unit_of (cross_tangents m n) (cross_roots m n))
direction_cross m n less few =
    subst (λ d. IsSame (cross_of d (direction_vector n)) (unit_of (cross_tangents m n) (cross_roots m n)))
    (sym (upper_is m (omega arith)))
    (subst (λ d. IsSame (cross_of (upper_vector m) d) (unit_of (cross_tangents m n) (cross_roots m n)))
    (sym (upper_is n few)) (upper_cross m n less few))

-- ---- inverses

abbrev pub HasInverse : Number → Type 0
HasInverse x = (i : Number) × IsSame (product_of i x) (whole (pos 1))

inverse_same : (x y : Number) → IsSame x y → HasInverse x → HasInverse y
inverse_same x y same h = (
  h.0,
  IsSame-trans (product_of h.0 y) (product_of h.0 x) (whole (pos 1))
      (product_of-same h.0 y h.0 x (IsSame-refl h.0) (IsSame-sym x y same)) h.1,
)

inverse_negative : (x : Number) → HasInverse x → HasInverse (negative_of x)
inverse_negative x h = (
  negative_of h.0,
  IsSame-trans (product_of (negative_of h.0) (negative_of x)) (product_of h.0 x)
      (whole (pos 1)) (number_ring (h.0 ∷ x ∷ []) ((⊖ v0) ⊗ (⊖ v1)) (v0 ⊗ v1) refl) h.1,
)

-- with an inverse, unless it is zero
abbrev IsZeroOrUnit : Number → Type 0
IsZeroOrUnit x = sign_of x ≢ Zero → HasInverse x

zero_or_unit_same : (x y : Number) → IsSame x y → IsZeroOrUnit x → IsZeroOrUnit y
zero_or_unit_same x y same h n = inverse_same x y same (h (λ e. n (sym (sign_of-same x y same) ∙ e)))

zero_or_unit_negative : (x : Number) → IsZeroOrUnit x → IsZeroOrUnit (negative_of x)
zero_or_unit_negative x h n = inverse_negative x (h (λ e. n (sign_of-negative x ∙ ap opposite_sign e)))

cross_turned : (u v : Position) → IsSame (negative_of (cross_of u v)) (cross_of v u)
cross_turned u v = number_ring (u.x ∷ u.y ∷ v.x ∷ v.y ∷ []) (⊖ (v0 ⊗ v3 ⊝ v1 ⊗ v2)) (v2 ⊗ v1 ⊝ v3 ⊗ v0) refl

pub cross_opposite : (u v : Position) → IsSame (negative_of (cross_of u v)) (cross_of (opposite_of u) v)
cross_opposite u v =
    number_ring (u.x ∷ u.y ∷ v.x ∷ v.y ∷ []) (⊖ (v0 ⊗ v3 ⊝ v1 ⊗ v2)) ((⊖ v0) ⊗ v3 ⊝ (⊖ v1) ⊗ v2) refl

cross_opposite_right : (u v : Position) → IsSame (negative_of (cross_of u v)) (cross_of u (opposite_of v))
cross_opposite_right u v =
    number_ring (u.x ∷ u.y ∷ v.x ∷ v.y ∷ []) (⊖ (v0 ⊗ v3 ⊝ v1 ⊗ v2)) (v0 ⊗ (⊖ v3) ⊝ v1 ⊗ (⊖ v2)) refl

cross_itself : (u : Position) → sign_of (cross_of u u) ≡ Zero
cross_itself u = sign_of-same (cross_of u u) (whole (pos 0))
    (number_ring (u.x ∷ u.y ∷ []) (v0 ⊗ v1 ⊝ v1 ⊗ v0) (con (whole (pos 0))) refl)

upper_before : (m n : ℕ) → m < n → n < 8 → IsZeroOrUnit (cross_of (upper_vector m) (upper_vector n))
upper_before m n less few _ =
    let i = cross_tangents m n in
    let j = cross_roots m n in
    let cross = cross_of (upper_vector m) (upper_vector n) in
    inverse_same (unit_of i j) cross (IsSame-sym cross (unit_of i j) (upper_cross m n less few)) (
      unit_inverse_of i j,
      IsSame-trans (product_of (unit_inverse_of i j) (unit_of i j))
          (product_of (unit_of i j) (unit_inverse_of i j)) (whole (pos 1))
          (number_ring (unit_of i j ∷ unit_inverse_of i j ∷ []) (v1 ⊗ v0) (v0 ⊗ v1) refl) (unit_of-inverse i j),
    )

upper_unit : (m n : ℕ) → m < 8 → n < 8 → IsZeroOrUnit (cross_of (upper_vector m) (upper_vector n))
upper_unit m n few_m few_n =
    elim (cases_order m n) [
      | inl e ↦ (λ k. absurd
          (k (ap (λ i. sign_of (cross_of (upper_vector i) (upper_vector n))) e
          ∙ cross_itself (upper_vector n))))
      | inr r ↦ elim r [
        | inl less ↦ upper_before m n less few_n
        | inr more ↦ zero_or_unit_same (negative_of (cross_of (upper_vector n) (upper_vector m)))
            (cross_of (upper_vector m) (upper_vector n)) (cross_turned (upper_vector n) (upper_vector m))
            (zero_or_unit_negative (cross_of (upper_vector n) (upper_vector m)) (upper_before n m more few_m))
      ]
    ]

-- each direction is one of the first eight, or opposite to one
upper_form : (n : ℕ) → (k : ℕ) × (k < 8) × (upper_vector n ≡ upper_vector k)
upper_form zero = (0, omega arith, refl)
upper_form (suc zero) = (1, omega arith, refl)
upper_form (suc (suc zero)) = (2, omega arith, refl)
upper_form (suc (suc (suc zero))) = (3, omega arith, refl)
upper_form (suc (suc (suc (suc zero)))) = (4, omega arith, refl)
upper_form (suc (suc (suc (suc (suc zero))))) = (5, omega arith, refl)
upper_form (suc (suc (suc (suc (suc (suc zero)))))) = (6, omega arith, refl)
upper_form (suc (suc (suc (suc (suc (suc (suc n))))))) = (7, omega arith, refl)

abbrev IsUpperOrOpposite : Position → Type 0
IsUpperOrOpposite d = (k : ℕ) × (k < 8) × ((d ≡ upper_vector k) ⊎ (d ≡ opposite_of (upper_vector k)))

direction_form : (n : ℕ) → IsUpperOrOpposite (direction_vector n)
direction_form n = go (ltb n 8)
  where
    go : (b : Bool) → IsUpperOrOpposite (cond b (upper_vector n) (opposite_of (upper_vector (n - 8))))
    go true = let f = upper_form n in (f.0, f.1, inl f.2)
    go false = let f = upper_form (n - 8) in (f.0, f.1, inr (ap opposite_of f.2))

opposed_right : (u v : Position) → IsZeroOrUnit (cross_of u v) → IsZeroOrUnit (cross_of u (opposite_of v))
opposed_right u v h =
    zero_or_unit_same (negative_of (cross_of u v)) (cross_of u (opposite_of v)) (cross_opposite_right u v)
    (zero_or_unit_negative (cross_of u v) h)

opposed_left : (u v : Position) → IsZeroOrUnit (cross_of u v) → IsZeroOrUnit (cross_of (opposite_of u) v)
opposed_left u v h =
    zero_or_unit_same (negative_of (cross_of u v)) (cross_of (opposite_of u) v) (cross_opposite u v)
    (zero_or_unit_negative (cross_of u v) h)

with_upper : (v : Position) (k : ℕ) → k < 8 → IsUpperOrOpposite v → IsZeroOrUnit (cross_of (upper_vector k) v)
with_upper v k few f =
    let P : Position → Type 0 = λ w. IsZeroOrUnit (cross_of (upper_vector k) w) in
    elim f.2 [
      | inl e ↦ subst P (sym e) (upper_unit k f.0 few f.1)
      | inr e ↦ subst P (sym e) (opposed_right (upper_vector k) (upper_vector f.0) (upper_unit k f.0 few f.1))
    ]

zero_or_unit : (u v : Position) → IsUpperOrOpposite u → IsUpperOrOpposite v → IsZeroOrUnit (cross_of u v)
zero_or_unit u v f g =
    let P : Position → Type 0 = λ w. IsZeroOrUnit (cross_of w v) in
    elim f.2 [
      | inl e ↦ subst P (sym e) (with_upper v f.0 f.1 g)
      | inr e ↦ subst P (sym e) (opposed_left (upper_vector f.0) v (with_upper v f.0 f.1 g))
    ]

-- the cross product of two directions that are not parallel has an inverse
pub turn_inverse : (m n : ℕ) → turn_sign m n ≢ Zero
    → HasInverse (cross_of (direction_vector m) (direction_vector n))
turn_inverse m n turns =
    zero_or_unit (direction_vector m) (direction_vector n) (direction_form m) (direction_form n) turns
