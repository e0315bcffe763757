-- Laws of directions: from one point to another it goes in one direction at most, back in the opposite one, and it goes in
-- a direction exactly where the difference of the points is a positive multiple of it.
use Rattle.std.proofs.Common.{◌≡◌, ◌↔◌, ℕ, zero, suc, ◌+◌, ◌-◌, ◌<◌, ◌≤◌, Bool, true, false, cond, not, ◌&&◌, ◌||◌, ltb, eqb, inl, inr, None, Some, [], ◌∷◌, pos, refl, sym, ap, ap₂, ◌∙◌, arith}
use Rattle.std.proofs.lemmas.Bool.{agree_below, agree_below_at, and_parts, and_from, lt-ltb, le-ltb, eqb-true, cases_lt}
use Rattle.surd_number.specs.declared.Sgn.TheVariants.{Zero, Pos}
use Rattle.surd_number.specs.Number.{Number, IsSame, whole, product_of, sign_of, times_sign}
use Rattle.surd_number.specs.RingTool.{◌⊕◌, ◌⊝◌, ◌⊗◌, ⊖◌, con, v0, v1, v2, v3, v4, v5}
use Rattle.surd_number.specs.NumberLaws.{number_ring, number_ring_from, number_ring_from_two}
use Rattle.surd_number.specs.SignLaws.{sign_of-same, sign_of-product, sign_of-zero}
use Rattle.plane_geometry.specs.Position.{Position, vector_of, opposite_of, cross_of, dot_of}
use Rattle.plane_geometry.specs.Direction.{direction_vector, upper_vector, side_of, is_zero, is_positive, is_along, direction_among, direction_of, turn_sign}
use Rattle.plane_geometry.specs.Direction.{opposite_number}
use Rattle.plane_geometry.specs.Multiple.{IsPositiveMultiple}
use Rattle.plane_geometry.specs.SideLaws.{square_sign, along_cross, along_dot}
use Rattle.plane_geometry.specs.StretchLaws.{zero_is, positive_is}

-- ---- one direction at most

-- directions m and n are one, or not parallel, or opposite
tells : ℕ → ℕ → Bool
tells m n = not (is_zero (turn_sign n m)
    && is_positive (sign_of (dot_of (direction_vector n) (direction_vector m)))) || eqb m n

table_tells : agree_below (λ m. agree_below (tells m) (λ _. true) 16) (λ _. true) 16 ≡ true
unfolding tells
table_tells = refl

tells_at : (m n : ℕ) → m < 16 → n < 16 → tells m n ≡ true
tells_at m n few_m few_n =
    agree_below_at (tells m) (λ _. true) 16 n
    (agree_below_at (λ m. agree_below (tells m) (λ _. true) 16) (λ _. true) 16 m table_tells few_m) few_n

pub along_parts : (n : ℕ) (p q : Position) → is_along n p q ≡ true
    → (side_of p n q ≡ Zero) × (sign_of (dot_of (direction_vector n) (vector_of p q)) ≡ Pos)
along_parts n p q e =
    let k = and_parts (is_zero (side_of p n q)) _ e in
    (zero_is _ k.0, positive_is _ k.1)

pub along_from_parts : (n : ℕ) (p q : Position) → side_of p n q ≡ Zero
    → sign_of (dot_of (direction_vector n) (vector_of p q)) ≡ Pos → is_along n p q ≡ true
along_from_parts n p q e f = and_from _ _ (ap is_zero e) (ap is_positive f)

pub along_unique : (m n : ℕ) (p q : Position) → m < 16 → n < 16 → is_along m p q ≡ true
    → is_along n p q ≡ true → m ≡ n
unfolding tells
along_unique m n p q few_m few_n e f =
    let d = direction_vector m in
    let w = vector_of p q in
    let a = along_parts m p q e in
    let b = along_parts n p q f in
    let parallel : turn_sign n m ≡ Zero =
    ap (λ t. times_sign t (turn_sign n m)) (sym a.1)
    ∙ sym (along_cross d w (square_sign m) a.0 (direction_vector n)) ∙ b.0 in
    let not_opposite : sign_of (dot_of (direction_vector n) d) ≡ Pos =
    ap (λ t. times_sign t (sign_of (dot_of (direction_vector n) d))) (sym a.1)
    ∙ sym (along_dot d w (square_sign m) a.0 (direction_vector n)) ∙ b.1 in
    let same : (is_zero (turn_sign n m) && is_positive (sign_of (dot_of (direction_vector n) d)))
    ≡ true = and_from _ _ (ap is_zero parallel) (ap is_positive not_opposite) in
    eqb-true m n (ap (λ b. not b || eqb m n) (sym same) ∙ tells_at m n few_m few_n)

-- ---- the opposite direction

upper_case : (n : ℕ) → n < 8 → direction_vector n ≡ upper_vector n
upper_case n few = ap (λ b. cond b (upper_vector n) (opposite_of (upper_vector (n - 8)))) (lt-ltb n 8 few)

lower_case : (n : ℕ) → 8 ≤ n → direction_vector n ≡ opposite_of (upper_vector (n - 8))
lower_case n many = ap (λ b. cond b (upper_vector n) (opposite_of (upper_vector (n - 8)))) (le-ltb n 8 many)

-- direction n + 8 is opposite to direction n
pub opposite_direction : (n : ℕ) → n < 8 → direction_vector (n + 8) ≡ opposite_of (direction_vector n)
opposite_direction n few =
    lower_case (n + 8) (omega arith) ∙ ap (λ k. opposite_of (upper_vector k)) (omega arith)
    ∙ ap opposite_of (sym (upper_case n few))

-- two directions of which one is opposite to the other
data AreOpposite (d e : Position) : Type 0 where
  second : e ≡ opposite_of d → AreOpposite d e
  first : d ≡ opposite_of e → AreOpposite d e

opposite_vectors : (n : ℕ) → n < 16 → AreOpposite (direction_vector n) (direction_vector (opposite_number n))
opposite_vectors n few =
    elim (cases_lt n 8) [
      | inl less ↦
          (let number : opposite_number n ≡ n + 8 = omega arith in
          second (ap direction_vector number ∙ lower_case (n + 8) (omega arith)
          ∙ ap (λ k. opposite_of (upper_vector k)) (omega arith)
          ∙ ap opposite_of (sym (upper_case n less))))
      | inr more ↦
          (let number : opposite_number n ≡ n - 8 = omega arith in
          first (lower_case n more
          ∙ ap opposite_of (sym (upper_case (n - 8) (omega arith)) ∙ ap direction_vector (sym number))))
    ]

cross_back : (d p q : Position)
    → IsSame (cross_of (opposite_of d) (vector_of q p)) (cross_of d (vector_of p q))
cross_back d p q =
    number_ring (d.x ∷ d.y ∷ p.x ∷ p.y ∷ q.x ∷ q.y ∷ []) ((⊖ v0) ⊗ (v3 ⊝ v5) ⊝ (⊖ v1) ⊗ (v2 ⊝ v4))
    (v0 ⊗ (v5 ⊝ v3) ⊝ v1 ⊗ (v4 ⊝ v2)) refl

dot_back : (d p q : Position) → IsSame (dot_of (opposite_of d) (vector_of q p)) (dot_of d (vector_of p q))
dot_back d p q =
    number_ring (d.x ∷ d.y ∷ p.x ∷ p.y ∷ q.x ∷ q.y ∷ []) ((⊖ v0) ⊗ (v2 ⊝ v4) ⊕ (⊖ v1) ⊗ (v3 ⊝ v5))
    (v0 ⊗ (v4 ⊝ v2) ⊕ v1 ⊗ (v5 ⊝ v3)) refl

abbrev test_along : Position → Position → Position → Bool
test_along d p q = is_zero (sign_of (cross_of d (vector_of p q)))
    && is_positive (sign_of (dot_of d (vector_of p q)))

test_back : (d p q : Position) → test_along (opposite_of d) q p ≡ test_along d p q
test_back d p q = ap₂ (λ s t. is_zero s && is_positive t)
    (sign_of-same (cross_of (opposite_of d) (vector_of q p)) (cross_of d (vector_of p q)) (cross_back d p q))
    (sign_of-same (dot_of (opposite_of d) (vector_of q p)) (dot_of d (vector_of p q)) (dot_back d p q))

opposite_test : (d e p q : Position) → AreOpposite d e → test_along e q p ≡ test_along d p q
opposite_test d e p q (second f) = ap (λ v. test_along v q p) f ∙ test_back d p q
opposite_test d e p q (first f) = sym (ap (λ v. test_along v p q) f ∙ test_back e q p)

pub along_back : (n : ℕ) (p q : Position) → n < 16 → is_along (opposite_number n) q p ≡ is_along n p q
along_back n p q few =
    opposite_test (direction_vector n) (direction_vector (opposite_number n)) p q (opposite_vectors n few)

-- ---- the least direction

pub among_finds : (left n m : ℕ) (p q : Position) → n ≤ m → m < n + left → is_along m p q ≡ true
    → ((k : ℕ) → n ≤ k → k < m → is_along k p q ≡ false) → direction_among left n p q ≡ Some m
among_finds zero n m p q low high here below = absurd (omega arith)
among_finds (suc left) n m p q low high here below =
    elim (cases_lt n m) [
      | inl less ↦ ap (λ b. cond b (Some n) (direction_among left (n + 1) p q)) (below n (omega arith) less)
          ∙ among_finds left (n + 1) m p q (omega arith) (omega arith) here (λ k l h. below k (omega arith) h)
      | inr more ↦
          (let at : n ≡ m = omega arith in
          ap (λ b. cond b (Some n) (direction_among left (n + 1) p q)) (ap (λ k. is_along k p q) at ∙ here)
          ∙ ap Some at)
    ]

pub among_none : (left n : ℕ) (p q : Position) → ((k : ℕ) → n ≤ k → k < n + left → is_along k p q ≡ false)
    → direction_among left n p q ≡ None
among_none zero n p q none = refl
among_none (suc left) n p q none =
    ap (λ b. cond b (Some n) (direction_among left (n + 1) p q)) (none n (omega arith) (omega arith))
    ∙ among_none left (n + 1) p q (λ k l h. none k (omega arith) (omega arith))

pub direction_found : (m : ℕ) (p q : Position) → m < 16 → is_along m p q ≡ true
    → ((k : ℕ) → k < m → is_along k p q ≡ false) → direction_of p q ≡ Some m
unfolding direction_of
direction_found m p q few here below =
    among_finds 16 0 m p q (omega arith) (omega arith) here (λ k _ h. below k h)

pub direction_none : (p q : Position) → ((k : ℕ) → k < 16 → is_along k p q ≡ false) → direction_of p q ≡ None
unfolding direction_of
direction_none p q none = among_none 16 0 p q (λ k _ h. none k (omega arith))

-- ---- positive multiples

-- the square of a direction's length has an inverse, which is positive
abbrev pub HasPositiveInverse : Number → Type 0
HasPositiveInverse x = (i : Number) × IsSame (product_of i x) (whole (pos 1)) × (sign_of i ≡ Pos)

square_upper_inverse : (n : ℕ) → HasPositiveInverse (dot_of (upper_vector n) (upper_vector n))
square_upper_inverse zero = (record { a = pos 1; b = pos 0; k = 0 }, (refl, refl), refl)
square_upper_inverse (suc zero) = (record { a = pos 2; b = pos 1; k = 2 }, (refl, refl), refl)
square_upper_inverse (suc (suc zero)) = (record { a = pos 1; b = pos 0; k = 1 }, (refl, refl), refl)
square_upper_inverse (suc (suc (suc zero))) = (record { a = pos 2; b = pos 1; k = 2 }, (refl, refl), refl)
square_upper_inverse (suc (suc (suc (suc zero)))) =
    (record { a = pos 1; b = pos 0; k = 0 }, (refl, refl), refl)
square_upper_inverse (suc (suc (suc (suc (suc zero))))) =
    (record { a = pos 2; b = pos 1; k = 2 }, (refl, refl), refl)
square_upper_inverse (suc (suc (suc (suc (suc (suc zero)))))) =
    (record { a = pos 1; b = pos 0; k = 1 }, (refl, refl), refl)
square_upper_inverse (suc (suc (suc (suc (suc (suc (suc n))))))) =
    (record { a = pos 2; b = pos 1; k = 2 }, (refl, refl), refl)

pub square_inverse : (n : ℕ) → HasPositiveInverse (dot_of (direction_vector n) (direction_vector n))
square_inverse n = go (ltb n 8)
  where
    opposed : (d : Position) → HasPositiveInverse (dot_of d d)
        → HasPositiveInverse (dot_of (opposite_of d) (opposite_of d))
    opposed d h = (
      h.0,
      number_ring_from (h.0 ∷ d.x ∷ d.y ∷ []) (v0 ⊗ (v1 ⊗ v1 ⊕ v2 ⊗ v2)) (con (whole (pos 1)))
          (con (whole (pos 1))) (v0 ⊗ ((⊖ v1) ⊗ (⊖ v1) ⊕ (⊖ v2) ⊗ (⊖ v2))) (con (whole (pos 1))) refl h.1,
      h.2,
    )

    go : (b : Bool) → HasPositiveInverse
        (dot_of (cond b (upper_vector n) (opposite_of (upper_vector (n - 8))))
        (cond b (upper_vector n) (opposite_of (upper_vector (n - 8)))))
    go true = square_upper_inverse n
    go false = opposed (upper_vector (n - 8)) (square_upper_inverse (n - 8))

-- a vector along d is a multiple of d
multiple_x : (d w : Position) (i : Number) → IsSame (product_of i (dot_of d d)) (whole (pos 1))
    → IsSame (cross_of d w) (whole (pos 0)) → IsSame w.x (product_of (product_of (dot_of d w) i) d.x)
multiple_x d w i h k =
    number_ring_from_two (d.x ∷ d.y ∷ w.x ∷ w.y ∷ i ∷ [])
    (v4 ⊗ (v0 ⊗ v0 ⊕ v1 ⊗ v1)) (con (whole (pos 1))) (⊖ v2)
    (v0 ⊗ v3 ⊝ v1 ⊗ v2) (con (whole (pos 0))) (⊖ (v4 ⊗ v1))
    v2 (((v0 ⊗ v2 ⊕ v1 ⊗ v3) ⊗ v4) ⊗ v0) refl h k

multiple_y : (d w : Position) (i : Number) → IsSame (product_of i (dot_of d d)) (whole (pos 1))
    → IsSame (cross_of d w) (whole (pos 0)) → IsSame w.y (product_of (product_of (dot_of d w) i) d.y)
multiple_y d w i h k =
    number_ring_from_two (d.x ∷ d.y ∷ w.x ∷ w.y ∷ i ∷ [])
    (v4 ⊗ (v0 ⊗ v0 ⊕ v1 ⊗ v1)) (con (whole (pos 1))) (⊖ v3)
    (v0 ⊗ v3 ⊝ v1 ⊗ v2) (con (whole (pos 0))) (v4 ⊗ v0)
    v3 (((v0 ⊗ v2 ⊕ v1 ⊗ v3) ⊗ v4) ⊗ v1) refl h k

cross_multiple : (d w : Position) (m : Number) → IsSame w.x (product_of m d.x) → IsSame w.y (product_of m d.y)
    → IsSame (cross_of d w) (whole (pos 0))
cross_multiple d w m e f =
    number_ring_from_two (d.x ∷ d.y ∷ w.x ∷ w.y ∷ m ∷ []) v2 (v4 ⊗ v0) (⊖ v1) v3 (v4 ⊗ v1) v0
    (v0 ⊗ v3 ⊝ v1 ⊗ v2) (con (whole (pos 0))) refl e f

dot_multiple : (d w : Position) (m : Number) → IsSame w.x (product_of m d.x) → IsSame w.y (product_of m d.y)
    → IsSame (dot_of d w) (product_of m (dot_of d d))
dot_multiple d w m e f =
    number_ring_from_two (d.x ∷ d.y ∷ w.x ∷ w.y ∷ m ∷ []) v2 (v4 ⊗ v0) v0 v3 (v4 ⊗ v1) v1 (v0 ⊗ v2 ⊕ v1 ⊗ v3)
    (v4 ⊗ (v0 ⊗ v0 ⊕ v1 ⊗ v1)) refl e f

pub along_is_multiple : (n : ℕ) (p q : Position) → (is_along n p q ≡ true) ↔ IsPositiveMultiple n p q
along_is_multiple n p q = (to, from)
  where
    to : is_along n p q ≡ true → IsPositiveMultiple n p q
    to e =
        let d = direction_vector n in
        let w = vector_of p q in
        let a = along_parts n p q e in
        let h = square_inverse n in
        let zero_cross = sign_of-zero (cross_of d w) a.0 in (
          product_of (dot_of d w) h.0,
          sign_of-product (dot_of d w) h.0 ∙ ap₂ times_sign a.1 h.2,
          (multiple_x d w h.0 h.1 zero_cross, multiple_y d w h.0 h.1 zero_cross),
        )

    from : IsPositiveMultiple n p q → is_along n p q ≡ true
    from m =
        let d = direction_vector n in
        let w = vector_of p q in
        along_from_parts n p q
        (sign_of-same (cross_of d w) (whole (pos 0)) (cross_multiple d w m.0 m.2.0 m.2.1))
        (sign_of-same (dot_of d w) (product_of m.0 (dot_of d d)) (dot_multiple d w m.0 m.2.0 m.2.1)
        ∙ sign_of-product m.0 (dot_of d d) ∙ ap₂ times_sign m.1 (square_sign n))
