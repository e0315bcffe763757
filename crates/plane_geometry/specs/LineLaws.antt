-- Lines as values: lines with the same points are one line.
use Rattle.std.proofs.Common.{◌≡◌, ◌↔◌, ℕ, ◌<◌, ◌≤◌, Bool, true, not, ◌||◌, eqb, [], ◌∷◌, pos, refl, sym, ap, subst, ◌∙◌, arith}
use Rattle.std.proofs.lemmas.Bool.{agree_below, agree_below_at, eqb-true}
use Rattle.std.proofs.Math.Bridge.{le_prop}
use mathlib.Core.HLevel.{is_prop→PathP}
use Rattle.surd_number.specs.declared.Sgn.TheVariants.{Zero}
use Rattle.surd_number.specs.Number.{Number, IsSame, whole, sum_of, difference_of, product_of, negative_of, sign_of}
use Rattle.surd_number.specs.RingTool.{◌⊕◌, ◌⊝◌, ◌⊗◌, ⊖◌, con, v0, v1, v2, v3, v4, v5, v6}
use Rattle.surd_number.specs.NumberLaws.{number_ring_from, number_ring_from_two, IsSame-trans, IsSame-sym}
use Rattle.surd_number.specs.SignLaws.{sign_of-same}
use Rattle.surd_number.specs.SurdLaws.{wide_is}
use Rattle.surd_number.specs.Value.{wide_number_of}
use Rattle.plane_geometry.specs.declared.Line.{Line}
use Rattle.plane_geometry.specs.Position.{Position, vector_of, cross_of, dot_of}
use Rattle.plane_geometry.specs.Direction.{direction_vector, side_of, is_zero, turn_sign}
use Rattle.plane_geometry.specs.LineStored.{PassesThroughPoint}
use Rattle.plane_geometry.specs.LineView.{line_number, line_offset, HaveSamePoints}
use Rattle.plane_geometry.specs.DirectionLaws.{square_inverse}
use Rattle.plane_geometry.specs.MeetLaws.{on_line_offset, on_line_from_offset}

-- ---- parts

pub line_from_parts : (l m : Line) → line_number l ≡ line_number m → line_offset l ≡ line_offset m → l ≡ m
line_from_parts l m e f =
    λ i. record {
      direction = e i;
      offset = f i;
      in_range = is_prop→PathP (λ j. e j ≤ 7) (λ j. le_prop) l.in_range m.in_range i;
      passes = is_prop→PathP (λ j. ∥ PassesThroughPoint (e j) (f j) ∥₁) (λ j. squash₁) l.passes m.passes i;
    }

-- ---- parallel directions

tells_parallel : ℕ → ℕ → Bool
tells_parallel m n = not (is_zero (turn_sign m n)) || eqb m n

table_parallel : agree_below (λ m. agree_below (tells_parallel m) (λ _. true) 8) (λ _. true) 8 ≡ true
unfolding tells_parallel
table_parallel = refl

-- of the directions 0 to 7 no two are parallel
pub parallel_is : (m n : ℕ) → m < 8 → n < 8 → turn_sign m n ≡ Zero → m ≡ n
unfolding tells_parallel
parallel_is m n few_m few_n e =
    eqb-true m n (ap (λ s. not (is_zero s) || eqb m n) (sym e)
    ∙ agree_below_at (tells_parallel m) (λ _. true) 8 n
    (agree_below_at (λ m. agree_below (tells_parallel m) (λ _. true) 8)
    (λ _. true) 8 m table_parallel few_m) few_n)

-- ---- points of a line

-- the point of the line in direction d of offset o that is nearest to the origin, by the inverse i of the square of d
foot_of : Position → Number → Number → Position
foot_of d o i = record {
  x = negative_of (product_of d.y (product_of o i));
  y = product_of d.x (product_of o i);
}

-- the next one by d
beyond : Position → Position → Position
beyond p d = record { x = sum_of p.x d.x; y = sum_of p.y d.y }

foot_offset : (d : Position) (o i : Number) → IsSame (product_of i (dot_of d d)) (whole (pos 1))
    → IsSame (cross_of d (foot_of d o i)) o
unfolding foot_of
foot_offset d o i h =
    number_ring_from (d.x ∷ d.y ∷ o ∷ i ∷ []) (v3 ⊗ (v0 ⊗ v0 ⊕ v1 ⊗ v1)) (con (whole (pos 1))) v2
    (v0 ⊗ (v0 ⊗ (v2 ⊗ v3)) ⊝ v1 ⊗ (⊖ (v1 ⊗ (v2 ⊗ v3)))) v2 refl h

beyond_offset : (d p : Position) (o : Number) → IsSame (cross_of d p) o → IsSame (cross_of d (beyond p d)) o
unfolding beyond
beyond_offset d p o h =
    number_ring_from (d.x ∷ d.y ∷ p.x ∷ p.y ∷ o ∷ []) (v0 ⊗ v3 ⊝ v1 ⊗ v2) v4 (con (whole (pos 1)))
    (v0 ⊗ (v3 ⊕ v1) ⊝ v1 ⊗ (v2 ⊕ v0)) v4 refl h

-- a line with two points that are d apart is parallel to d
two_points_cross : (e d p : Position) (u : Number) → IsSame (cross_of e p) u
    → IsSame (cross_of e (beyond p d)) u → IsSame (cross_of e d) (whole (pos 0))
unfolding beyond
two_points_cross e d p u f g =
    number_ring_from_two (e.x ∷ e.y ∷ d.x ∷ d.y ∷ p.x ∷ p.y ∷ []) (v0 ⊗ v5 ⊝ v1 ⊗ v4) (v0 ⊗ v5 ⊝ v1 ⊗ v4)
    (con (whole (pos 1))) (v0 ⊗ (v5 ⊕ v3) ⊝ v1 ⊗ (v4 ⊕ v2)) (v0 ⊗ v5 ⊝ v1 ⊗ v4) (con (whole (pos 1)))
    (v0 ⊗ v3 ⊝ v1 ⊗ v2) (con (whole (pos 0))) refl
    (IsSame-trans (cross_of e p) u (cross_of e p) f (IsSame-sym (cross_of e p) u f))
    (IsSame-trans (cross_of e (beyond p d)) u (cross_of e p) g (IsSame-sym (cross_of e p) u f))

-- ---- lines with the same points

pub line_is : (l m : Line) → (l ≡ m) ↔ HaveSamePoints l m
line_is l m = (to, from)
  where
    to : l ≡ m → HaveSamePoints l m
    to e = let P : Line → Type 0 = HaveSamePoints l in subst P e (λ p. ((λ h. h), λ h. h))

    from : HaveSamePoints l m → l ≡ m
    from same =
        let n = line_number l in
        let k = line_number m in
        let d = direction_vector n in
        let e = direction_vector k in
        let o = wide_number_of (line_offset l) in
        let u = wide_number_of (line_offset m) in
        let inverse = square_inverse n in
        let p = foot_of d o inverse.0 in
        let on_l : IsSame (cross_of d p) o = foot_offset d o inverse.0 inverse.1 in
        let on_m : IsSame (cross_of e p) u = on_line_offset m p ((same p).0 (on_line_from_offset l p on_l)) in
        let next_m : IsSame (cross_of e (beyond p d)) u = on_line_offset m (beyond p d)
        ((same (beyond p d)).0 (on_line_from_offset l (beyond p d) (beyond_offset d p o on_l))) in
        let parallel : turn_sign k n
        ≡ Zero = sign_of-same (cross_of e d) (whole (pos 0)) (two_points_cross e d p u on_m next_m) in
        let numbers : n ≡ k = sym
        (parallel_is k n (omega (arith, m.in_range)) (omega (arith, l.in_range)) parallel) in
        let on_m' : IsSame (cross_of d p) u = subst (λ j. IsSame (cross_of (direction_vector j) p) u)
        (sym numbers) on_m in
        let offsets : line_offset l
        ≡ line_offset m = wide_is (line_offset l) (line_offset m)
        (IsSame-trans o (cross_of d p) u (IsSame-sym (cross_of d p) o on_l) on_m') in
        line_from_parts l m numbers offsets

-- ---- the line through a point

pub through_side : (n : ℕ) (o : Number) (p q : Position) → IsSame o (cross_of (direction_vector n) p)
    → sign_of (difference_of (cross_of (direction_vector n) q) o) ≡ side_of p n q
through_side n o p q e =
    let d = direction_vector n in
    sign_of-same (difference_of (cross_of d q) o) (cross_of d (vector_of p q))
    (number_ring_from (d.x ∷ d.y ∷ p.x ∷ p.y ∷ q.x ∷ q.y ∷ o ∷ []) v6 (v0 ⊗ v3 ⊝ v1 ⊗ v2)
    (con (negative_of (whole (pos 1))))
    ((v0 ⊗ v5 ⊝ v1 ⊗ v4) ⊝ v6) (v0 ⊗ (v5 ⊝ v3) ⊝ v1 ⊗ (v4 ⊝ v2)) refl e)
