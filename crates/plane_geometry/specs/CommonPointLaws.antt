-- What two stretches have in common, by points: where they cross, touch, overlap and meet at ends.
use Rattle.std.proofs.Common.{◌≡◌, ◌≢◌, ◌↔◌, ℕ, Bool, true, false, not, ◌&&◌, ◌||◌, ◌⊎◌, inl, inr, [], ◌∷◌, pos, refl, sym, ap, ap₂, ◌∙◌}
use Rattle.std.proofs.lemmas.Bool.{false≢true, and_parts, or_cases, and_from, or_left, or_right, not-true, not_from_false, false_from_ne_true, both_ways}
use Rattle.surd_number.specs.declared.Sgn.{Sgn}
use Rattle.surd_number.specs.declared.Sgn.TheVariants.{Neg, Zero, Pos}
use Rattle.surd_number.specs.Number.{Number, IsSame, whole, sum_of, difference_of, product_of, negative_of, half_of, sign_of, opposite_sign, times_sign}
use Rattle.surd_number.specs.RingTool.{◌⊕◌, ◌⊝◌, ◌⊗◌, ⊖◌, con, halved, v0, v1, v2, v3, v4, v5}
use Rattle.surd_number.specs.NumberLaws.{number_ring, number_ring_from}
use Rattle.std.specs.Ordering.{is_lt}
use Rattle.plane_geometry.specs.Position.{Position, vector_of, cross_of, dot_of, compare_positions, is_same_position}
use Rattle.plane_geometry.specs.Direction.{direction_vector, side_of, is_positive, is_negative, is_zero, is_along, turn_sign}
use Rattle.plane_geometry.specs.Stored.{IsStretch}
use Rattle.plane_geometry.specs.Stretch.{Stretch, is_apart, is_between, is_end, is_on, is_in_line, is_parted, is_crossing, is_touching, ends_at_ends, has_same_ends, meets_at_ends, is_overlapping, ShareAPoint, MeetAtEnds, ShareTwoPoints}
use Rattle.surd_number.specs.SignLaws.{sign_of-same, sign_of-negative}
use Rattle.plane_geometry.specs.SideLaws.{then_sign, may_sum, lex_sign, order_of, order_self, order_turned, order_chain, side_from, side_same, square_sign, along_lex, along_cross, product_by_zero, product_by_pos}
use Rattle.plane_geometry.specs.CrossLaws.{turn_inverse}
use Rattle.plane_geometry.specs.Common.{meeting_point}
use Rattle.plane_geometry.specs.MeetLaws.{side_from_offset, meets_first, meets_second}
use Rattle.plane_geometry.specs.StretchLaws.{LiesOn, before_is, same_is, positive_is, zero_is, before_then, then_before, order_from, order_to, turned_zero, side_to, side_self, ends_order, to_in_line, along_sign, on_parts, on_from_parts, end_parts, end_from, end_to}

-- ---- points on one line

-- the line of a stretch, by any of its points
pub line_through : (s : Stretch) (p q : Position) → side_of s.from s.dir p ≡ Zero
    → side_of s.from s.dir q ≡ Zero → side_of p s.dir q ≡ Zero
line_through s p q e f = sym (side_from s.from s.dir p q e) ∙ f

forward : (s : Stretch) → IsStretch s → lex_sign (direction_vector s.dir) ≡ Pos
forward s h =
    sym (along_lex (direction_vector s.dir) (vector_of s.from s.to) (square_sign s.dir) (to_in_line s h)
    ∙ ap (λ t. times_sign t (lex_sign (direction_vector s.dir))) (along_sign s h))
    ∙ ends_order s h

-- along a stretch, one goes on where one goes to a greater point
pub dot_is_order : (s : Stretch) (p q : Position) → IsStretch s → side_of p s.dir q ≡ Zero
    → sign_of (dot_of (direction_vector s.dir) (vector_of p q)) ≡ order_of p q
dot_is_order s p q h e =
    sym (along_lex (direction_vector s.dir) (vector_of p q) (square_sign s.dir) e
    ∙ ap (times_sign (sign_of (dot_of (direction_vector s.dir) (vector_of p q)))) (forward s h)
    ∙ product_by_pos (sign_of (dot_of (direction_vector s.dir) (vector_of p q))))

-- from one point of its line to a later one it goes in the direction of a stretch
pub along_line : (s : Stretch) (p q : Position) → IsStretch s → side_of s.from s.dir p ≡ Zero
    → side_of s.from s.dir q ≡ Zero → order_of p q ≡ Pos → is_along s.dir p q ≡ true
along_line s p q h e f up =
    let side = line_through s p q e f in
    and_from _ _ (ap is_zero side) (ap is_positive (dot_is_order s p q h side ∙ up))

-- along a stretch, one goes to the side of another direction to which it turns from that
pub side_on_line : (s : Stretch) (p q : Position) (m : ℕ) → IsStretch s → side_of s.from s.dir p ≡ Zero
    → side_of s.from s.dir q ≡ Zero → side_of p m q ≡ times_sign (order_of p q) (turn_sign m s.dir)
side_on_line s p q m h e f =
    along_cross (direction_vector s.dir) (vector_of p q) (square_sign s.dir) (line_through s p q e f)
    (direction_vector m)
    ∙ ap (λ t. times_sign t (turn_sign m s.dir)) (dot_is_order s p q h (line_through s p q e f))

pub turn_turned : (m n : ℕ) → turn_sign n m ≡ opposite_sign (turn_sign m n)
turn_turned m n =
    let d = direction_vector m in
    let e = direction_vector n in
    sign_of-same (cross_of e d) (negative_of (cross_of d e))
    (number_ring (d.x ∷ d.y ∷ e.x ∷ e.y ∷ []) (v2 ⊗ v1 ⊝ v3 ⊗ v0) (⊖ (v0 ⊗ v3 ⊝ v1 ⊗ v2)) refl)
    ∙ sign_of-negative (cross_of d e)

from_in_line : (s : Stretch) → side_of s.from s.dir s.from ≡ Zero
from_in_line s = side_self s.from s.dir

-- ---- crossing

parted_table : (t : Sgn) → t ≢ Zero
    → ((is_positive (opposite_sign t) && is_negative t) || (is_negative (opposite_sign t) && is_positive t))
    ≡ true
parted_table Neg n = refl
parted_table Zero n = absurd (n refl)
parted_table Pos n = refl

is_parted_by : Sgn → Sgn → Bool
is_parted_by a b = (is_positive a && is_negative b) || (is_negative a && is_positive b)

turned_pos : (p q : Position) → order_of p q ≡ Pos → order_of q p ≡ Neg
turned_pos p q e = order_turned p q ∙ ap opposite_sign e

turned_neg : (p q : Position) → order_of p q ≡ Neg → order_of q p ≡ Pos
turned_neg p q e = order_turned p q ∙ ap opposite_sign e

-- a line in direction m through a point strictly between the ends parts them
parted_at : (s : Stretch) (c p : Position) (m : ℕ) → IsStretch s → turn_sign m s.dir ≢ Zero
    → side_of c m p ≡ Zero → side_of s.from s.dir p ≡ Zero → order_of s.from p ≡ Pos → order_of p s.to ≡ Pos
    → ((is_positive (side_of c m s.from) && is_negative (side_of c m s.to))
    || (is_negative (side_of c m s.from) && is_positive (side_of c m s.to))) ≡ true
parted_at s c p m h n on_other in_line after before =
    ap₂ (λ (a b : Sgn). (is_positive a && is_negative b) || (is_negative a && is_positive b))
    (side_from c m p s.from on_other ∙ side_on_line s p s.from m h in_line (from_in_line s)
    ∙ ap (λ t. times_sign t (turn_sign m s.dir)) (turned_pos s.from p after))
    (side_from c m p s.to on_other ∙ side_on_line s p s.to m h in_line (to_in_line s h)
    ∙ ap (λ t. times_sign t (turn_sign m s.dir)) before)
    ∙ parted_table (turn_sign m s.dir) n

between_table : (x y t : Sgn) → may_sum (opposite_sign x) y Pos ≡ true
    → ((is_positive (times_sign x t) && is_negative (times_sign y t))
    || (is_negative (times_sign x t) && is_positive (times_sign y t))) ≡ true → (x ≡ Neg) × (y ≡ Pos)
between_table Neg Pos t e f = (refl, refl)
between_table Neg Neg Neg e f = absurd (false≢true f)
between_table Neg Neg Zero e f = absurd (false≢true f)
between_table Neg Neg Pos e f = absurd (false≢true f)
between_table Neg Zero Neg e f = absurd (false≢true f)
between_table Neg Zero Zero e f = absurd (false≢true f)
between_table Neg Zero Pos e f = absurd (false≢true f)
between_table Zero y t e f = absurd (false≢true f)
between_table Pos Neg t e f = absurd (false≢true e)
between_table Pos Zero t e f = absurd (false≢true e)
between_table Pos Pos Neg e f = absurd (false≢true f)
between_table Pos Pos Zero e f = absurd (false≢true f)
between_table Pos Pos Pos e f = absurd (false≢true f)

-- a common point of the line of s and of a line that parts its ends is strictly between them
between_parted : (s : Stretch) (c p : Position) (m : ℕ) → IsStretch s → side_of c m p ≡ Zero
    → side_of s.from s.dir p ≡ Zero
    → ((is_positive (side_of c m s.from) && is_negative (side_of c m s.to))
    || (is_negative (side_of c m s.from) && is_positive (side_of c m s.to))) ≡ true
    → (order_of s.from p ≡ Pos) × (order_of p s.to ≡ Pos)
between_parted s c p m h on_other in_line parted =
    let a = side_from c m p s.from on_other ∙ side_on_line s p s.from m h in_line (from_in_line s) in
    let b = side_from c m p s.to on_other ∙ side_on_line s p s.to m h in_line (to_in_line s h) in
    let chain = order_chain s.from p s.to in
    let k = between_table (order_of p s.from) (order_of p s.to) (turn_sign m s.dir)
    (ap₂ (λ (x y : Sgn). may_sum x (order_of p s.to) y) (sym (order_turned p s.from)) (sym (ends_order s h))
    ∙ chain)
    (sym (ap₂ (λ (a b : Sgn). (is_positive a && is_negative b) || (is_negative a && is_positive b)) a b)
    ∙ parted) in
    (turned_neg p s.from k.0, k.1)

parted_turns_table : (a b t : Sgn)
    → ((is_positive a && is_negative b) || (is_negative a && is_positive b)) ≡ true → a ≢ b
parted_turns_table Neg Neg t e f = false≢true e
parted_turns_table Neg Zero t e f = false≢true e
parted_turns_table Neg Pos t e f = let h : Neg ≡ Pos = f in cc
parted_turns_table Zero b t e f = false≢true e
parted_turns_table Pos Neg t e f = let h : Pos ≡ Neg = f in cc
parted_turns_table Pos Zero t e f = false≢true e
parted_turns_table Pos Pos t e f = false≢true e

-- a line that parts the ends of a stretch has another direction
parted_turns : (s : Stretch) (c : Position) (m : ℕ) → IsStretch s
    → ((is_positive (side_of c m s.from) && is_negative (side_of c m s.to))
    || (is_negative (side_of c m s.from) && is_positive (side_of c m s.to))) ≡ true → turn_sign m s.dir ≢ Zero
parted_turns s c m h parted e =
    parted_turns_table (side_of c m s.from) (side_of c m s.to) Zero parted
    (sym (side_to c m s.from s.to
    (side_on_line s s.from s.to m h (from_in_line s) (to_in_line s h)
    ∙ ap (times_sign (order_of s.from s.to)) e ∙ product_by_zero (order_of s.from s.to))))

-- ---- stretches on one line

-- where two stretches in parallel directions have a point in common, each point of the line of one is on that of the other
same_line : (s u : Stretch) (p q : Position) → IsStretch s → turn_sign u.dir s.dir ≡ Zero
    → side_of s.from s.dir p ≡ Zero → side_of u.from u.dir p ≡ Zero → side_of s.from s.dir q ≡ Zero
    → side_of u.from u.dir q ≡ Zero
same_line s u p q h parallel in_s in_u q_in_s =
    side_from u.from u.dir p q in_u ∙ side_on_line s p q u.dir h in_s q_in_s
    ∙ ap (times_sign (order_of p q)) parallel ∙ product_by_zero (order_of p q)

not_negative_pos : (s : Sgn) → s ≡ Pos → is_negative s ≡ false
not_negative_pos s e = ap is_negative e

not_negative_zero : (s : Sgn) → s ≡ Zero → is_negative s ≡ false
not_negative_zero s e = ap is_negative e

-- the ends of a stretch are on it
pub from_lies : (s : Stretch) → IsStretch s → LiesOn s.from s
from_lies s h = record {
  in_line = from_in_line s;
  after_from = not_negative_zero _ (order_self s.from);
  before_to = not_negative_pos _ (ends_order s h);
}

pub to_lies : (s : Stretch) → IsStretch s → LiesOn s.to s
to_lies s h = record {
  in_line = to_in_line s h;
  after_from = not_negative_pos _ (ends_order s h);
  before_to = not_negative_zero _ (order_self s.to);
}

-- points that are the same are on the same stretches, and are the same ends
pub lies_same : (p q : Position) (s : Stretch) → order_of p q ≡ Zero → LiesOn p s → LiesOn q s
lies_same p q s e l =
    record {
      in_line = side_to s.from s.dir p q (side_same p s.dir q e) ∙ l.in_line;
      after_from = ap is_negative (order_to s.from p q e) ∙ l.after_from;
      before_to = ap is_negative (sym (order_from p q s.to e)) ∙ l.before_to;
    }

pub end_same : (p q : Position) (s : Stretch) → order_of p q ≡ Zero → is_end p s ≡ true → is_end q s ≡ true
end_same p q s e h =
    elim (end_parts p s h) [
      | inl l ↦ end_from q s (order_to s.from p q e ∙ l)
      | inr r ↦ end_to q s
          (sym (order_from p q s.to e) ∙ r)
    ]

-- strictly between the ends
pub record LiesBetween (p : Position) (s : Stretch) : Type 0 where
  pub in_line : side_of s.from s.dir p ≡ Zero
  pub after_from : order_of s.from p ≡ Pos
  pub before_to : order_of p s.to ≡ Pos

pub between_parts : (p : Position) (s : Stretch) → is_between p s ≡ true → LiesBetween p s
between_parts p s e =
    let k = and_parts (is_in_line p s) _ e in
    let l = and_parts _ _ k.1 in
    record {
      in_line = zero_is _ k.0;
      after_from = positive_is _ (sym (before_is s.from p) ∙ l.0);
      before_to = positive_is _ (sym (before_is p s.to) ∙ l.1);
    }

pub between_from_parts : (p : Position) (s : Stretch) → LiesBetween p s → is_between p s ≡ true
between_from_parts p s b =
    and_from (is_in_line p s) _ (ap is_zero b.in_line)
    (and_from _ _ (before_is s.from p ∙ ap is_positive b.after_from)
    (before_is p s.to ∙ ap is_positive b.before_to))

pub between_lies : (p : Position) (s : Stretch) → LiesBetween p s → LiesOn p s
between_lies p s b =
    record {
      in_line = b.in_line;
      after_from = not_negative_pos _ b.after_from;
      before_to = not_negative_pos _ b.before_to;
    }

pub between_no_end : (p : Position) (s : Stretch) → LiesBetween p s → is_end p s ≡ true → ⊥
between_no_end p s b e =
    elim (end_parts p s e) [
      | inl l ↦ (let h : Pos ≡ Zero = sym b.after_from ∙ l in cc)
      | inr r ↦
          (let h : Pos ≡ Zero = sym b.before_to ∙ r in cc)
    ]

-- on a stretch one is at an end or strictly between the ends
data AtOrBetween (p : Position) (s : Stretch) : Type 0 where
  at_from : order_of s.from p ≡ Zero → AtOrBetween p s
  at_to : order_of p s.to ≡ Zero → AtOrBetween p s
  between : LiesBetween p s → AtOrBetween p s

at_or_between : (p : Position) (s : Stretch) → LiesOn p s → AtOrBetween p s
at_or_between p s l = go (order_of s.from p) (order_of p s.to) refl refl
  where
    go : (a b : Sgn) → order_of s.from p ≡ a → order_of p s.to ≡ b → AtOrBetween p s
    go Neg b e f = absurd (both_ways true (ap is_negative (sym e) ∙ l.after_from) refl)
    go Zero b e f = at_from e
    go Pos Neg e f = absurd (both_ways true (ap is_negative (sym f) ∙ l.before_to) refl)
    go Pos Zero e f = at_to f
    go Pos Pos e f = between (record { in_line = l.in_line; after_from = e; before_to = f })

-- ---- crossing

-- where two stretches of different directions have a point strictly between the ends of both, they cross
crossing_at : (s u : Stretch) (p : Position) → IsStretch s → IsStretch u → turn_sign u.dir s.dir ≢ Zero
    → LiesBetween p s → LiesBetween p u → is_crossing s u ≡ true
crossing_at s u p h k turns in_s in_u =
    and_from _ _ (parted_at u s.from p s.dir k
    (λ e. turns (turn_turned s.dir u.dir ∙ ap opposite_sign e)) in_s.in_line in_u.in_line in_u.after_from
    in_u.before_to)
    (parted_at s u.from p u.dir h turns in_u.in_line in_s.in_line in_s.after_from in_s.before_to)

-- ---- sharing a point

-- on one line, the later of the lesser ends is on both
later_from : (s u : Stretch) (p : Position) → IsStretch s → IsStretch u → turn_sign u.dir s.dir ≡ Zero
    → LiesBetween p s → LiesBetween p u → (LiesOn s.from u) ⊎ (LiesOn u.from s)
later_from s u p h k parallel in_s in_u = go (order_of s.from u.from) refl
  where
    s_in_u : side_of u.from u.dir s.from ≡ Zero
    s_in_u = same_line s u p s.from h parallel in_s.in_line in_u.in_line (from_in_line s)

    u_in_s : side_of s.from s.dir u.from ≡ Zero
    u_in_s = same_line u s p u.from k
        (turn_turned u.dir s.dir ∙ ap opposite_sign parallel) in_u.in_line in_s.in_line (from_in_line u)

    before_s : order_of u.from s.to ≡ Pos
    before_s = before_then u.from p s.to in_u.after_from (not_negative_pos _ in_s.before_to)

    before_u : order_of s.from u.to ≡ Pos
    before_u = before_then s.from p u.to in_s.after_from (not_negative_pos _ in_u.before_to)

    go : (r : Sgn) → order_of s.from u.from ≡ r → (LiesOn s.from u) ⊎ (LiesOn u.from s)
    go Neg e = inl (record {
      in_line = s_in_u;
      after_from = not_negative_pos _ (turned_neg s.from u.from e);
      before_to = not_negative_pos _ before_u;
    })
    go Zero e = inr (record {
      in_line = u_in_s;
      after_from = not_negative_zero _ e;
      before_to = not_negative_pos _ before_s;
    })
    go Pos e = inr (record {
      in_line = u_in_s;
      after_from = not_negative_pos _ e;
      before_to = not_negative_pos _ before_s;
    })

touching_from : (s u : Stretch) → is_on s.from u ≡ true → is_touching s u ≡ true
touching_from s u e = or_left _ _ (or_left _ _ e)

touching_to : (s u : Stretch) → is_on s.to u ≡ true → is_touching s u ≡ true
touching_to s u e = or_left _ _ (or_right _ _ e)

touching_other_from : (s u : Stretch) → is_on u.from s ≡ true → is_touching s u ≡ true
touching_other_from s u e = or_right _ _ (or_left _ _ (or_left _ _ e))

touching_other_to : (s u : Stretch) → is_on u.to s ≡ true → is_touching s u ≡ true
touching_other_to s u e = or_right _ _ (or_left _ _ (or_right _ _ e))

touching_crossing : (s u : Stretch) → is_crossing s u ≡ true → is_touching s u ≡ true
touching_crossing s u e = or_right _ _ (or_right _ _ e)

-- a point on both
pub touching_at : (s u : Stretch) (p : Position) → IsStretch s → IsStretch u → LiesOn p s → LiesOn p u
    → is_touching s u ≡ true
touching_at s u p h k l m =
    elim (at_or_between p s l) [
      | at_from e ↦ touching_from s u
          (on_from_parts s.from u k (lies_same p s.from u (turned_zero s.from p e) m))
      | at_to e ↦ touching_to s u (on_from_parts s.to u k (lies_same p s.to u e m))
      | between b ↦ elim (at_or_between p u m) [
        | at_from e ↦ touching_other_from s u
            (on_from_parts u.from s h (lies_same p u.from s (turned_zero u.from p e) l))
        | at_to e ↦ touching_other_to s u (on_from_parts u.to s h (lies_same p u.to s e l))
        | between c ↦ go b c (turn_sign u.dir s.dir) refl
      ]
    ]
  where
    by_turn : (t : Sgn) → t ≢ Zero → turn_sign u.dir s.dir ≡ t → turn_sign u.dir s.dir ≢ Zero
    by_turn t n e f = n (sym e ∙ f)

    crossing : LiesBetween p s → LiesBetween p u → turn_sign u.dir s.dir ≢ Zero → is_touching s u ≡ true
    crossing b c n = touching_crossing s u (crossing_at s u p h k n b c)

    go : LiesBetween p s → LiesBetween p u → (t : Sgn) → turn_sign u.dir s.dir ≡ t → is_touching s u ≡ true
    go b c Neg e = crossing b c (λ f. let g : Neg ≡ Zero = sym e ∙ f in cc)
    go b c Pos e = crossing b c (λ f. let g : Pos ≡ Zero = sym e ∙ f in cc)
    go b c Zero e =
        elim (later_from s u p h k e b c) [
          | inl l ↦ touching_from s u (on_from_parts s.from u k l)
          | inr r ↦ touching_other_from s u
              (on_from_parts u.from s h r)
        ]

-- the lines of two stretches that cross have a common point, strictly between the ends of both
pub crossing_point : (s u : Stretch) → IsStretch s → IsStretch u → is_crossing s u ≡ true
    → (p : Position) × LiesBetween p s × LiesBetween p u
crossing_point s u h k e =
    let parted = and_parts (is_parted u.from u.to s) (is_parted s.from s.to u) e in
    let d = direction_vector s.dir in
    let d' = direction_vector u.dir in
    let cross = cross_of d d' in
    let inverse = turn_inverse s.dir u.dir (parted_turns u s.from s.dir k parted.0) in
    let i = inverse.0 in
    let one_over : IsSame (product_of cross i) (whole (pos 1)) =
    number_ring_from (cross ∷ i ∷ []) (v1 ⊗ v0) (con (whole (pos 1))) (con (whole (pos 1))) (v0 ⊗ v1)
    (con (whole (pos 1))) refl inverse.1 in
    let p = meeting_point d (cross_of d s.from) d' (cross_of d' u.from) i in
    let in_s : side_of s.from s.dir p ≡ Zero =
    side_from_offset s.from s.dir p (meets_first d (cross_of d s.from) d' (cross_of d' u.from) i one_over) in
    let in_u : side_of u.from u.dir p ≡ Zero =
    side_from_offset u.from u.dir p (meets_second d (cross_of d s.from) d' (cross_of d' u.from) i one_over) in
    let b = between_parted s u.from p u.dir h in_u in_s parted.1 in
    let c = between_parted u s.from p s.dir k in_s in_u parted.0 in (
      p,
      record { in_line = in_s; after_from = b.0; before_to = b.1 },
      record { in_line = in_u; after_from = c.0; before_to = c.1 },
    )

shared : (s u : Stretch) (p : Position) → IsStretch s → IsStretch u → LiesOn p s → LiesOn p u
    → ShareAPoint s u
shared s u p h k l m = (p, on_from_parts p s h l, on_from_parts p u k m)

pub touching_is : (s u : Stretch) → IsStretch s → IsStretch u → (is_touching s u ≡ true) ↔ ShareAPoint s u
touching_is s u h k = (to, from)
  where
    to : is_touching s u ≡ true → ShareAPoint s u
    to e =
        elim (or_cases _ _ e) [
          | inl a ↦ elim (or_cases _ _ a) [
            | inl f ↦ shared s u s.from h k (from_lies s h) (on_parts s.from u k f)
            | inr f ↦ shared s u s.to h k (to_lies s h) (on_parts s.to u k f)
          ]
          | inr b ↦ elim (or_cases _ _ b) [
            | inl c ↦ elim (or_cases _ _ c) [
              | inl f ↦ shared s u u.from h k (on_parts u.from s h f) (from_lies u k)
              | inr f ↦ shared s u u.to h k (on_parts u.to s h f) (to_lies u k)
            ]
            | inr f ↦ (let c = crossing_point s u h k f
                in shared s u c.0 h k (between_lies c.0 s c.1) (between_lies c.0 u c.2))
          ]
        ]

    from : ShareAPoint s u → is_touching s u ≡ true
    from w = touching_at s u w.0 h k (on_parts w.0 s h w.1) (on_parts w.0 u k w.2)

-- ---- the middle of a stretch

abbrev pub middle_of : Position → Position → Position
middle_of p q = record { x = half_of (sum_of p.x q.x); y = half_of (sum_of p.y q.y) }

half_sign : (x y z : Number) → IsSame x (half_of y) → sign_of x ≡ sign_of y
half_sign x y z e = sign_of-same x (half_of y) e

middle_after : (p q : Position) → order_of p (middle_of p q) ≡ order_of p q
middle_after p q =
    let half_way : (m n : Number)
    → sign_of (difference_of (half_of (sum_of m n)) m) ≡ sign_of (difference_of n m) =
    λ m n. sign_of-same (difference_of (half_of (sum_of m n)) m) (half_of (difference_of n m))
    (number_ring (m ∷ n ∷ []) (halved (v0 ⊕ v1) ⊝ v0) (halved (v1 ⊝ v0)) refl) in
    ap₂ then_sign (half_way p.x q.x) (half_way p.y q.y)

middle_before : (p q : Position) → order_of (middle_of p q) q ≡ order_of p q
middle_before p q =
    let half_way : (m n : Number)
    → sign_of (difference_of n (half_of (sum_of m n))) ≡ sign_of (difference_of n m) =
    λ m n. sign_of-same (difference_of n (half_of (sum_of m n))) (half_of (difference_of n m))
    (number_ring (m ∷ n ∷ []) (v1 ⊝ halved (v0 ⊕ v1)) (halved (v1 ⊝ v0)) refl) in
    ap₂ then_sign (half_way p.x q.x) (half_way p.y q.y)

middle_side : (p : Position) (n : ℕ) (q : Position) → side_of p n (middle_of p q) ≡ side_of p n q
middle_side p n q =
    let d = direction_vector n in
    sign_of-same (cross_of d (vector_of p (middle_of p q))) (half_of (cross_of d (vector_of p q)))
    (number_ring (d.x ∷ d.y ∷ p.x ∷ p.y ∷ q.x ∷ q.y ∷ [])
    (v0 ⊗ (halved (v3 ⊕ v5) ⊝ v3) ⊝ v1 ⊗ (halved (v2 ⊕ v4) ⊝ v2))
    (halved (v0 ⊗ (v5 ⊝ v3) ⊝ v1 ⊗ (v4 ⊝ v2))) refl)

pub middle_between : (s : Stretch) → IsStretch s → LiesBetween (middle_of s.from s.to) s
middle_between s h =
    record {
      in_line = middle_side s.from s.dir s.to ∙ to_in_line s h;
      after_from = middle_after s.from s.to ∙ ends_order s h;
      before_to = middle_before s.from s.to ∙ ends_order s h;
    }

-- ---- meeting at ends

-- an end of s that is on u is an end of u
ends_from : (s u : Stretch) → ends_at_ends s u ≡ true
    → (is_on s.from u ≡ true → is_end s.from u ≡ true) × (is_on s.to u ≡ true → is_end s.to u ≡ true)
ends_from s u e =
    let k = and_parts (not (is_on s.from u) || is_end s.from u) (not (is_on s.to u) || is_end s.to u) e in
    (given (is_on s.from u) (is_end s.from u) k.0, given (is_on s.to u) (is_end s.to u) k.1)
  where
    given : (a b : Bool) → (not a || b) ≡ true → a ≡ true → b ≡ true
    given true b e f = e
    given false b e f = absurd (false≢true f)

ends_given : (s u : Stretch) → (is_on s.from u ≡ true → is_end s.from u ≡ true)
    → (is_on s.to u ≡ true → is_end s.to u ≡ true) → ends_at_ends s u ≡ true
ends_given s u f g =
    and_from _ _ (given (is_on s.from u) (is_end s.from u) f) (given (is_on s.to u) (is_end s.to u) g)
  where
    given : (a b : Bool) → (a ≡ true → b ≡ true) → (not a || b) ≡ true
    given true b h = h refl
    given false b h = refl

-- where ends on the other are ends of it, an end of s on u is an end of both
end_of_both : (s u : Stretch) (p : Position) → IsStretch u → ends_at_ends s u ≡ true → is_end p s ≡ true
    → LiesOn p u → is_end p u ≡ true
end_of_both s u p k ends at_end l =
    elim (end_parts p s at_end) [
      | inl e ↦ end_same s.from p u e
          ((ends_from s u ends).0 (on_from_parts s.from u k
          (lies_same p s.from u (turned_zero s.from p e) l)))
      | inr e ↦ end_same s.to p u (turned_zero p s.to e)
          ((ends_from s u ends).1 (on_from_parts s.to u k (lies_same p s.to u e l)))
    ]

-- where ends on the other are ends of it, no end of u is strictly between the ends of s
no_inner_from : (s u : Stretch) → IsStretch s → ends_at_ends u s ≡ true → LiesBetween u.from s → ⊥
no_inner_from s u h ends b =
    between_no_end u.from s b ((ends_from u s ends).0 (on_from_parts u.from s h (between_lies u.from s b)))

no_inner_to : (s u : Stretch) → IsStretch s → ends_at_ends u s ≡ true → LiesBetween u.to s → ⊥
no_inner_to s u h ends b =
    between_no_end u.to s b ((ends_from u s ends).1 (on_from_parts u.to s h (between_lies u.to s b)))

module _ (s u : Stretch) (p : Position) (h : IsStretch s) (k : IsStretch u)
    (parallel : turn_sign u.dir s.dir ≡ Zero) (in_s : LiesBetween p s) (in_u : LiesBetween p u) where
  s_line : (q : Position) → side_of s.from s.dir q ≡ Zero → side_of u.from u.dir q ≡ Zero
  s_line q e = same_line s u p q h parallel in_s.in_line in_u.in_line e

  u_line : (q : Position) → side_of u.from u.dir q ≡ Zero → side_of s.from s.dir q ≡ Zero
  u_line q e = same_line u s p q k
      (turn_turned u.dir s.dir ∙ ap opposite_sign parallel) in_u.in_line in_s.in_line e

  s_from_before : order_of s.from u.to ≡ Pos
  s_from_before = before_then s.from p u.to in_s.after_from (not_negative_pos _ in_u.before_to)

  u_from_before : order_of u.from s.to ≡ Pos
  u_from_before = before_then u.from p s.to in_u.after_from (not_negative_pos _ in_s.before_to)

  -- two stretches on one line that have a point strictly between their ends in common are the same, or an end of one is
  -- strictly between the ends of the other
  no_common_inner : has_same_ends s u ≡ false → ends_at_ends s u ≡ true → ends_at_ends u s ≡ true → ⊥
  no_common_inner differ ends_s ends_u = by_from (order_of s.from u.from) refl
    where
      by_to : order_of s.from u.from ≡ Zero → (r : Sgn) → order_of s.to u.to ≡ r → ⊥
      by_to e Neg f = no_inner_to s u h ends_u
          (record {
            in_line = u_line u.to (to_in_line u k);
            after_from = s_from_before;
            before_to = turned_neg s.to u.to f;
          })
      by_to e Zero f = both_ways (has_same_ends s u) differ
          (and_from _ _ (end_from s.from u (turned_zero s.from u.from e)) (end_to s.to u f))
      by_to e Pos f = no_inner_to u s k ends_s
          (record { in_line = s_line s.to (to_in_line s h); after_from = u_from_before; before_to = f })

      by_from : (r : Sgn) → order_of s.from u.from ≡ r → ⊥
      by_from Neg e = no_inner_from u s k ends_s
          (record {
            in_line = s_line s.from (from_in_line s);
            after_from = turned_neg s.from u.from e;
            before_to = s_from_before;
          })
      by_from Zero e = by_to e (order_of s.to u.to) refl
      by_from Pos e = no_inner_from s u h ends_u
          (record { in_line = u_line u.from (from_in_line u); after_from = e; before_to = u_from_before })

module _ (s u : Stretch) (h : IsStretch s) (k : IsStretch u) where
  only_ends : is_crossing s u ≡ false → has_same_ends s u ≡ false → ends_at_ends s u ≡ true
      → ends_at_ends u s ≡ true → (p : Position) → LiesOn p s → LiesOn p u
      → (is_end p s ≡ true) × (is_end p u ≡ true)
  only_ends no_crossing differ ends_s ends_u p l m =
      elim (at_or_between p s l) [
        | at_from e ↦ by_s (end_from p s e)
        | at_to e ↦ by_s (end_to p s e)
        | between b ↦ elim (at_or_between p u m) [
          | at_from e ↦ by_u (end_from p u e)
          | at_to e ↦ by_u (end_to p u e)
          | between c ↦ absurd (by_turn b c (turn_sign u.dir s.dir) refl)
        ]
      ]
    where
      by_s : is_end p s ≡ true → (is_end p s ≡ true) × (is_end p u ≡ true)
      by_s e = (e, end_of_both s u p k ends_s e m)

      by_u : is_end p u ≡ true → (is_end p s ≡ true) × (is_end p u ≡ true)
      by_u e = (end_of_both u s p h ends_u e l, e)

      crossing : LiesBetween p s → LiesBetween p u → turn_sign u.dir s.dir ≢ Zero → ⊥
      crossing b c n = both_ways (is_crossing s u) no_crossing (crossing_at s u p h k n b c)

      by_turn : LiesBetween p s → LiesBetween p u → (t : Sgn) → turn_sign u.dir s.dir ≡ t → ⊥
      by_turn b c Neg e = crossing b c (λ f. let g : Neg ≡ Zero = sym e ∙ f in cc)
      by_turn b c Zero e = no_common_inner s u p h k e b c differ ends_s ends_u
      by_turn b c Pos e = crossing b c (λ f. let g : Pos ≡ Zero = sym e ∙ f in cc)

  -- the middle of two stretches with the same ends is on both
  same_ends_middle : has_same_ends s u ≡ true → LiesOn (middle_of s.from s.to) u
  same_ends_middle e =
      let ends = and_parts (is_end s.from u) (is_end s.to u) e in
      go (end_parts s.from u ends.0) (end_parts s.to u ends.1)
    where
      apart : order_of s.from s.to ≡ Zero → ⊥
      apart f = let g : Pos ≡ Zero = sym (ends_order s h) ∙ f in cc

      backwards : order_of s.from u.to ≡ Zero → order_of u.from s.to ≡ Zero → ⊥
      backwards b c =
          let g : Pos ≡ Neg = sym (ends_order s h) ∙ order_to s.from u.from s.to c
          ∙ order_from s.from u.to u.from b ∙ turned_pos u.from u.to (ends_order u k) in cc

      at_both : order_of u.from s.from ≡ Zero → order_of s.to u.to ≡ Zero → LiesOn (middle_of s.from s.to) u
      at_both a c =
          let n = u.dir in
          let middle = middle_of s.from s.to in
          let from_in : side_of u.from n s.from ≡ Zero = side_same u.from n s.from a in
          let to_in : side_of u.from n s.to
          ≡ Zero = sym (side_to u.from n s.to u.to (side_same s.to n u.to c)) ∙ to_in_line u k in
          record {
            in_line = side_from u.from n s.from middle from_in ∙ middle_side s.from n s.to
                ∙ sym (side_from u.from n s.from s.to from_in) ∙ to_in;
            after_from = not_negative_pos _
                (order_from u.from s.from middle a ∙ middle_after s.from s.to ∙ ends_order s h);
            before_to = not_negative_pos _
                (order_to middle s.to u.to c ∙ middle_before s.from s.to ∙ ends_order s h);
          }

      go : (order_of u.from s.from ≡ Zero) ⊎ (order_of s.from u.to ≡ Zero)
          → (order_of u.from s.to ≡ Zero) ⊎ (order_of s.to u.to ≡ Zero) → LiesOn (middle_of s.from s.to) u
      go (inl a) (inl c) = absurd (apart (sym (order_from u.from s.from s.to a) ∙ c))
      go (inl a) (inr c) = at_both a c
      go (inr b) (inl c) = absurd (backwards b c)
      go (inr b) (inr c) = absurd (apart (sym (order_to s.from s.to u.to c) ∙ b))

  pub meeting_is : (meets_at_ends s u ≡ true) ↔ MeetAtEnds s u
  meeting_is = (to, from)
    where
      to : meets_at_ends s u ≡ true → MeetAtEnds s u
      to e p on_s on_u =
          let a = and_parts (not (is_crossing s u)) _ e in
          let b = and_parts (not (has_same_ends s u)) _ a.1 in
          let c = and_parts (ends_at_ends s u) (ends_at_ends u s) b.1 in
          only_ends (not-true _ a.0) (not-true _ b.0) c.0 c.1 p (on_parts p s h on_s) (on_parts p u k on_u)

      from : MeetAtEnds s u → meets_at_ends s u ≡ true
      from w =
          let at : (p : Position) → LiesOn p s → LiesOn p u
          → (is_end p s ≡ true) × (is_end p u ≡ true) =
          λ p l m. w p (on_from_parts p s h l) (on_from_parts p u k m) in
          let no_crossing : is_crossing s u ≡ false =
          false_from_ne_true _
          (λ e. let c = crossing_point s u h k e
          in between_no_end c.0 s c.1 (at c.0 (between_lies c.0 s c.1) (between_lies c.0 u c.2)).0) in
          let no_same : has_same_ends s u ≡ false =
          false_from_ne_true _
          (λ e. between_no_end (middle_of s.from s.to) s (middle_between s h)
          (at (middle_of s.from s.to) (between_lies (middle_of s.from s.to) s (middle_between s h))
          (same_ends_middle e)).0) in
          let ends_s : ends_at_ends s u ≡ true =
          ends_given s u (λ e. (at s.from (from_lies s h) (on_parts s.from u k e)).1)
          (λ e. (at s.to (to_lies s h) (on_parts s.to u k e)).1) in
          let ends_u : ends_at_ends u s ≡ true =
          ends_given u s (λ e. (at u.from (on_parts u.from s h e) (from_lies u k)).0)
          (λ e. (at u.to (on_parts u.to s h e) (to_lies u k)).0) in
          and_from _ _ (not_from_false _ no_crossing)
          (and_from _ _ (not_from_false _ no_same) (and_from _ _ ends_s ends_u))

-- ---- overlapping

positive_from : (s : Sgn) → s ≡ Pos → is_positive s ≡ true
positive_from s e = ap is_positive e

different_from : (p q : Position) → order_of p q ≡ Pos → is_same_position p q ≡ false
different_from p q e = same_is p q ∙ ap is_zero e

module _ (s u : Stretch) (h : IsStretch s) (k : IsStretch u) where
  two_shared : (p q : Position) → order_of p q ≡ Pos → LiesOn p s → LiesOn p u → LiesOn q s → LiesOn q u
      → ShareTwoPoints s u
  two_shared p q e l m l' m' = (
    p,
    q,
    different_from p q e,
    on_from_parts p s h l,
    on_from_parts p u k m,
    on_from_parts q s h l',
    on_from_parts q u k m',
  )

  module _ (from_in : side_of s.from s.dir u.from ≡ Zero) (to_in : side_of s.from s.dir u.to ≡ Zero)
      (s_before : order_of s.from u.to ≡ Pos) (u_before : order_of u.from s.to ≡ Pos) where
    all_in : (q : Position) → side_of s.from s.dir q ≡ Zero → side_of u.from u.dir q ≡ Zero
    all_in q e =
        let turned : turn_sign s.dir u.dir ≡ Zero =
        sym (ap (λ t. times_sign t (turn_sign s.dir u.dir)) (ends_order u k))
        ∙ sym (side_on_line u u.from u.to s.dir k (from_in_line u) (to_in_line u k))
        ∙ line_through s u.from u.to from_in to_in in
        same_line s u u.from q h (turn_turned s.dir u.dir ∙ ap opposite_sign turned) from_in
        (from_in_line u) e

    -- the later of the lesser ends
    later : (p : Position) × LiesOn p s × LiesOn p u × (order_of p s.to ≡ Pos) × (order_of p u.to ≡ Pos)
    later = go (order_of s.from u.from) refl
      where
        by_u : is_negative (order_of s.from u.from) ≡ false
            → (p : Position) × LiesOn p s × LiesOn p u × (order_of p s.to ≡ Pos) × (order_of p u.to ≡ Pos)
        by_u e = (
          u.from,
          record {
            in_line = from_in;
            after_from = e;
            before_to = not_negative_pos _ u_before;
          },
          from_lies u k,
          u_before,
          ends_order u k,
        )

        go : (r : Sgn) → order_of s.from u.from ≡ r
            → (p : Position) × LiesOn p s × LiesOn p u × (order_of p s.to ≡ Pos) × (order_of p u.to ≡ Pos)
        go Neg e = (
          s.from,
          from_lies s h,
          record {
            in_line = all_in s.from (from_in_line s);
            after_from = not_negative_pos _ (turned_neg s.from u.from e);
            before_to =
                not_negative_pos _ s_before;
          },
          ends_order s h,
          s_before,
        )
        go Zero e = by_u (not_negative_zero _ e)
        go Pos e = by_u (not_negative_pos _ e)

    -- the earlier of the greater ends
    earlier : (q : Position) × LiesOn q s × LiesOn q u
        × ((p : Position) → order_of p s.to ≡ Pos → order_of p u.to ≡ Pos → order_of p q ≡ Pos)
    earlier = go (order_of s.to u.to) refl
      where
        by_s : is_negative (order_of s.to u.to) ≡ false
            → (q : Position) × LiesOn q s × LiesOn q u
            × ((p : Position) → order_of p s.to ≡ Pos → order_of p u.to ≡ Pos → order_of p q ≡ Pos)
        by_s e = (
          s.to,
          to_lies s h,
          record {
            in_line = all_in s.to (to_in_line s h);
            after_from = not_negative_pos _ u_before;
            before_to = e;
          },
          λ p a b. a,
        )

        go : (r : Sgn) → order_of s.to u.to ≡ r
            → (q : Position) × LiesOn q s × LiesOn q u
            × ((p : Position) → order_of p s.to ≡ Pos → order_of p u.to ≡ Pos → order_of p q ≡ Pos)
        go Neg e = (
          u.to,
          record {
            in_line = to_in;
            after_from = not_negative_pos _ s_before;
            before_to = not_negative_pos _ (turned_neg s.to u.to e);
          },
          to_lies u k,
          λ p a b. b,
        )
        go Zero e = by_s (not_negative_zero _ e)
        go Pos e = by_s (not_negative_pos _ e)

    common_part : ShareTwoPoints s u
    common_part = two_shared later.0 earlier.0
        (earlier.3 later.0 later.3 later.4) later.1 later.2 earlier.1 earlier.2

  overlap_from : (p q : Position) → order_of p q ≡ Pos → LiesOn p s → LiesOn p u → LiesOn q s → LiesOn q u
      → is_overlapping s u ≡ true
  overlap_from p q e l m l' m' =
      let parallel : turn_sign u.dir s.dir ≡ Zero =
      sym (ap (λ t. times_sign t (turn_sign u.dir s.dir)) e)
      ∙ sym (side_on_line s p q u.dir h l.in_line l'.in_line) ∙ line_through u p q m.in_line m'.in_line in
      let turned : turn_sign s.dir u.dir ≡ Zero = turn_turned u.dir s.dir ∙ ap opposite_sign parallel in
      and_from _ _
      (and_from _ _ (ap is_zero (same_line u s p u.from k turned m.in_line l.in_line (from_in_line u)))
      (ap is_zero (same_line u s p u.to k turned m.in_line l.in_line (to_in_line u k))))
      (and_from _ _
      (before_is s.from u.to
      ∙ positive_from _ (then_before s.from p u.to l.after_from (before_then p q u.to e m'.before_to)))
      (before_is u.from s.to
      ∙ positive_from _ (then_before u.from p s.to m.after_from (before_then p q s.to e l'.before_to))))

  pub overlapping_is : (is_overlapping s u ≡ true) ↔ ShareTwoPoints s u
  overlapping_is = (to, from)
    where
      to : is_overlapping s u ≡ true → ShareTwoPoints s u
      to e =
          let a = and_parts (is_zero (side_of s.from s.dir u.from) && is_zero (side_of s.from s.dir u.to)) _ e
          in
          let b = and_parts (is_zero (side_of s.from s.dir u.from)) (is_zero (side_of s.from s.dir u.to)) a.0
          in
          let c = and_parts _ _ a.1 in
          common_part (zero_is _ b.0) (zero_is _ b.1) (positive_is _ (sym (before_is s.from u.to) ∙ c.0))
          (positive_is _ (sym (before_is u.from s.to) ∙ c.1))

      by_order : (w : ShareTwoPoints s u) → (r : Sgn) → order_of w.0 w.1 ≡ r → is_overlapping s u ≡ true
      by_order w Neg e = overlap_from w.1 w.0 (turned_neg w.0 w.1 e) (on_parts w.1 s h w.5)
          (on_parts w.1 u k w.6) (on_parts w.0 s h w.3) (on_parts w.0 u k w.4)
      by_order w Zero e = absurd (both_ways (is_same_position w.0 w.1) w.2 (same_is w.0 w.1 ∙ ap is_zero e))
      by_order w Pos e = overlap_from w.0 w.1 e (on_parts w.0 s h w.3) (on_parts w.0 u k w.4)
          (on_parts w.1 s h w.5) (on_parts w.1 u k w.6)

      from : ShareTwoPoints s u → is_overlapping s u ≡ true
      from w = by_order w (order_of w.0 w.1) refl

-- ---- apart in the order of points

-- no point of s is on u where s ends before u begins
ends_before : (s u : Stretch) → is_lt (compare_positions s.to u.from) ≡ true → (p : Position) → LiesOn p s
    → LiesOn p u → ⊥
ends_before s u e p l m =
    let first : order_of s.to u.from
    ≡ Pos = positive_is (order_of s.to u.from) (sym (before_is s.to u.from) ∙ e) in
    let then : order_of p u.from ≡ Pos = then_before p s.to u.from l.before_to first in
    let back : is_negative (order_of u.from p)
    ≡ true = ap is_negative (order_turned p u.from ∙ ap opposite_sign then) in
    both_ways (is_negative (order_of u.from p)) m.after_from back

pub apart_untouched : (s u : Stretch) → IsStretch s → IsStretch u → is_apart s u ≡ true
    → is_touching s u ≡ false
apart_untouched s u h k e = false_from_ne_true (is_touching s u) (λ f.
    let w = (touching_is s u h k).0 f in
    let l = on_parts w.0 s h w.1 in
    let m = on_parts w.0 u k w.2 in
    elim (or_cases (is_lt (compare_positions s.to u.from)) (is_lt (compare_positions u.to s.from)) e) [
      | inl a ↦ ends_before s u a w.0 l m
      | inr b ↦ ends_before u s b w.0 m l
    ])
