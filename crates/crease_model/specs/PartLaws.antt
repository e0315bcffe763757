-- Parts of a segment: they are on the sheet where it is, and on a convex sheet they are within
-- one side only where it is.
use Rattle.std.proofs.Common.{◌≡◌, inl, inr, ℕ, zero, suc, ◌+◌, ◌<◌, Bool, true, false, cond, not, ◌&&◌, ◌||◌, List, [], ◌∷◌, length, map, Option, None, Some, refl, sym, ap, ap₂, ◌∙◌, arith}
use Rattle.std.specs.Prelude.{nat_le, unwrap_or, is_some}
use Rattle.std.specs.List.{AllByRecursion, list_all, list_any}
use Rattle.std.specs.Option.{option_and_then, option_map}
use Rattle.std.specs.Ordering.{is_lt}
use Rattle.std.proofs.lemmas.Bool.{true≢false, false≢true, agree_below, agree_below_at, and_parts, and_from, or_parts, or_from, or_cases, or_left, or_right, not-true, not_from_false, false_from_ne_true, both_ways}
use Rattle.surd_number.specs.declared.Sgn.{Sgn}
use Rattle.surd_number.specs.declared.Sgn.TheVariants.{Neg, Zero, Pos}
use Rattle.surd_number.specs.Number.{opposite_sign, times_sign}
use Rattle.plane_geometry.specs.declared.Point.{Point}
use Rattle.plane_geometry.specs.declared.Segment.{Segment}
use Rattle.plane_geometry.specs.Position.{Position, position_of, vector_of, compare_positions}
use Rattle.plane_geometry.specs.Direction.{direction_vector, side_of, is_positive, is_negative, is_along, direction_among, direction_of, turn_sign}
use Rattle.plane_geometry.specs.Stored.{IsStretch}
use Rattle.plane_geometry.specs.Stretch.{Stretch, is_on}
use Rattle.plane_geometry.specs.SegmentOf.{is_segment, segment_by, segment_from, segment_of}
use Rattle.plane_geometry.specs.SegmentView.{stretch_of}
use Rattle.plane_geometry.specs.SideLaws.{may_sum, order_of, order_self, order_turned, order_chain, side_chain, side_turned, side_from, square_sign, along_cross, product_by_zero, opposite_twice}
use Rattle.plane_geometry.specs.StretchLaws.{before_is, LiesOn, positive_is, negative_is, ends_order, to_in_line, side_self, on_parts, on_from_parts}
use Rattle.plane_geometry.specs.DirectionLaws.{along_parts}
use Rattle.plane_geometry.specs.CommonPointLaws.{line_through, side_on_line, turn_turned}
use Rattle.crease_model.specs.declared.Piece.{Piece}
use Rattle.crease_model.specs.declared.Place.TheVariants.{Outside, Border, Inside}
use Rattle.plane_geometry.specs.Polygon.{Side, sides_from, sides_of, side_direction, side_number, is_left_of, is_right_of, turn_of, turns_from, turns_of, directions_of}
use Rattle.crease_model.specs.Sheet.{place_of, is_outside, is_on_segment, holds_both_ends, is_within_side, is_left_turn, is_sheet}
use Rattle.crease_model.specs.Rules.{is_crease_kind, is_on_sheet, is_crease}

-- ---- points of a stretch

-- the lines of x and y do not turn from each other where both ends of q are on both
turn_by_part : (x y q : Stretch) → IsStretch x → IsStretch q → side_of x.from x.dir q.from ≡ Zero
    → side_of x.from x.dir q.to ≡ Zero → side_of y.from y.dir q.from ≡ Zero → side_of y.from y.dir q.to ≡ Zero
    → turn_sign y.dir x.dir ≡ Zero
turn_by_part x y q h k a b c d =
    sym (ap (λ t. times_sign t (turn_sign y.dir x.dir)) (ends_order q k))
    ∙ sym (side_on_line x q.from q.to y.dir h a b) ∙ line_through y q.from q.to c d

-- a stretch with both ends on the line of x does not turn from it
pub turn_in_line : (x q : Stretch) → IsStretch x → IsStretch q → side_of x.from x.dir q.from ≡ Zero
    → side_of x.from x.dir q.to ≡ Zero → turn_sign q.dir x.dir ≡ Zero
turn_in_line x q h k a b = turn_by_part x q q h k a b (side_self q.from q.dir) (to_in_line q k)

-- where the lines of x and y have a point in common and do not turn from each other, they are one line
pub one_line : (x y : Stretch) (p v : Position) → IsStretch x → turn_sign y.dir x.dir ≡ Zero
    → side_of x.from x.dir p ≡ Zero → side_of y.from y.dir p ≡ Zero → side_of x.from x.dir v ≡ Zero
    → side_of y.from y.dir v ≡ Zero
one_line x y p v h turn in_x in_y v_in_x =
    side_from y.from y.dir p v in_y ∙ side_on_line x p v y.dir h in_x v_in_x
    ∙ ap (times_sign (order_of p v)) turn ∙ product_by_zero (order_of p v)

-- both ends of u are on s
pub ends_lie : (s u : Stretch) → IsStretch s → (is_on u.from s && is_on u.to s) ≡ true
    → LiesOn u.from s × LiesOn u.to s
ends_lie s u h e = let k = and_parts (is_on u.from s) (is_on u.to s) e
    in (on_parts u.from s h k.0, on_parts u.to s h k.1)

not_before_then : (s t r : Sgn) → may_sum s t r ≡ true → is_negative s ≡ false → is_negative t ≡ false
    → is_negative r ≡ false
not_before_then Neg t r e f g = absurd (true≢false f)
not_before_then s Neg r e f g = absurd (true≢false g)
not_before_then s t Zero e f g = refl
not_before_then s t Pos e f g = refl
not_before_then Zero Zero Neg e f g = absurd (false≢true e)
not_before_then Zero Pos Neg e f g = absurd (false≢true e)
not_before_then Pos Zero Neg e f g = absurd (false≢true e)
not_before_then Pos Pos Neg e f g = absurd (false≢true e)

-- a point on u is on each stretch that both ends of u are on
pub on_covering : (s u : Stretch) (v : Position) → IsStretch s → IsStretch u
    → (is_on u.from s && is_on u.to s) ≡ true → LiesOn v u → LiesOn v s
on_covering s u v h k e l =
    let ends = ends_lie s u h e in
    let turn : turn_sign s.dir u.dir ≡ Zero = turn_turned u.dir s.dir
    ∙ ap opposite_sign (turn_in_line s u h k ends.0.in_line ends.1.in_line) in
    record {
      in_line = one_line u s u.from v k turn (side_self u.from u.dir) ends.0.in_line l.in_line;
      after_from = not_before_then _ _ _ (order_chain s.from u.from v) ends.0.after_from l.after_from;
      before_to = not_before_then _ _ _ (order_chain v u.to s.to) l.before_to ends.1.before_to;
    }

-- ---- not outside

stays_right : (x y r : Sgn) → may_sum x y r ≡ true → x ≡ Neg → is_positive y ≡ false → is_negative r ≡ true
stays_right Neg Pos r e f g = absurd (true≢false g)
stays_right Neg Neg Neg e f g = refl
stays_right Neg Neg Zero e f g = absurd (false≢true e)
stays_right Neg Neg Pos e f g = absurd (false≢true e)
stays_right Neg Zero Neg e f g = refl
stays_right Neg Zero Zero e f g = absurd (false≢true e)
stays_right Neg Zero Pos e f g = absurd (false≢true e)
stays_right Zero y r e f g = let h : Zero ≡ Neg = f in cc
stays_right Pos y r e f g = let h : Pos ≡ Neg = f in cc

towards_neg : (o : Sgn) → is_negative o ≡ false → is_positive (times_sign o Neg) ≡ false
towards_neg Neg e = absurd (true≢false e)
towards_neg Zero e = refl
towards_neg Pos e = refl

towards_zero : (o : Sgn) → is_positive (times_sign o Zero) ≡ false
towards_zero o = ap is_positive (product_by_zero o)

back_pos : (o : Sgn) → is_negative o ≡ false → is_positive (times_sign (opposite_sign o) Pos) ≡ false
back_pos Neg e = absurd (true≢false e)
back_pos Zero e = refl
back_pos Pos e = refl

-- a point of a stretch is not to the right of a line where neither end is
pub not_right_between : (s : Stretch) (c v : Position) (n : ℕ) → IsStretch s → LiesOn v s
    → is_negative (side_of c n s.from) ≡ false → is_negative (side_of c n s.to) ≡ false
    → is_negative (side_of c n v) ≡ false
not_right_between s c v n h l from_left to_left =
    false_from_ne_true _ (λ right. go right (turn_sign n s.dir) refl)
  where
    by_from : is_negative (side_of c n v) ≡ true → is_positive (side_of v n s.from) ≡ false → ⊥
    by_from right e = both_ways _ from_left
        (stays_right _ _ _ (side_chain c n v s.from) (negative_is _ right) e)

    by_to : is_negative (side_of c n v) ≡ true → is_positive (side_of v n s.to) ≡ false → ⊥
    by_to right e = both_ways _ to_left (stays_right _ _ _ (side_chain c n v s.to) (negative_is _ right) e)

    to_side : side_of v n s.to ≡ times_sign (order_of v s.to) (turn_sign n s.dir)
    to_side = side_on_line s v s.to n h l.in_line (to_in_line s h)

    from_side : side_of v n s.from ≡ times_sign (opposite_sign (order_of s.from v)) (turn_sign n s.dir)
    from_side = side_on_line s v s.from n h l.in_line (side_self s.from s.dir)
        ∙ ap (λ o. times_sign o (turn_sign n s.dir)) (order_turned s.from v)

    go : is_negative (side_of c n v) ≡ true → (t : Sgn) → turn_sign n s.dir ≡ t → ⊥
    go right Neg e = by_to right
        (ap is_positive (to_side ∙ ap (times_sign (order_of v s.to)) e) ∙ towards_neg _ l.before_to)
    go right Zero e = by_to right
        (ap is_positive (to_side ∙ ap (times_sign (order_of v s.to)) e) ∙ towards_zero _)
    go right Pos e = by_from right
        (ap is_positive (from_side ∙ ap (times_sign (opposite_sign (order_of s.from v))) e)
        ∙ back_pos _ l.after_from)

left_not_right : (p : Position) (sides : List Side) → list_all (is_left_of p) sides ≡ true
    → list_any (is_right_of p) sides ≡ false
left_not_right p [] e = refl
left_not_right p (side ∷ sides) e =
    let k = and_parts (is_left_of p side) (list_all (is_left_of p) sides) e in
    or_from (is_right_of p side) (list_any (is_right_of p) sides) (ap is_negative (positive_is _ k.0))
    (left_not_right p sides k.1)

-- outside is strictly right of one side
pub outside_is : (corners : List Point) (p : Position)
    → is_outside (place_of corners p) ≡ list_any (is_right_of p) (sides_of corners)
outside_is corners p =
    go (list_all (is_left_of p) (sides_of corners)) (list_any (is_right_of p) (sides_of corners)) refl refl
  where
    go : (a b : Bool) → list_all (is_left_of p) (sides_of corners) ≡ a
        → list_any (is_right_of p) (sides_of corners) ≡ b
        → is_outside (cond a Inside (cond b Outside Border)) ≡ b
    go true b e f = sym (left_not_right p (sides_of corners) e) ∙ f
    go false true e f = refl
    go false false e f = refl

none_right : (s : Stretch) (v : Position) (sides : List Side) → IsStretch s → LiesOn v s
    → list_any (is_right_of s.from) sides ≡ false → list_any (is_right_of s.to) sides ≡ false
    → list_any (is_right_of v) sides ≡ false
none_right s v [] h l e f = refl
none_right s v (side ∷ sides) h l e f =
    let a = or_parts (is_right_of s.from side) (list_any (is_right_of s.from) sides) e in
    let b = or_parts (is_right_of s.to side) (list_any (is_right_of s.to) sides) f in
    or_from (is_right_of v side) (list_any (is_right_of v) sides)
    (not_right_between s (position_of side.start) v (side_number side) h l a.0 b.0)
    (none_right s v sides h l a.1 b.1)

-- no end of a stretch on the sheet is strictly right of a side
on_sheet_parts : (corners : List Point) (s : Stretch) → is_on_sheet corners s ≡ true
    → (list_any (is_right_of s.from) (sides_of corners) ≡ false)
    × (list_any (is_right_of s.to) (sides_of corners) ≡ false)
on_sheet_parts corners s e =
    let k = and_parts (not (is_outside (place_of corners s.from)))
    (not (is_outside (place_of corners s.to))) e in
    (sym (outside_is corners s.from) ∙ not-true _ k.0, sym (outside_is corners s.to) ∙ not-true _ k.1)

-- a point on a segment with no end outside is not outside
on_sheet_between : (corners : List Point) (s : Segment) (v : Position)
    → is_on_sheet corners (stretch_of s) ≡ true → is_on v (stretch_of s) ≡ true
    → is_outside (place_of corners v) ≡ false
on_sheet_between corners s v on_sheet on =
    let k = on_sheet_parts corners (stretch_of s) on_sheet in
    outside_is corners v
    ∙ none_right (stretch_of s) v (sides_of corners) s.stretch
    (on_parts v (stretch_of s) s.stretch on) k.0 k.1

-- ---- the segment between two points

-- p and q are the ends of x
pub data EndsAt (x : Segment) (p q : Point) : Type 0 where
  in_order : x.from ≡ p → x.to ≡ q → EndsAt x p q
  turned : x.from ≡ q → x.to ≡ p → EndsAt x p q

ends_by : (p q : Point) (n : ℕ) (b : Bool) (h : is_segment p q n ≡ b) (x : Segment)
    → segment_by p q n b h ≡ Some x → (x.from ≡ p) × (x.to ≡ q)
ends_by p q n true h x e = (
  sym (ap (λ (o : Option Segment). unwrap_or (option_map (λ (s : Segment). s.from) o) p) e),
  sym (ap (λ (o : Option Segment). unwrap_or (option_map (λ (s : Segment). s.to) o) q) e),
)
ends_by p q n false h x e = cc

ends_from : (p q : Point) (o : Option ℕ) (x : Segment)
    → option_and_then (λ n. segment_by p q n (is_segment p q n) refl) o ≡ Some x → (x.from ≡ p) × (x.to ≡ q)
ends_from p q None x e = cc
ends_from p q (Some n) x e = ends_by p q n (is_segment p q n) refl x e

-- the segment between two points has them as its ends
pub segment_ends : (p q : Point) (x : Segment) → segment_of p q ≡ Some x → EndsAt x p q
segment_ends p q x e = go (is_lt (compare_positions (position_of p) (position_of q))) e
  where
    go : (b : Bool) → cond b (segment_from p q) (segment_from q p) ≡ Some x → EndsAt x p q
    go true f = let k = ends_from p q (direction_of (position_of p) (position_of q)) x f in in_order k.0 k.1
    go false f = let k = ends_from q p (direction_of (position_of q) (position_of p)) x f in turned k.0 k.1

ends_differ : (s : Segment) → s.from ≡ s.to → false ≡ true
ends_differ s same =
    sym (before_is (position_of s.from) (position_of s.from)
    ∙ ap is_positive (order_self (position_of s.from)))
    ∙ ap (λ (v : Point). is_lt (compare_positions (position_of s.from) (position_of v))) same ∙ s.stretch.0

-- from a point to itself there is none
pub no_segment : (p q : Point) → p ≡ q → segment_of p q ≡ None
no_segment p q same = go (segment_of p q) refl
  where
    go : (o : Option Segment) → segment_of p q ≡ o → o ≡ None
    go None e = refl
    go (Some s) e =
        elim (segment_ends p q s e) [
          | in_order f g ↦ absurd (false≢true (ends_differ s (f ∙ same ∙ sym g)))
          | turned f g ↦ absurd (false≢true (ends_differ s (f ∙ sym same ∙ sym g)))
        ]

-- ---- directions of sides

direction_at : (left n m : ℕ) (p q : Position) → direction_among left n p q ≡ Some m
    → (is_along m p q ≡ true) × (m < n + left)
direction_at zero n m p q e = cc
direction_at (suc left) n m p q e = go (λ f. direction_at left (n + 1) m p q f) (is_along n p q) refl e
  where
    later : (is_along m p q ≡ true) × (m < (n + 1) + left) → (is_along m p q ≡ true) × (m < n + suc left)
    later k = (k.0, omega (arith, k.1))

    go : (direction_among left (n + 1) p q ≡ Some m → (is_along m p q ≡ true) × (m < (n + 1) + left))
        → (b : Bool) → is_along n p q ≡ b → cond b (Some n) (direction_among left (n + 1) p q) ≡ Some m
        → (is_along m p q ≡ true) × (m < n + suc left)
    go rest true f g = let at : n ≡ m = cc in (ap (λ k. is_along k p q) (sym at) ∙ f, omega (arith, at))
    go rest false f g = later (rest g)

-- where there is a direction from p to q, it goes from p to q in it
pub direction_is_along : (p q : Position) → is_some (direction_of p q) ≡ true
    → (is_along (unwrap_or (direction_of p q) 0) p q ≡ true) × (unwrap_or (direction_of p q) 0 < 16)
unfolding direction_of
direction_is_along p q e = go (direction_of p q) refl e
  where
    go : (o : Option ℕ) → direction_of p q ≡ o → is_some o ≡ true
        → (is_along (unwrap_or o 0) p q ≡ true) × (unwrap_or o 0 < 16)
    go None f g = absurd (false≢true g)
    go (Some m) f g = let k = direction_at 16 0 m p q f in (k.0, omega (arith, k.1))

-- a turn of 1 to 7 steps is to the left
turns_left : ℕ → ℕ → Bool
turns_left m n = not (is_left_turn (turn_of m n)) || is_positive (turn_sign m n)

table_left : agree_below (λ m. agree_below (turns_left m) (λ _. true) 16) (λ _. true) 16 ≡ true
unfolding turns_left
table_left = refl

pub left_turn : (m n : ℕ) → m < 16 → n < 16 → is_left_turn (turn_of m n) ≡ true → turn_sign m n ≡ Pos
unfolding turns_left
left_turn m n few_m few_n e =
    positive_is (turn_sign m n)
    (ap (λ b. not b || is_positive (turn_sign m n)) (sym e)
    ∙ agree_below_at (turns_left m) (λ _. true) 16 n
    (agree_below_at (λ k. agree_below (turns_left k) (λ _. true) 16) (λ _. true) 16 m table_left few_m)
    few_n)

-- ---- between the ends of a side

ways_table : (o r t : Sgn) → times_sign o t ≡ Pos → is_negative (times_sign r t) ≡ false
    → is_negative (times_sign o r) ≡ false
ways_table Neg Neg t e f = refl
ways_table Neg Zero t e f = refl
ways_table Neg Pos Neg e f = absurd (true≢false f)
ways_table Neg Pos Zero e f = cc
ways_table Neg Pos Pos e f = cc
ways_table Zero r t e f = refl
ways_table Pos Neg Neg e f = cc
ways_table Pos Neg Zero e f = cc
ways_table Pos Neg Pos e f = absurd (true≢false f)
ways_table Pos Zero t e f = refl
ways_table Pos Pos t e f = refl

-- on the line of x, a point that is not right of a line through c is from c the way that
-- one to the left of it is
one_way : (x : Stretch) (c e v : Position) (n : ℕ) → IsStretch x → side_of x.from x.dir c ≡ Zero
    → side_of x.from x.dir e ≡ Zero → side_of x.from x.dir v ≡ Zero → side_of c n e ≡ Pos
    → is_negative (side_of c n v) ≡ false → is_negative (times_sign (order_of c e) (order_of c v)) ≡ false
one_way x c e v n h c_in e_in v_in left not_right =
    ways_table (order_of c e) (order_of c v) (turn_sign n x.dir)
    (sym (side_on_line x c e n h c_in e_in) ∙ left)
    (sym (ap is_negative (side_on_line x c v n h c_in v_in)) ∙ not_right)

-- lines through both ends, with the other end to the left, bound the points of a stretch
between_lines : (x : Stretch) (v : Position) (m n : ℕ) → IsStretch x → side_of x.from x.dir v ≡ Zero
    → side_of x.from m x.to ≡ Pos → is_negative (side_of x.from m v) ≡ false → side_of x.to n x.from ≡ Pos
    → is_negative (side_of x.to n v) ≡ false → LiesOn v x
between_lines x v m n h in_line to_left from_bound from_left to_bound =
    let a = one_way x x.from x.to v m h (side_self x.from x.dir) (to_in_line x h) in_line to_left from_bound
    in
    let b = one_way x x.to x.from v n h (to_in_line x h) (side_self x.from x.dir) in_line from_left to_bound
    in
    let order_back : order_of x.to x.from ≡ Neg = order_turned x.from x.to
    ∙ ap opposite_sign (ends_order x h) in
    record {
      in_line = in_line;
      after_from = sym (ap (λ o. is_negative (times_sign o (order_of x.from v))) (ends_order x h)) ∙ a;
      before_to =
          sym (ap is_negative (ap opposite_sign (order_turned v x.to) ∙ opposite_twice (order_of v x.to)))
          ∙ sym (ap (λ o. is_negative (times_sign o (order_of x.to v))) order_back) ∙ b;
    }

between_corners : (x : Segment) (p q : Point) (v : Position) (m n : ℕ) → EndsAt x p q
    → side_of (stretch_of x).from (stretch_of x).dir v ≡ Zero
    → side_of (position_of p) m (position_of q) ≡ Pos → is_negative (side_of (position_of p) m v) ≡ false
    → side_of (position_of q) n (position_of p) ≡ Pos → is_negative (side_of (position_of q) n v) ≡ false
    → LiesOn v (stretch_of x)
between_corners x p q v m n (in_order e f) in_line a b c d =
    between_lines (stretch_of x) v m n x.stretch in_line
    (ap₂ (λ (y z : Point). side_of (position_of y) m (position_of z)) e f ∙ a)
    (ap (λ (y : Point). is_negative (side_of (position_of y) m v)) e ∙ b)
    (ap₂ (λ (y z : Point). side_of (position_of z) n (position_of y)) e f ∙ c)
    (ap (λ (z : Point). is_negative (side_of (position_of z) n v)) f ∙ d)
between_corners x p q v m n (turned e f) in_line a b c d =
    between_lines (stretch_of x) v n m x.stretch in_line
    (ap₂ (λ (y z : Point). side_of (position_of y) n (position_of z)) e f ∙ c)
    (ap (λ (y : Point). is_negative (side_of (position_of y) n v)) e ∙ d)
    (ap₂ (λ (y z : Point). side_of (position_of z) m (position_of y)) e f ∙ a)
    (ap (λ (z : Point). is_negative (side_of (position_of z) m v)) f ∙ b)

-- ---- corners of a convex sheet

-- a side in one of the 16 directions, with neither end of s to the right
record Bounds (s : Stretch) (side : Side) : Type 0 where
  direction : is_some (side_direction side) ≡ true
  from_bound : is_right_of s.from side ≡ false
  to_bound : is_right_of s.to side ≡ false

-- two such sides that meet in a corner, where the sheet turns to the left
record Corner (s : Stretch) (before after : Side) : Type 0 where
  meets : before.end ≡ after.start
  turn : turn_sign (side_number before) (side_number after) ≡ Pos
  bound_before : Bounds s before
  bound_after : Bounds s after

-- going from p to q and turning left there, p is to the left
start_left : (p q : Position) (m n : ℕ) → is_along m p q ≡ true → turn_sign m n ≡ Pos → side_of q n p ≡ Pos
start_left p q m n along left =
    let k = along_parts m p q along in
    side_turned p n q
    ∙ ap opposite_sign (along_cross (direction_vector m) (vector_of p q) (square_sign m) k.0
    (direction_vector n) ∙ ap₂ times_sign k.1 (turn_turned m n ∙ ap opposite_sign left))

-- turning left at p and going on to q, q is to the left of the way before
end_left : (p q : Position) (m n : ℕ) → is_along n p q ≡ true → turn_sign m n ≡ Pos → side_of p m q ≡ Pos
end_left p q m n along left =
    let k = along_parts n p q along in
    along_cross (direction_vector n) (vector_of p q) (square_sign n) k.0 (direction_vector m)
    ∙ ap₂ times_sign k.1 left

module _ (before side after : Side) (s u : Segment) (first : Corner (stretch_of s) before side)
    (second : Corner (stretch_of s) side after)
    (part : (is_on (stretch_of u).from (stretch_of s) && is_on (stretch_of u).to (stretch_of s)) ≡ true) where
  -- a point of the side's line that is right of none of the three sides is on the side
  on_side : (x : Segment) (v : Position) → EndsAt x side.start side.end
      → side_of (stretch_of x).from (stretch_of x).dir v ≡ Zero → is_right_of v before ≡ false
      → is_right_of v after ≡ false → LiesOn v (stretch_of x)
  on_side x v ends in_line not_before not_after =
      let along = (direction_is_along (position_of side.start)
      (position_of side.end) first.bound_after.direction).0 in
      let along_before = (direction_is_along (position_of before.start)
      (position_of before.end) first.bound_before.direction).0 in
      let start_in : side_of (position_of before.start) (side_number before) (position_of side.start) ≡ Zero =
      ap (λ (p : Point). side_of (position_of before.start) (side_number before) (position_of p))
      (sym first.meets) ∙ (along_parts (side_number before) (position_of before.start)
      (position_of before.end) along_before).0 in
      between_corners x side.start side.end v (side_number before) (side_number after) ends in_line
      (end_left (position_of side.start) (position_of side.end) (side_number before)
      (side_number side) along first.turn)
      (sym (ap is_negative
      (side_from (position_of before.start) (side_number before) (position_of side.start) v start_in))
      ∙ not_before)
      (start_left (position_of side.start) (position_of side.end) (side_number side)
      (side_number after) along second.turn)
      (ap (λ (p : Point). is_negative (side_of (position_of p) (side_number after) v)) second.meets
      ∙ not_after)

  -- where a part of s is within the side, s is
  whole_on_side : holds_both_ends (stretch_of u) side ≡ true → holds_both_ends (stretch_of s) side ≡ true
  whole_on_side e = go (segment_of side.start side.end) refl e
    where
      in_lines : (x : Segment) (v : Position)
          → (is_on (stretch_of u).from (stretch_of x) && is_on (stretch_of u).to (stretch_of x)) ≡ true
          → side_of (stretch_of s).from (stretch_of s).dir v ≡ Zero
          → side_of (stretch_of x).from (stretch_of x).dir v ≡ Zero
      in_lines x v f v_in =
          let a = ends_lie (stretch_of s) (stretch_of u) s.stretch part in
          let b = ends_lie (stretch_of x) (stretch_of u) x.stretch f in
          one_line (stretch_of s) (stretch_of x) (stretch_of u).from v s.stretch
          (turn_by_part (stretch_of s) (stretch_of x)
          (stretch_of u) s.stretch u.stretch a.0.in_line a.1.in_line b.0.in_line b.1.in_line) a.0.in_line
          b.0.in_line v_in

      go : (o : Option Segment) → segment_of side.start side.end ≡ o
          → (is_on_segment (stretch_of u).from o && is_on_segment (stretch_of u).to o) ≡ true
          → (is_on_segment (stretch_of s).from o && is_on_segment (stretch_of s).to o) ≡ true
      go None at f = absurd (false≢true f)
      go (Some x) at f =
          let ends = segment_ends side.start side.end x at in
          and_from _ _
          (on_from_parts _ (stretch_of x) x.stretch
          (on_side x (stretch_of s).from ends
          (in_lines x (stretch_of s).from f (side_self (stretch_of s).from (stretch_of s).dir))
          first.bound_before.from_bound second.bound_after.from_bound))
          (on_from_parts _ (stretch_of x) x.stretch
          (on_side x (stretch_of s).to ends
          (in_lines x (stretch_of s).to f (to_in_line (stretch_of s) s.stretch))
          first.bound_before.to_bound second.bound_after.to_bound))

-- each side meets the next in such a corner, and the last one meets the first
abbrev Corners : Stretch → Side → List Side → Type 0
Corners s first [] = Unit
Corners s first (side ∷ []) = Corner s side first
Corners s first (side ∷ after ∷ sides) = Corner s side after × Corners s first (after ∷ sides)

last_corner : (s : Stretch) (first side : Side) (sides : List Side) → Corners s first (side ∷ sides)
    → (before : Side) × Corner s before first
last_corner s first side [] c = (side, c)
last_corner s first side (after ∷ sides) c = last_corner s first after sides c.1

whole_within_one : (s u : Segment) (first before side : Side) (sides : List Side)
    → (is_on (stretch_of u).from (stretch_of s) && is_on (stretch_of u).to (stretch_of s)) ≡ true
    → Corner (stretch_of s) before side → Corners (stretch_of s) first (side ∷ sides)
    → list_any (holds_both_ends (stretch_of u)) (side ∷ sides) ≡ true
    → list_any (holds_both_ends (stretch_of s)) (side ∷ sides) ≡ true
whole_within_one s u first before side [] part c cs e =
    elim (or_cases (holds_both_ends (stretch_of u) side) false e) [
      | inl l ↦ or_left _ _ (whole_on_side before side first s u c cs part l)
      | inr r ↦ absurd (false≢true r)
    ]
whole_within_one s u first before side (after ∷ sides) part c cs e =
    elim (or_cases (holds_both_ends (stretch_of u) side)
    (list_any (holds_both_ends (stretch_of u)) (after ∷ sides)) e) [
      | inl l ↦ or_left _ _ (whole_on_side before side after s u c cs.0 part l)
      | inr r ↦ or_right (holds_both_ends (stretch_of s) side) _
          (whole_within_one s u first side after sides part cs.0 cs.1 r)
    ]

-- a sheet's sides have directions, and its turns are to the left
pub sheet_turns : (corners : List Point) → is_sheet corners ≡ true
    → (list_all (λ side. is_some (side_direction side)) (sides_of corners) ≡ true)
    × (list_all is_left_turn (turns_of (directions_of corners)) ≡ true)
unfolding is_sheet
sheet_turns corners e =
    let a = (and_parts (nat_le 3 (length corners) && nat_le (length corners) 16) _ e).1 in
    let b = and_parts (list_all (λ side. is_some (side_direction side)) (sides_of corners)) _ a in
    (b.0, (and_parts (list_all is_left_turn (turns_of (directions_of corners))) _ b.1).0)

all_bound : (s : Stretch) (sides : List Side) → list_all (λ side. is_some (side_direction side)) sides ≡ true
    → list_any (is_right_of s.from) sides ≡ false → list_any (is_right_of s.to) sides ≡ false
    → AllByRecursion (Bounds s) sides
all_bound s [] a b c = tt
all_bound s (side ∷ sides) a b c =
    let d = and_parts (is_some (side_direction side))
    (list_all (λ side. is_some (side_direction side)) sides) a in
    let e = or_parts (is_right_of s.from side) (list_any (is_right_of s.from) sides) b in
    let f = or_parts (is_right_of s.to side) (list_any (is_right_of s.to) sides) c in
    (record { direction = d.0; from_bound = e.0; to_bound = f.0 }, all_bound s sides d.1 e.1 f.1)

corner_of : (s : Stretch) (before after : Side) → before.end ≡ after.start → Bounds s before → Bounds s after
    → is_left_turn (turn_of (side_number before) (side_number after)) ≡ true → Corner s before after
corner_of s before after meets a b left =
    record {
      meets = meets;
      turn = left_turn (side_number before) (side_number after)
          (direction_is_along (position_of before.start) (position_of before.end) a.direction).1
          (direction_is_along (position_of after.start) (position_of after.end) b.direction).1 left;
      bound_before = a;
      bound_after = b;
    }

corners_from : (s : Stretch) (first : Side) (f p : Point) (ps : List Point) → f ≡ first.start → Bounds s first
    → AllByRecursion (Bounds s) (sides_from f (p ∷ ps))
    → list_all is_left_turn (turns_from (side_number first) (map side_number (sides_from f (p ∷ ps)))) ≡ true
    → Corners s first (sides_from f (p ∷ ps))
corners_from s first f p [] e b all left =
    corner_of s (record { start = p; end = f }) first e all.0 b (and_parts _ true left).0
corners_from s first f p (q ∷ []) e b all left =
    let k = and_parts (is_left_turn
    (turn_of (side_number (record { start = p; end = q })) (side_number (record { start = q; end = f }))))
    _ left in (
      corner_of s (record { start = p; end = q }) (record { start = q; end = f }) refl all.0 all.1.0 k.0,
      corners_from s first f q [] e b all.1 k.1,
    )
corners_from s first f p (q ∷ r ∷ rs) e b all left =
    let k = and_parts (is_left_turn
    (turn_of (side_number (record { start = p; end = q })) (side_number (record { start = q; end = r }))))
    _ left in (
      corner_of s (record { start = p; end = q }) (record { start = q; end = r }) refl all.0 all.1.0 k.0,
      corners_from s first f q (r ∷ rs) e b all.1 k.1,
    )

within_whole : (corners : List Point) (s u : Segment)
    → list_all (λ side. is_some (side_direction side)) (sides_of corners) ≡ true
    → list_all is_left_turn (turns_of (directions_of corners)) ≡ true
    → list_any (is_right_of (stretch_of s).from) (sides_of corners) ≡ false
    → list_any (is_right_of (stretch_of s).to) (sides_of corners) ≡ false
    → (is_on (stretch_of u).from (stretch_of s) && is_on (stretch_of u).to (stretch_of s)) ≡ true
    → is_within_side corners (stretch_of u) ≡ true → is_within_side corners (stretch_of s) ≡ true
within_whole [] s u a b c d part e = absurd (false≢true e)
within_whole (p ∷ []) s u a b c d part e =
    let first : Side = record { start = p; end = p } in
    let all = all_bound (stretch_of s) (sides_of (p ∷ [])) a c d in
    let corners = corners_from (stretch_of s) first p p [] refl all.0 all b in
    whole_within_one s u first first first [] part corners corners e
within_whole (p ∷ q ∷ qs) s u a b c d part e =
    let first : Side = record { start = p; end = q } in
    let all = all_bound (stretch_of s) (sides_of (p ∷ q ∷ qs)) a c d in
    let corners = corners_from (stretch_of s) first p p (q ∷ qs) refl all.0 all b in
    let last = last_corner (stretch_of s) first first (sides_from p (q ∷ qs)) corners in
    whole_within_one s u first last.0 first (sides_from p (q ∷ qs)) part last.1 corners e

-- on a convex sheet, a segment that has a part within one side, and no end outside, is within that side
whole_within_side : (corners : List Point) (s u : Segment) → is_sheet corners ≡ true
    → is_on_sheet corners (stretch_of s) ≡ true
    → (is_on (stretch_of u).from (stretch_of s) && is_on (stretch_of u).to (stretch_of s)) ≡ true
    → is_within_side corners (stretch_of u) ≡ true → is_within_side corners (stretch_of s) ≡ true
whole_within_side corners s u sheet on_sheet part e =
    let turns = sheet_turns corners sheet in
    let bounds = on_sheet_parts corners (stretch_of s) on_sheet in
    within_whole corners s u turns.0 turns.1 bounds.0 bounds.1 part e

-- ---- parts of creases

-- a segment both of whose ends are on a crease of the sheet is on the sheet and not within one side
pub part_is_crease : (corners : List Point) (p q : Piece) → is_sheet corners ≡ true
    → is_crease corners p ≡ true →
    (is_on (stretch_of q.segment).from (stretch_of p.segment)
    && is_on (stretch_of q.segment).to (stretch_of p.segment)) ≡ true → is_crease_kind q.kind ≡ true
    → is_crease corners q ≡ true
part_is_crease corners p q sheet crease part kind =
    let a = (and_parts (is_crease_kind p.kind) _ crease).1 in
    let b = and_parts (is_on_sheet corners (stretch_of p.segment))
    (not (is_within_side corners (stretch_of p.segment))) a in
    let ends = and_parts (is_on (stretch_of q.segment).from (stretch_of p.segment))
    (is_on (stretch_of q.segment).to (stretch_of p.segment)) part in
    let on_sheet : is_on_sheet corners (stretch_of q.segment) ≡ true =
    and_from _ _ (not_from_false _
    (on_sheet_between corners p.segment (stretch_of q.segment).from b.0 ends.0))
    (not_from_false _ (on_sheet_between corners p.segment (stretch_of q.segment).to b.0 ends.1)) in
    let not_within : is_within_side corners (stretch_of q.segment) ≡ false =
    false_from_ne_true _
    (λ within. both_ways _ (not-true _ b.1)
    (whole_within_side corners p.segment q.segment sheet b.0 part within)) in
    and_from _ _ kind (and_from _ _ on_sheet (not_from_false _ not_within))
