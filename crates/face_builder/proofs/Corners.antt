-- At the border a piece runs strictly to the left of the border's parts.
use Rattle.std.proofs.Common.{◌≡◌, ℕ, ◌<◌, true, false, ◌⊎◌, inl, inr, List, [], ◌∷◌, map, Some, refl, sym, ap, ap₂, subst, ◌∙◌, arith}
use Rattle.std.specs.List.{list_all}
use Rattle.std.proofs.lemmas.Bool.{and_parts, true≢false}
use Rattle.surd_number.specs.declared.Sgn.{Sgn}
use Rattle.surd_number.specs.declared.Sgn.TheVariants.{Neg, Zero, Pos}
use Rattle.surd_number.specs.Number.{sign_of, opposite_sign, times_sign}
use Rattle.plane_geometry.specs.declared.Point.{Point}
use Rattle.plane_geometry.specs.declared.Segment.{Segment}
use Rattle.plane_geometry.specs.Position.{Position, position_of, vector_of, dot_of}
use Rattle.plane_geometry.specs.Direction.{direction_vector, side_of, is_negative, is_along, opposite_number, turn_sign}
use Rattle.plane_geometry.specs.SegmentView.{lesser_end, direction_number, stretch_of}
use Rattle.plane_geometry.specs.SegmentOf.{segment_of}
use Rattle.plane_geometry.specs.Stored.{IsStretch}
use Rattle.plane_geometry.specs.Stretch.{Stretch, is_on}
use Rattle.plane_geometry.specs.SideLaws.{order_of, order_turned, side_from, side_turned, opposite_twice, square_sign, along_cross, product_by_zero}
use Rattle.plane_geometry.specs.StretchLaws.{LiesOn, ends_order, to_in_line, side_self, on_from_parts}
use Rattle.plane_geometry.specs.DirectionLaws.{along_parts, along_back, along_unique}
use Rattle.plane_geometry.specs.CommonPointLaws.{side_on_line, turn_turned}
use Rattle.plane_geometry.specs.Polygon.{Side, sides_from, sides_of, side_number, turn_of, turns_from, turns_of, directions_of, is_right_of}
use Rattle.crease_model.specs.Sheet.{is_left_turn, is_sheet}
use Rattle.crease_model.specs.PartLaws.{EndsAt, in_order, turned, segment_ends, left_turn, sheet_turns}
use Rattle.line_split.specs.MemberLaws.{Member}
use Rattle.face_builder.proofs.Apart.{moves, moves_back}
use Rattle.face_builder.proofs.Border.{few_number}
use Rattle.plane_geometry.specs.Ends.{GoesAlong}
use Rattle.face_builder.proofs.Sheets.{AreSheetSides, sheet_sides, side_runs}

-- ---- neighbours

-- the side after another one, where the sheet turns left
pub record IsAfter (sides : List Side) (s : Side) : Type 0 where
  pub after : Side
  pub member : Member sides after
  pub joined : after.start ≡ s.end
  pub left : is_left_turn (turn_of (side_number s) (side_number after)) ≡ true

record IsBefore (sides : List Side) (s : Side) : Type 0 where
  before : Side
  member : Member sides before
  joined : before.end ≡ s.start
  left : is_left_turn (turn_of (side_number before) (side_number s)) ≡ true

-- the side from each corner to the next one, and from the last to the first one, turns left
abbrev Turns : ℕ → List Side → Type 0
Turns first ss = list_all is_left_turn (turns_from first (map side_number ss)) ≡ true

abbrev Left : Side → Side → Type 0
Left s t = is_left_turn (turn_of (side_number s) (side_number t)) ≡ true

abbrev Follower : Side → List Side → Side → Type 0
Follower first ss s = (t : Side) × (Member ss t ⊎ (first ≡ t)) × (t.start ≡ s.end) × Left s t

after_from : (f p : Point) (ps : List Point) (first : Side) → first.start ≡ f
    → Turns (side_number first) (sides_from f (p ∷ ps))
    → (s : Side) → Member (sides_from f (p ∷ ps)) s → Follower first (sides_from f (p ∷ ps)) s
after_from f p [] first e turns s (inl at) = (
  first,
  inr refl,
  e
      ∙ ap (λ (x : Side). x.end) at,
  subst (λ x. Left x first) at (and_parts _ true turns).0,
)
after_from f p [] first e turns s (inr none) = absurd none
after_from f p (q ∷ []) first e turns s (inl at) =
    let next : Side = record { start = q; end = f } in
    let k = and_parts
    (is_left_turn (turn_of (side_number (record { start = p; end = q })) (side_number next))) _ turns in
    (next, inl (inr (inl refl)), ap (λ (x : Side). x.end) at, subst (λ x. Left x next) at k.0)
after_from f p (q ∷ []) first e turns s (inr m) =
    let k = and_parts
    (is_left_turn
    (turn_of (side_number (record { start = p; end = q })) (side_number (record { start = q; end = f }))))
    _ turns in
    further (after_from f q [] first e k.1 s m)
  where
    further : Follower first (sides_from f (q ∷ [])) s → Follower first (sides_from f (p ∷ q ∷ [])) s
    further r = (r.0, elim r.1 [ inl n ↦ inl (inr n) | inr h ↦ inr h ], r.2, r.3)
after_from f p (q ∷ r ∷ rs) first e turns s (inl at) =
    let next : Side = record { start = q; end = r } in
    let k = and_parts
    (is_left_turn (turn_of (side_number (record { start = p; end = q })) (side_number next))) _ turns in
    (next, inl (inr (inl refl)), ap (λ (x : Side). x.end) at, subst (λ x. Left x next) at k.0)
after_from f p (q ∷ r ∷ rs) first e turns s (inr m) =
    let k = and_parts
    (is_left_turn
    (turn_of (side_number (record { start = p; end = q })) (side_number (record { start = q; end = r }))))
    _ turns in
    further (after_from f q (r ∷ rs) first e k.1 s m)
  where
    further : Follower first (sides_from f (q ∷ r ∷ rs)) s → Follower first (sides_from f (p ∷ q ∷ r ∷ rs)) s
    further w = (w.0, elim w.1 [ inl n ↦ inl (inr n) | inr h ↦ inr h ], w.2, w.3)

abbrev Leader : Side → List Side → Side → Type 0
Leader prev ss s = (t : Side) × (Member ss t ⊎ (prev ≡ t)) × (t.end ≡ s.start) × Left t s

last_from : (f p : Point) (ps : List Point) (first : Side) → Turns (side_number first) (sides_from f (p ∷ ps))
    → (t : Side) × Member (sides_from f (p ∷ ps)) t × (t.end ≡ f) × Left t first
last_from f p [] first turns = (record { start = p; end = f }, inl refl, refl, (and_parts _ true turns).0)
last_from f p (q ∷ []) first turns =
    let k = and_parts
    (is_left_turn
    (turn_of (side_number (record { start = p; end = q })) (side_number (record { start = q; end = f }))))
    _ turns in
    let r = last_from f q [] first k.1 in (r.0, inr r.1, r.2, r.3)
last_from f p (q ∷ r ∷ rs) first turns =
    let k = and_parts
    (is_left_turn
    (turn_of (side_number (record { start = p; end = q })) (side_number (record { start = q; end = r }))))
    _ turns in
    let w = last_from f q (r ∷ rs) first k.1 in (w.0, inr w.1, w.2, w.3)

shift_leader : (prev b : Side) (bs : List Side) (s : Side) → Leader b bs s → Leader prev (b ∷ bs) s
shift_leader prev b bs s w = (w.0, elim w.1 [ inl n ↦ inl (inr n) | inr h ↦ inl (inl h) ], w.2, w.3)

before_one : (f p : Point) (prev : Side) → prev.end ≡ p → Left prev (record { start = p; end = f })
    → (s : Side)
    → Member (record { start = p; end = f } ∷ []) s → Leader prev (record { start = p; end = f } ∷ []) s
before_one f p prev e left s (inl at) =
    (prev, inr refl, e ∙ ap (λ (x : Side). x.start) at, subst (λ x. Left prev x) at left)
before_one f p prev e left s (inr none) = absurd none

before_from : (f p q : Point) (ps : List Point) (first prev : Side) → prev.end ≡ p
    → Left prev (record { start = p; end = q })
    → Turns (side_number first) (sides_from f (p ∷ q ∷ ps)) → (s : Side)
    → Member (sides_from f (p ∷ q ∷ ps)) s
    → Leader prev (sides_from f (p ∷ q ∷ ps)) s
before_from f p q ps first prev e left turns s (inl at) =
    (prev, inr refl, e ∙ ap (λ (x : Side). x.start) at, subst (λ x. Left prev x) at left)
before_from f p q [] first prev e left turns s (inr m) =
    let here : Side = record { start = p; end = q } in
    let k = and_parts
    (is_left_turn (turn_of (side_number here) (side_number (record { start = q; end = f })))) _ turns in
    shift_leader prev here (record { start = q; end = f } ∷ []) s (before_one f q here refl k.0 s m)
before_from f p q (r ∷ rs) first prev e left turns s (inr m) =
    let here : Side = record { start = p; end = q } in
    let k = and_parts
    (is_left_turn (turn_of (side_number here) (side_number (record { start = q; end = r })))) _ turns in
    shift_leader prev here (sides_from f (q ∷ r ∷ rs)) s (before_from f q r rs first here refl k.0 k.1 s m)

pub after_of : (corners : List Point) → list_all is_left_turn (turns_of (directions_of corners)) ≡ true
    → (s : Side)
    → Member (sides_of corners) s → IsAfter (sides_of corners) s
after_of [] turns s m = absurd m
after_of (p ∷ []) turns s m =
    let first : Side = record { start = p; end = p } in
    let r = after_from p p [] first refl turns s m in
    record { after = r.0; member = elim r.1 [ inl n ↦ n | inr h ↦ inl h ]; joined = r.2; left = r.3 }
after_of (p ∷ q ∷ ps) turns s m =
    let first : Side = record { start = p; end = q } in
    let r = after_from p p (q ∷ ps) first refl turns s m in
    record { after = r.0; member = elim r.1 [ inl n ↦ n | inr h ↦ inl h ]; joined = r.2; left = r.3 }

before_of : (corners : List Point) → list_all is_left_turn (turns_of (directions_of corners)) ≡ true
    → (s : Side)
    → Member (sides_of corners) s → IsBefore (sides_of corners) s
before_of [] turns s m = absurd m
before_of (p ∷ []) turns s m =
    let first : Side = record { start = p; end = p } in
    let last = last_from p p [] first turns in
    let r = before_one p p last.0 last.2 last.3 s m in
    record {
      before = r.0;
      member =
          elim r.1 [ inl n ↦ n | inr h ↦ subst (λ t. Member (first ∷ []) t) h last.1 ];
      joined = r.2;
      left =
          r.3;
    }
before_of (p ∷ q ∷ ps) turns s m =
    let first : Side = record { start = p; end = q } in
    let last = last_from p p (q ∷ ps) first turns in
    let r = before_from p p q ps first last.0 last.2 last.3 turns s m in
    record {
      before = r.0;
      member =
          elim r.1 [ inl n ↦ n | inr h ↦ subst (λ t. Member (sides_of (p ∷ q ∷ ps)) t) h last.1 ];
      joined =
          r.2;
      left = r.3;
    }

-- ---- between the ends of a side

ways_table : (o r t : Sgn) → times_sign o t ≡ Pos → is_negative (times_sign r t) ≡ false
    → is_negative (times_sign o r) ≡ false
ways_table Neg Neg t e f = refl
ways_table Neg Zero t e f = refl
ways_table Neg Pos Neg e f = absurd (true≢false f)
ways_table Neg Pos Zero e f = cc
ways_table Neg Pos Pos e f = cc
ways_table Zero r t e f = refl
ways_table Pos Neg Neg e f = cc
ways_table Pos Neg Zero e f = cc
ways_table Pos Neg Pos e f = absurd (true≢false f)
ways_table Pos Zero t e f = refl
ways_table Pos Pos t e f = refl

-- in line with x, a point v that is not right of a line through c is from c the way that e to the left of it
-- is
one_way : (x : Stretch) (c e v : Position) (n : ℕ) → IsStretch x → side_of x.from x.dir c ≡ Zero
    → side_of x.from x.dir e ≡ Zero
    → side_of x.from x.dir v ≡ Zero → side_of c n e ≡ Pos → is_negative (side_of c n v) ≡ false
    → is_negative (times_sign (order_of c e) (order_of c v)) ≡ false
one_way x c e v n h c_in e_in v_in left not_right =
    ways_table (order_of c e) (order_of c v) (turn_sign n x.dir) (sym (side_on_line x c e n h c_in e_in)
    ∙ left)
    (sym (ap is_negative (side_on_line x c v n h c_in v_in)) ∙ not_right)

between_lines : (x : Stretch) (v : Position) (m n : ℕ) → IsStretch x → side_of x.from x.dir v ≡ Zero
    → side_of x.from m x.to ≡ Pos
    → is_negative (side_of x.from m v) ≡ false → side_of x.to n x.from ≡ Pos → is_negative (side_of x.to n v)
    ≡ false → LiesOn v x
between_lines x v m n h in_line to_left from_bound from_left to_bound =
    let a = one_way x x.from x.to v m h (side_self x.from x.dir)
    (to_in_line x h) in_line to_left from_bound in
    let b = one_way x x.to x.from v n h (to_in_line x h)
    (side_self x.from x.dir) in_line from_left to_bound in
    let order_back : order_of x.to x.from ≡ Neg = order_turned x.from x.to
    ∙ ap opposite_sign (ends_order x h) in
    record {
      in_line = in_line;
      after_from = sym (ap (λ o. is_negative (times_sign o (order_of x.from v))) (ends_order x h)) ∙ a;
      before_to =
          sym (ap is_negative (ap opposite_sign (order_turned v x.to) ∙ opposite_twice (order_of v x.to)))
          ∙ sym (ap (λ o. is_negative (times_sign o (order_of x.to v))) order_back) ∙ b;
    }

lies_between : (x : Segment) (p q : Point) (v : Position) (m n : ℕ) → EndsAt x p q
    → side_of (stretch_of x).from (stretch_of x).dir v ≡ Zero
    → side_of (position_of p) m (position_of q) ≡ Pos → is_negative (side_of (position_of p) m v) ≡ false
    → side_of (position_of q) n (position_of p) ≡ Pos → is_negative (side_of (position_of q) n v) ≡ false
    → LiesOn v (stretch_of x)
lies_between x p q v m n (in_order e f) in_line a b c d =
    between_lines (stretch_of x) v m n x.stretch in_line
    (ap₂ (λ (y z : Point). side_of (position_of y) m (position_of z)) e f ∙ a)
    (ap (λ (y : Point). is_negative (side_of (position_of y) m v)) e ∙ b)
    (ap₂ (λ (y z : Point). side_of (position_of z) n (position_of y)) e f ∙ c)
    (ap (λ (z : Point). is_negative (side_of (position_of z) n v)) f ∙ d)
lies_between x p q v m n (turned e f) in_line a b c d =
    between_lines (stretch_of x) v n m x.stretch in_line
    (ap₂ (λ (y z : Point). side_of (position_of y) n (position_of z)) e f ∙ c)
    (ap (λ (y : Point). is_negative (side_of (position_of y) n v)) e ∙ d)
    (ap₂ (λ (y z : Point). side_of (position_of z) m (position_of y)) e f ∙ a)
    (ap (λ (z : Point). is_negative (side_of (position_of z) m v)) f ∙ b)

-- ---- lines of sides

-- a line in a parallel direction through q has the same points
pub parallel_line : (m n : ℕ) (q v : Position) → turn_sign m n ≡ Zero → side_of q n v ≡ Zero → side_of q m v
    ≡ Zero
parallel_line m n q v turn zero =
    along_cross (direction_vector n) (vector_of q v) (square_sign n) zero (direction_vector m)
    ∙ ap (times_sign (sign_of (dot_of (direction_vector n) (vector_of q v)))) turn
    ∙ product_by_zero (sign_of (dot_of (direction_vector n) (vector_of q v)))

pub opposite_turn : (n : ℕ) (p q : Position) → n < 16 → is_along n p q ≡ true
    → turn_sign (opposite_number n) n ≡ Zero
opposite_turn n p q few along =
    let back : is_along (opposite_number n) q p ≡ true = along_back n p q few ∙ along in
    turn_turned n (opposite_number n)
    ∙ ap opposite_sign (sym (moves n (opposite_number n) q p back)
    ∙ moves_back n (opposite_number n) q p few refl back)

module _ (corners : List Point) (sheet : is_sheet corners ≡ true) (side : Side)
    (m : Member (sides_of corners) side) where
  abbrev sides : AreSheetSides (sides_of corners)
  sides = sheet_sides corners sheet

  abbrev n : ℕ
  n = side_number side

  abbrev a : Position
  a = position_of side.start

  abbrev b : Position
  b = position_of side.end

  runs : (s : Side) → Member (sides_of corners) s → GoesAlong (side_number s) s.start s.end × (side_number s < 16)
  runs s k = side_runs (sides_of corners) sides s k

  -- in line with the side, and with the segment that it is
  line_of : (x : Segment) (v : Position) → EndsAt x side.start side.end → side_of a n v ≡ Zero
      → side_of (stretch_of x).from (stretch_of x).dir v ≡ Zero
  line_of x v (in_order e f) zero =
      let along : is_along (direction_number x) a b ≡ true =
      subst (λ (p : Point). is_along (direction_number x) (position_of p) b ≡ true) e
      (subst (λ (q : Point). is_along (direction_number x) (position_of (lesser_end x)) (position_of q)
      ≡ true) f x.stretch.1) in
      let same : direction_number x ≡ n =
      along_unique (direction_number x) n a b (few_number x) (runs side m).1 along (runs side m).0 in
      ap₂ (λ (p : Point) k. side_of (position_of p) k v) e same ∙ zero
  line_of x v (turned e f) zero =
      let along : is_along (direction_number x) b a ≡ true =
      subst (λ (p : Point). is_along (direction_number x) (position_of p) a ≡ true) e
      (subst (λ (q : Point). is_along (direction_number x) (position_of (lesser_end x)) (position_of q)
      ≡ true) f x.stretch.1) in
      let back : is_along (opposite_number n) b a ≡ true = along_back n a b (runs side m).1
      ∙ (runs side m).0 in
      let same : direction_number x ≡ opposite_number n =
      along_unique (direction_number x) (opposite_number n) b a (few_number x) (omega arith) along back in
      let through : side_of b n v ≡ Zero = sym (side_from a n b v (along_parts n a b (runs side m).0).0)
      ∙ zero in
      ap₂ (λ (p : Point) k. side_of (position_of p) k v) e same
      ∙ parallel_line (opposite_number n) n b v (opposite_turn n a b (runs side m).1 (runs side m).0) through

  -- in line with the side and right of no side: on the side
  pub on_side : (x : Segment) (v : Position) → segment_of side.start side.end ≡ Some x → side_of a n v ≡ Zero
      → ((s : Side) → Member (sides_of corners) s → is_right_of v s ≡ false) → is_on v (stretch_of x) ≡ true
  on_side x v at zero within =
      let turns = (sheet_turns corners sheet).1 in
      let next = after_of corners turns side m in
      let prev = before_of corners turns side m in
      let ends = segment_ends side.start side.end x at in
      let few = (runs side m).1 in
      let left_after : turn_sign n (side_number next.after) ≡ Pos =
      left_turn n (side_number next.after) few (runs next.after next.member).1 next.left in
      let left_before : turn_sign (side_number prev.before) n ≡ Pos =
      left_turn (side_number prev.before) n (runs prev.before prev.member).1 few prev.left in
      let k = side_number prev.before in
      let l = side_number next.after in
      let end_left : side_of a k b ≡ Pos = moves k n a b (runs side m).0 ∙ left_before in
      let start_left : side_of b l a ≡ Pos =
      side_turned a l b
      ∙ ap opposite_sign (moves l n a b (runs side m).0 ∙ turn_turned n l
      ∙ ap opposite_sign left_after) in
      let corner : side_of (position_of prev.before.start) k a ≡ Zero =
      ap (λ (p : Point). side_of (position_of prev.before.start) k (position_of p)) (sym prev.joined)
      ∙ (along_parts k (position_of prev.before.start) (position_of prev.before.end)
      (runs prev.before prev.member).0).0 in
      let not_before : is_negative (side_of a k v) ≡ false =
      ap is_negative (sym (side_from (position_of prev.before.start) k a v corner))
      ∙ within prev.before prev.member in
      let not_after : is_negative (side_of b l v) ≡ false =
      ap (λ (p : Point). is_negative (side_of (position_of p) l v)) (sym next.joined)
      ∙ within next.after next.member in
      on_from_parts v (stretch_of x) x.stretch
      (lies_between x side.start side.end v k l ends
      (line_of x v ends zero) end_left not_before start_left not_after)
