-- Half-edges run in their directions, and each ends where one begins.
use Rattle.std.proofs.Common.{◌≡◌, ℕ, ◌%◌, ◌<◌, true, false, cond, not, ◌&&◌, ◌⊎◌, inl, inr, List, [], ◌∷◌, ◌++◌, reverse, flat_map, Option, None, Some, refl, sym, ap, subst, ◌∙◌, arith}
use Rattle.std.specs.Ordering.{is_lt}
use Rattle.std.proofs.lemmas.Bool.{cond_both, true≢false, and_parts, not-true, false_from_ne_true, both_ways}
use Rattle.std.proofs.lemmas.List.{reverse-append}
use Rattle.surd_number.specs.declared.Sgn.{Sgn}
use Rattle.surd_number.specs.declared.Sgn.TheVariants.{Neg, Zero, Pos}
use Rattle.surd_number.specs.Number.{opposite_sign, times_sign}
use Rattle.plane_geometry.specs.declared.Point.{Point}
use Rattle.plane_geometry.specs.declared.Segment.{Segment}
use Rattle.plane_geometry.specs.declared.Dir.{Dir}
use Rattle.plane_geometry.specs.Position.{Position, position_of, vector_of, compare_points, is_same_point}
use Rattle.plane_geometry.specs.Direction.{direction_vector, side_of, is_positive, is_negative, is_zero, is_along, direction_of, opposite_number}
use Rattle.plane_geometry.specs.DirView.{dir_number}
use Rattle.plane_geometry.specs.SegmentView.{lesser_end, greater_end, direction_number, stretch_of}
use Rattle.plane_geometry.specs.SegmentOf.{segment_of}
use Rattle.plane_geometry.specs.SideLaws.{lex_sign, order_of, order_turned, side_from, square_sign, along_lex}
use Rattle.plane_geometry.specs.StretchLaws.{before_is, same_is, same_is_turned, LiesOn, ends_order, to_in_line, along_sign, on_parts, side_self}
use Rattle.plane_geometry.specs.DirectionLaws.{along_from_parts, along_unique, along_back, direction_found}
use Rattle.plane_geometry.specs.OrderLaws.{tied_points, point_is_place}
use Rattle.plane_geometry.specs.Polygon.{Side}
use Rattle.crease_model.specs.ApartLaws.{runs_up}
use Rattle.crease_model.specs.declared.Piece.{Piece}
use Rattle.crease_model.specs.Sheet.{is_on_segment}
use Rattle.crease_model.specs.PartLaws.{EndsAt, in_order, turned, segment_ends}
use Rattle.line_split.specs.MemberLaws.{Member}
use Rattle.face_builder.specs.declared.half_edges.HalfEdge.{HalfEdge}
use Rattle.face_builder.specs.HalfEdge.{forward, backward, parts_from}
use Rattle.plane_geometry.specs.Ends.{GoesAlong}
use Rattle.face_builder.specs.Sorted.{others_after, each_once}
use Rattle.face_builder.specs.Vertices.{is_between_corners, point_between, ends_between, ascending_of, vertices_between, vertices_along}
use Rattle.face_builder.proofs.Chains.{Chain, chain_close, chain_open, chain_as, chain_reverse, member_either, reverse_member, flat_member}
use Rattle.face_builder.proofs.Ordered.{points_total}
use Rattle.face_builder.proofs.Sorting.{Up, in_order_up, in_order_member}

-- a half-edge runs in its direction
abbrev pub Runs : HalfEdge → Type 0
Runs h = GoesAlong (dir_number h.dir) h.start h.end

pub direction_along : (n : ℕ) (p q : Position) → n < 16 → is_along n p q ≡ true → direction_of p q ≡ Some n
direction_along n p q few along =
    direction_found n p q few along (λ k less.
    false_from_ne_true (is_along k p q) (λ e.
    let same : k ≡ n = along_unique k n p q (omega (arith, less, few)) few e along in
    absurd (omega (arith, same, less))))

-- ---- pieces

pub few_number : (s : Segment) → direction_number s < 16
few_number s = omega (arith, s.dir.in_range)

pub forward_runs : (k : ℕ) (p : Piece) → Runs (forward k p)
forward_runs k p =
    let n = direction_number p.segment in
    let same : n % 16 ≡ n = omega (arith, few_number p.segment) in
    subst (λ m. GoesAlong m (lesser_end p.segment) (greater_end p.segment)) (sym same) p.segment.stretch.1

pub backward_runs : (k : ℕ) (p : Piece) → Runs (backward k p)
backward_runs k p =
    let s = p.segment in
    along_back (direction_number s) (position_of (lesser_end s)) (position_of (greater_end s)) (few_number s)
    ∙ s.stretch.1

-- ---- points in a row on a line

abbrev pub Before : Point → Point → Type 0
Before p q = order_of (position_of p) (position_of q) ≡ Pos

by_pos : (t l o : Sgn) → o ≡ times_sign t l → l ≡ Pos → o ≡ Pos → t ≡ Pos
by_pos Neg Neg o e f g = cc
by_pos Neg Zero o e f g = cc
by_pos Neg Pos o e f g = let h : Neg ≡ Pos = sym e ∙ g in cc
by_pos Zero Neg o e f g = cc
by_pos Zero Zero o e f g = cc
by_pos Zero Pos o e f g = let h : Zero ≡ Pos = sym e ∙ g in cc
by_pos Pos l o e f g = refl

module _ (x : Segment) where
  abbrev InLine : Position → Type 0
  InLine v = side_of (stretch_of x).from (stretch_of x).dir v ≡ Zero

  along_line : (u v : Position) → InLine u → InLine v → order_of u v ≡ Pos → is_along (direction_number x) u v
      ≡ true
  along_line u v in_u in_v less =
      let n = direction_number x in
      let zero : side_of u n v ≡ Zero = sym (side_from (stretch_of x).from n u v in_u) ∙ in_v in
      along_from_parts n u v zero
      (by_pos _ (lex_sign (direction_vector n)) (order_of u v)
      (along_lex (direction_vector n) (vector_of u v) (square_sign n) zero) (runs_up x) less)

-- ---- ascending points

ordered : (p q : Point) → is_lt (compare_points q p) ≡ false → is_same_point q p ≡ false → Before p q
ordered p q not_less not_same =
    go (order_of (position_of p) (position_of q)) refl
  where
    go : (o : Sgn) → order_of (position_of p) (position_of q) ≡ o → order_of (position_of p) (position_of q)
        ≡ Pos
    go Neg e =
        absurd (both_ways _ not_less
        (before_is (position_of q) (position_of p)
        ∙ ap is_positive (order_turned (position_of p) (position_of q) ∙ ap opposite_sign e)))
    go Zero e =
        absurd (both_ways _ not_same
        (same_is (position_of q) (position_of p)
        ∙ ap is_zero (order_turned (position_of p) (position_of q) ∙ ap opposite_sign e)))
    go Pos e = e

others_rise : (x : Point) (ys : List Point) → Up compare_points points_total tied_points (x ∷ ys)
    → Chain Before (x ∷ others_after is_same_point x ys)
others_rise x [] u = tt
others_rise x (y ∷ ys) u =
    cond_both (is_same_point y x) (others_after is_same_point x ys) (y ∷ others_after is_same_point y ys)
    (λ zs. Chain Before (x ∷ zs))
    (λ same. others_rise x ys
    (subst (λ (z : Point). Up compare_points points_total tied_points (z ∷ ys))
    ((point_is_place y x).1 same) u.1))
    (λ other. (ordered x y u.0 other, others_rise y ys u.1))

once_rises : (xs : List Point) → Up compare_points points_total tied_points xs
    → Chain Before (each_once is_same_point xs)
once_rises [] u = tt
once_rises (x ∷ xs) u = others_rise x xs u

pub ascending_rises : (points : List Point) → Chain Before (ascending_of points)
ascending_rises points = once_rises _ (in_order_up compare_points points_total tied_points points)

others_member : (x : Point) (ys : List Point) (z : Point) → Member (others_after is_same_point x ys) z
    → Member ys z
others_member x [] z = λ m. m
others_member x (y ∷ ys) z =
    cond_both (is_same_point y x) (others_after is_same_point x ys) (y ∷ others_after is_same_point y ys)
    (λ zs. Member zs z → Member (y ∷ ys) z)
    (λ same m. inr (others_member x ys z m))
    (λ other m. elim m [ inl at ↦ inl at | inr n ↦ inr (others_member y ys z n) ])

pub once_member : (xs : List Point) (z : Point) → Member (each_once is_same_point xs) z → Member xs z
once_member [] z m = m
once_member (x ∷ xs) z (inl at) = inl at
once_member (x ∷ xs) z (inr m) = inr (others_member x xs z m)

-- ---- vertices of a side

point_between_is : (side : Side) (v z : Point) → Member (point_between side v) z → is_between_corners side z ≡ true
point_between_is side v z =
    cond_both (is_between_corners side v) (v ∷ []) [] (λ zs. Member zs z → is_between_corners side z ≡ true)
    (λ e m. elim m [ inl at ↦ ap (is_between_corners side) (sym at) ∙ e | inr none ↦ absurd none ])
    (λ e m. absurd m)

pub between_is : (side : Side) (pieces : List Piece) (z : Point) → Member (vertices_between side pieces) z
    → is_between_corners side z ≡ true
between_is side pieces z m =
    let n = in_order_member compare_points points_total tied_points (flat_map (ends_between side) pieces) z
    (once_member _ z m) in
    let p = flat_member (ends_between side) pieces z n in
    elim (member_either (point_between side (lesser_end p.0.segment))
    (point_between side (greater_end p.0.segment)) z p.2) [
      | inl l ↦ point_between_is side (lesser_end p.0.segment) z l
      | inr r ↦ point_between_is side (greater_end p.0.segment) z r
    ]

-- points in ascending order strictly between the ends of x
module _ (x : Segment) (vs : List Point) (in_line : (v : Point) → Member vs v → InLine x (position_of v))
    (after : (v : Point) → Member vs v → Before (lesser_end x) v)
    (before : (v : Point) → Member vs v → Before v (greater_end x)) (rise : Chain Before vs) where
  abbrev low : Point
  low = lesser_end x

  abbrev high : Point
  high = greater_end x

  abbrev number : ℕ
  number = direction_number x

  row : List Point
  row = low ∷ vs ++ high ∷ []

  before_high : (z : Point) → Member (low ∷ vs) z → Before z high
  before_high z (inl at) =
      subst (λ (p : Point). order_of (position_of p) (position_of high) ≡ Pos) at
      (ends_order (stretch_of x) x.stretch)
  before_high z (inr m) = before z m

  row_rises : Chain Before row
  unfolding row
  row_rises = chain_close Before low vs high before_high (chain_open Before low vs after rise)

  row_in_line : (z : Point) → Member row z → InLine x (position_of z)
  unfolding row
  row_in_line z (inl at) =
      subst (λ (p : Point). InLine x (position_of p)) at (side_self (stretch_of x).from number)
  row_in_line z (inr m) =
      elim (member_either vs (high ∷ []) z m) [
        | inl n ↦ in_line z n
        | inr n ↦
            (elim n [
              | inl at ↦ subst (λ (p : Point). InLine x (position_of p)) at
                  (to_in_line (stretch_of x) x.stretch)
              | inr none ↦ absurd none
            ])
      ]

  one_step : (u v : Point) → Member row u → Member row v → Before u v → GoesAlong number u v
  one_step u v m n less =
      along_line x (position_of u) (position_of v) (row_in_line u m) (row_in_line v n) less

  pub up_row : Chain (GoesAlong number) (low ∷ vs ++ high ∷ [])
  unfolding row
  up_row = chain_as Before (GoesAlong number) row one_step row_rises

  back_step : (u v : Point) → GoesAlong number v u → GoesAlong (opposite_number number) u v
  back_step u v e = along_back number (position_of v) (position_of u) (few_number x) ∙ e

  pub down_row : Chain (GoesAlong (opposite_number number)) (high ∷ reverse vs ++ low ∷ [])
  down_row =
      let turned_row : reverse (low ∷ vs ++ high ∷ []) ≡ high ∷ reverse vs ++ low ∷ [] =
      reverse-append (low ∷ []) (vs ++ high ∷ [])
      ∙ ap (λ zs. zs ++ low ∷ []) (reverse-append vs (high ∷ [])) in
      chain_as (λ u v. GoesAlong number v u) (GoesAlong (opposite_number number)) (high ∷ reverse vs ++ low ∷ [])
      (λ u v _ _ e. back_step u v e)
      (subst (Chain (λ u v. GoesAlong number v u)) turned_row
      (chain_reverse (GoesAlong number) (low ∷ vs ++ high ∷ []) up_row))

-- ---- the vertices of a side, from its start to its end

abbrev pub row_of : Side → List Piece → List Point
row_of side pieces = side.start ∷ vertices_along side pieces ++ side.end ∷ []

strictly : (p q : Point) → is_negative (order_of (position_of p) (position_of q)) ≡ false
    → is_zero (order_of (position_of p) (position_of q)) ≡ false → Before p q
strictly p q not_neg not_zero = go (order_of (position_of p) (position_of q)) refl
  where
    go : (o : Sgn) → order_of (position_of p) (position_of q) ≡ o → order_of (position_of p) (position_of q)
        ≡ Pos
    go Neg e = absurd (true≢false (sym (ap is_negative e) ∙ not_neg))
    go Zero e = absurd (true≢false (sym (ap is_zero e) ∙ not_zero))
    go Pos e = e

-- what is between the ends of a side is on its segment, and no end
pub record IsInside (x : Segment) (side : Side) (v : Point) : Type 0 where
  pub lies : LiesOn (position_of v) (stretch_of x)
  not_start : is_same_point v side.start ≡ false
  not_end : is_same_point v side.end ≡ false

pub inside_is : (x : Segment) (side : Side) (v : Point) → segment_of side.start side.end ≡ Some x
    → is_between_corners side v ≡ true → IsInside x side v
inside_is x side v at e =
    let a = and_parts (is_on_segment (position_of v) (segment_of side.start side.end))
    (not (is_same_point v side.start) && not (is_same_point v side.end)) e in
    let b = and_parts (not (is_same_point v side.start)) (not (is_same_point v side.end)) a.1 in
    record {
      lies = on_parts (position_of v) (stretch_of x) x.stretch (sym (ap (is_on_segment (position_of v)) at)
          ∙ a.0);
      not_start = not-true _ b.0;
      not_end = not-true _ b.1;
    }

module _ (side : Side) (pieces : List Piece) (n : ℕ) (few : n < 16) (goes : GoesAlong n side.start side.end) where
  -- where there is no segment there is nothing between
  none_between : segment_of side.start side.end ≡ None → (z : Point) → Member (vertices_between side pieces) z
      → ⊥
  none_between none z m =
      true≢false (sym (between_is side pieces z m)
      ∙ ap (λ o. is_on_segment (position_of z) o &&
      (not (is_same_point z side.start) && not (is_same_point z side.end))) none)

  bare_row : (vs : List Point) → ((z : Point) → Member vs z → ⊥)
      → Chain (GoesAlong n) (side.start ∷ vs ++ side.end ∷ [])
  bare_row [] none = (goes, tt)
  bare_row (v ∷ vs) none = absurd (none v (inl refl))

  none_reversed : ((z : Point) → Member (vertices_between side pieces) z → ⊥) → (z : Point)
      → Member (vertices_along side pieces) z → ⊥
  none_reversed none z =
      cond_both (is_lt (compare_points side.end side.start)) (reverse (vertices_between side pieces))
      (vertices_between side pieces)
      (λ zs. Member zs z → ⊥) (λ e m. none z (reverse_member _ z m)) (λ e m. none z m)

  not_before : Before side.start side.end → is_lt (compare_points side.end side.start) ≡ false
  not_before less =
      before_is (position_of side.end) (position_of side.start)
      ∙ ap is_positive (order_turned (position_of side.start) (position_of side.end) ∙ ap opposite_sign less)

  module _ (x : Segment) (at : segment_of side.start side.end ≡ Some x) where
    inside : (v : Point) → Member (vertices_between side pieces) v → IsInside x side v
    inside v m = inside_is x side v at (between_is side pieces v m)

    up : lesser_end x ≡ side.start → greater_end x ≡ side.end → Chain (GoesAlong n) (row_of side pieces)
    up low high =
        let vs = vertices_between side pieces in
        let ends : GoesAlong (direction_number x) side.start side.end =
        subst (λ (p : Point). GoesAlong (direction_number x) p side.end) low
        (subst (λ (q : Point). GoesAlong (direction_number x) (lesser_end x) q) high x.stretch.1) in
        let same : direction_number x ≡ n =
        along_unique (direction_number x) n (position_of side.start) (position_of side.end)
        (few_number x) few ends goes in
        let all = up_row x vs (λ v m. (inside v m).lies.in_line)
        (λ v m. let i = inside v m in
        strictly (lesser_end x) v i.lies.after_from
        (ap (λ (p : Point). is_zero (order_of (position_of p) (position_of v))) low
        ∙ sym (same_is_turned (position_of v) (position_of side.start)) ∙ i.not_start))
        (λ v m. let i = inside v m in
        strictly v (greater_end x) i.lies.before_to
        (ap (λ (p : Point). is_zero (order_of (position_of v) (position_of p))) high
        ∙ sym (same_is (position_of v) (position_of side.end)) ∙ i.not_end))
        (ascending_rises _) in
        let forth : vertices_along side pieces ≡ vs =
        ap (λ b. cond b (reverse vs) vs) (not_before (rises low high)) in
        subst (λ m. Chain (GoesAlong m) (row_of side pieces)) same
        (subst (λ zs. Chain (GoesAlong (direction_number x)) (side.start ∷ zs ++ side.end ∷ [])) (sym forth)
        (subst (λ (p : Point). Chain (GoesAlong (direction_number x)) (p ∷ vs ++ side.end ∷ [])) low
        (subst (λ (q : Point). Chain (GoesAlong (direction_number x)) (lesser_end x ∷ vs ++ q ∷ [])) high all)))
      where
        rises : lesser_end x ≡ side.start → greater_end x ≡ side.end → Before side.start side.end
        rises low high =
            subst (λ (p : Point). order_of (position_of p) (position_of side.end) ≡ Pos) low
            (subst (λ (q : Point). order_of (position_of (lesser_end x)) (position_of q) ≡ Pos) high
            (ends_order (stretch_of x) x.stretch))

    down : lesser_end x ≡ side.end → greater_end x ≡ side.start → Chain (GoesAlong n) (row_of side pieces)
    down low high =
        let vs = vertices_between side pieces in
        let d = direction_number x in
        let back : GoesAlong d side.end side.start =
        subst (λ (p : Point). GoesAlong d p side.start) low
        (subst (λ (q : Point). GoesAlong d (lesser_end x) q) high x.stretch.1) in
        let ends : GoesAlong (opposite_number d) side.start side.end =
        along_back d (position_of side.end) (position_of side.start) (few_number x) ∙ back in
        let same : opposite_number d ≡ n =
        along_unique (opposite_number d) n (position_of side.start) (position_of side.end)
        (omega arith) few ends goes in
        let all = down_row x vs (λ v m. (inside v m).lies.in_line)
        (λ v m. let i = inside v m in
        strictly (lesser_end x) v i.lies.after_from
        (ap (λ (p : Point). is_zero (order_of (position_of p) (position_of v))) low
        ∙ sym (same_is_turned (position_of v) (position_of side.end)) ∙ i.not_end))
        (λ v m. let i = inside v m in
        strictly v (greater_end x) i.lies.before_to
        (ap (λ (p : Point). is_zero (order_of (position_of v) (position_of p))) high
        ∙ sym (same_is (position_of v) (position_of side.start)) ∙ i.not_start))
        (ascending_rises _) in
        let turns : vertices_along side pieces ≡ reverse vs =
        ap (λ b. cond b (reverse vs) vs) (falls low high) in
        subst (λ m. Chain (GoesAlong m) (row_of side pieces)) same
        (subst (λ zs. Chain (GoesAlong (opposite_number d)) (side.start ∷ zs ++ side.end ∷ [])) (sym turns)
        (subst (λ (q : Point). Chain (GoesAlong (opposite_number d)) (q ∷ reverse vs ++ side.end ∷ [])) high
        (subst (λ (p : Point). Chain (GoesAlong (opposite_number d)) (greater_end x ∷ reverse vs ++ p ∷ [])) low
        all)))
      where
        falls : lesser_end x ≡ side.end → greater_end x ≡ side.start
            → is_lt (compare_points side.end side.start) ≡ true
        falls low high =
            subst (λ (p : Point). is_lt (compare_points p side.start) ≡ true) low
            (subst (λ (q : Point). is_lt (compare_points (lesser_end x) q) ≡ true) high x.stretch.0)

    by_ends : EndsAt x side.start side.end → Chain (GoesAlong n) (row_of side pieces)
    by_ends (in_order e f) = up e f
    by_ends (turned e f) = down e f

  pub row_goes : Chain (GoesAlong n) (row_of side pieces)
  row_goes = go (segment_of side.start side.end) refl
    where
      go : (o : Option Segment) → segment_of side.start side.end ≡ o → Chain (GoesAlong n) (row_of side pieces)
      go None at = bare_row (vertices_along side pieces) (none_reversed (none_between at))
      go (Some x) at = by_ends x at (segment_ends side.start side.end x at)

-- ---- parts of a row

-- a part goes from one point of the row to the next
pub record IsPartOf (d : Dir) (h : HalfEdge) : Type 0 where
  pub runs : GoesAlong (dir_number d) h.start h.end
  pub dir : h.dir ≡ d

pub part_is : (d : Dir) (u : Point) (vs : List Point) (h : HalfEdge) → Chain (GoesAlong (dir_number d)) (u ∷ vs)
    → Member (parts_from d u vs) h → IsPartOf d h
part_is d u [] h c m = absurd m
part_is d u (v ∷ vs) h c (inl at) =
    subst (λ (g : HalfEdge). IsPartOf d g) at (record { runs = c.0; dir = refl })
part_is d u (v ∷ vs) h c (inr m) = part_is d v vs h c.1 m

pub first_part : (d : Dir) (u : Point) (vs : List Point) (e : Point)
    → (g : HalfEdge) × Member (parts_from d u (vs ++ e ∷ [])) g × (g.start ≡ u)
first_part d u [] e = (record { start = u; dir = d; end = e; piece = None }, inl refl, refl)
first_part d u (v ∷ vs) e = (record { start = u; dir = d; end = v; piece = None }, inl refl, refl)

-- a part ends where the next one starts, or in the last point
pub part_leads : (d : Dir) (u : Point) (vs : List Point) (e : Point) (h : HalfEdge)
    → Member (parts_from d u (vs ++ e ∷ [])) h
    → (h.end ≡ e) ⊎ ((g : HalfEdge) × Member (parts_from d u (vs ++ e ∷ [])) g × (g.start ≡ h.end))
part_leads d u [] e h (inl at) = inl (sym (ap (λ (g : HalfEdge). g.end) at))
part_leads d u [] e h (inr none) = absurd none
part_leads d u (v ∷ vs) e h (inl at) =
    let first = first_part d v vs e in
    inr (first.0, inr first.1, first.2 ∙ ap (λ (g : HalfEdge). g.end) at)
part_leads d u (v ∷ vs) e h (inr m) =
    elim (part_leads d v vs e h m) [ inl at ↦ inl at | inr g ↦ inr (g.0, inr g.1, g.2) ]
