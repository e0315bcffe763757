-- Half-edges at the border: none is right of a side, and pieces run strictly left of the sides that they
-- begin at.
use Rattle.std.proofs.Common.{◌≡◌, ℕ, ◌%◌, ◌<◌, Bool, true, false, cond, not, ◌&&◌, ◌⊎◌, inl, inr, List, [], ◌∷◌, ◌++◌, reverse, None, Some, refl, sym, ap, subst, ◌∙◌, arith}
use Rattle.std.specs.List.{list_any}
use Rattle.std.specs.Ordering.{is_lt}
use Rattle.std.proofs.lemmas.Bool.{cond_both, and_parts, and_from, true≢false, both_ways, not-true, false_from_ne_true}
use Rattle.surd_number.specs.declared.Sgn.{Sgn}
use Rattle.surd_number.specs.declared.Sgn.TheVariants.{Neg, Zero, Pos}
use Rattle.surd_number.specs.Number.{opposite_sign}
use Rattle.plane_geometry.specs.declared.Point.{Point}
use Rattle.plane_geometry.specs.declared.Segment.{Segment}
use Rattle.plane_geometry.specs.declared.Dir.{Dir}
use Rattle.plane_geometry.specs.DirView.{dir_number, dir_of}
use Rattle.plane_geometry.specs.Position.{Position, position_of, compare_positions, compare_points}
use Rattle.plane_geometry.specs.Direction.{side_of, is_positive, is_negative, is_along, opposite_number, turn_sign}
use Rattle.plane_geometry.specs.SegmentView.{lesser_end, greater_end, stretch_of}
use Rattle.plane_geometry.specs.SegmentOf.{segment_from, segment_of}
use Rattle.plane_geometry.specs.SegmentLaws.{point_is, segment_of-ends}
use Rattle.plane_geometry.specs.SideLaws.{order_of, order_turned, side_from}
use Rattle.plane_geometry.specs.StretchLaws.{before_is, side_self}
use Rattle.plane_geometry.specs.DirectionLaws.{along_parts, along_back, along_unique}
use Rattle.plane_geometry.specs.Polygon.{Side, sides_of, side_number, is_right_of}
use Rattle.crease_model.specs.declared.Piece.{Piece}
use Rattle.crease_model.specs.Rules.{IsPattern, is_crease, is_crease_kind, is_on_sheet}
use Rattle.crease_model.specs.Sheet.{is_on_segment, is_outside, place_of, holds_both_ends, is_within_side, is_sheet}
use Rattle.crease_model.specs.PartLaws.{EndsAt, in_order, turned, segment_ends, outside_is, not_right_between}
use Rattle.crease_model.specs.View.{PatternView}
use Rattle.line_split.specs.MemberLaws.{Member, all_member, member_any}
use Rattle.face_builder.specs.declared.half_edges.HalfEdge.{HalfEdge}
use Rattle.face_builder.specs.HalfEdge.{forward, backward, parts_from, side_parts, border_parts}
use Rattle.face_builder.specs.Vertices.{vertices_between, vertices_along}
use Rattle.face_builder.proofs.Apart.{moves}
use Rattle.face_builder.proofs.Border.{Runs, IsInside, inside_is, between_is, row_goes, row_of, part_is}
use Rattle.plane_geometry.specs.Ends.{GoesAlong}
use Rattle.face_builder.proofs.Chains.{Chain, member_either, reverse_member, flat_member}
use Rattle.face_builder.proofs.Corners.{on_side}
use Rattle.face_builder.proofs.Sheets.{AreSheetSides, sheet_sides, start_not_right, side_runs}
use Rattle.face_builder.proofs.Sides.{side_leads}

-- ---- segments between points

between_points : (p q : Point) (n : ℕ) → n < 16 → is_along n (position_of p) (position_of q) ≡ true
    → (s : Segment) × (segment_of p q ≡ Some s)
between_points p q n few along =
    go (is_lt (compare_positions (position_of p) (position_of q))) refl
    (order_of (position_of p) (position_of q)) refl
  where
    go : (b : Bool) → is_lt (compare_positions (position_of p) (position_of q)) ≡ b → (t : Sgn)
        → order_of (position_of p) (position_of q) ≡ t → (s : Segment) × (segment_of p q ≡ Some s)
    go true e t f =
        let s : Segment =
        record {
          from = p;
          to = q;
          dir = record { number = n; in_range = omega (arith, few) };
          stretch =
              (e, along);
        } in
        (s, segment_of-ends s)
    go false e Pos f = let clash : true ≡ false = sym (ap is_positive f)
        ∙ sym (before_is (position_of p) (position_of q)) ∙ e in absurd (cc)
    go false e Zero f =
        let same = point_is p q f in
        let there =
        subst (λ (t : Point). is_along n (position_of p) (position_of t) ≡ true) (sym same) along in
        let back = along_back n (position_of p) (position_of p) few ∙ there in
        let number =
        along_unique (opposite_number n) n (position_of p) (position_of p) (omega arith) few back there in
        absurd (omega (arith, number, few))
    go false e Neg f =
        let less : is_lt (compare_positions (position_of q) (position_of p)) ≡ true =
        before_is (position_of q) (position_of p)
        ∙ ap is_positive (order_turned (position_of p) (position_of q) ∙ ap opposite_sign f) in
        let s : Segment =
        record {
          from = q;
          to = p;
          dir =
              record { number = opposite_number n; in_range = omega arith };
          stretch =
              (less, along_back n (position_of p) (position_of q) few ∙ along);
        } in
        let turned_way : segment_of p q ≡ segment_from q p =
        ap (λ b. cond b (segment_from p q) (segment_from q p)) e in
        let back : segment_of q p ≡ segment_from q p =
        ap (λ b. cond b (segment_from q p) (segment_from p q)) less in
        (s, turned_way ∙ sym back ∙ segment_of-ends s)

-- ---- parts of a row

pub part_ends : (d : Dir) (u : Point) (vs : List Point) (h : HalfEdge) → Member (parts_from d u vs) h
    → Member (u ∷ vs) h.start × Member (u ∷ vs) h.end
part_ends d u [] h m = absurd m
part_ends d u (v ∷ vs) h (inl at) =
    (inl (ap (λ (g : HalfEdge). g.start) at), inr (inl (ap (λ (g : HalfEdge). g.end) at)))
part_ends d u (v ∷ vs) h (inr m) = let r = part_ends d v vs h m in (inr r.0, inr r.1)

part_plain : (d : Dir) (u : Point) (vs : List Point) (h : HalfEdge) → Member (parts_from d u vs) h → h.piece
    ≡ None
part_plain d u [] h m = absurd m
part_plain d u (v ∷ vs) h (inl at) = sym (ap (λ (g : HalfEdge). g.piece) at)
part_plain d u (v ∷ vs) h (inr m) = part_plain d v vs h m

row_zero : (n : ℕ) (u : Position) (q : Point) (vs : List Point) → Chain (GoesAlong n) (q ∷ vs)
    → side_of u n (position_of q) ≡ Zero
    → (v : Point) → Member (q ∷ vs) v → side_of u n (position_of v) ≡ Zero
row_zero n u q vs c zero v (inl at) = ap (λ (p : Point). side_of u n (position_of p)) (sym at) ∙ zero
row_zero n u q [] c zero v (inr none) = absurd none
row_zero n u q (w ∷ ws) c zero v (inr m) =
    row_zero n u w ws c.1 (side_from u n (position_of q) (position_of w) zero
    ∙ (along_parts n (position_of q) (position_of w) c.0).0) v m

any_false : {X : Type 0} (test : X → Bool) (xs : List X) (z : X) → list_any test xs ≡ false → Member xs z
    → test z ≡ false
any_false test xs z e m =
    false_from_ne_true (test z) (λ yes. both_ways (list_any test xs) e (member_any test xs z m yes))

module _ (p : PatternView) (sheet : is_sheet p.corners ≡ true) (rules : IsPattern p) where
  abbrev sides : List Side
  sides = sides_of p.corners

  abbrev of_sheet : AreSheetSides sides
  of_sheet = sheet_sides p.corners sheet

  -- right of no side
  abbrev pub Within : Point → Type 0
  Within v = (s : Side) → Member sides s → is_right_of (position_of v) s ≡ false

  runs_of : (s : Side) → Member sides s → GoesAlong (side_number s) s.start s.end × (side_number s < 16)
  runs_of s m = side_runs sides of_sheet s m

  start_within : (t : Side) → Member sides t → Within t.start
  start_within t m s k = start_not_right sides of_sheet s t k m

  pub end_within : (t : Side) → Member sides t → Within t.end
  end_within t m =
      let next = side_leads p.corners t m in
      subst Within next.2 (start_within next.0 next.1)

  between_within : (t : Side) → Member sides t → (v : Point) → Member (vertices_between t p.pieces) v
      → Within v
  between_within t m v k s o =
      let r = runs_of t m in
      let x = between_points t.start t.end (side_number t) r.1 r.0 in
      let inside = inside_is x.0 t v x.1 (between_is t p.pieces v k) in
      by x.0 (segment_ends t.start t.end x.0 x.1) inside
    where
      by : (x : Segment) → EndsAt x t.start t.end → IsInside x t v → is_right_of (position_of v) s ≡ false
      by x (in_order e f) inside =
          not_right_between (stretch_of x) (position_of s.start) (position_of v)
          (side_number s) x.stretch inside.lies
          (ap (λ (q : Point). is_right_of (position_of q) s) e ∙ start_within t m s o)
          (ap (λ (q : Point). is_right_of (position_of q) s) f ∙ end_within t m s o)
      by x (turned e f) inside =
          not_right_between (stretch_of x) (position_of s.start) (position_of v)
          (side_number s) x.stretch inside.lies
          (ap (λ (q : Point). is_right_of (position_of q) s) e ∙ end_within t m s o)
          (ap (λ (q : Point). is_right_of (position_of q) s) f ∙ start_within t m s o)

  along_within : (t : Side) → Member sides t → (v : Point) → Member (vertices_along t p.pieces) v → Within v
  along_within t m v =
      cond_both (is_lt (compare_points t.end t.start)) (reverse (vertices_between t p.pieces))
      (vertices_between t p.pieces)
      (λ vs. Member vs v → Within v)
      (λ e k. between_within t m v (reverse_member _ v k)) (λ e k. between_within t m v k)

  row_within : (t : Side) → Member sides t → (v : Point) → Member (row_of t p.pieces) v → Within v
  row_within t m v (inl at) = subst Within at (start_within t m)
  row_within t m v (inr k) =
      elim (member_either (vertices_along t p.pieces) (t.end ∷ []) v k) [
        | inl l ↦ along_within t m v l
        | inr r ↦ (elim r [ inl at ↦ subst Within at (end_within t m) | inr none ↦ absurd none ])
      ]

  -- a part of the border lies on its side
  pub record IsBorder (h : HalfEdge) : Type 0 where
    pub side : Side
    pub member : Member sides side
    pub part : Member (side_parts p.pieces side) h
    pub dir : dir_number h.dir ≡ side_number side
    pub start_on : side_of (position_of side.start) (side_number side) (position_of h.start) ≡ Zero
    pub end_on : side_of (position_of side.start) (side_number side) (position_of h.end) ≡ Zero
    pub start_in : Within h.start
    pub end_in : Within h.end
    pub plain : h.piece ≡ None

  pub border_is : (h : HalfEdge) → Member (border_parts p.corners p.pieces) h → IsBorder h
  border_is h m =
      let r = flat_member (side_parts p.pieces) sides h m in
      let s = r.0 in
      let n = side_number s in
      let run = runs_of s r.1 in
      let same : n % 16 ≡ n = omega (arith, run.1) in
      let row = row_goes s p.pieces n run.1 run.0 in
      let ends = part_ends (dir_of n) s.start (vertices_along s p.pieces ++ s.end ∷ []) h r.2 in
      let part = part_is (dir_of n) s.start (vertices_along s p.pieces ++ s.end ∷ []) h
      (subst (λ k. Chain (GoesAlong k) (row_of s p.pieces)) (sym same) row) r.2 in
      let zero = row_zero n (position_of s.start) s.start (vertices_along s p.pieces ++ s.end ∷ []) row
      (side_self (position_of s.start) n) in
      record {
        side = s;
        member = r.1;
        part = r.2;
        dir = ap dir_number part.dir ∙ same;
        start_on = zero h.start ends.0;
        end_on = zero h.end ends.1;
        start_in = row_within s r.1 h.start ends.0;
        end_in = row_within s r.1 h.end ends.1;
        plain = part_plain (dir_of n) s.start (vertices_along s p.pieces ++ s.end ∷ []) h r.2;
      }

  -- ---- pieces

  crease_of : (q : Piece) → Member p.pieces q → is_crease p.corners q ≡ true
  crease_of q m = all_member (λ (x : Piece). is_crease p.corners x ≡ true) p.pieces q rules.creases m

  pub piece_within : (q : Piece) → Member p.pieces q → Within (lesser_end q.segment)
      × Within (greater_end q.segment)
  piece_within q m =
      let a = and_parts (is_crease_kind q.kind)
      (is_on_sheet p.corners (stretch_of q.segment) && not
      (is_within_side p.corners (stretch_of q.segment))) (crease_of q m) in
      let b = and_parts (is_on_sheet p.corners (stretch_of q.segment))
      (not (is_within_side p.corners (stretch_of q.segment))) a.1 in
      let c = and_parts (not (is_outside (place_of p.corners (position_of (lesser_end q.segment)))))
      (not (is_outside (place_of p.corners (position_of (greater_end q.segment))))) b.0 in (
        (λ s k. any_false (is_right_of (position_of (lesser_end q.segment))) sides s
            (sym (outside_is p.corners (position_of (lesser_end q.segment))) ∙ not-true _ c.0) k),
        (λ s k. any_false (is_right_of (position_of (greater_end q.segment))) sides s
            (sym (outside_is p.corners (position_of (greater_end q.segment))) ∙ not-true _ c.1) k),
      )

  -- no piece is in line with a side
  pub not_in_line : (q : Piece) → Member p.pieces q → (s : Side) → Member sides s
      → side_of (position_of s.start) (side_number s) (position_of (lesser_end q.segment)) ≡ Zero
      → side_of (position_of s.start) (side_number s) (position_of (greater_end q.segment)) ≡ Zero → ⊥
  not_in_line q m s k low high =
      let a = and_parts (is_crease_kind q.kind)
      (is_on_sheet p.corners (stretch_of q.segment) && not
      (is_within_side p.corners (stretch_of q.segment))) (crease_of q m) in
      let b = and_parts (is_on_sheet p.corners (stretch_of q.segment))
      (not (is_within_side p.corners (stretch_of q.segment))) a.1 in
      let r = runs_of s k in
      let x = between_points s.start s.end (side_number s) r.1 r.0 in
      let within = piece_within q m in
      let on_low = on_side p.corners sheet s k x.0 (position_of (lesser_end q.segment)) x.1 low within.0 in
      let on_high = on_side p.corners sheet s k x.0 (position_of (greater_end q.segment)) x.1 high within.1 in
      let held : holds_both_ends (stretch_of q.segment) s ≡ true =
      ap (λ o. is_on_segment (position_of (lesser_end q.segment)) o && is_on_segment
      (position_of (greater_end q.segment)) o) x.1
      ∙ and_from _ _ on_low on_high in
      both_ways (is_within_side p.corners (stretch_of q.segment)) (not-true _ b.1)
      (member_any (holds_both_ends (stretch_of q.segment)) sides s k held)

  -- a piece in one of its directions
  abbrev pub IsWay : HalfEdge → Type 0
  IsWay h = (j : ℕ) × (q : Piece) × Member p.pieces q × ((h ≡ forward j q) ⊎ (h ≡ backward j q))

  way_within : (h : HalfEdge) → IsWay h → Within h.start × Within h.end
  way_within h w =
      let k = piece_within w.1 w.2 in
      elim w.3 [
        | inl at ↦ (
          subst (λ (g : HalfEdge). Within g.start) (sym at) k.0,
          subst (λ (g : HalfEdge). Within g.end) (sym at) k.1,
        )
        | inr at ↦ (
          subst (λ (g : HalfEdge). Within g.start) (sym at) k.1,
          subst (λ (g : HalfEdge). Within g.end) (sym at) k.0,
        )
      ]

  way_not_in_line : (h : HalfEdge) → IsWay h → (s : Side) → Member sides s
      → side_of (position_of s.start) (side_number s) (position_of h.start) ≡ Zero
      → side_of (position_of s.start) (side_number s) (position_of h.end) ≡ Zero → ⊥
  way_not_in_line h w s k a b =
      elim w.3 [
        | inl at ↦
            not_in_line w.1 w.2 s k
            (ap (λ (g : HalfEdge). side_of (position_of s.start) (side_number s) (position_of g.start))
            (sym at) ∙ a)
            (ap (λ (g : HalfEdge). side_of (position_of s.start) (side_number s) (position_of g.end)) (sym at)
            ∙ b)
        | inr at ↦
            not_in_line w.1 w.2 s k
            (ap (λ (g : HalfEdge). side_of (position_of s.start) (side_number s) (position_of g.end))
            (sym at) ∙ b)
            (ap (λ (g : HalfEdge). side_of (position_of s.start) (side_number s) (position_of g.start))
            (sym at) ∙ a)
      ]

  -- a piece that begins on the line of a side runs strictly left of it
  pub way_left : (h : HalfEdge) → IsWay h → Runs h → (s : Side) → Member sides s
      → side_of (position_of s.start) (side_number s) (position_of h.start) ≡ Zero
      → turn_sign (side_number s) (dir_number h.dir) ≡ Pos
  way_left h w runs s k zero = go (turn_sign (side_number s) (dir_number h.dir)) refl
    where
      reaches : side_of (position_of s.start) (side_number s) (position_of h.end)
          ≡ turn_sign (side_number s) (dir_number h.dir)
      reaches =
          side_from (position_of s.start) (side_number s) (position_of h.start) (position_of h.end) zero
          ∙ moves (side_number s) (dir_number h.dir) (position_of h.start) (position_of h.end) runs

      go : (t : Sgn) → turn_sign (side_number s) (dir_number h.dir) ≡ t
          → turn_sign (side_number s) (dir_number h.dir) ≡ Pos
      go Neg e = absurd (true≢false (sym (ap is_negative (reaches ∙ e)) ∙ (way_within h w).1 s k))
      go Zero e = absurd (way_not_in_line h w s k zero (reaches ∙ e))
      go Pos e = e
