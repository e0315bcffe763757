-- The half-edges of a pattern are its pieces in their two directions, and the parts of its border.
use Rattle.std.proofs.Common.{◌≡◌, ℕ, zero, suc, ◌+◌, ◌-◌, ◌%◌, ◌≤◌, ◌<◌, true, inl, inr, List, [], ◌∷◌, ◌++◌, reverse, flat_map, None, Some, refl, sym, ap, subst, ◌∙◌, arith}
use Rattle.std.specs.Prelude.{◌↔◌, Contains, slice_get}
use Rattle.std.specs.Ordering.{is_lt}
use Rattle.std.proofs.lemmas.Bool.{cond_both, both_ways as not_both}
use Rattle.std.proofs.lemmas.List.{reverse-reverse}
use Rattle.plane_geometry.specs.declared.Point.{Point}
use Rattle.plane_geometry.specs.declared.Dir.{Dir}
use Rattle.plane_geometry.specs.DirView.{dir_number, dir_of}
use Rattle.plane_geometry.specs.DirLaws.{dir_is}
use Rattle.plane_geometry.specs.DirectionLaws.{along_unique}
use Rattle.plane_geometry.specs.OrderLaws.{tied_points, point_is_place}
use Rattle.plane_geometry.specs.Polygon.{Side, sides_of, side_number}
use Rattle.plane_geometry.specs.Position.{position_of, compare_points, is_same_point}
use Rattle.plane_geometry.specs.SegmentView.{lesser_end, greater_end}
use Rattle.crease_model.specs.declared.Piece.{Piece}
use Rattle.crease_model.specs.Rules.{IsPattern, IsEndOf}
use Rattle.crease_model.specs.Sheet.{is_sheet}
use Rattle.crease_model.specs.PartLaws.{sheet_turns}
use Rattle.crease_model.specs.View.{PatternView}
use Rattle.line_split.specs.MemberLaws.{Member, member, contained}
use Rattle.face_builder.specs.declared.half_edges.HalfEdge.{HalfEdge}
use Rattle.face_builder.specs.HalfEdge.{forward, backward, both_ways, parts_from, side_parts, border_parts, half_edges_of}
use Rattle.face_builder.specs.HalfEdgeKinds.{IsOfPiece, IsVertexOn, IsOfBorder, IsHalfEdge}
use Rattle.plane_geometry.specs.Ends.{GoesAlong}
use Rattle.face_builder.specs.Sorted.{others_after, each_once}
use Rattle.face_builder.specs.Vertices.{is_between_corners, point_between, ends_between, vertices_between, vertices_along}
use Rattle.face_builder.proofs.AtBorder.{IsBorder, part_ends}
use Rattle.face_builder.proofs.Border.{Runs, row_of, row_goes, once_member, between_is, forward_runs, backward_runs}
use Rattle.face_builder.proofs.Chains.{Chain, member_either, member_left, member_right, reverse_member, flat_member, member_flat}
use Rattle.face_builder.proofs.Departures.{along_on, not_along_itself, row_later, IsPieceWay, kind_of, few_of}
use Rattle.face_builder.proofs.LeavesApart.{IsNumbered}
use Rattle.face_builder.proofs.Ordered.{points_total, from_parts}
use Rattle.face_builder.proofs.SharedLaws.{numbered_from, ways_in}
use Rattle.face_builder.proofs.Sides.{from_sorted, to_sorted, runs}
use Rattle.face_builder.proofs.Sorting.{in_order_member, member_in_order}

-- ---- vertices of a side

others_has : (x : Point) (ys : List Point) (z : Point) → Member (x ∷ ys) z
    → Member (x ∷ others_after is_same_point x ys) z
others_has x [] z m = m
others_has x (y ∷ ys) z (inl at) = inl at
others_has x (y ∷ ys) z (inr m) =
    cond_both (is_same_point y x) (others_after is_same_point x ys) (y ∷ others_after is_same_point y ys)
    (λ zs. Member (x ∷ zs) z)
    (λ same.
    elim m [
      | inl at ↦ inl (sym ((point_is_place y x).1 same) ∙ at)
      | inr n ↦ others_has x ys z (inr n)
    ])
    (λ other. inr (others_has y ys z m))

once_has : (xs : List Point) (z : Point) → Member xs z → Member (each_once is_same_point xs) z
once_has [] z m = m
once_has (x ∷ xs) z m = others_has x xs z m

point_has : (side : Side) (v z : Point) → z ≡ v → is_between_corners side z ≡ true → Member (point_between side v) z
point_has side v z at e =
    cond_both (is_between_corners side v) (v ∷ []) [] (λ zs. Member zs z) (λ yes. inl (sym at))
    (λ no. absurd (not_both (is_between_corners side v) no (ap (is_between_corners side) (sym at) ∙ e)))

point_at : (side : Side) (v z : Point) → Member (point_between side v) z → z ≡ v
point_at side v z =
    cond_both (is_between_corners side v) (v ∷ []) [] (λ zs. Member zs z → z ≡ v)
    (λ yes m. elim m [ inl at ↦ sym at | inr none ↦ absurd none ]) (λ no m. absurd m)

between_has : (side : Side) (pieces : List Piece) (q : Piece) (z : Point) → Member pieces q → IsEndOf q z
    → is_between_corners side z ≡ true → Member (vertices_between side pieces) z
between_has side pieces q z m end e =
    let low = point_between side (lesser_end q.segment) in
    let high = point_between side (greater_end q.segment) in
    let here : Member (ends_between side q) z =
    elim end [
      | inl at ↦ member_left low high z (point_has side (lesser_end q.segment) z (sym at) e)
      | inr at ↦ member_right low high z (point_has side (greater_end q.segment) z (sym at) e)
    ] in
    once_has _ z
    (member_in_order compare_points points_total tied_points (flat_map (ends_between side) pieces) z
    (member_flat (ends_between side) pieces q z m here))

between_end : (side : Side) (pieces : List Piece) (z : Point) → Member (vertices_between side pieces) z
    → (q : Piece) × Member pieces q × IsEndOf q z
between_end side pieces z m =
    let n = in_order_member compare_points points_total tied_points (flat_map (ends_between side) pieces) z
    (once_member _ z m) in
    let r = flat_member (ends_between side) pieces z n in (
      r.0,
      r.1,
      elim (member_either (point_between side (lesser_end r.0.segment))
          (point_between side (greater_end r.0.segment)) z r.2) [
            | inl l ↦ inl (sym (point_at side (lesser_end r.0.segment) z l))
            | inr g ↦ inr (sym (point_at side (greater_end r.0.segment) z g))
          ],
    )

in_reverse : (xs : List Point) (z : Point) → Member xs z → Member (reverse xs) z
in_reverse xs z m =
    reverse_member (reverse xs) z (subst (λ ys. Member ys z) (sym (reverse-reverse xs)) m)

along_has : (side : Side) (pieces : List Piece) (z : Point) → Member (vertices_between side pieces) z
    → Member (vertices_along side pieces) z
along_has side pieces z m =
    cond_both (is_lt (compare_points side.end side.start)) (reverse (vertices_between side pieces))
    (vertices_between side pieces) (λ zs. Member zs z) (λ e. in_reverse (vertices_between side pieces) z m)
    (λ e. m)

along_between : (side : Side) (pieces : List Piece) (z : Point) → Member (vertices_along side pieces) z
    → Member (vertices_between side pieces) z
along_between side pieces z =
    cond_both (is_lt (compare_points side.end side.start)) (reverse (vertices_between side pieces))
    (vertices_between side pieces) (λ zs. Member zs z → Member (vertices_between side pieces) z)
    (λ e m. reverse_member _ z m) (λ e m. m)

-- ---- parts of a row

-- no point of the row is strictly between the ends of a part
none_within : (d : Dir) (n : ℕ) → n < 16 → (u : Point) (vs : List Point) → Chain (GoesAlong n) (u ∷ vs)
    → (h : HalfEdge) → Member (parts_from d u vs) h → (v : Point) → Member (u ∷ vs) v
    → GoesAlong n h.start v → GoesAlong n v h.end → ⊥
none_within d n few u [] c h m v k a b = absurd m
none_within d n few u (w ∷ ws) c h (inl at) v (inl first) a b =
    not_along_itself n (position_of u) few
    (subst (λ (z : Point). GoesAlong n u z) (sym first)
    (subst (λ (g : HalfEdge). GoesAlong n g.start v) (sym at) a))
none_within d n few u (w ∷ ws) c h (inl at) v (inr (inl next)) a b =
    not_along_itself n (position_of w) few
    (subst (λ (z : Point). GoesAlong n z w) (sym next)
    (subst (λ (g : HalfEdge). GoesAlong n v g.end) (sym at) b))
none_within d n few u (w ∷ ws) c h (inl at) v (inr (inr k)) a b =
    let back : GoesAlong n v w = subst (λ (g : HalfEdge). GoesAlong n v g.end) (sym at) b in
    not_along_itself n (position_of w) few
    (along_on n (position_of w) (position_of v) (position_of w) (row_later n w ws v c.1 k) back)
none_within d n few u (w ∷ ws) c h (inr m) v (inl first) a b =
    let later : GoesAlong n u h.start = row_later n u (w ∷ ws) h.start c (part_ends d w ws h m).0 in
    let back : GoesAlong n h.start u = subst (λ (z : Point). GoesAlong n h.start z) (sym first) a in
    not_along_itself n (position_of u) few
    (along_on n (position_of u) (position_of h.start) (position_of u) later back)
none_within d n few u (w ∷ ws) c h (inr m) v (inr k) a b = none_within d n few w ws c.1 h m v k a b

-- two points of the row with none between are the ends of a part
part_of : (d : Dir) (n : ℕ) → n < 16 → (u : Point) (vs : List Point) → Chain (GoesAlong n) (u ∷ vs)
    → (p q : Point) → Member (u ∷ vs) p → Member (u ∷ vs) q → GoesAlong n p q
    → ((v : Point) → Member (u ∷ vs) v → GoesAlong n p v → GoesAlong n v q → ⊥)
    → Member (parts_from d u vs) (record { start = p; dir = d; end = q; piece = None })
part_of d n few u vs c p q (inl a) (inl b) goes alone =
    absurd (not_along_itself n (position_of u) few
    (subst (λ (z : Point). GoesAlong n z u) (sym a) (subst (λ (z : Point). GoesAlong n p z) (sym b) goes)))
part_of d n few u [] c p q (inl a) (inr k) goes alone = absurd k
part_of d n few u [] c p q (inr m) k goes alone = absurd m
part_of d n few u (w ∷ ws) c p q (inl a) (inr (inl b)) goes alone =
    inl (λ i. record { start = a i; dir = d; end = b i; piece = None })
part_of d n few u (w ∷ ws) c p q (inl a) (inr (inr k)) goes alone =
    absurd (alone w (inr (inl refl)) (subst (λ (z : Point). GoesAlong n z w) a c.0) (row_later n w ws q c.1 k))
part_of d n few u (w ∷ ws) c p q (inr m) (inl b) goes alone =
    let later : GoesAlong n u p = row_later n u (w ∷ ws) p c m in
    let back : GoesAlong n p u = subst (λ (z : Point). GoesAlong n p z) (sym b) goes in
    absurd (not_along_itself n (position_of u) few
    (along_on n (position_of u) (position_of p) (position_of u) later back))
part_of d n few u (w ∷ ws) c p q (inr m) (inr k) goes alone =
    inr (part_of d n few w ws c.1 p q m k goes (λ v l. alone v (inr l)))

-- ---- pieces by their places

place_of_number : (k : ℕ) (ps : List Piece) (j : ℕ) (q : Piece) → IsNumbered k ps j q
    → slice_get ps (j - k) ≡ Some q
place_of_number k [] j q n = absurd n
place_of_number k (x ∷ xs) j q (inl e) =
    let none : j - k ≡ zero = omega (arith, e.0) in ap (slice_get (x ∷ xs)) none ∙ ap Some e.1
place_of_number k (x ∷ xs) j q (inr n) =
    let more : j - k ≡ suc (j - (k + 1)) = omega (arith, numbered_from (k + 1) xs j q n) in
    ap (slice_get (x ∷ xs)) more ∙ place_of_number (k + 1) xs j q n

some_piece : {X : Type 0} (x y : X) → Some x ≡ Some y → x ≡ y
some_piece x y e = cc

number_of_place : (k : ℕ) (ps : List Piece) (i j : ℕ) (q : Piece) → slice_get ps i ≡ Some q → j ≡ k + i
    → IsNumbered k ps j q
number_of_place k [] i j q e at = cc
number_of_place k (x ∷ xs) zero j q e at = inl ((omega (arith, at)), some_piece x q e)
number_of_place k (x ∷ xs) (suc i) j q e at = inr (number_of_place (k + 1) xs i j q e (omega (arith, at)))

-- ---- all half-edges

module _ (p : PatternView) (sheet : is_sheet p.corners ≡ true) (rules : IsPattern p) where
  abbrev hs : List HalfEdge
  hs = half_edges_of p

  on_row : (s : Side) (v : Point) → IsVertexOn p s v → Member (row_of s p.pieces) v
  on_row s v (inl (inl at)) = inl (sym at)
  on_row s v (inl (inr at)) =
      inr (member_right (vertices_along s p.pieces) (s.end ∷ []) v (inl (sym at)))
  on_row s v (inr w) =
      inr (member_left (vertices_along s p.pieces) (s.end ∷ []) v
      (along_has s p.pieces v (between_has s p.pieces w.0 v (member p.pieces w.0 w.1) w.2 w.3)))

  row_vertex : (s : Side) (v : Point) → Member (row_of s p.pieces) v → IsVertexOn p s v
  row_vertex s v (inl at) = inl (inl (sym at))
  row_vertex s v (inr m) =
      elim (member_either (vertices_along s p.pieces) (s.end ∷ []) v m) [
        | inl n ↦
            (let k = along_between s p.pieces v n in
            let w = between_end s p.pieces v k in
            inr (w.0, contained p.pieces w.0 w.1, w.2, between_is s p.pieces v k))
        | inr n ↦ (elim n [ inl at ↦ inl (inr (sym at)) | inr none ↦ absurd none ])
      ]

  border_kind : (h : HalfEdge) → IsBorder p sheet rules h → IsOfBorder p h
  border_kind h b =
      let s = b.side in
      let n = side_number s in
      let r = few_of p sheet rules s b.member in
      let row = row_goes s p.pieces n r.1 r.0 in
      let vs = vertices_along s p.pieces ++ s.end ∷ [] in
      let ends = part_ends (dir_of n) s.start vs h b.part in
      record {
        plain = b.plain;
        side = s;
        member = contained (sides_of p.corners) s b.member;
        direction = b.dir;
        start = row_vertex s h.start ends.0;
        end = row_vertex s h.end ends.1;
        neighbours = λ v on a e.
            none_within (dir_of n) n r.1 s.start vs row h b.part v (on_row s v on) a e;
      }

  border_of_kind : (h : HalfEdge) → Runs h → IsOfBorder p h → Member hs h
  border_of_kind h run b =
      let s = b.side in
      let n = side_number s in
      let m = member (sides_of p.corners) s b.member in
      let r = few_of p sheet rules s m in
      let row = row_goes s p.pieces n r.1 r.0 in
      let vs = vertices_along s p.pieces ++ s.end ∷ [] in
      let goes : GoesAlong n h.start h.end = subst (λ k. GoesAlong k h.start h.end) b.direction run in
      let part = part_of (dir_of n) n r.1 s.start vs row h.start h.end (on_row s h.start b.start)
      (on_row s h.end b.end) goes (λ v o. b.neighbours v (row_vertex s v o)) in
      let same : n % 16 ≡ n = omega (arith, r.1) in
      let found : HalfEdge = record { start = h.start; dir = dir_of n; end = h.end; piece = None } in
      let one : found ≡ h =
      from_parts found h refl (dir_is (dir_of n) h.dir (same ∙ sym b.direction)) refl (sym b.plain) in
      to_sorted p (sheet_turns p.corners sheet).0 h
      (member_right (both_ways 1 p.pieces) (border_parts p.corners p.pieces) h
      (member_flat (side_parts p.pieces) (sides_of p.corners) s h m
      (subst (Member (side_parts p.pieces s)) one part)))

  piece_kind : (h : HalfEdge) → IsPieceWay p sheet rules h → IsOfPiece p h
  piece_kind h w =
      let k = w.number in
      let q = w.piece in
      let from : 1 ≤ k = numbered_from 1 p.pieces k q w.numbered in
      let number : k ≡ k - 1 + 1 = omega (arith, from) in
      record {
        place = k - 1;
        piece = q;
        stands = place_of_number 1 p.pieces k q w.numbered;
        number = elim w.way [
          | inl at ↦ ap (λ (g : HalfEdge). g.piece) at ∙ ap Some number
          | inr at ↦ ap (λ (g : HalfEdge). g.piece) at ∙ ap Some number
        ];
        ends = elim w.way [
          | inl at ↦ inl (ap (λ (g : HalfEdge). g.start) at, ap (λ (g : HalfEdge). g.end) at)
          | inr at ↦ inr (ap (λ (g : HalfEdge). g.start) at, ap (λ (g : HalfEdge). g.end) at)
        ];
      }

  few_dir : (h : HalfEdge) → dir_number h.dir < 16
  few_dir h = omega (arith, h.dir.in_range)

  -- half-edges of one piece with the same ends are one
  one_way : (g h : HalfEdge) → Runs g → Runs h → g.start ≡ h.start → g.end ≡ h.end → g.piece ≡ h.piece → g ≡ h
  one_way g h run_g run_h start end piece =
      let run : GoesAlong (dir_number g.dir) h.start h.end =
      subst (λ (z : Point). GoesAlong (dir_number g.dir) z h.end) start
      (subst (λ (z : Point). GoesAlong (dir_number g.dir) g.start z) end run_g) in
      from_parts g h start
      (dir_is g.dir h.dir
      (along_unique (dir_number g.dir) (dir_number h.dir) (position_of h.start) (position_of h.end)
      (few_dir g) (few_dir h) run run_h)) end piece

  piece_of_kind : (h : HalfEdge) → Runs h → IsOfPiece p h → Member hs h
  piece_of_kind h run w =
      let q = w.piece in
      let k = w.place + 1 in
      let at : IsNumbered 1 p.pieces k q = number_of_place 1 p.pieces w.place k q w.stands (omega arith) in
      let ways = ways_in p sheet rules k q at in
      elim w.ends [
        | inl e ↦ subst (Member hs)
            (one_way (forward k q) h (forward_runs k q) run (sym e.0) (sym e.1) (sym w.number)) ways.0
        | inr e ↦ subst (Member hs)
            (one_way (backward k q) h (backward_runs k q) run (sym e.0) (sym e.1) (sym w.number)) ways.1
      ]

  pub half_edges_are : (h : HalfEdge) → Contains hs h ↔ IsHalfEdge p h
  half_edges_are h = (
    (λ c.
        let directed = (sheet_turns p.corners sheet).0 in
        let m = member hs h c in
        record {
          runs = runs p directed h m;
          kind = elim (kind_of p sheet rules h (from_sorted p directed h m)) [
            | inl w ↦ inl (piece_kind h w)
            | inr b ↦ inr (border_kind h b)
          ];
        }),
    (λ k.
        contained hs h
        (elim k.kind [ inl w ↦ piece_of_kind h k.runs w | inr b ↦ border_of_kind h k.runs b ])),
  )
