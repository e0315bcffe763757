-- No half-edge of a pattern is listed twice.
use Rattle.std.proofs.Common.{◌≡◌, ℕ, zero, suc, ◌+◌, ◌%◌, ◌<◌, ◌≤◌, true, inl, inr, List, [], ◌∷◌, ◌++◌, flat_map, None, Some, refl, sym, ap, subst, ◌∙◌, arith}
use Rattle.std.specs.Prelude.{⊤, slice_get}
use Rattle.std.specs.List.{list_all}
use Rattle.std.specs.Ordering.{is_lt}
use Rattle.std.proofs.lemmas.Bool.{cond_both, and_parts}
use Rattle.plane_geometry.specs.declared.Point.{Point}
use Rattle.plane_geometry.specs.declared.Dir.{Dir}
use Rattle.plane_geometry.specs.DirView.{dir_number, dir_of}
use Rattle.plane_geometry.specs.Position.{position_of}
use Rattle.plane_geometry.specs.Polygon.{Side, sides_of, side_number, has_direction}
use Rattle.crease_model.specs.declared.Piece.{Piece}
use Rattle.crease_model.specs.Sheet.{is_sheet}
use Rattle.crease_model.specs.PartLaws.{direction_is_along}
use Rattle.crease_model.specs.View.{PatternView}
use Rattle.line_split.specs.MemberLaws.{Member}
use Rattle.face_builder.specs.declared.half_edges.HalfEdge.{HalfEdge}
use Rattle.face_builder.specs.HalfEdge.{forward, backward, both_ways, parts_from, side_parts, border_parts, all_half_edges, compare_half_edges, half_edges_of}
use Rattle.face_builder.specs.Sorted.{sorted_with, sorted_list}
use Rattle.face_builder.specs.Vertices.{vertices_along}
use Rattle.face_builder.proofs.AtBorder.{part_ends}
use Rattle.face_builder.proofs.Border.{row_goes}
use Rattle.plane_geometry.specs.Ends.{GoesAlong}
use Rattle.face_builder.proofs.Chains.{Chain, member_either, flat_member}
use Rattle.face_builder.proofs.Departures.{row_later, not_along_itself}
use Rattle.face_builder.proofs.Nexts.{member_of_place}
use Rattle.face_builder.proofs.Ordered.{half_edges_total, tied_half_edges}
use Rattle.face_builder.proofs.Sheets.{Lift, sheet_sides, lift_apart}
use Rattle.face_builder.proofs.Sides.{all_sides}
use Rattle.face_builder.proofs.Sorting.{with_member, in_order_member}

abbrev pub Distinct : {X : Type 0} → List X → Type 0
Distinct [] = ⊤
Distinct (x ∷ xs) = (Member xs x → ⊥) × Distinct xs

pub distinct_places : {X : Type 0} (xs : List X) → Distinct xs → (i j : ℕ) (x : X) → slice_get xs i ≡ Some x
    → slice_get xs j ≡ Some x → i ≡ j
distinct_places [] d i j x e f = cc
distinct_places (y ∷ ys) d zero zero x e f = refl
distinct_places (y ∷ ys) d zero (suc j) x e f =
    let same : y ≡ x = cc in
    absurd (d.0 (subst (Member ys) (sym same) (member_of_place ys j x f)))
distinct_places (y ∷ ys) d (suc i) zero x e f =
    let same : y ≡ x = cc in
    absurd (d.0 (subst (Member ys) (sym same) (member_of_place ys i x e)))
distinct_places (y ∷ ys) d (suc i) (suc j) x e f = ap suc (distinct_places ys d.1 i j x e f)

distinct_joined : {X : Type 0} (xs ys : List X) → Distinct xs → Distinct ys
    → ((z : X) → Member xs z → Member ys z → ⊥) → Distinct (xs ++ ys)
distinct_joined [] ys d e apart = e
distinct_joined (x ∷ xs) ys d e apart = (
  (λ m. elim (member_either xs ys x m) [ inl n ↦ d.0 n | inr n ↦ apart x (inl refl) n ]),
  distinct_joined xs ys d.1 e (λ z m n. apart z (inr m) n),
)

distinct_with : (x : HalfEdge) (ws : List HalfEdge) → Distinct (x ∷ ws)
    → Distinct (sorted_with compare_half_edges x ws)
distinct_with x [] d = d
distinct_with x (w ∷ ws) d =
    cond_both (is_lt (compare_half_edges w x)) (w ∷ sorted_with compare_half_edges x ws)
    (x ∷ w ∷ ws) Distinct
    (λ e. (
      (λ m.
          elim (with_member compare_half_edges half_edges_total tied_half_edges x ws w m) [
            | inl at ↦ d.0 (inl (sym at))
            | inr n ↦ d.1.0 n
          ]),
      distinct_with x ws ((λ m. d.0 (inr m)), d.1.1),
    ))
    (λ e. d)

distinct_in_order : (xs : List HalfEdge) → Distinct xs → Distinct (sorted_list compare_half_edges xs)
unfolding sorted_list
distinct_in_order [] d = tt
distinct_in_order (x ∷ xs) d =
    distinct_with x (sorted_list compare_half_edges xs) (
      (λ m. d.0 (in_order_member compare_half_edges half_edges_total tied_half_edges xs x m)),
      distinct_in_order xs d.1,
    )

-- ---- pieces

way_number : (k : ℕ) (ps : List Piece) (h : HalfEdge) → Member (both_ways k ps) h → (j : ℕ) × (k ≤ j)
    × (h.piece ≡ Some j)
way_number k [] h m = absurd m
way_number k (p ∷ ps) h (inl at) = (k, omega arith, sym (ap (λ (g : HalfEdge). g.piece) at))
way_number k (p ∷ ps) h (inr (inl at)) = (k, omega arith, sym (ap (λ (g : HalfEdge). g.piece) at))
way_number k (p ∷ ps) h (inr (inr m)) = let r = way_number (k + 1) ps h m in (r.0, omega (arith, r.1), r.2)

some_number : (j k : ℕ) → Some j ≡ Some k → j ≡ k
some_number j k e = cc

not_numbered : (k : ℕ) (ps : List Piece) (h : HalfEdge) → h.piece ≡ Some k → Member (both_ways (k + 1) ps) h
    → ⊥
not_numbered k ps h at m =
    let r = way_number (k + 1) ps h m in
    let same = some_number r.0 k (sym r.2 ∙ at) in
    absurd (omega (arith, r.1, same))

ways_distinct : (k : ℕ) (ps : List Piece) → Distinct (both_ways k ps)
ways_distinct k [] = tt
ways_distinct k (p ∷ ps) = (
  (λ m.
      elim m [
        | inl at ↦
            (let d = ap (λ (g : HalfEdge). dir_number g.dir) at in absurd (omega (arith, d)))
        | inr n ↦ not_numbered k ps (forward k p) refl n
      ]),
  ((λ m. not_numbered k ps (backward k p) refl m), ways_distinct (k + 1) ps),
)

-- ---- the border

part_plain : (d : Dir) (u : Point) (vs : List Point) (h : HalfEdge) → Member (parts_from d u vs) h
    → (h.piece ≡ None) × (h.dir ≡ d)
part_plain d u [] h m = absurd m
part_plain d u (v ∷ vs) h (inl at) =
    (sym (ap (λ (g : HalfEdge). g.piece) at), sym (ap (λ (g : HalfEdge). g.dir) at))
part_plain d u (v ∷ vs) h (inr m) = part_plain d v vs h m

parts_distinct : (d : Dir) (n : ℕ) → n < 16 → (u : Point) (vs : List Point) → Chain (GoesAlong n) (u ∷ vs)
    → Distinct (parts_from d u vs)
parts_distinct d n few u [] c = tt
parts_distinct d n few u (v ∷ vs) c = (
  (λ m. not_along_itself n (position_of u) few
      (row_later n u (v ∷ vs) u c
      (part_ends d v vs (record { start = u; dir = d; end = v; piece = None }) m).0)),
  parts_distinct d n few v vs c.1,
)

sides_distinct : (pieces : List Piece) (l h : ℕ) (sides : List Side) → h ≤ l + 16 → Lift l h sides
    → list_all has_direction sides ≡ true
    → Distinct (flat_map (side_parts pieces) sides)
sides_distinct pieces l h [] near f e = tt
sides_distinct pieces l h (s ∷ ss) near f e =
    let k = and_parts (has_direction s) (list_all has_direction ss) e in
    let a = direction_is_along (position_of s.start) (position_of s.end) k.0 in
    let n = side_number s in
    distinct_joined (side_parts pieces s) (flat_map (side_parts pieces) ss)
    (parts_distinct (dir_of n) n a.1 s.start (vertices_along s pieces ++ s.end ∷ [])
    (row_goes s pieces n a.1 a.0))
    (sides_distinct pieces (f.0 + 1) h ss (omega (arith, near, f.1)) f.3 k.1)
    (λ z m o.
    let r = flat_member (side_parts pieces) ss z o in
    let t = r.0 in
    let here = part_plain (dir_of n) s.start (vertices_along s pieces ++ s.end ∷ []) z m in
    let there = part_plain (dir_of (side_number t)) t.start (vertices_along t pieces ++ t.end ∷ []) z r.2 in
    let same : n % 16 ≡ side_number t % 16 = ap dir_number (sym here.1 ∙ there.1) in
    let b = direction_is_along (position_of t.start) (position_of t.end) (all_sides ss t k.1 r.1) in
    lift_apart l h s ss t near f r.1 (omega (arith, same, a.1, b.1)))

border_plain : (corners : List Point) (pieces : List Piece) (h : HalfEdge)
    → Member (border_parts corners pieces) h → h.piece ≡ None
border_plain corners pieces h m =
    let r = flat_member (side_parts pieces) (sides_of corners) h m in
    (part_plain (dir_of (side_number r.0)) r.0.start (vertices_along r.0 pieces ++ r.0.end ∷ []) h r.2).0

some_not_none : (j : ℕ) → Some j ≡ None → ⊥
some_not_none j e = cc

pub half_edges_distinct : (p : PatternView) → is_sheet p.corners ≡ true → Distinct (half_edges_of p)
unfolding half_edges_of
half_edges_distinct p sheet =
    let sides = sheet_sides p.corners sheet in
    distinct_in_order (all_half_edges p)
    (distinct_joined (both_ways 1 p.pieces) (border_parts p.corners p.pieces) (ways_distinct 1 p.pieces)
    (sides_distinct p.pieces sides.low (sides.low + 16) (sides_of p.corners)
    (omega arith) sides.lifted sides.directed)
    (λ z m n.
    let r = way_number 1 p.pieces z m in some_not_none r.0 (sym r.2 ∙ border_plain p.corners p.pieces z n)))
