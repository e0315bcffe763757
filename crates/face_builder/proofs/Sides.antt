-- Each half-edge of a pattern runs in its direction, and ends where another one begins.
use Rattle.std.proofs.Common.{◌≡◌, ℕ, ◌+◌, ◌%◌, true, ◌⊎◌, inl, inr, List, [], ◌∷◌, ◌++◌, refl, sym, ap, subst, ◌∙◌, arith}
use Rattle.std.specs.List.{list_all}
use Rattle.std.proofs.lemmas.Bool.{and_parts}
use Rattle.plane_geometry.specs.declared.Point.{Point}
use Rattle.plane_geometry.specs.declared.Dir.{Dir}
use Rattle.plane_geometry.specs.DirView.{dir_number, dir_of}
use Rattle.plane_geometry.specs.Position.{position_of}
use Rattle.plane_geometry.specs.Polygon.{Side, sides_from, sides_of, side_number, has_direction}
use Rattle.crease_model.specs.declared.Piece.{Piece}
use Rattle.crease_model.specs.PartLaws.{direction_is_along}
use Rattle.crease_model.specs.View.{PatternView}
use Rattle.line_split.specs.MemberLaws.{Member}
use Rattle.face_builder.specs.declared.half_edges.HalfEdge.{HalfEdge}
use Rattle.face_builder.specs.HalfEdge.{forward, backward, both_ways, side_parts, border_parts, all_half_edges, compare_half_edges, half_edges_of}
use Rattle.face_builder.specs.Vertices.{vertices_along}
use Rattle.face_builder.proofs.Border.{Runs, forward_runs, backward_runs, row_goes, part_is, part_leads, first_part}
use Rattle.plane_geometry.specs.Ends.{GoesAlong}
use Rattle.face_builder.proofs.Chains.{Chain, member_left, member_right, member_either, member_flat, flat_member}
use Rattle.face_builder.proofs.Ordered.{half_edges_total, tied_half_edges}
use Rattle.face_builder.proofs.Sorting.{in_order_member, member_in_order}

-- some half-edge begins there
abbrev pub HasExit : List HalfEdge → Point → Type 0
HasExit hs v = (g : HalfEdge) × Member hs g × (g.start ≡ v)

-- ---- pieces

pub way_is : (k : ℕ) (ps : List Piece) (h : HalfEdge) → Member (both_ways k ps) h
    → (j : ℕ) × (p : Piece) × Member ps p × ((h ≡ forward j p) ⊎ (h ≡ backward j p))
    × Member (both_ways k ps) (forward j p) × Member (both_ways k ps) (backward j p)
way_is k [] h m = absurd m
way_is k (p ∷ ps) h (inl at) = (k, p, inl refl, inl (sym at), inl refl, inr (inl refl))
way_is k (p ∷ ps) h (inr (inl at)) = (k, p, inl refl, inr (sym at), inl refl, inr (inl refl))
way_is k (p ∷ ps) h (inr (inr m)) =
    let r = way_is (k + 1) ps h m in (r.0, r.1, inr r.2, r.3, inr (inr r.4), inr (inr r.5))

piece_runs : (k : ℕ) (ps : List Piece) (h : HalfEdge) → Member (both_ways k ps) h → Runs h
piece_runs k ps h m =
    let r = way_is k ps h m in
    elim r.3 [
      | inl at ↦ subst (λ (g : HalfEdge). Runs g) (sym at) (forward_runs r.0 r.1)
      | inr at ↦ subst (λ (g : HalfEdge). Runs g) (sym at) (backward_runs r.0 r.1)
    ]

piece_leads : (k : ℕ) (ps : List Piece) (h : HalfEdge) → Member (both_ways k ps) h
    → HasExit (both_ways k ps) h.end
piece_leads k ps h m =
    let r = way_is k ps h m in
    elim r.3 [
      | inl at ↦ (backward r.0 r.1, r.5, sym (ap (λ (g : HalfEdge). g.end) at))
      | inr at ↦ (forward r.0 r.1, r.4, sym (ap (λ (g : HalfEdge). g.end) at))
    ]

-- ---- the border

side_runs : (pieces : List Piece) (side : Side) (h : HalfEdge) → has_direction side ≡ true
    → Member (side_parts pieces side) h → Runs h
side_runs pieces side h has m =
    let n = side_number side in
    let along = direction_is_along (position_of side.start) (position_of side.end) has in
    let same : n % 16 ≡ n = omega (arith, along.1) in
    let row = subst (λ k. Chain (GoesAlong k) (side.start ∷ vertices_along side pieces ++ side.end ∷ []))
    (sym same) (row_goes side pieces n along.1 along.0) in
    let part = part_is (dir_of n) side.start (vertices_along side pieces ++ side.end ∷ []) h row m in
    subst (λ (d : Dir). GoesAlong (dir_number d) h.start h.end) (sym part.dir) part.runs

pub all_sides : (sides : List Side) (side : Side) → list_all has_direction sides ≡ true → Member sides side
    → has_direction side ≡ true
all_sides [] side e m = absurd m
all_sides (s ∷ ss) side e (inl at) =
    subst (λ (t : Side). has_direction t ≡ true) at
    (and_parts (has_direction s) (list_all has_direction ss) e).0
all_sides (s ∷ ss) side e (inr m) =
    all_sides ss side (and_parts (has_direction s) (list_all has_direction ss) e).1 m

-- a side ends where another one starts
abbrev pub StartsIn : List Side → Point → Type 0
StartsIn sides v = (s : Side) × Member sides s × (s.start ≡ v)

first_side : (f p : Point) (ps : List Point) → StartsIn (sides_from f (p ∷ ps)) p
first_side f p [] = (record { start = p; end = f }, inl refl, refl)
first_side f p (q ∷ ps) = (record { start = p; end = q }, inl refl, refl)

side_leads_from : (f p : Point) (ps : List Point) (side : Side) → Member (sides_from f (p ∷ ps)) side
    → (side.end ≡ f) ⊎ StartsIn (sides_from f (p ∷ ps)) side.end
side_leads_from f p [] side (inl at) = inl (sym (ap (λ (s : Side). s.end) at))
side_leads_from f p [] side (inr none) = absurd none
side_leads_from f p (q ∷ ps) side (inl at) =
    let s = first_side f q ps in inr (s.0, inr s.1, s.2 ∙ ap (λ (t : Side). t.end) at)
side_leads_from f p (q ∷ ps) side (inr m) =
    elim (side_leads_from f q ps side m) [ inl at ↦ inl at | inr s ↦ inr (s.0, inr s.1, s.2) ]

pub side_leads : (corners : List Point) (side : Side) → Member (sides_of corners) side
    → StartsIn (sides_of corners) side.end
side_leads [] side m = absurd m
side_leads (p ∷ ps) side m =
    elim (side_leads_from p p ps side m) [
      | inl at ↦ (let s = first_side p p ps in (s.0, s.1, s.2 ∙ sym at))
      | inr s ↦ s
    ]

pub border_leads : (corners : List Point) (pieces : List Piece) (h : HalfEdge)
    → Member (border_parts corners pieces) h
    → HasExit (border_parts corners pieces) h.end
border_leads corners pieces h m =
    let r = flat_member (side_parts pieces) (sides_of corners) h m in
    let side = r.0 in
    elim (part_leads (dir_of (side_number side)) side.start (vertices_along side pieces) side.end h r.2) [
      | inl at ↦
          (let next = side_leads corners side r.1 in
          let part = first_part (dir_of (side_number next.0)) next.0.start
          (vertices_along next.0 pieces) next.0.end in (
            part.0,
            member_flat (side_parts pieces) (sides_of corners) next.0 part.0 next.1 part.1,
            part.2
                ∙ next.2 ∙ sym at,
          ))
      | inr g ↦ (g.0, member_flat (side_parts pieces) (sides_of corners) side g.0 r.1 g.1, g.2)
    ]

-- ---- all half-edges

module _ (p : PatternView) (directed : list_all has_direction (sides_of p.corners) ≡ true) where
  pub from_sorted : (h : HalfEdge) → Member (half_edges_of p) h → Member (all_half_edges p) h
  unfolding half_edges_of
  from_sorted h m = in_order_member compare_half_edges half_edges_total tied_half_edges (all_half_edges p) h m

  pub to_sorted : (h : HalfEdge) → Member (all_half_edges p) h → Member (half_edges_of p) h
  unfolding half_edges_of
  to_sorted h m = member_in_order compare_half_edges half_edges_total tied_half_edges (all_half_edges p) h m

  pub runs : (h : HalfEdge) → Member (half_edges_of p) h → Runs h
  runs h m =
      elim (member_either (both_ways 1 p.pieces) (border_parts p.corners p.pieces) h (from_sorted h m)) [
        | inl n ↦ piece_runs 1 p.pieces h n
        | inr n ↦
            (let r = flat_member (side_parts p.pieces) (sides_of p.corners) h n in
            side_runs p.pieces r.0 h (all_sides (sides_of p.corners) r.0 directed r.1) r.2)
      ]

  pub leads : (h : HalfEdge) → Member (half_edges_of p) h → HasExit (half_edges_of p) h.end
  leads h m =
      elim (member_either (both_ways 1 p.pieces) (border_parts p.corners p.pieces) h (from_sorted h m)) [
        | inl n ↦
            (let x = piece_leads 1 p.pieces h n in (
              x.0,
              to_sorted x.0
                  (member_left (both_ways 1 p.pieces) (border_parts p.corners p.pieces) x.0 x.1),
              x.2,
            ))
        | inr n ↦
            (let x = border_leads p.corners p.pieces h n in (
              x.0,
              to_sorted x.0
                  (member_right (both_ways 1 p.pieces) (border_parts p.corners p.pieces) x.0 x.1),
              x.2,
            ))
      ]
