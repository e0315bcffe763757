-- A face begins at the least of its corners.
use Rattle.std.proofs.Common.{◌≡◌, ℕ, zero, suc, ◌<◌, true, false, not, inl, inr, List, [], ◌∷◌, Some, refl, ap, subst, ◌∙◌, arith}
use Rattle.std.specs.Prelude.{slice_get}
use Rattle.std.specs.List.{list_all}
use Rattle.std.specs.Ordering.{is_lt, ordering_then}
use Rattle.std.specs.declared.cmp.Ordering.{Ordering}
use Rattle.std.specs.declared.cmp.Ordering.TheVariants.{Less, Equal, Greater}
use Rattle.std.proofs.lemmas.Bool.{and_from, not_from_false}
use Rattle.std.proofs.lemmas.Cmp.{tied_itself}
use Rattle.plane_geometry.specs.declared.Point.{Point}
use Rattle.plane_geometry.specs.Position.{position_of, compare_positions, compare_points}
use Rattle.plane_geometry.specs.Polygon.{sides_of, has_direction}
use Rattle.crease_model.specs.Sheet.{is_least_first}
use Rattle.crease_model.specs.View.{PatternView}
use Rattle.line_split.specs.MemberLaws.{Member}
use Rattle.face_builder.specs.declared.half_edges.HalfEdge.{HalfEdge}
use Rattle.face_builder.specs.HalfEdge.{all_half_edges, compare_half_edges, half_edges_of}
use Rattle.face_builder.specs.Faces.{corners_of}
use Rattle.face_builder.proofs.Nexts.{GoesOn, member_of_place}
use Rattle.face_builder.proofs.Ordered.{points_total, half_edges_total, tied_half_edges}
use Rattle.face_builder.proofs.Rounds.{IsRound}
use Rattle.face_builder.proofs.Sorting.{Up, in_order_up, order}

abbrev pub UpHalfEdges : List HalfEdge → Type 0
UpHalfEdges = Up compare_half_edges half_edges_total tied_half_edges

-- no later one is less
later_not_less : (x : HalfEdge) (xs : List HalfEdge) (z : HalfEdge) → UpHalfEdges (x ∷ xs) → Member xs z
    → is_lt (compare_half_edges z x) ≡ false
later_not_less x [] z u m = absurd m
later_not_less x (w ∷ ws) z u (inl at) =
    subst (λ (y : HalfEdge). is_lt (compare_half_edges y x) ≡ false) at u.0
later_not_less x (w ∷ ws) z u (inr m) =
    (order compare_half_edges half_edges_total tied_half_edges).chain z w x (later_not_less w ws z u.1 m) u.0

up_rest : (x : HalfEdge) (xs : List HalfEdge) → UpHalfEdges (x ∷ xs) → UpHalfEdges xs
up_rest x [] u = tt
up_rest x (y ∷ ys) u = u.1

pub later_place : (hs : List HalfEdge) (i k : ℕ) (x z : HalfEdge) → UpHalfEdges hs → i < k → slice_get hs i
    ≡ Some x
    → slice_get hs k ≡ Some z → is_lt (compare_half_edges z x) ≡ false
later_place [] i k x z u less e f = cc
later_place (y ∷ ys) zero zero x z u less e f = absurd (omega (arith, less))
later_place (y ∷ ys) zero (suc k) x z u less e f =
    let same : y ≡ x = cc in
    subst (λ (t : HalfEdge). is_lt (compare_half_edges z t) ≡ false) same
    (later_not_less y ys z u (member_of_place ys k z f))
later_place (y ∷ ys) (suc i) zero x z u less e f = absurd (omega (arith, less))
later_place (y ∷ ys) (suc i) (suc k) x z u less e f =
    later_place ys i k x z (up_rest y ys u) (omega (arith, less)) e f

starts_not_less : (o r : Ordering) → is_lt (ordering_then o r) ≡ false → is_lt o ≡ false
starts_not_less Less r e = e
starts_not_less Equal r e = refl
starts_not_less Greater r e = refl

all_not_less : (p : Point) (hs : List HalfEdge)
    → ((h : HalfEdge) → Member hs h → is_lt (compare_points h.start p) ≡ false)
    → list_all (λ q. not (is_lt (compare_positions (position_of q) (position_of p)))) (corners_of hs) ≡ true
all_not_less p [] all = refl
all_not_less p (h ∷ hs) all =
    and_from _ _ (not_from_false _ (all h (inl refl))) (all_not_less p hs (λ g m. all g (inr m)))

not_below_itself : (p : Point) → is_lt (compare_points p p) ≡ false
not_below_itself p = ap is_lt (tied_itself points_total p)

module _ (p : PatternView) (directed : list_all has_direction (sides_of p.corners) ≡ true) where
  pub sorted : UpHalfEdges (half_edges_of p)
  unfolding half_edges_of
  sorted = in_order_up compare_half_edges half_edges_total tied_half_edges (all_half_edges p)

  pub least_first : {goes : (h : HalfEdge) → Member (half_edges_of p) h → (g : HalfEdge)
      × GoesOn (half_edges_of p) h g}
      (face : List HalfEdge) → IsRound (half_edges_of p) goes face → is_least_first (corners_of face) ≡ true
  least_first face r =
      let low = r.first.start in
      ap (λ f. is_least_first (corners_of f)) r.whole
      ∙ all_not_less low (r.first ∷ r.others) (λ h m.
      elim m [
        | inl at ↦ subst (λ (g : HalfEdge). is_lt (compare_points g.start low) ≡ false) at
            (not_below_itself low)
        | inr n ↦
            (let k = r.behind h n in
            starts_not_less (compare_points h.start low) _
            (later_place (half_edges_of p) r.place k.0 r.first h sorted k.1 r.stands k.2))
      ])
