-- Which circles there are of two pairs with one first face.
use Rattle.std.proofs.Common.{◌≡◌, ℕ, ◌<◌, ◌≤◌, inl, inr, List, Option, Some, sym, ap, subst, ◌∙◌, arith}
use Rattle.std.specs.Prelude.{◌↔◌}
use Rattle.std.specs.List.{AllPairs, Contains, slice_get}
use Rattle.plane_geometry.specs.Position.{Position}
use Rattle.open_region.specs.declared.Region.{Region}
use Rattle.open_region.specs.Region.{IsInRegion}
use Rattle.isometry_map.specs.Folded.{FoldedView}
use Rattle.layer_rules.specs.declared.face_pairs.FacePair.{FacePair}
use Rattle.layer_rules.specs.Faces.{IsInside}
use Rattle.layer_rules.specs.FacePairs.{Precedes}
use Rattle.layer_rules.specs.Circles.{IsCommon, AreOrdered, IsCircle}
use Rattle.layer_rules.proofs.SignPlaces.{pair_of, get_contains, get_below, get_reads}
use Rattle.layer_rules.proofs.CircleLists.{get_ordered, circle_faces}

module _ (shape : FoldedView) (pairs : List FacePair) (up : AllPairs Precedes pairs) (p t : ℕ) (pair other : FacePair) (e : slice_get pairs p ≡ Some pair) (f : slice_get pairs t ≡ Some other) where
  pub no_middle : (Contains pairs (pair_of pair.j other.j) → ⊥) → (jk : ℕ) → IsCircle shape pairs p jk t → ⊥
  no_middle not_there jk c =
      let faces = circle_faces shape pairs up p jk t pair other c e f in
      not_there
      (subst (λ (q : FacePair). Contains pairs q) (λ i. pair_of (faces.second i) (faces.third i))
      (get_contains pairs jk (pair_of c.j c.k) c.second))

  pub no_point : (common region : Region) → IsCommon shape pair common
      → ((q : Position) → IsInRegion q region ↔ IsInside shape other.j q)
      → ((q : Position) × IsInRegion q common × IsInRegion q region → ⊥) → (jk : ℕ)
      → IsCircle shape pairs p jk t → ⊥
  no_point common region both at apart jk c =
      let faces = circle_faces shape pairs up p jk t pair other c e f in
      let q = c.point in
      apart (
        q,
        (both q).1 (
          subst (λ (n : ℕ). IsInside shape n q) faces.first c.in_first,
          subst (λ (n : ℕ). IsInside shape n q) faces.second c.in_second,
        ),
        (at q).1 (subst (λ (n : ℕ). IsInside shape n q) faces.third c.in_third),
      )

  pub one_circle : (common region : Region) (m : ℕ) → IsCommon shape pair common
      → ((q : Position) → IsInRegion q region ↔ IsInside shape other.j q) → ((q : Position) × IsInRegion q common × IsInRegion q region)
      → p < t → other.i ≡ pair.i → pair.i < pair.j → slice_get pairs m ≡ Some (pair_of pair.j other.j)
      → IsCircle shape pairs p m t
  one_circle common region m both at point later same lower middle =
      let halves = (both point.0).0 point.1 in
      let higher : pair.j < other.j =
      elim (get_ordered Precedes pairs p t pair other up later e f) [
        | inl less ↦ omega (arith, less, same)
        | inr equal ↦ equal.1
      ] in
      record {
        i = pair.i;
        j = pair.j;
        k = other.j;
        ascending = lower;
        still_ascending = higher;
        first = e;
        second = middle;
        third = f ∙ ap (λ (n : ℕ). Some (pair_of n other.j)) same;
        point = point.0;
        in_first = halves.0;
        in_second = halves.1;
        in_third = (at point.0).0 point.2;
      }

abbrev pub InRange : ℕ → FacePair → Type 0
InRange n pair = (1 ≤ pair.i) × (pair.i < pair.j) × (pair.j ≤ n)

pub in_range_at : (n : ℕ) (pairs : List FacePair) (m : ℕ) (pair : FacePair) → AreOrdered n pairs
    → slice_get pairs m ≡ Some pair → InRange n pair
in_range_at n pairs m pair ord e =
    subst (InRange n) (get_reads pairs m pair pair e) (ord.in_range m pair (get_below pairs m pair e))
