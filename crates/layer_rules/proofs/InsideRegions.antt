-- A folded face and its region have the same points.
use Rattle.std.proofs.Common.{◌≡◌, ℕ, zero, suc, ◌-◌, ◌≤◌, List, [], ◌∷◌, Some, subst, arith}
use Rattle.std.specs.Prelude.{◌↔◌}
use Rattle.std.specs.Bool.{IsTrue}
use Rattle.std.specs.List.{slice_get}
use Rattle.std.specs.Option.{IsSomeAnd}
use Rattle.plane_geometry.specs.Position.{Position}
use Rattle.open_region.specs.declared.Region.{Region}
use Rattle.open_region.specs.Region.{IsInRegion}
use Rattle.isometry_map.specs.declared.folded.FoldedFace.{FoldedFace}
use Rattle.isometry_map.specs.Folded.{FoldedView}
use Rattle.layer_rules.specs.Faces.{is_inside_face, IsInside, Overlap}
use Rattle.layer_rules.specs.Insides.{AreInsides}

region_is : (r s : Region) → Some r ≡ Some s → r ≡ s
region_is r s e = cc

at_place : (faces : List FoldedFace) (regions : List Region) (n : ℕ) (region : Region)
    → AreInsides faces regions → slice_get regions n ≡ Some region → (p : Position)
    → IsInRegion p region ↔ IsSomeAnd (slice_get faces n) (λ face. IsTrue (is_inside_face p face))
at_place faces [] n region h e p = cc
at_place [] (r ∷ rs) n region h e p = absurd h
at_place (f ∷ fs) (r ∷ rs) zero region h e p =
    subst (λ (t : Region). IsInRegion p t ↔ IsTrue (is_inside_face p f)) (region_is r region e) (h.0 p)
at_place (f ∷ fs) (r ∷ rs) (suc n) region h e p = at_place fs rs n region h.1 e p

pub inside_at : (shape : FoldedView) (regions : List Region) (f : ℕ) (region : Region)
    → AreInsides shape.faces regions → 1 ≤ f → slice_get regions (f - 1) ≡ Some region → (p : Position)
    → IsInRegion p region ↔ IsInside shape f p
inside_at shape regions zero region h first e p = absurd (omega arith)
inside_at shape regions (suc n) region h first e p =
    let one_less : suc n - 1 ≡ n = omega arith in
    at_place shape.faces regions n region h (subst (λ (k : ℕ). slice_get regions k ≡ Some region) one_less e) p

pub overlap_at : (shape : FoldedView) (f g : ℕ) (r s : Region)
    → ((p : Position) → IsInRegion p r ↔ IsInside shape f p)
    → ((p : Position) → IsInRegion p s ↔ IsInside shape g p)
    → ((p : Position) × IsInRegion p r × IsInRegion p s) ↔ Overlap shape f g
overlap_at shape f g r s first second =
    (λ x. (x.0, (first x.0).0 x.1, (second x.0).0 x.2), λ x. (x.0, (first x.0).1 x.1, (second x.0).1 x.2))
