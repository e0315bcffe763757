-- The bend at a corner is made of the sides at it.
use Rattle.std.proofs.Common.{◌≡◌, ℕ, zero, suc, ◌-◌, ◌<◌, List, [], ◌∷◌, length, get_or, Option, None, Some, refl, ap, ◌∙◌, arith}
use Rattle.std.specs.Prelude.{slice_get}
use Rattle.std.proofs.lemmas.List.{length-map}
use Rattle.plane_geometry.specs.declared.Point.{Point}
use Rattle.plane_geometry.specs.Polygon.{side_direction, sides_from}
use Rattle.crease_model.specs.NewSheet.{Bend, bends_from, last_direction, side_directions}
use Rattle.crease_model.specs.Laws.{bend_at, BendsAreNeighbours}

length-sides_from : (first : Point) (ps : List Point) → length (sides_from first ps) ≡ length ps
length-sides_from first [] = refl
length-sides_from first (p ∷ []) = refl
length-sides_from first (p ∷ q ∷ ps) = ap suc (length-sides_from first (q ∷ ps))

length-directions : (corners : List Point) → length (side_directions corners) ≡ length corners
length-directions [] = refl
length-directions (p ∷ ps) = length-map (sides_from p (p ∷ ps)) side_direction ∙ length-sides_from p (p ∷ ps)

length-bends : (before : Option ℕ) (ds : List (Option ℕ)) → length (bends_from before ds) ≡ length ds
length-bends before [] = refl
length-bends before (d ∷ ds) = ap suc (length-bends d ds)

abbrev bend_of : Option ℕ → Option ℕ → Bend
bend_of before after = record { before = before; after = after }

later_bend : (before : Option ℕ) (ds : List (Option ℕ)) (k : ℕ) → suc k < length ds
    → slice_get (bends_from before ds) (suc k) ≡ Some (bend_of (get_or ds k None) (get_or ds (suc k) None))
later_bend before [] k few = absurd (omega arith)
later_bend before (d ∷ []) k few = absurd (omega arith)
later_bend before (d ∷ e ∷ ds) zero few = refl
later_bend before (d ∷ e ∷ ds) (suc k) few = later_bend d (e ∷ ds) k (omega arith)

last_at : (o d : Option ℕ) (ds : List (Option ℕ))
    → last_direction o (d ∷ ds) ≡ get_or (d ∷ ds) (length ds) None
last_at o d [] = refl
last_at o d (e ∷ ds) = last_at d e ds

at_place : (ds : List (Option ℕ)) (k : ℕ) → k < length ds
    → slice_get (bends_from (last_direction None ds) ds) k ≡ Some (bend_at ds k)
at_place [] k few = absurd (omega arith)
at_place (d ∷ ds) zero few =
    let end : length ds ≡ length (d ∷ ds) - 1 = omega arith in
    ap (λ o. Some (bend_of o d)) (last_at None d ds ∙ ap (λ n. get_or (d ∷ ds) n None) end)
at_place (d ∷ ds) (suc k) few =
    later_bend (last_direction None (d ∷ ds)) (d ∷ ds) k few

pub bends_are_neighbours : BendsAreNeighbours
bends_are_neighbours corners = (
  length-bends (last_direction None (side_directions corners)) (side_directions corners)
      ∙ length-directions corners,
  λ k few. at_place (side_directions corners) k (omega (arith, few, length-directions corners)),
)
