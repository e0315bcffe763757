-- The last side goes from the last corner to the first.
use Rattle.std.proofs.Common.{◌≡◌, ℕ, ◌-◌, ◌<◌, List, [], ◌∷◌, map, length, get_or, Option, None, refl, sym, ap, ap₂, ◌∙◌, arith}
use Rattle.plane_geometry.specs.declared.Point.{Point}
use Rattle.plane_geometry.specs.Position.{position_of}
use Rattle.plane_geometry.specs.Direction.{direction_of}
use Rattle.plane_geometry.specs.Polygon.{side_direction, sides_from}
use Rattle.crease_model.specs.NewSheet.{last_direction, side_directions}

last_from : (f p d : Point) (ps : List Point) (o : Option ℕ)
    → last_direction o (map side_direction (sides_from f (p ∷ ps)))
    ≡ direction_of (position_of (get_or (p ∷ ps) (length ps) d)) (position_of f)
last_from f p d [] o = refl
last_from f p d (q ∷ []) o = last_from f q d [] (direction_of (position_of p) (position_of q))
last_from f p d (q ∷ r ∷ rs) o = last_from f q d (r ∷ rs) (direction_of (position_of p) (position_of q))

pub last_side : (corners : List Point) (p q : Point) → 0 < length corners
    → p ≡ get_or corners (length corners - 1) p → q ≡ get_or corners 0 q
    → last_direction None (side_directions corners) ≡ direction_of (position_of p) (position_of q)
last_side [] p q few e g = absurd (omega arith)
last_side (f ∷ ps) p q few e g =
    let last : p ≡ get_or (f ∷ ps) (length ps) p = e ∙ ap (λ k. get_or (f ∷ ps) k p) (omega arith) in
    last_from f f p ps None ∙ ap₂ (λ a b. direction_of (position_of a) (position_of b)) (sym last) (sym g)
