-- Transitivity: three folded faces with a point in common are not above each other in a circle.
use Rattle.std.specs.Prelude.{◌≡◌, ℕ, ◌<◌, Bool, List, Some}
use Rattle.plane_geometry.specs.Position.{Position}
use Rattle.isometry_map.specs.Folded.{FoldedView}
use Rattle.sign_rules.specs.declared.sign.Sign.{Sign}
use Rattle.layer_rules.specs.declared.face_pairs.FacePair.{FacePair}
use Rattle.layer_rules.specs.Faces.{IsInside}
use Rattle.layer_rules.specs.Above.{above}

-- faces i < j < k, and some point is strictly inside all three when folded
pub record IsTriple (shape : FoldedView) (i j k : ℕ) : Type 0 where
  pub ascending : i < j
  pub still_ascending : j < k
  pub point : Position
  pub in_first : IsInside shape i point
  pub in_second : IsInside shape j point
  pub in_third : IsInside shape k point

-- the list decides the three pairs of such faces, and puts each above the next, or each below the next
abbrev pub BreaksTransitivity : FoldedView → List FacePair → List Sign → Type 0
BreaksTransitivity shape pairs signs =
    (i : ℕ) × (j : ℕ) × (k : ℕ) × (x : Bool) × IsTriple shape i j k
    × (above pairs signs i j ≡ Some x) × (above pairs signs j k ≡ Some x) × (above pairs signs k i ≡ Some x)
