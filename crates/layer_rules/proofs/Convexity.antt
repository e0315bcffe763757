-- Convex faces have sides in the 16 directions, and each of a list of convex faces is convex.
use Rattle.std.proofs.Common.{◌≡◌, Bool, true, false, List, cond, reverse, sym, ap, ◌∙◌}
use Rattle.std.specs.Bool.{IsTrue}
use Rattle.std.proofs.lemmas.Bool.{and_parts}
use Rattle.plane_geometry.specs.declared.Point.{Point}
use Rattle.plane_geometry.specs.Polygon.{have_directions, is_convex}
use Rattle.isometry_map.specs.declared.folded.FoldedFace.{FoldedFace}
use Rattle.isometry_map.specs.Folded.{is_convex_face}

pub directed : (corners : List Point) → IsTrue (is_convex corners) → IsTrue (have_directions corners)
unfolding is_convex
directed corners h = (and_parts _ _ h).0

pub unturned_directed : (face : FoldedFace) (corners : List Point) → IsTrue (is_convex_face face)
    → face.turned ≡ false → corners ≡ face.corners → IsTrue (have_directions corners)
unturned_directed face corners h off e =
    directed corners
    (ap is_convex (e ∙ ap (λ (b : Bool). cond b (reverse face.corners) face.corners) (sym off)) ∙ h)

pub turned_directed : (face : FoldedFace) (corners : List Point) → IsTrue (is_convex_face face)
    → face.turned ≡ true → corners ≡ reverse face.corners → IsTrue (have_directions corners)
turned_directed face corners h on e =
    directed corners
    (ap is_convex (e ∙ ap (λ (b : Bool). cond b (reverse face.corners) face.corners) (sym on)) ∙ h)
