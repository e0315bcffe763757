-- Folded shapes: the images of faces and of creases.
use Rattle.std.specs.Prelude.{Bool, List, [], ◌∷◌, reverse, if◌then◌else◌}
use Rattle.std.specs.List.{list_all}
use Rattle.plane_geometry.specs.declared.Point.{Point}
use Rattle.plane_geometry.specs.Position.{position_of}
use Rattle.plane_geometry.specs.Multiple.{IsSameVector}
use Rattle.plane_geometry.specs.Polygon.{is_convex}
use Rattle.isometry_map.specs.declared.folded.FoldedFace.{FoldedFace}
use Rattle.isometry_map.specs.declared.folded.CreaseImage.{CreaseImage}
use Rattle.isometry_map.specs.Motion.{Motion, image_by}

-- q is the point that p becomes
abbrev pub IsImage : Motion → Point → Point → Type 0
IsImage t p q = IsSameVector (position_of q) (image_by t (position_of p))

-- there are as many points, and each of the second list is the image of the one at its place in the first
abbrev pub AreImages : Motion → List Point → List Point → Type 0
AreImages t [] [] = Unit {0}
AreImages t [] (q ∷ qs) = ⊥
AreImages t (p ∷ ps) [] = ⊥
AreImages t (p ∷ ps) (q ∷ qs) = IsImage t p q × AreImages t ps qs

-- the corners counterclockwise: those of a turned face run the other way
abbrev pub counterclockwise : Bool → List Point → List Point
counterclockwise turned corners = if turned then reverse corners else corners

abbrev pub is_convex_face : FoldedFace → Bool
is_convex_face face = is_convex (counterclockwise face.turned face.corners)

abbrev pub are_convex_faces : List FoldedFace → Bool
are_convex_faces faces = list_all is_convex_face faces

-- a folded shape as clauses see it
pub record FoldedView : Type 0 where
  pub faces : List FoldedFace
  pub creases : List CreaseImage
