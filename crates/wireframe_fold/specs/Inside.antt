-- What is strictly inside a folded face: the images of the points strictly left of all sides of the face.
use Rattle.std.specs.Prelude.{◌↔◌, Bool, List, [], ◌∷◌, ℕ, ◌<◌, IsTrue}
use Rattle.plane_geometry.specs.declared.Point.{Point}
use Rattle.plane_geometry.specs.Multiple.{IsSameVector}
use Rattle.plane_geometry.specs.Polygon.{have_directions, is_in_polygon}
use Rattle.plane_geometry.specs.Position.{Position}
use Rattle.isometry_map.specs.declared.folded.FoldedFace.{FoldedFace}
use Rattle.isometry_map.specs.Folded.{FoldedView, counterclockwise}
use Rattle.isometry_map.specs.Motion.{Motion, image_by}
use Rattle.face_builder.specs.View.{FaceMapView}
use Rattle.wireframe_fold.specs.Folding.{IsFolding}
use Rattle.wireframe_fold.specs.Shape.{IsFoldedFace}

-- strictly left of all sides of the folded face, counterclockwise
abbrev pub is_inside_face : Position → FoldedFace → Bool
is_inside_face q face = is_in_polygon (counterclockwise face.turned face.corners) q

-- q is the image of a point strictly left of all sides of the face with these corners
abbrev pub IsInnerImage : Motion → List Point → Position → Type 0
IsInnerImage t corners q = (p : Position) × IsTrue (is_in_polygon corners p) × IsSameVector q (image_by t p)

-- strictly inside the folded face are just these
abbrev pub HasInnerImages : Motion → List Point → FoldedFace → Type 0
HasInnerImages t corners face = (q : Position) → IsTrue (is_inside_face q face) ↔ IsInnerImage t corners q

-- each face by the isometry at its place
abbrev pub HaveInnerImages : List Motion → List (List Point) → List FoldedFace → Type 0
HaveInnerImages [] [] [] = Unit {0}
HaveInnerImages (t ∷ ts) (c ∷ cs) (f ∷ fs) = HasInnerImages t c f × HaveInnerImages ts cs fs
HaveInnerImages ts cs fs = ⊥

-- of each folded face, by the folding
abbrev pub KeepsInsides : FaceMapView → FoldedView → Type 0
KeepsInsides m f = (ts : List Motion) × IsFolding m ts × HaveInnerImages ts m.faces f.faces

-- of a face whose sides run in the 16 directions
abbrev pub InsideIsImage : Type 0
InsideIsImage =
    (t : Motion) (corners : List Point) (face : FoldedFace)
    → t.linear < 16 → IsTrue (have_directions corners) → IsFoldedFace t corners face
    → HasInnerImages t corners face
