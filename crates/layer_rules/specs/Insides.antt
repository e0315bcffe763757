-- Which regions are what is strictly inside folded faces.
use Rattle.std.specs.Prelude.{◌↔◌, List, IsTrue}
use Rattle.std.specs.List.{AllZip}
use Rattle.plane_geometry.specs.Position.{Position}
use Rattle.open_region.specs.declared.Region.{Region}
use Rattle.open_region.specs.Region.{IsInRegion}
use Rattle.isometry_map.specs.declared.folded.FoldedFace.{FoldedFace}
use Rattle.layer_rules.specs.Faces.{is_inside_face}

-- the region is what is strictly inside the face
abbrev pub IsInsideOf : FoldedFace → Region → Type 0
IsInsideOf face region = (p : Position) → IsInRegion p region ↔ IsTrue (is_inside_face p face)

abbrev pub AreInsides : List FoldedFace → List Region → Type 0
AreInsides faces insides = AllZip IsInsideOf faces insides
