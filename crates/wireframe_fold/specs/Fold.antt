-- The folded shape of faces, or why there is none that can be kept.
use Rattle.std.specs.Prelude.{◌≡◌, ◌≢◌, ℕ, ◌<◌, ◌≤◌, List, Err, ⊤, if◌then◌else◌}
use Rattle.std.specs.List.{AllZip}
use Rattle.std.specs.declared.result.Result.{Result}
use Rattle.surd_number.specs.Number.{opposite_sign}
use Rattle.plane_geometry.specs.Direction.{side_of}
use Rattle.plane_geometry.specs.Position.{Position}
use Rattle.isometry_map.specs.declared.folded.FoldedFace.{FoldedFace}
use Rattle.isometry_map.specs.Folded.{FoldedView}
use Rattle.isometry_map.specs.Motion.{Motion, side_of_images}
use Rattle.face_builder.specs.View.{FaceMapView}
use Rattle.wireframe_fold.specs.declared.faults.WireFault.{WireFault}
use Rattle.wireframe_fold.specs.declared.faults.WireFault.TheVariants.{DoesNotClose, FoldRange, TooManyLines, Memory}
use Rattle.wireframe_fold.specs.Crease.{AreSharedImages}
use Rattle.wireframe_fold.specs.Folding.{IsFolding, AreAlongWalk, IsLeastOpen}
use Rattle.wireframe_fold.specs.Lines.{HasLines}
use Rattle.wireframe_fold.specs.Shape.{AreFoldedFaces, IsLeastOut}

-- at most so many different lines may pass through folded sides
abbrev pub most_lines : ℕ
most_lines = 200

-- the shape by these isometries
pub record IsShapeBy (m : FaceMapView) (ts : List Motion) (f : FoldedView) : Type 0 where
  pub faces : AreFoldedFaces ts m.faces f.faces
  pub creases : AreSharedImages ts m.shared f.creases
  pub lines : ℕ
  pub count : HasLines f.faces lines
  pub few : lines ≤ most_lines

-- so many lines pass through sides of the faces folded by these isometries, too many
pub record HasTooManyLines (m : FaceMapView) (ts : List Motion) (n : ℕ) : Type 0 where
  pub faces : List FoldedFace
  pub folded : AreFoldedFaces ts m.faces faces
  pub count : HasLines faces n
  pub many : most_lines < n

-- the shape by the folding
abbrev pub IsShape : FaceMapView → FoldedView → Type 0
IsShape m f = (ts : List Motion) × IsFolding m ts × IsShapeBy m ts f

-- sides of lines are kept by the folding, or all turned where the face is turned
abbrev pub IsSideKeeping : Motion → FoldedFace → Type 0
IsSideKeeping t f =
    (n : ℕ) (q p : Position)
    → n < 16
    → side_of_images t n q p ≡ (if f.turned then opposite_sign (side_of q n p) else side_of q n p)

abbrev pub KeepsSides : FaceMapView → FoldedView → Type 0
KeepsSides m f = (ts : List Motion) × IsFolding m ts × AllZip IsSideKeeping ts f.faces

-- there is no folding
abbrev pub HasNoFolding : FaceMapView → Type 0
HasNoFolding m = (ts : List Motion) → ¬ IsFolding m ts

-- why there is no shape by these isometries, which are the folding
abbrev pub IsShapeFault : FaceMapView → List Motion → WireFault → Type 0
IsShapeFault m ts (DoesNotClose piece) = ⊥
IsShapeFault m ts (FoldRange face) = IsLeastOut ts m.faces face
IsShapeFault m ts (TooManyLines lines) = HasTooManyLines m ts lines
IsShapeFault m ts Memory = ⊤

-- ---- causes

-- c is the least piece across which the isometries along the walk do not differ by the reflection in it
abbrev pub IsOpenAt : FaceMapView → ℕ → Type 0
IsOpenAt m c = (ts : List Motion) × AreAlongWalk m ts × IsLeastOpen ts m.shared c

-- there is a folding, and this is the least face with a corner that has no image of two Surds
abbrev pub IsOutAt : FaceMapView → ℕ → Type 0
IsOutAt m face = (ts : List Motion) × IsFolding m ts × IsLeastOut ts m.faces face

-- there is a folding, and so many lines pass through sides of the faces folded by it, too many
abbrev pub AreTooManyLines : FaceMapView → ℕ → Type 0
AreTooManyLines m n = (ts : List Motion) × IsFolding m ts × HasTooManyLines m ts n

abbrev pub IsWireFault : FaceMapView → WireFault → Type 0
IsWireFault m (DoesNotClose piece) = IsOpenAt m piece
IsWireFault m (FoldRange face) = IsOutAt m face
IsWireFault m (TooManyLines lines) = AreTooManyLines m lines
IsWireFault m Memory = ⊤

-- memory did not run out
abbrev pub HasMemory : Result FoldedView WireFault → Type 0
HasMemory result = result ≢ Err Memory
