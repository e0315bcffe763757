-- Folded faces: the images of their corners, where each is a point of two Surds.
use Rattle.std.specs.Prelude.{◌≡◌, ℕ, ◌+◌, ◌<◌, ⊤, List, [], ◌∷◌, length, slice_index_or}
use Rattle.std.specs.List.{Contains}
use Rattle.plane_geometry.specs.declared.Point.{Point}
use Rattle.isometry_map.specs.declared.folded.FoldedFace.{FoldedFace}
use Rattle.isometry_map.specs.Linear.{is_reflection}
use Rattle.isometry_map.specs.Motion.{Motion}
use Rattle.isometry_map.specs.Folded.{IsImage, AreImages}
use Rattle.wireframe_fold.specs.declared.faults.WireFault.{WireFault}
use Rattle.wireframe_fold.specs.declared.faults.WireFault.TheVariants.{DoesNotClose, FoldRange, TooManyLines, Memory}
use Rattle.wireframe_fold.specs.Folding.{motion_at}

-- no point of two Surds is the image of p
abbrev pub HasNoImage : Motion → Point → Type 0
HasNoImage t p = (q : Point) → ¬ IsImage t p q

-- one of these has no image of two Surds
abbrev pub HasPointOut : Motion → List Point → Type 0
HasPointOut t ps = (p : Point) × Contains ps p × HasNoImage t p

-- the images of the corners, turned where orientation is reversed
pub record IsFoldedFace (t : Motion) (corners : List Point) (face : FoldedFace) : Type 0 where
  pub images : AreImages t corners face.corners
  pub turned : face.turned ≡ is_reflection t.linear

-- each face by the isometry at its place
abbrev pub AreFoldedFaces : List Motion → List (List Point) → List FoldedFace → Type 0
AreFoldedFaces [] [] [] = Unit {0}
AreFoldedFaces (t ∷ ts) (c ∷ cs) (f ∷ fs) = IsFoldedFace t c f × AreFoldedFaces ts cs fs
AreFoldedFaces ts cs fs = ⊥

-- the face of this number, from 1, has a corner without an image of two Surds, and none before it has
pub record IsLeastOut (ts : List Motion) (faces : List (List Point)) (face : ℕ) : Type 0 where
  pub before : ℕ
  pub number : face ≡ before + 1
  pub there : before < length faces
  pub out : HasPointOut (motion_at ts (before + 1)) (slice_index_or faces before [])
  pub least : (j : ℕ) → j < before → ¬ HasPointOut (motion_at ts (j + 1)) (slice_index_or faces j [])

-- the fault is such a face, or want of memory
abbrev pub IsRangeFault : List Motion → List (List Point) → WireFault → Type 0
IsRangeFault ts faces (DoesNotClose piece) = ⊥
IsRangeFault ts faces (FoldRange face) = IsLeastOut ts faces face
IsRangeFault ts faces (TooManyLines lines) = ⊥
IsRangeFault ts faces Memory = ⊤
