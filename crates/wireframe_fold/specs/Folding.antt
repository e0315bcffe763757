-- The flat folding of faces: an isometry for each, such that the isometries on the two sides of a crease differ
-- by the reflection in it, and face 1 stays.
use Rattle.std.specs.Prelude.{◌≡◌, ℕ, ◌-◌, ◌<◌, ◌≤◌, List, length, map, take, Some, slice_get, slice_index_or}
use Rattle.std.specs.List.{All, AllByRecursion}
use Rattle.plane_geometry.specs.declared.Segment.{Segment}
use Rattle.plane_geometry.specs.Position.{position_of}
use Rattle.plane_geometry.specs.SegmentView.{lesser_end, direction_number}
use Rattle.isometry_map.specs.declared.isometries.Isometry.{Isometry}
use Rattle.isometry_map.specs.Motion.{Motion, IsIdentity, IsComposition, IsShiftWithin, identity_motion, reflection_at}
use Rattle.isometry_map.specs.IsometryView.{motion_of}
use Rattle.face_builder.specs.declared.shared.SharedPiece.{SharedPiece}
use Rattle.face_builder.specs.declared.walk.Step.{Step}
use Rattle.face_builder.specs.View.{FaceMapView}

-- the isometries that these show
abbrev pub motions_of : List Isometry → List Motion
motions_of motions = map motion_of motions

-- each shift has numerators of at most `most` over 2^18
abbrev pub AreWithin : ℕ → List Isometry → Type 0
AreWithin most motions = All (λ t. IsShiftWithin most (motion_of t)) motions

-- the numbers of the piece's faces are those of two different ones among so many
abbrev pub HasPlaces : ℕ → SharedPiece → Type 0
HasPlaces count s = (1 ≤ s.a) × (s.a < s.b) × (s.b ≤ count)

-- the isometry of the face of this number, from 1
abbrev pub motion_at : List Motion → ℕ → Motion
motion_at ts face = slice_index_or ts (face - 1) identity_motion

-- the reflection in a crease
abbrev pub mirror_in : Segment → Motion
mirror_in crease = reflection_at (direction_number crease) (position_of (lesser_end crease))

-- t is the isometry of the face after the reflection in the crease
pub record IsAcross (ts : List Motion) (face : ℕ) (crease : Segment) (t : Motion) : Type 0 where
  pub composed : IsComposition t (motion_at ts face) (mirror_in crease)

-- the isometries on the two sides of the piece differ by the reflection in it
abbrev pub IsClosedAt : List Motion → SharedPiece → Type 0
IsClosedAt ts s = IsAcross ts s.a s.segment (motion_at ts s.b)

-- a flat folding
pub record IsFolding (m : FaceMapView) (ts : List Motion) : Type 0 where
  pub count : length ts ≡ length m.faces
  pub linear : All (λ t. t.linear < 16) ts
  pub fixed : IsIdentity (motion_at ts 1)
  pub closed : All (IsClosedAt ts) m.shared

-- ---- along the walk

-- t is the isometry of the face that the step leads from, after the reflection in the step's piece
pub record IsStepTo (shared : List SharedPiece) (ts : List Motion) (s : Step) (t : Motion) : Type 0 where
  pub piece : SharedPiece
  pub there : slice_get shared (s.piece - 1) ≡ Some piece
  pub across : IsAcross ts s.from piece.segment t

-- the face that the step leads to has this one
abbrev pub IsStepTaken : List SharedPiece → List Motion → Step → Type 0
IsStepTaken shared ts s = IsStepTo shared ts s (motion_at ts s.face)

-- the isometries along the walk: face 1 stays, and each step is taken
pub record AreAlongWalk (m : FaceMapView) (ts : List Motion) : Type 0 where
  pub count : length ts ≡ length m.faces
  pub fixed : IsIdentity (motion_at ts 1)
  pub taken : AllByRecursion (IsStepTaken m.shared ts) m.walk

-- the places that a step names are there
pub record IsStepWithin (m : FaceMapView) (s : Step) : Type 0 where
  pub face : 1 ≤ s.face
  pub face_most : s.face ≤ length m.faces
  pub from : 1 ≤ s.from
  pub from_most : s.from ≤ length m.faces
  pub piece : 1 ≤ s.piece
  pub piece_most : s.piece ≤ length m.shared

-- ---- what does not close

-- c is the number of the first of these pieces across which they don't differ by the reflection in it
abbrev pub IsLeastOpen : List Motion → List SharedPiece → ℕ → Type 0
IsLeastOpen ts shared c =
    (k : ℕ) × (s : SharedPiece) × (slice_get shared k ≡ Some s) × (¬ IsClosedAt ts s) × (s.piece ≡ c)
    × All (IsClosedAt ts) (take k shared)
