-- The faces of a pattern as clauses see them.
use Rattle.std.specs.Prelude.{ℕ, ◌-◌, nat_eq, List, Option, None, slice_get, if◌then◌else◌}
use Rattle.plane_geometry.specs.declared.Point.{Point}
use Rattle.face_builder.specs.declared.shared.SharedPiece.{SharedPiece}
use Rattle.face_builder.specs.declared.walk.Step.{Step}

-- the corners of each face, counterclockwise from the least one; the pieces with the faces on their sides;
-- the walk
pub record FaceMapView : Type 0 where
  pub faces : List (List Point)
  pub shared : List SharedPiece
  pub walk : List Step

-- the corners of the face of this number, from 1; None where there is no such face
abbrev pub corners_at : List (List Point) → ℕ → Option (List Point)
corners_at faces face = if nat_eq face 0 then None else slice_get faces (face - 1)
