-- A crease pattern as clauses see it.
use Rattle.std.specs.Prelude.{List, []}
use Rattle.plane_geometry.specs.declared.Point.{Point}
use Rattle.plane_geometry.specs.declared.Segment.{Segment}
use Rattle.crease_model.specs.declared.Piece.{Piece}

-- the corners of the sheet, the crease pieces and the auxiliary lines
pub record PatternView : Type 0 where
  pub corners : List Point
  pub pieces : List Piece
  pub aux : List Segment

-- a sheet with nothing on it
abbrev pub empty_on : List Point → PatternView
empty_on corners = record { corners = corners; pieces = []; aux = [] }
