-- What the half-edges of a pattern are: pieces in their two directions, and the parts of the border.
use Rattle.std.specs.Prelude.{◌≡◌, ℕ, ◌+◌, ◌⊎◌, None, Some, Contains, IsTrue, slice_get}
use Rattle.plane_geometry.specs.declared.Point.{Point}
use Rattle.plane_geometry.specs.DirView.{dir_number}
use Rattle.plane_geometry.specs.Ends.{GoesAlong}
use Rattle.plane_geometry.specs.Polygon.{Side, sides_of, side_number}
use Rattle.plane_geometry.specs.SegmentView.{lesser_end, greater_end}
use Rattle.crease_model.specs.declared.Piece.{Piece}
use Rattle.crease_model.specs.Rules.{IsEndOf}
use Rattle.crease_model.specs.View.{PatternView}
use Rattle.face_builder.specs.declared.half_edges.HalfEdge.{HalfEdge}
use Rattle.face_builder.specs.Vertices.{is_between_corners}

-- from one end of the piece to the other
abbrev pub RunsAlong : Piece → HalfEdge → Type 0
RunsAlong q h =
    ((h.start ≡ lesser_end q.segment) × (h.end ≡ greater_end q.segment))
    ⊎ ((h.start ≡ greater_end q.segment) × (h.end ≡ lesser_end q.segment))

-- a piece in one of its directions, with its number
pub record IsOfPiece (p : PatternView) (h : HalfEdge) : Type 0 where
  pub place : ℕ
  pub piece : Piece
  pub stands : slice_get p.pieces place ≡ Some piece
  pub number : h.piece ≡ Some (place + 1)
  pub ends : RunsAlong piece h

-- an end of a side of the sheet, or between them an end of a piece
abbrev pub IsVertexOn : PatternView → Side → Point → Type 0
IsVertexOn p s v =
    ((v ≡ s.start) ⊎ (v ≡ s.end))
    ⊎ ((q : Piece) × Contains p.pieces q × IsEndOf q v × IsTrue (is_between_corners s v))

-- along a side, counterclockwise, from a vertex to another one, with none between them
pub record IsOfBorder (p : PatternView) (h : HalfEdge) : Type 0 where
  pub plain : h.piece ≡ None
  pub side : Side
  pub member : Contains (sides_of p.corners) side
  pub direction : dir_number h.dir ≡ side_number side
  pub start : IsVertexOn p side h.start
  pub end : IsVertexOn p side h.end
  pub neighbours : (v : Point) → IsVertexOn p side v → GoesAlong (side_number side) h.start v
      → GoesAlong (side_number side) v h.end → ⊥

-- it runs in its direction, and is of one of the two kinds
pub record IsHalfEdge (p : PatternView) (h : HalfEdge) : Type 0 where
  pub runs : GoesAlong (dir_number h.dir) h.start h.end
  pub kind : IsOfPiece p h ⊎ IsOfBorder p h
