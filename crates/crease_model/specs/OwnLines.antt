-- The lines of a pattern: its sides as edges, its pieces and its auxiliary lines, each a kind and two points.
use Rattle.std.specs.Prelude.{List, ◌++◌, map}
use Rattle.plane_geometry.specs.declared.Point.{Point}
use Rattle.plane_geometry.specs.declared.Segment.{Segment}
use Rattle.plane_geometry.specs.SegmentView.{lesser_end, greater_end}
use Rattle.crease_model.specs.declared.Kind.{Kind}
use Rattle.crease_model.specs.declared.Kind.TheVariants.{Edge, Aux}
use Rattle.crease_model.specs.declared.Piece.{Piece}
use Rattle.plane_geometry.specs.Polygon.{Side, sides_of}
use Rattle.crease_model.specs.View.{PatternView}

-- a line, wherever it stands
pub record PlainLine : Type 0 where
  pub kind : Kind
  pub from : Point
  pub to : Point

abbrev pub side_line : Side → PlainLine
side_line side = record { kind = Edge; from = side.start; to = side.end }

-- from the lesser end to the greater
abbrev pub segment_line : Kind → Segment → PlainLine
segment_line kind s = record { kind = kind; from = lesser_end s; to = greater_end s }

abbrev pub piece_line : Piece → PlainLine
piece_line p = segment_line p.kind p.segment

abbrev pub auxiliary_line : Segment → PlainLine
auxiliary_line s = segment_line Aux s

-- the sides of the sheet as edges, the pieces and the auxiliary lines, each in order
abbrev pub own_lines : PatternView → List PlainLine
own_lines pattern = map side_line (sides_of pattern.corners)
    ++ (map piece_line pattern.pieces ++ map auxiliary_line pattern.aux)
