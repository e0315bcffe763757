-- Laws of the vertices and fans of a pattern.
use Rattle.std.specs.Prelude.{◌≡◌, ◌↔◌, ◌≤◌, List, length, Contains, IsTrue}
use Rattle.plane_geometry.specs.declared.Point.{Point}
use Rattle.crease_model.specs.declared.Piece.{Piece}
use Rattle.crease_model.specs.View.{PatternView}
use Rattle.crease_model.specs.Rules.{IsPattern}
use Rattle.line_split.specs.Points.{is_rising}
use Rattle.vertex_checks.specs.declared.fans.Ray.{Ray}
use Rattle.vertex_checks.specs.Vertices.{IsInnerEnd, vertices_of}
use Rattle.vertex_checks.specs.Fan.{ray_number, Leaves, IsFan, most_rays, fan_of}

-- just the ends of pieces strictly inside the sheet are checked, each once and in order
abbrev pub VerticesAreInnerEnds : Type 0
VerticesAreInnerEnds =
    (pattern : PatternView)
    → IsTrue (is_rising (vertices_of pattern))
    × ((v : Point) → Contains (vertices_of pattern) v ↔ IsInnerEnd pattern v)

-- two pieces that leave a point in one direction are one piece
abbrev pub DirectionsDiffer : Type 0
DirectionsDiffer =
    (pattern : PatternView) (v : Point) (p q : Piece) (r t : Ray)
    → IsPattern pattern → Contains pattern.pieces p → Contains pattern.pieces q
    → Leaves v p r → Leaves v q t → ray_number r ≡ ray_number t → p ≡ q

-- each point of a pattern has one fan
abbrev pub FanIsOne : Type 0
FanIsOne =
    (pattern : PatternView) (v : Point)
    → IsPattern pattern
    → IsFan pattern.pieces v (fan_of v pattern.pieces)
    × ((fan : List Ray) → IsFan pattern.pieces v fan → fan ≡ fan_of v pattern.pieces)

-- a fan has no more creases than there are directions
abbrev pub FanIsSmall : Type 0
FanIsSmall = (pieces : List Piece) (v : Point) (fan : List Ray) → IsFan pieces v fan → length fan ≤ most_rays
