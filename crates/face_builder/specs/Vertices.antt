-- Vertices: the corners of the sheet and the ends of the pieces.
use Rattle.std.specs.Prelude.{Bool, ◌&&◌, not, List, [], ◌∷◌, ◌++◌, reverse, if◌then◌else◌}
use Rattle.std.specs.List.{flat_map}
use Rattle.std.specs.Ordering.{is_lt}
use Rattle.plane_geometry.specs.declared.Point.{Point}
use Rattle.plane_geometry.specs.Position.{position_of, compare_points, is_same_point}
use Rattle.plane_geometry.specs.SegmentOf.{segment_of}
use Rattle.plane_geometry.specs.SegmentView.{lesser_end, greater_end}
use Rattle.crease_model.specs.declared.Piece.{Piece}
use Rattle.plane_geometry.specs.Polygon.{Side}
use Rattle.crease_model.specs.Sheet.{is_on_segment}
use Rattle.face_builder.specs.Sorted.{sorted_list, each_once}

-- the points in ascending order, each once
abbrev pub ascending_of : List Point → List Point
ascending_of points = each_once is_same_point (sorted_list compare_points points)

-- on the side, and not at an end of it
abbrev pub is_between_corners : Side → Point → Bool
is_between_corners side v =
    is_on_segment (position_of v) (segment_of side.start side.end)
    && (not (is_same_point v side.start) && not (is_same_point v side.end))

-- the point, if it is between the ends of the side
abbrev pub point_between : Side → Point → List Point
point_between side v = if is_between_corners side v then v ∷ [] else []

-- the ends of a piece that are between the ends of the side
abbrev pub ends_between : Side → Piece → List Point
ends_between side p = point_between side (lesser_end p.segment) ++ point_between side (greater_end p.segment)

-- the vertices between the ends of a side, ascending
abbrev pub vertices_between : Side → List Piece → List Point
vertices_between side pieces = ascending_of (flat_map (ends_between side) pieces)

-- the same from the side's start to its end
abbrev pub vertices_along : Side → List Piece → List Point
vertices_along side pieces =
    if is_lt (compare_points side.end side.start) then reverse (vertices_between side pieces)
    else vertices_between side pieces
