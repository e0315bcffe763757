-- Half-edges: pieces in their two directions, and the parts of the border counterclockwise.
use Rattle.std.specs.Prelude.{ℕ, ◌+◌, ◌%◌, ◌≤◌, List, [], ◌∷◌, ◌++◌, None, Some}
use Rattle.std.specs.List.{flat_map}
use Rattle.std.specs.Option.{option_cmp}
use Rattle.std.specs.Ordering.{ordering_then, nat_cmp}
use Rattle.std.specs.declared.cmp.Ordering.{Ordering}
use Rattle.std.proofs.Common.{arith}
use Rattle.plane_geometry.specs.declared.Point.{Point}
use Rattle.plane_geometry.specs.declared.Dir.{Dir}
use Rattle.plane_geometry.specs.DirView.{dir_number, dir_of}
use Rattle.plane_geometry.specs.SegmentView.{lesser_end, greater_end, direction_number}
use Rattle.crease_model.specs.declared.Piece.{Piece}
use Rattle.plane_geometry.specs.Polygon.{Side, sides_of, side_number}
use Rattle.crease_model.specs.View.{PatternView}
use Rattle.face_builder.specs.declared.half_edges.HalfEdge.{HalfEdge}
use Rattle.face_builder.specs.Sorted.{sorted_list}
use Rattle.face_builder.specs.Vertices.{vertices_along}
use Rattle.plane_geometry.specs.Position.{compare_points}

-- ---- pieces

-- the piece of this number from its lesser end to its greater one
abbrev pub forward : ℕ → Piece → HalfEdge
forward k p =
    record {
      start = lesser_end p.segment;
      dir = dir_of (direction_number p.segment);
      end = greater_end p.segment;
      piece = Some k;
    }

-- and back
abbrev pub backward : ℕ → Piece → HalfEdge
backward k p =
    record {
      start = greater_end p.segment;
      dir = dir_of (direction_number p.segment + 8);
      end = lesser_end p.segment;
      piece = Some k;
    }

-- pieces both ways, the first of which has the number k
abbrev pub both_ways : ℕ → List Piece → List HalfEdge
both_ways k [] = []
both_ways k (p ∷ ps) = forward k p ∷ backward k p ∷ both_ways (k + 1) ps

-- ---- the border

-- from a point to each of these in turn
abbrev pub parts_from : Dir → Point → List Point → List HalfEdge
parts_from d u [] = []
parts_from d u (v ∷ vs) = record { start = u; dir = d; end = v; piece = None } ∷ parts_from d v vs

-- the parts of a side between neighbouring vertices
abbrev pub side_parts : List Piece → Side → List HalfEdge
side_parts pieces side =
    parts_from (dir_of (side_number side)) side.start (vertices_along side pieces ++ side.end ∷ [])

abbrev pub border_parts : List Point → List Piece → List HalfEdge
border_parts corners pieces = flat_map (side_parts pieces) (sides_of corners)

-- ---- all of them, by start, then direction

abbrev pub all_half_edges : PatternView → List HalfEdge
all_half_edges p = both_ways 1 p.pieces ++ border_parts p.corners p.pieces

-- by start, then by direction; the rest would tell apart half-edges that leave one vertex in one direction
abbrev pub compare_half_edges : HalfEdge → HalfEdge → Ordering
compare_half_edges g h =
    ordering_then (compare_points g.start h.start)
    (ordering_then (nat_cmp (dir_number g.dir) (dir_number h.dir))
    (ordering_then (compare_points g.end h.end) (option_cmp nat_cmp g.piece h.piece)))

-- the half-edges of a pattern, by start, then by direction
unfoldable pub half_edges_of : PatternView → List HalfEdge
half_edges_of p = sorted_list compare_half_edges (all_half_edges p)
