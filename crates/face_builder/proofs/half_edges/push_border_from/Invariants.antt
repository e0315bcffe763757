use Rattle.std.proofs.Common.{◌≡◌, ◌∷◌, ◌++◌, drop}
use Rattle.std.specs.List.{flat_map}
use Rattle.plane_geometry.specs.Polygon.{sides_from}
use Rattle.face_builder.specs.HalfEdge.{side_parts}
use Rattle.face_builder.proofs.half_edges.push_border_from.Given as goal

abbrev pub invariant-loop-end : goal.invariant-loop-end
invariant-loop-end l =
    l.half_edges.items
    ++ flat_map (side_parts l.pieces) (sides_from l.first (l.start ∷ drop l.end-index l.rest))
    ≡ l.initial.half_edges.items ++ flat_map (side_parts l.pieces) (sides_from l.first (l.first ∷ l.rest))
