use Rattle.std.proofs.Common.{◌≡◌, ◌++◌, map, drop}
use Rattle.face_builder.specs.Fan.{next_place}
use Rattle.face_builder.proofs.fans.nexts_of.Given as goal

abbrev pub invariant-loop-half_edge : goal.invariant-loop-half_edge
invariant-loop-half_edge l = l.nexts.items
    ++ map (next_place l.half_edges) (drop l.half_edge-index l.half_edges)
    ≡ map (next_place l.half_edges) l.half_edges
