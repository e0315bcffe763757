use Rattle.std.proofs.Common.{◌≡◌, ◌++◌, ◌+◌, drop}
use Rattle.face_builder.specs.HalfEdge.{both_ways}
use Rattle.face_builder.proofs.half_edges.push_both_ways.Given as goal

abbrev pub invariant-loop-i : goal.invariant-loop-i
invariant-loop-i l = l.half_edges.items ++ both_ways (l.i + 1) (drop l.i l.pieces)
    ≡ l.initial.half_edges.items ++ both_ways 1 l.pieces
