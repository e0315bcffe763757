use Rattle.std.proofs.Common.{◌≡◌, ◌++◌, drop}
use Rattle.face_builder.specs.HalfEdge.{parts_from}
use Rattle.face_builder.proofs.half_edges.push_parts_from.Given as goal

abbrev pub invariant-loop-end : goal.invariant-loop-end
invariant-loop-end l = l.half_edges.items ++ parts_from l.dir l.start (drop l.end-index l.rest)
    ≡ l.initial.half_edges.items ++ parts_from l.dir l.initial.start l.rest
