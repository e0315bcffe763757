use Rattle.std.proofs.Common.{◌≡◌, drop}
use Rattle.face_builder.specs.Walk.{with_neighbours}
use Rattle.face_builder.proofs.walk.push_neighbours.Given as goal

abbrev pub invariant-loop-half_edge : goal.invariant-loop-half_edge
invariant-loop-half_edge l =
    with_neighbours l.shared l.from l.steps.items (drop l.half_edge-index l.half_edges)
    ≡ with_neighbours l.shared l.from l.initial.steps.items l.half_edges
