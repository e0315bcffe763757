use Rattle.std.proofs.Common.{◌≡◌, ◌++◌, ◌+◌, drop}
use Rattle.face_builder.specs.Shared.{shared_from}
use Rattle.face_builder.specs.SideFill.{half_edges_of_each}
use Rattle.face_builder.proofs.shared.shared_of.Given as goal

abbrev pub invariant-loop-i : goal.invariant-loop-i
invariant-loop-i l =
    l.shared.items ++ shared_from (half_edges_of_each l.faces) (l.i + 1) (drop l.i l.pieces)
    ≡ shared_from (half_edges_of_each l.faces) 1 l.pieces
