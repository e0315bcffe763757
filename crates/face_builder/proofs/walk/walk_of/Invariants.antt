use Rattle.std.proofs.Common.{◌≡◌, drop}
use Rattle.face_builder.specs.SideFill.{half_edges_of_each}
use Rattle.face_builder.specs.Walk.{walk_from, walk_of}
use Rattle.face_builder.proofs.walk.walk_of.Given as goal

abbrev pub invariant-loop-i : goal.invariant-loop-i
invariant-loop-i l =
    walk_from l.shared (half_edges_of_each l.faces) l.i (half_edges_of_each (drop l.i l.faces)) l.steps.items
    ≡ walk_of l.shared (half_edges_of_each l.faces)
