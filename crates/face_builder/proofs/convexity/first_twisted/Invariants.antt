use Rattle.std.proofs.Common.{◌≡◌, find, drop}
use Rattle.face_builder.specs.Faces.{is_twisted}
use Rattle.face_builder.specs.SideFill.{half_edges_of_each}
use Rattle.face_builder.proofs.convexity.first_twisted.Given as goal

abbrev pub invariant-loop-face : goal.invariant-loop-face
invariant-loop-face l =
    find is_twisted (half_edges_of_each (drop l.face-index l.faces))
    ≡ find is_twisted (half_edges_of_each l.faces)
