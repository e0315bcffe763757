use Rattle.std.proofs.Common.{◌≡◌, ◌++◌, map, drop}
use Rattle.face_builder.specs.Faces.{corners_of}
use Rattle.face_builder.specs.SideFill.{half_edges_of_each}
use Rattle.face_builder.proofs.outlines.corners_of_each.Given as goal

abbrev pub invariant-loop-face : goal.invariant-loop-face
invariant-loop-face l =
    map (λ c. c.items) l.corners.items ++ map corners_of (half_edges_of_each (drop l.face-index l.faces))
    ≡ map corners_of (half_edges_of_each l.faces)
