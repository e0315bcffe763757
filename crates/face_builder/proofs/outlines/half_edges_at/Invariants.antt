use Rattle.std.proofs.Common.{◌≡◌, ◌++◌, drop}
use Rattle.face_builder.specs.Faces.{half_edges_at}
use Rattle.face_builder.proofs.outlines.half_edges_at.Given as goal

abbrev pub invariant-loop-place : goal.invariant-loop-place
invariant-loop-place l =
    l.found.items ++ half_edges_at l.half_edges (drop l.place-index l.places)
    ≡ half_edges_at l.half_edges l.places
