use Rattle.std.proofs.Common.{◌≡◌, ◌++◌, drop}
use Rattle.face_builder.specs.Faces.{corners_of}
use Rattle.face_builder.proofs.outlines.corners_of.Given as goal

abbrev pub invariant-loop-half_edge : goal.invariant-loop-half_edge
invariant-loop-half_edge l = l.corners.items ++ corners_of (drop l.half_edge-index l.face) ≡ corners_of l.face
