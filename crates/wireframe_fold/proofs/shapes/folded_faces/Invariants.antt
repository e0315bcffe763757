use Rattle.std.proofs.Common.{take}
use Rattle.wireframe_fold.specs.Folding.{motions_of}
use Rattle.wireframe_fold.specs.Shape.{AreFoldedFaces}
use Rattle.wireframe_fold.proofs.shapes.folded_faces.Given as goal

abbrev pub invariant-loop-i : goal.invariant-loop-i
invariant-loop-i l = AreFoldedFaces (motions_of (take l.i l.motions)) (take l.i l.faces.faces) l.folded.items
