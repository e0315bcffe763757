use Rattle.std.specs.Bool.{IsTrue}
use Rattle.isometry_map.specs.Folded.{are_convex_faces}
use Rattle.worked_layers.proofs.shapes.shape.Given as goal

abbrev pub invariant-loop-turned : goal.invariant-loop-turned
invariant-loop-turned l = IsTrue (are_convex_faces l.faces.items)
