use Rattle.std.proofs.Common.{◌≡◌, length}
use Rattle.std.specs.Bool.{IsTrue}
use Rattle.isometry_map.specs.Folded.{are_convex_faces}
use Rattle.worked_layers.proofs.shapes.stack.Given as goal

abbrev pub invariant-loop-i : goal.invariant-loop-i
invariant-loop-i l = record {
  convex : IsTrue (are_convex_faces l.faces.items);
  many : length l.faces.items ≡ l.i;
}
