use Rattle.std.proofs.Common.{◌↔◌, ◌⊎◌, ◌*◌, ◌≤◌, drop, length}
use Rattle.std.specs.List.{Contains}
use Rattle.plane_geometry.specs.declared.Line.{Line}
use Rattle.face_builder.specs.MapRules.{most_corners}
use Rattle.wireframe_fold.specs.Lines.{IsThrough, folded_sides}
use Rattle.wireframe_fold.proofs.lines.count_lines.Given as goal

abbrev pub invariant-loop-face : goal.invariant-loop-face
invariant-loop-face l =
    ((q : Line)
    → (Contains l.lines.items q ⊎ IsThrough (folded_sides (drop l.face-index l.faces)) q)
    ↔ IsThrough (folded_sides l.faces) q)
    × (length l.lines.items ≤ l.face-index * most_corners)
