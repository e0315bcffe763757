use Rattle.std.proofs.Common.{◌↔◌, ◌⊎◌, ◌+◌, ◌≤◌, length}
use Rattle.std.specs.List.{Contains}
use Rattle.plane_geometry.specs.declared.Line.{Line}
use Rattle.plane_geometry.specs.Polygon.{sides_of}
use Rattle.plane_geometry.specs.PolygonLaws.{sides_left}
use Rattle.wireframe_fold.specs.Lines.{IsThrough}
use Rattle.wireframe_fold.proofs.lines.push_lines.Given as goal

abbrev pub invariant-loop-i : goal.invariant-loop-i
invariant-loop-i l =
    ((q : Line)
    → (Contains l.lines.items q ⊎ IsThrough (sides_left l.corners l.i) q)
    ↔ (Contains l.initial.lines.items q ⊎ IsThrough (sides_of l.corners) q))
    × (length l.lines.items ≤ length l.initial.lines.items + l.i)
