use Rattle.std.proofs.Common.{◌≡◌, ◌++◌, map}
use Rattle.plane_geometry.specs.Polygon.{sides_of}
use Rattle.plane_geometry.specs.PolygonLaws.{sides_left}
use Rattle.crease_model.specs.OwnLines.{side_line}
use Rattle.cp_text.specs.LineText.{crease_line, lines_text}
use Rattle.cp_text.specs.Growth.{KeepsFront}
use Rattle.cp_text.proofs.writing.put_sides.Given as goal

abbrev pub invariant-loop-i : goal.invariant-loop-i
invariant-loop-i l = record {
  written : l.out.items ++ lines_text (map crease_line (map side_line (sides_left l.corners l.i))) ≡ l.initial.out.items
      ++ lines_text (map crease_line (map side_line (sides_of l.corners)));
  kept : KeepsFront l.initial.out.items l.out.items;
}
