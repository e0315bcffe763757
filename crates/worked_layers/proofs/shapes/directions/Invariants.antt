use Rattle.std.proofs.Common.{◌≡◌, ◌++◌, map}
use Rattle.std.specs.List.{list_all}
use Rattle.plane_geometry.specs.DirView.{dir_number}
use Rattle.plane_geometry.specs.Polygon.{side_number, has_direction, directions_of, have_directions}
use Rattle.plane_geometry.specs.PolygonLaws.{sides_left}
use Rattle.worked_layers.proofs.shapes.directions.Given as goal

abbrev pub invariant-loop-i : goal.invariant-loop-i
invariant-loop-i l = record {
  found : map dir_number l.directions.items ++ map side_number (sides_left l.corners l.i)
      ≡ directions_of l.corners;
  directed : list_all has_direction (sides_left l.corners l.i) ≡ have_directions l.corners;
}
