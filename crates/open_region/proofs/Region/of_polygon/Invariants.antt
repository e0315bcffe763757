use Rattle.std.proofs.Common.{◌↔◌}
use Rattle.std.specs.Bool.{IsTrue}
use Rattle.std.specs.List.{list_all}
use Rattle.plane_geometry.specs.Position.{Position}
use Rattle.plane_geometry.specs.Polygon.{has_direction, is_left_of, is_in_polygon}
use Rattle.plane_geometry.specs.PolygonLaws.{sides_left}
use Rattle.open_region.specs.Region.{IsInRegion}
use Rattle.open_region.proofs.Region.of_polygon.Given as goal

abbrev pub invariant-loop-i : goal.invariant-loop-i
invariant-loop-i l = record {
  directed : IsTrue (list_all has_direction (sides_left l.corners l.i));
  narrowed : (q : Position)
      → (IsInRegion q l.region × IsTrue (list_all (is_left_of q) (sides_left l.corners l.i)))
      ↔ IsTrue (is_in_polygon l.corners q);
}
