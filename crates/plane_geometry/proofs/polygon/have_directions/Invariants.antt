use Rattle.std.proofs.Common.{◌≡◌}
use Rattle.std.specs.List.{list_all}
use Rattle.plane_geometry.specs.Polygon.{sides_of, has_direction}
use Rattle.plane_geometry.specs.PolygonLaws.{sides_left}
use Rattle.plane_geometry.proofs.polygon.have_directions.Given as goal

abbrev pub invariant-loop-i : goal.invariant-loop-i
invariant-loop-i l =
    list_all has_direction (sides_left l.corners l.i) ≡ list_all has_direction (sides_of l.corners)
