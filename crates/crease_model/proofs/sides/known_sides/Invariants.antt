use Rattle.std.proofs.Common.{◌≡◌, ◌++◌, map}
use Rattle.std.specs.Prelude.{IsTrue}
use Rattle.std.specs.List.{list_all}
use Rattle.plane_geometry.specs.Polygon.{sides_of, has_direction}
use Rattle.plane_geometry.specs.PolygonLaws.{sides_left}
use Rattle.crease_model.specs.KnownSide.{facts_of, known_facts}
use Rattle.crease_model.proofs.sides.known_sides.Given as goal

abbrev pub invariant-loop-i : goal.invariant-loop-i
invariant-loop-i l = record {
  facts : map known_facts l.sides.items ++ map facts_of (sides_left l.corners l.i)
      ≡ map facts_of (sides_of l.corners);
  directed : IsTrue (list_all has_direction (sides_left l.corners l.i));
}
