use Rattle.std.proofs.Common.{◌≡◌, ℕ, ◌+◌, ◌*◌, ◌≤◌, List, Option, map}
use Rattle.std.specs.List.{sum}
use Rattle.std.specs.Option.{option_map}
use Rattle.plane_geometry.specs.declared.Point.{Point}
use Rattle.plane_geometry.specs.DirView.{dir_number}
use Rattle.plane_geometry.specs.Polygon.{side_direction}
use Rattle.crease_model.specs.NewSheet.{Bend, bends_from, bends_of, first_bad, bend_turn}
use Rattle.plane_geometry.specs.PolygonLaws.{sides_left}
use Rattle.crease_model.proofs.corners.fault_of.Given as goal

-- the bends at the i-th corner and after it
abbrev pub bends_left : List Point → ℕ → Option ℕ → List Bend
bends_left corners i before = bends_from before (map side_direction (sides_left corners i))

abbrev pub invariant-loop-i : goal.invariant-loop-i
invariant-loop-i l = record {
  bad : first_bad (l.i + 1) (bends_left l.corners l.i (option_map dir_number l.before))
      ≡ first_bad 1 (bends_of l.corners);
  turns : l.turns + sum (map bend_turn (bends_left l.corners l.i (option_map dir_number l.before)))
      ≡ sum (map bend_turn (bends_of l.corners));
  few : l.turns ≤ 7 * l.i;
}
