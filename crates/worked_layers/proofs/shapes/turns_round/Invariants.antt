use Rattle.std.proofs.Common.{◌≡◌, ◌+◌, ◌≤◌, ◌∷◌, drop, map}
use Rattle.std.specs.List.{sum}
use Rattle.plane_geometry.specs.DirView.{dir_number}
use Rattle.plane_geometry.specs.Polygon.{turns_from}
use Rattle.worked_layers.proofs.shapes.turns_round.Given as goal

abbrev pub invariant-loop-d : goal.invariant-loop-d
invariant-loop-d l = record {
  few : l.turns ≤ 16;
  same : l.turns + sum
      (turns_from (dir_number l.first) (dir_number l.before ∷ map dir_number (drop l.d-index l.rest)))
      ≡ sum (turns_from (dir_number l.first) (dir_number l.first ∷ map dir_number l.rest));
}
