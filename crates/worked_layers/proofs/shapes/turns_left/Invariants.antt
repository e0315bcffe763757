use Rattle.std.proofs.Common.{◌≡◌, ◌∷◌, drop, map}
use Rattle.std.specs.List.{list_all}
use Rattle.plane_geometry.specs.DirView.{dir_number}
use Rattle.plane_geometry.specs.Polygon.{turns_from, is_convex_turn}
use Rattle.worked_layers.proofs.shapes.turns_left.Given as goal

abbrev pub invariant-loop-d : goal.invariant-loop-d
invariant-loop-d l =
    list_all is_convex_turn
    (turns_from (dir_number l.first) (dir_number l.before ∷ map dir_number (drop l.d-index l.rest)))
    ≡ list_all is_convex_turn (turns_from (dir_number l.first) (dir_number l.first ∷ map dir_number l.rest))
