use Rattle.std.proofs.Common.{◌≡◌, ◌+◌, ◌≤◌, ◌∷◌, drop}
use Rattle.std.specs.List.{sum}
use Rattle.plane_geometry.specs.DirView.{dir_number}
use Rattle.plane_geometry.specs.Polygon.{turns_from}
use Rattle.face_builder.specs.Faces.{directions_round}
use Rattle.face_builder.proofs.convexity.turns_round.Given as goal

abbrev pub invariant-loop-half_edge : goal.invariant-loop-half_edge
invariant-loop-half_edge l = record {
  few : l.turns ≤ 16;
  same : l.turns + sum
      (turns_from (dir_number l.first.dir)
      (dir_number l.before ∷ directions_round (drop l.half_edge-index l.rest)))
      ≡ sum (turns_from (dir_number l.first.dir) (dir_number l.first.dir ∷ directions_round l.rest));
}
