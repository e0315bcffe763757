use Rattle.std.proofs.Common.{◌≡◌, [], drop}
use Rattle.plane_geometry.specs.declared.Point.{Point}
use Rattle.vertex_checks.specs.Fan.{fan_from}
use Rattle.vertex_checks.specs.FanMap.{kept_fan}
use Rattle.vertex_checks.proofs.fans.fans_of.Given as goal

abbrev pub invariant-loop-piece : goal.invariant-loop-piece
invariant-loop-piece l =
    (q : Point) → fan_from q (drop l.piece-index l.pieces) (kept_fan l.fans q) ≡ fan_from q l.pieces []
