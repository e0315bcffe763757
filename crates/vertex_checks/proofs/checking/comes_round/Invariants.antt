use Rattle.std.proofs.Common.{◌≡◌, drop}
use Rattle.isometry_map.specs.Linear.{rotation}
use Rattle.isometry_map.specs.LinearView.{linear_number}
use Rattle.vertex_checks.specs.Sectors.{reflected_from}
use Rattle.vertex_checks.proofs.checking.comes_round.Given as goal

abbrev pub invariant-loop-ray : goal.invariant-loop-ray
invariant-loop-ray l =
    reflected_from (drop l.ray-index l.fan) (linear_number l.done) ≡ reflected_from l.fan (rotation 0)
