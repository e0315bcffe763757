use Rattle.std.proofs.Common.{◌≡◌, ◌++◌, take, drop}
use Rattle.vertex_checks.specs.Fan.{with_ray}
use Rattle.vertex_checks.proofs.fans.place_for.Given as goal

abbrev pub invariant-loop-i : goal.invariant-loop-i
invariant-loop-i l = with_ray l.rays l.ray ≡ take l.i l.rays ++ with_ray (drop l.i l.rays) l.ray
