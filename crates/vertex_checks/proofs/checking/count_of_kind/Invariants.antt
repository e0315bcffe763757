use Rattle.std.proofs.Common.{◌≡◌, ◌≤◌, take}
use Rattle.vertex_checks.specs.Sectors.{count_of_kind}
use Rattle.vertex_checks.proofs.checking.count_of_kind.Given as goal

abbrev pub invariant-loop-ray : goal.invariant-loop-ray
invariant-loop-ray l = record {
  few : l.count ≤ l.ray-index;
  value : l.count ≡ count_of_kind l.kind (take l.ray-index l.fan);
}
