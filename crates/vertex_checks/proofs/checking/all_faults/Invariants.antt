use Rattle.std.proofs.Common.{◌≡◌, ◌++◌, flat_map, drop}
use Rattle.vertex_checks.specs.Vertices.{vertices_of}
use Rattle.vertex_checks.specs.Faults.{faults_at}
use Rattle.vertex_checks.proofs.checking.all_faults.Given as goal

abbrev pub invariant-loop-v : goal.invariant-loop-v
invariant-loop-v l =
    l.faults.items ++ flat_map (faults_at l.pattern) (drop l.v-index (vertices_of l.pattern))
    ≡ flat_map (faults_at l.pattern) (vertices_of l.pattern)
