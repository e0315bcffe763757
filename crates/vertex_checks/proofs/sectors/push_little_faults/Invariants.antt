use Rattle.std.proofs.Common.{◌≡◌, ◌++◌, ◌-◌, length, map, flat_map}
use Rattle.std.specs.List.{range_with_len}
use Rattle.vertex_checks.specs.Faults.{little_fault_at, vertex_fault}
use Rattle.vertex_checks.proofs.sectors.push_little_faults.Given as goal

abbrev pub invariant-loop-k : goal.invariant-loop-k
invariant-loop-k l =
    l.faults.items ++ map (vertex_fault l.v)
    (flat_map (little_fault_at l.fan) (range_with_len l.k (length l.fan - l.k)))
    ≡ l.initial.faults.items
    ++ map (vertex_fault l.v) (flat_map (little_fault_at l.fan) (range_with_len 0 (length l.fan)))
