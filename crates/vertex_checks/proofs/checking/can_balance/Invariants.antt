use Rattle.std.proofs.Common.{◌≡◌, ◌+◌, ◌-◌}
use Rattle.std.specs.List.{list_any, range_with_len}
use Rattle.vertex_checks.specs.Faults.{balances, can_balance}
use Rattle.vertex_checks.proofs.checking.can_balance.Given as goal

abbrev pub invariant-loop-x : goal.invariant-loop-x
invariant-loop-x l =
    list_any (balances l.m l.v l.u) (range_with_len l.x (l.u + 1 - l.x)) ≡ can_balance l.m l.v l.u
