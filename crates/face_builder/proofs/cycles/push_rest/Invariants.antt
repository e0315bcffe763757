use Rattle.std.proofs.Common.{◌≡◌, ◌++◌, drop}
use Rattle.face_builder.specs.Cycle.{next_of, rest_from}
use Rattle.face_builder.proofs.cycles.push_rest.Given as goal

abbrev pub invariant-loop-step : goal.invariant-loop-step
invariant-loop-step l =
    l.cycle.items ++ rest_from l.nexts l.first (drop l.step-index l.nexts) l.i
    ≡ l.initial.cycle.items ++ rest_from l.nexts l.first l.nexts (next_of l.nexts l.first)
