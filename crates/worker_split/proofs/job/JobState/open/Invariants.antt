use Rattle.std.proofs.Common.{◌≡◌, ◌++◌, map, drop}
use Rattle.sign_rules.specs.Signs.{OrderView}
use Rattle.worker_split.specs.Job.{new_piece}
use Rattle.worker_split.proofs.job.JobState.open.Given as goal

abbrev pub invariant-loop-prefix : goal.invariant-loop-prefix
invariant-loop-prefix l =
    l.pieces.items ++ map (λ (o : OrderView). new_piece o.list) (drop l.prefix-index l.prefix-items)
    ≡ map (λ (o : OrderView). new_piece o.list) l.prefix-items
