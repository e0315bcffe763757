use Rattle.std.proofs.Common.{◌≡◌, true, is_some, subst}
use Rattle.std.specs.List.{All}
use Rattle.worker_split.specs.Job.{JobView}
use Rattle.worker_split.specs.Invariant.{WasAsked}
use Rattle.worker_split.proofs.Needs.{needed_task}
use Rattle.worker_split.proofs.job.JobState.needs.Goals as goal

pub returns-clause-task : goal.returns-clause-task
returns-clause-task c =
    let asked = subst (λ (v : JobView). All (WasAsked v.ask) v.pieces) c.self.view_is c.self.invariant.asked in
    let some = subst (λ (v : JobView). is_some v.ask ≡ true) c.self.view_is c.if-is_none.ensures in
    needed_task c.args.self.now c.first_waiting.result some asked c.first_waiting.ensures
