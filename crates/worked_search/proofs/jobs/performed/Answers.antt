use Rattle.std.proofs.Common.{subst}
use Rattle.std.specs.Prelude.{IfSome}
use Rattle.worker_split.specs.declared.outcome.Outcome.{Outcome}
use Rattle.worker_split.specs.Tasks.{task_of, IsRightOutcome}
use Rattle.fold_jobs.specs.Machine.{IsRightIn}
use Rattle.fold_jobs.proofs.Right.{right_posts}
use Rattle.worked_search.proofs.jobs.performed.Goals as goal

pub post-requires : goal.post-requires
post-requires c =
    let s = c.args.jobs.now in
    let x = c.in_ok-outcome.outcome in
    let right : (y : Outcome) → IsRightOutcome (task_of c.in-Some-2.task) y → IsRightIn s y =
    subst (λ o. IfSome o (λ t. (y : Outcome) → IsRightOutcome (task_of t) y → IsRightIn s y)) c.in-Some-2.is c.in_ok-task.ensures.right in
    right_posts s x (right x c.in_ok-outcome.ensures)
