use Rattle.std.proofs.Common.{sym, subst}
use Rattle.std.specs.Prelude.{IfSome}
use Rattle.std.specs.List.{All}
use Rattle.std.proofs.lemmas.List.Elements.{All-push}
use Rattle.worker_split.specs.declared.outcome.Outcome.{Outcome}
use Rattle.worker_split.specs.Tasks.{task_of, IsRightOutcome}
use Rattle.fold_jobs.specs.Machine.{IsRightIn}
use Rattle.worked_rows.proofs.posts.search.Goals as goal

pub returns-in_err-push : goal.returns-in_err-push
returns-in_err-push c =
    subst (All (λ x. IsRightIn c.args.session.now.state.jobs x)) (sym c.in_err-push.ensures.items) c.requires

pub returns : goal.returns
returns c =
    let s = c.args.session.now.state.jobs in
    let x = c.in_ok-perform.field-0 in
    let right : (y : Outcome) → IsRightOutcome (task_of c.in-Some.task) y → IsRightIn s y =
    subst (λ o. IfSome o (λ t. (y : Outcome) → IsRightOutcome (task_of t) y → IsRightIn s y)) c.in-Some.is
    c.in_ok-task.ensures.right in
    subst (All (λ y. IsRightIn s y)) (sym c.in_ok-push.ensures.items)
    (All-push (λ y. IsRightIn s y) c.args.kept.now.items x c.requires (right x c.in_ok-perform.ensures))
