use Rattle.std.proofs.Common.{◌≡◌, subst}
use Rattle.std.specs.Prelude.{IfSome}
use Rattle.worker_split.specs.declared.task.Task.{Task}
use Rattle.worker_split.specs.declared.outcome.Outcome.{Outcome}
use Rattle.worker_split.specs.Tasks.{task_of, IsRightOutcome}
use Rattle.fold_jobs.specs.Machine.{MatchesIn}
use Rattle.oriedita_cli.proofs.Released.{new_ticket}
use Rattle.oriedita_cli.proofs.helping.ticket_for.Goals as goal

pub returns-clause-ticket : goal.returns-clause-ticket
returns-clause-ticket g c =
    let jobs = c.args.session.now.state.jobs in
    let listed = c.in_ok-number.ensures.listed in
    new_ticket (g.H.Helpers.held c.put_task.new.helpers) jobs c.args.job c.in_ok-number.number
    c.args.tickets.now.list.items c.put_task.new.tickets.list.items c.in-Some.task listed.0 listed.1 listed.2
    (subst (λ o. IfSome o (λ (t : Task). t.job ≡ c.args.job)) c.in-Some.is c.in_ok-task.ensures.job) listed.3
    c.in_ok-number.ensures.held
    (subst (λ o. IfSome o (λ (t : Task). (x : Outcome) → IsRightOutcome (task_of t) x → MatchesIn jobs x))
    c.in-Some.is c.in_ok-task.ensures.answers)
