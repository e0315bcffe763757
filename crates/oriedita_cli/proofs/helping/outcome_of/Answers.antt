use Rattle.std.proofs.Common.{subst}
use Rattle.task_board.specs.Helping.{IsObtained}
use Rattle.worker_split.specs.declared.outcome.Outcome.{Outcome}
use Rattle.worker_split.specs.Tasks.{task_of, IsRightOutcome}
use Rattle.oriedita_cli.proofs.helping.outcome_of.Goals as goal

pub returns-in-Posted : goal.returns-in-Posted
returns-in-Posted c = λ task before now there. c.right_outcomes_are_one_fact.ensures (task_of task) c.in-Posted.outcome
    (subst (λ o. IsObtained (λ (x : Outcome). IsRightOutcome (task_of task) x) o task before now) c.in-Posted.is there)
