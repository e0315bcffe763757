-- That an outcome is right for a task is one fact.
use Rattle.worker_split.specs.declared.outcome.Outcome.{Outcome}
use Rattle.worker_split.specs.Tasks.{TaskView, IsRightOutcome}

-- where it is known only that an outcome is right for a task, as behind a lock, all that this says holds
abbrev pub RightOutcomesAreOneFact : Type 0
RightOutcomesAreOneFact = (t : TaskView) (x : Outcome) → ∥ IsRightOutcome t x ∥₁ → IsRightOutcome t x
