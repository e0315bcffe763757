-- How many outcomes a job waits for.
use Rattle.std.specs.Prelude.{ℕ, Bool, true, false, count_by}
use Rattle.worker_split.specs.declared.piece.LastTask.{LastTask}
use Rattle.worker_split.specs.declared.piece.LastTask.TheVariants.{Never, Asked, Answered}
use Rattle.worker_split.specs.Job.{JobView}

abbrev pub is_unanswered : LastTask → Bool
is_unanswered (Asked _) = true
is_unanswered (Answered _) = false
is_unanswered Never = false

-- the pieces whose last task has no outcome yet; a closed ask may leave some behind
abbrev pub waiting : JobView → ℕ
waiting j = count_by (λ p. is_unanswered p.last) j.pieces
