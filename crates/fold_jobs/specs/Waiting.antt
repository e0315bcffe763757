-- How many outcomes a job waits for.
use Rattle.std.specs.Prelude.{ℕ}
use Rattle.std.specs.declared.result.Result.{Result}
use Rattle.std.specs.declared.result.Result.TheVariants.{Ok, Err}
use Rattle.worker_split.specs.Waiting.{waiting}
use Rattle.fold_jobs.specs.declared.folding_job.FoldingJob.{FoldingJob}
use Rattle.fold_jobs.specs.declared.refusal.JobRefusal.{JobRefusal}
use Rattle.fold_jobs.specs.Machine.{JobsView, live_job}

abbrev pub waiting_from : Result FoldingJob JobRefusal → ℕ
waiting_from (Err refusal) = 0
waiting_from (Ok j) = waiting j.state

-- a job that is not there, or was cancelled, waits for none
abbrev pub waiting_in : JobsView → ℕ → ℕ
waiting_in s n = waiting_from (live_job s n)
