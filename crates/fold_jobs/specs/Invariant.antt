-- What all jobs of a session keep.
use Rattle.std.specs.Prelude.{◌≡◌, ℕ, ◌+◌, ◌≤◌, ◌<◌, List, length, Option, None, Some, slice_index_or}
use Rattle.std.specs.List.{All}
use Rattle.fold_jobs.specs.declared.folding_job.FoldingJob.{FoldingJob}
use Rattle.fold_jobs.specs.Limits.{most_jobs, most_asks, greatest_budget}
use Rattle.fold_jobs.specs.Machine.{JobsView}

-- an open ask is one that may still show an order
abbrev pub open_asks : Option ℕ → ℕ
open_asks None = 0
open_asks (Some budget) = 1

abbrev pub ShowsAtMost : ℕ → FoldingJob → Type 0
ShowsAtMost asks j = j.shown + open_asks j.state.ask ≤ asks

abbrev pub HaveTheirNumbers : List FoldingJob → Type 0
HaveTheirNumbers jobs =
    (place : ℕ) (d : FoldingJob) → place < length jobs → (slice_index_or jobs place d).state.job ≡ place + 1

-- jobs have the numbers of their places, and a job shows at most one order an ask
pub record AreJobs (s : JobsView) : Type 0 where
  pub few : length s.jobs ≤ most_jobs
  pub numbered : HaveTheirNumbers s.jobs
  pub shown : All (ShowsAtMost s.asks) s.jobs
  pub asks : s.asks ≤ most_asks
  pub some_budget : 1 ≤ s.budget
  pub low_budget : s.budget ≤ greatest_budget
  pub most : s.most ≡ 1
