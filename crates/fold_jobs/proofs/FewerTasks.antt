-- The job of an accepted outcome waits for one outcome less.
use Rattle.std.proofs.Common.{◌≡◌, ℕ, ◌+◌, ◌-◌, false, cond, Some, slice_set, sym, ◌∙◌, ap}
use Rattle.std.specs.declared.result.Result.{Result}
use Rattle.std.specs.declared.result.Result.TheVariants.{Ok, Err}
use Rattle.worker_split.specs.Job.{JobView}
use Rattle.worker_split.specs.Waiting.{waiting}
use Rattle.fold_jobs.specs.declared.folding_job.FoldingJob.{FoldingJob}
use Rattle.fold_jobs.specs.declared.refusal.JobRefusal.{JobRefusal}
use Rattle.fold_jobs.specs.Machine.{JobsView, job_at, live_from, changed_from}
use Rattle.fold_jobs.specs.Waiting.{waiting_from, waiting_in}
use Rattle.fold_jobs.proofs.Events.{changed-own}

waiting_live : (s : JobsView) (n : ℕ) (j : FoldingJob) → job_at s n ≡ Some j → j.cancelled ≡ false
    → waiting_in s n ≡ waiting j.state
waiting_live s n j found live =
    ap (λ o. waiting_from (live_from o)) found
    ∙ ap (λ b. waiting_from (cond {A = Result FoldingJob JobRefusal} b (Err JobRefusal.Cancelled) (Ok j))) live

pub fewer_wait : (s : JobsView) (n : ℕ) (j : FoldingJob) (new : JobView) → job_at s n ≡ Some j
    → j.cancelled ≡ false → waiting j.state ≡ waiting new + 1
    → waiting_in s n ≡ waiting_in (record s { jobs = slice_set s.jobs (n - 1) (record j { state = new }) }) n + 1
fewer_wait s n j new found live less =
    let with : FoldingJob → FoldingJob = λ k. record k { state = new } in
    let changed = ap (λ (v : JobsView). job_at v n) (sym (ap (changed_from s n with) found))
    ∙ changed-own s n with j found in
    waiting_live s n j found live ∙ less
    ∙ ap (λ k. k + 1)
    (sym (waiting_live (record s { jobs = slice_set s.jobs (n - 1) (with j) }) n (with j) changed live))
