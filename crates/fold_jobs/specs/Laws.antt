-- How legal records of all jobs grow, what every one shows, and that right outcomes stay right.
use Rattle.std.specs.Prelude.{◌≡◌, ◌↔◌, ℕ, ◌+◌, List, [], ◌∷◌, ◌++◌, Some, slice_get}
use Rattle.sign_rules.specs.Rules.{RulesView}
use Rattle.worker_split.specs.declared.outcome.Outcome.{Outcome}
use Rattle.worker_split.specs.Job.{IsRightFor}
use Rattle.job_enumeration.specs.Record.{IsJobRecord}
use Rattle.job_enumeration.specs.Closings.{closings}
use Rattle.job_enumeration.specs.Enumeration.{IsEnumeration, order_at}
use Rattle.fold_jobs.specs.declared.folding_job.FoldingJob.{FoldingJob}
use Rattle.fold_jobs.specs.Machine.{JobsView, job_at, IsRightIn, IsRightWhereLive}
use Rattle.fold_jobs.specs.Record.{JobsEvent, Open, after_event, jobs_after, IsLegalEvent, IsRecordFrom, IsJobsRecord}
use Rattle.fold_jobs.specs.OwnEvents.{own_events, ShownOrder, shown_by}

-- a record grows by just the events that are legal for the jobs that it leads to
pub record RecordsGrow : Type 0 where
  pub legal : (s : JobsView) (es : List JobsEvent) (e : JobsEvent)
      → IsRecordFrom s (es ++ e ∷ []) ↔ (IsRecordFrom s es × IsLegalEvent (jobs_after s es) e)
  pub jobs : (s : JobsView) (es : List JobsEvent) (e : JobsEvent)
      → jobs_after s (es ++ e ∷ []) ≡ after_event (jobs_after s es) e

-- the k-th order shown has the number k, the version and the k-th order of the rules
abbrev pub AreShown : ℕ → RulesView → List ShownOrder → Type 0
AreShown version r shown = (k : ℕ) (o : ShownOrder) → slice_get shown k ≡ Some o
    → (o.number ≡ k + 1) × (o.version ≡ version) × (order_at r (k + 1) ≡ Some o.order)

-- what a record of all jobs shows of the one of a number
pub record ShowsOrders (most number version : ℕ) (r : RulesView) (es : List JobsEvent) : Type 0 where
  -- its own events are a legal record of one job
  pub legal : IsJobRecord number version r most (own_events number es)
  pub shown : AreShown version r (shown_by number es)
  -- "no more" stands behind all orders, and pauses within the open lists between two orders
  pub enumeration : IsEnumeration r most (closings (own_events number es))

-- each job that was opened in a legal record shows the orders of its rules
abbrev pub LegalRecordsEnumerate : Type 0
LegalRecordsEnumerate =
    (most number version : ℕ) (r : RulesView) (es before after : List JobsEvent) → IsJobsRecord most es
    → es ≡ before ++ Open number version r ∷ after → ShowsOrders most number version r es

-- an outcome that is right for a job stays right for it, whatever happens
pub record RightOutcomesStay : Type 0 where
  pub stays : (s : JobsView) (e : JobsEvent) (x : Outcome) → IsRightIn s x → IsRightIn (after_event s e) x
  -- and may be posted
  pub posts : (s : JobsView) (x : Outcome) → IsRightIn s x → IsRightWhereLive s x
