-- How legal records of a job grow, and what every one shows.
use Rattle.std.specs.Prelude.{◌≡◌, ◌↔◌, ℕ, List, [], ◌∷◌, ◌++◌}
use Rattle.sign_rules.specs.Rules.{RulesView}
use Rattle.worker_split.specs.Job.{JobView}
use Rattle.job_enumeration.specs.Record.{JobEvent, after_event, job_after, IsLegalEvent, IsJobRecordFrom, IsJobRecord}
use Rattle.job_enumeration.specs.Closings.{closings}
use Rattle.job_enumeration.specs.Enumeration.{IsEnumeration}

-- a record grows by just the events that are legal for the job that it leads to
pub record RecordsGrow : Type 0 where
  pub legal : (j : JobView) (es : List JobEvent) (e : JobEvent)
      → IsJobRecordFrom j (es ++ e ∷ []) ↔ (IsJobRecordFrom j es × IsLegalEvent (job_after j es) e)
  pub job : (j : JobView) (es : List JobEvent) (e : JobEvent)
      → job_after j (es ++ e ∷ []) ≡ after_event (job_after j es) e

-- for all rules and any number of pieces
abbrev pub LegalRecordsEnumerate : Type 0
LegalRecordsEnumerate =
    (job version : ℕ) (r : RulesView) (most : ℕ) (es : List JobEvent) → IsJobRecord job version r most es
    → IsEnumeration r most (closings es)
