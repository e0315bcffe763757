-- Records of all folding jobs: what was asked, posted and answered, and which records are legal.
use Rattle.std.specs.Prelude.{◌≡◌, ⊤, ℕ, ◌+◌, ◌≤◌, Bool, true, false, List, [], ◌∷◌, length, Some, IsTrue, IsFalse}
use Rattle.std.specs.declared.result.Result.{Result}
use Rattle.sign_rules.specs.Rules.{RulesView}
use Rattle.worker_split.specs.declared.outcome.Outcome.{Outcome}
use Rattle.job_enumeration.specs.Record.{IsRightPost}
use Rattle.fold_jobs.specs.declared.folding_job.FoldingJob.{FoldingJob}
use Rattle.fold_jobs.specs.declared.folding_job.FoldAnswer.{FoldAnswer}
use Rattle.fold_jobs.specs.declared.refusal.JobRefusal.{JobRefusal}
use Rattle.fold_jobs.specs.Limits.{greatest_budget}
use Rattle.fold_jobs.specs.Machine.{JobsView, no_jobs, job_at, is_full, opened_in, ask_answer, after_ask, answer_to, after_answer_to, cancel_answer, after_cancel, MatchesIn, posted_in}

pub data JobsEvent : Type 0 where
  -- a job of this number was opened on the rules of a version
  Open : (number version : ℕ) (rules : RulesView) → JobsEvent
  -- none was opened, since there are too many
  TooMany : JobsEvent
  Ask : (job : ℕ) (answer : Result ⊤ JobRefusal) → JobsEvent
  SetBudget : (budget : ℕ) → JobsEvent
  Answer : (job : ℕ) (answer : Result FoldAnswer JobRefusal) → JobsEvent
  Cancel : (job : ℕ) (answer : Result ⊤ JobRefusal) → JobsEvent
  -- an outcome that was posted, and whether it was accepted
  Post : (outcome : Outcome) (accepted : Bool) → JobsEvent

-- the jobs after an event
abbrev pub after_event : JobsView → JobsEvent → JobsView
after_event s (Open number version rules) = opened_in s version rules
after_event s TooMany = s
after_event s (Ask job answer) = after_ask s job answer
after_event s (SetBudget budget) = record s { budget = budget }
after_event s (Answer job answer) = after_answer_to s job answer
after_event s (Cancel job answer) = after_cancel s job answer
after_event s (Post x true) = posted_in s x
after_event s (Post x false) = s

-- the jobs after some events
abbrev pub jobs_after : JobsView → List JobsEvent → JobsView
jobs_after s [] = s
jobs_after s (e ∷ es) = jobs_after (after_event s e) es

-- the outcome is right for the last task of its piece, where its job is there
abbrev pub IsRightPostIn : JobsView → Outcome → Type 0
IsRightPostIn s x = (j : FoldingJob) → job_at s x.job ≡ Some j → IsRightPost j.state x

-- jobs are numbered as they come, until there are too many; a budget is within its bounds; each answer is the
-- machine's; exactly the outcomes that match are accepted, and those are right
abbrev pub IsLegalEvent : JobsView → JobsEvent → Type 0
IsLegalEvent s (Open number version rules) = (number ≡ length s.jobs + 1) × IsFalse (is_full s)
IsLegalEvent s TooMany = IsTrue (is_full s)
IsLegalEvent s (Ask job answer) = answer ≡ ask_answer s job
IsLegalEvent s (SetBudget budget) = (1 ≤ budget) × (budget ≤ greatest_budget)
IsLegalEvent s (Answer job answer) = answer ≡ answer_to s job
IsLegalEvent s (Cancel job answer) = answer ≡ cancel_answer s job
IsLegalEvent s (Post x true) = MatchesIn s x × IsRightPostIn s x
IsLegalEvent s (Post x false) = ¬ MatchesIn s x

abbrev pub IsRecordFrom : JobsView → List JobsEvent → Type 0
IsRecordFrom s [] = ⊤
IsRecordFrom s (e ∷ es) = IsLegalEvent s e × IsRecordFrom (after_event s e) es

-- a legal record of jobs that may have so many pieces each
abbrev pub IsJobsRecord : ℕ → List JobsEvent → Type 0
IsJobsRecord most es = IsRecordFrom (no_jobs most) es
