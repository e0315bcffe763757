-- The machine of all folding jobs: which job a number names, what a call is answered, and the jobs after it.
use Rattle.std.specs.Prelude.{◌≡◌, ⊤, ℕ, ◌+◌, ◌-◌, ◌==◌, Bool, true, false, if◌then◌else◌, List, [], ◌∷◌, ◌++◌, length, Option, None, Some, is_some, slice_get, slice_set, nat_le, IsTrue, IsFalse}
use Rattle.std.specs.declared.result.Result.{Result}
use Rattle.std.specs.declared.result.Result.TheVariants.{Ok, Err}
use Rattle.sign_rules.specs.Rules.{RulesView}
use Rattle.worker_split.specs.declared.outcome.Outcome.{Outcome}
use Rattle.worker_split.specs.declared.answers.Kept.{Kept}
use Rattle.worker_split.specs.declared.answers.Taken.{Taken}
use Rattle.worker_split.specs.declared.answers.Taken.TheVariants.{Accepted, Stranger}
use Rattle.worker_split.specs.declared.answers.JobAnswer.{JobAnswer}
use Rattle.worker_split.specs.declared.answers.JobAnswer.TheVariants as job_answer
use Rattle.worker_split.specs.Tasks.{TaskView}
use Rattle.worker_split.specs.Job.{opened_job, asked, task_at, Matches, IsRightFor, IsRightWhereNamed, posted, kept_of, next_answer, after_answer, needed}
use Rattle.fold_jobs.specs.declared.folding_job.FoldingJob.{FoldingJob}
use Rattle.fold_jobs.specs.declared.folding_job.FoldAnswer.{FoldAnswer}
use Rattle.fold_jobs.specs.declared.folding_job.FoldAnswer.TheVariants.{Shown, NoMore, Paused, NotReady}
use Rattle.fold_jobs.specs.declared.jobs.OpenFault.{OpenFault}
use Rattle.fold_jobs.specs.declared.jobs.OpenFault.TheVariants.{TooManyJobs, Memory}
use Rattle.fold_jobs.specs.declared.refusal.JobRefusal.{JobRefusal}
use Rattle.fold_jobs.specs.declared.refusal.JobRefusal.TheVariants.{NoSuchJob, Cancelled, Busy, NothingAsked, TooManyAsks}
use Rattle.fold_jobs.specs.Limits.{most_jobs, most_asks, first_budget}

-- the jobs in the order of their numbers, the budget of the next ask, how many asks were opened, and the
-- number of pieces that a job may have
pub record JobsView : Type 0 where
  pub jobs : List FoldingJob
  pub budget : ℕ
  pub asks : ℕ
  pub most : ℕ

abbrev pub no_jobs : ℕ → JobsView
no_jobs most = record { jobs = []; budget = first_budget; asks = 0; most = most }

-- ---- the job of a number; numbers count from 1

abbrev pub job_at : JobsView → ℕ → Option FoldingJob
job_at s n = if n == 0 then None else slice_get s.jobs (n - 1)

abbrev pub live_from : Option FoldingJob → Result FoldingJob JobRefusal
live_from None = Err NoSuchJob
live_from (Some j) = if j.cancelled then Err Cancelled else Ok j

-- the job, if it is there and was not cancelled
abbrev pub live_job : JobsView → ℕ → Result FoldingJob JobRefusal
live_job s n = live_from (job_at s n)

-- the jobs with that of a number changed, if it is there
abbrev pub changed_from : JobsView → ℕ → (FoldingJob → FoldingJob) → Option FoldingJob → JobsView
changed_from s n change None = s
changed_from s n change (Some j) = record s { jobs = slice_set s.jobs (n - 1) (change j) }

abbrev pub changed : JobsView → ℕ → (FoldingJob → FoldingJob) → JobsView
changed s n change = changed_from s n change (job_at s n)

-- ---- open

abbrev pub is_full : JobsView → Bool
is_full s = nat_le most_jobs (length s.jobs)

abbrev pub new_job : ℕ → ℕ → RulesView → ℕ → FoldingJob
new_job number version rules most =
    record { state = opened_job number version rules most; shown = 0; cancelled = false }

abbrev pub opened_in : JobsView → ℕ → RulesView → JobsView
opened_in s version rules =
    record s { jobs = s.jobs ++ new_job (length s.jobs + 1) version rules s.most ∷ [] }

-- the next number; refused exactly where there are most_jobs; a refusal changes nothing
abbrev pub IsOpened : JobsView → ℕ → RulesView → Result ℕ OpenFault → JobsView → Type 0
IsOpened old version rules (Ok number) new =
    IsFalse (is_full old) × (number ≡ length old.jobs + 1) × (new ≡ opened_in old version rules)
IsOpened old version rules (Err TooManyJobs) new = IsTrue (is_full old) × (new ≡ old)
IsOpened old version rules (Err Memory) new = IsFalse (is_full old) × (new ≡ old)

-- ---- ask

abbrev pub ask_from : JobsView → Result FoldingJob JobRefusal → Result ⊤ JobRefusal
ask_from s (Err refusal) = Err refusal
ask_from s (Ok j) =
    if is_some j.state.ask then Err Busy else if nat_le most_asks s.asks then Err TooManyAsks else Ok tt

abbrev pub ask_answer : JobsView → ℕ → Result ⊤ JobRefusal
ask_answer s n = ask_from s (live_job s n)

-- the ask has the budget of this moment
abbrev pub after_ask : JobsView → ℕ → Result ⊤ JobRefusal → JobsView
after_ask s n (Err refusal) = s
after_ask s n (Ok _) =
    record (changed s n (λ j. record j { state = asked j.state s.budget })) { asks = s.asks + 1 }

-- ---- answer

-- an answer of the job machine, for a job of this version that has shown so many orders
abbrev pub answer_told : ℕ → ℕ → JobAnswer → FoldAnswer
answer_told version shown (job_answer.Shown order) = Shown version (shown + 1) order
answer_told version shown job_answer.NoMore = NoMore version
answer_told version shown job_answer.Paused = Paused version
answer_told version shown (job_answer.NotReady piece) = NotReady version piece

abbrev pub answer_from : Result FoldingJob JobRefusal → Result FoldAnswer JobRefusal
answer_from (Err refusal) = Err refusal
answer_from (Ok j) =
    if is_some j.state.ask then Ok (answer_told j.state.version j.shown (next_answer j.state))
    else Err NothingAsked

abbrev pub answer_to : JobsView → ℕ → Result FoldAnswer JobRefusal
answer_to s n = answer_from (live_job s n)

-- the same answer of the job machine
abbrev pub answer_of : FoldAnswer → JobAnswer
answer_of (Shown version number order) = job_answer.Shown order
answer_of (NoMore version) = job_answer.NoMore
answer_of (Paused version) = job_answer.Paused
answer_of (NotReady version piece) = job_answer.NotReady piece

abbrev pub shown_after : ℕ → FoldAnswer → ℕ
shown_after shown (Shown version number order) = shown + 1
shown_after shown (NoMore version) = shown
shown_after shown (Paused version) = shown
shown_after shown (NotReady version piece) = shown

abbrev pub answered : FoldAnswer → FoldingJob → FoldingJob
answered answer j =
    record j { state = after_answer j.state (answer_of answer); shown = shown_after j.shown answer }

-- an ask that is not ready stays as it is
abbrev pub after_answer_to : JobsView → ℕ → Result FoldAnswer JobRefusal → JobsView
after_answer_to s n (Err refusal) = s
after_answer_to s n (Ok (NotReady version piece)) = s
after_answer_to s n (Ok answer) = changed s n (answered answer)

-- ---- cancel

abbrev pub cancel_from : Result FoldingJob JobRefusal → Result ⊤ JobRefusal
cancel_from (Err refusal) = Err refusal
cancel_from (Ok j) = Ok tt

abbrev pub cancel_answer : JobsView → ℕ → Result ⊤ JobRefusal
cancel_answer s n = cancel_from (live_job s n)

abbrev pub after_cancel : JobsView → ℕ → Result ⊤ JobRefusal → JobsView
after_cancel s n (Err refusal) = s
after_cancel s n (Ok _) = changed s n (λ j. record j { cancelled = true })

-- ---- outcomes

abbrev pub MatchesJob : Option FoldingJob → Outcome → Type 0
MatchesJob None x = ⊥
MatchesJob (Some j) x = IsFalse j.cancelled × Matches j.state x

-- the outcome answers the last task of a piece of a job that was not cancelled
abbrev pub MatchesIn : JobsView → Outcome → Type 0
MatchesIn s x = MatchesJob (job_at s x.job) x

abbrev pub posted_in : JobsView → Outcome → JobsView
posted_in s x = changed s x.job (λ j. record j { state = posted j.state x })

-- what is known of a job that there is not
abbrev pub no_job : Kept
no_job = record { job = 0; version = 0; piece = 0; pieces = 0; budget = 0; answered = false }

abbrev pub kept_from : Option FoldingJob → ℕ → Kept
kept_from None piece = no_job
kept_from (Some j) piece = kept_of j.state piece

-- accepted where it matches; any other is a stranger and changes nothing, also one for a job that is not
-- there or was cancelled
abbrev pub IsPosted : JobsView → Outcome → Taken → JobsView → Type 0
IsPosted old x Accepted new = MatchesIn old x × (new ≡ posted_in old x)
IsPosted old x (Stranger kept came) new =
    (¬ MatchesIn old x) × (kept ≡ kept_from (job_at old x.job) x.piece) × (came ≡ x) × (new ≡ old)

-- where the outcome's job is there and was not cancelled, it is right for the task that it names
abbrev pub IsRightWhereLive : JobsView → Outcome → Type 0
IsRightWhereLive s x =
    (j : FoldingJob) → job_at s x.job ≡ Some j → IsFalse j.cancelled → IsRightWhereNamed j.state x

-- the outcome's job is there, and its end is right for the task that it names
abbrev pub IsRightIn : JobsView → Outcome → Type 0
IsRightIn s x = (j : FoldingJob) × (job_at s x.job ≡ Some j) × IsRightFor j.state x

-- ---- tasks

abbrev pub task_from : Result FoldingJob JobRefusal → ℕ → Option TaskView
task_from (Err refusal) piece = None
task_from (Ok j) piece = task_at j.state piece

abbrev pub task_in : JobsView → ℕ → ℕ → Option TaskView
task_in s n piece = task_from (live_job s n) piece

abbrev pub needed_from : Result FoldingJob JobRefusal → Option ℕ
needed_from (Err refusal) = None
needed_from (Ok j) = needed j.state

abbrev pub needed_in : JobsView → ℕ → Option ℕ
needed_in s n = needed_from (live_job s n)
