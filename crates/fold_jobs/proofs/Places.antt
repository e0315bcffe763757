-- The job of a number, and what stands in its place after a call.
use Rattle.std.proofs.Common.{◌≡◌, ℕ, ◌-◌, ◌<◌, Bool, true, false, cond, eqb, length, Option, Some, None, is_some, slice_get, slice_index_or, slice_set, refl, sym, ◌∙◌, ap, subst, arith}
use Rattle.std.specs.Prelude.{IfOk, IfSome, option_map}
use Rattle.std.specs.declared.result.Result.{Result}
use Rattle.std.specs.declared.result.Result.TheVariants.{Ok, Err}
use Rattle.std.proofs.lemmas.Bool.{eqb-false}
use Rattle.std.proofs.lemmas.List.{set-get_or}
use Rattle.std.proofs.lemmas.Option.{get_or_from_slice_get, slice_get_within, same_Some}
use Rattle.worker_split.specs.declared.outcome.Outcome.{Outcome}
use Rattle.worker_split.specs.declared.task.Task.{Task}
use Rattle.worker_split.specs.declared.piece.Piece.{Piece}
use Rattle.worker_split.specs.declared.piece.PieceEnd.{PieceEnd}
use Rattle.worker_split.specs.declared.piece.PieceEnd.TheVariants.{Open, Ready, Done as Finished}
use Rattle.worker_split.specs.declared.piece.LastTask.{LastTask}
use Rattle.worker_split.specs.declared.piece.LastTask.TheVariants.{Never, Asked, Answered}
use Rattle.worker_split.specs.declared.answers.Taken.{Taken}
use Rattle.worker_split.specs.declared.answers.Taken.TheVariants.{Accepted, Stranger}
use Rattle.worker_split.specs.Tasks.{TaskView, task_of, IsRightOutcome}
use Rattle.worker_split.specs.Job.{JobView, piece_at, task_at, task_of_piece, task_by, posted, IsTaken, Matches, IsRightFor}
use Rattle.fold_jobs.specs.declared.folding_job.FoldingJob.{FoldingJob}
use Rattle.fold_jobs.specs.declared.folding_job.FoldAnswer.{FoldAnswer}
use Rattle.fold_jobs.specs.declared.folding_job.FoldAnswer.TheVariants.{Shown, NoMore, Paused, NotReady}
use Rattle.fold_jobs.specs.declared.refusal.JobRefusal.{JobRefusal}
use Rattle.fold_jobs.specs.Machine.{JobsView, job_at, live_from, live_job, changed_from, answered, after_answer_to, MatchesJob, MatchesIn, kept_from, IsPosted, IsRightIn}
use Rattle.fold_jobs.specs.Invariant.{HaveTheirNumbers}

-- a job that there is stands in the list
pub record IsAt (s : JobsView) (n : ℕ) (j : FoldingJob) : Type 0 where
  pub some : 0 < n
  pub found : slice_get s.jobs (n - 1) ≡ Some j
  pub inside : n - 1 < length s.jobs
  pub is : (d : FoldingJob) → slice_index_or s.jobs (n - 1) d ≡ j

pub at_place : (s : JobsView) (n : ℕ) (j : FoldingJob) → job_at s n ≡ Some j → IsAt s n j
at_place s n j e = by_test (eqb n 0) refl e
  where
    by_test : (b : Bool) → eqb n 0 ≡ b → cond b None (slice_get s.jobs (n - 1)) ≡ Some j → IsAt s n j
    by_test true zero_number none = absurd (cc)
    by_test false some found = record {
      some = let apart = eqb-false n 0 some in omega (arith, apart);
      found = found;
      inside = slice_get_within s.jobs (n - 1) j found;
      is = λ d. get_or_from_slice_get s.jobs (n - 1) j d found;
    }

pub live_found : (s : JobsView) (n : ℕ) (j : FoldingJob) → live_job s n ≡ Ok j
    → (job_at s n ≡ Some j) × (j.cancelled ≡ false)
live_found s n j e = by_job (job_at s n) refl e
  where
    by_test : (k : FoldingJob) (b : Bool) → k.cancelled ≡ b → job_at s n ≡ Some k
        → cond {A = Result FoldingJob JobRefusal} b (Err JobRefusal.Cancelled) (Ok k) ≡ Ok j
        → (job_at s n ≡ Some j) × (j.cancelled ≡ false)
    by_test k true is found e = absurd (cc)
    by_test k false is found e = let same : k ≡ j = (cc) in subst
        (λ d. (job_at s n ≡ Some d) × (d.cancelled ≡ false)) same (found, is)

    by_job : (o : Option FoldingJob) → job_at s n ≡ o → live_from o ≡ Ok j
        → (job_at s n ≡ Some j) × (j.cancelled ≡ false)
    by_job None found e = absurd (cc)
    by_job (Some k) found e = by_test k k.cancelled refl found e

-- the same job put into its place
pub same_jobs : (s : JobsView) (n : ℕ) (j : FoldingJob) → job_at s n ≡ Some j
    → slice_set s.jobs (n - 1) j ≡ s.jobs
same_jobs s n j found =
    ap (slice_set s.jobs (n - 1)) (sym ((at_place s n j found).is j)) ∙ set-get_or s.jobs (n - 1) j

pub answered_is : (s : JobsView) (n : ℕ) (j : FoldingJob) (answer : FoldAnswer) → job_at s n ≡ Some j
    → record s { jobs = slice_set s.jobs (n - 1) (answered answer j) } ≡ after_answer_to s n (Ok answer)
answered_is s n j (Shown version number order) found =
    sym (ap (changed_from s n (answered (Shown version number order))) found)
answered_is s n j (NoMore version) found = sym (ap (changed_from s n (answered (NoMore version))) found)
answered_is s n j (Paused version) found = sym (ap (changed_from s n (answered (Paused version))) found)
answered_is s n j (NotReady version piece) found =
    ap (λ jobs. record s { jobs = jobs }) (same_jobs s n j found)

pub posted_is : (s : JobsView) (x : Outcome) (j : FoldingJob) (taken : Taken) (new : JobView)
    → job_at s x.job ≡ Some j → j.cancelled ≡ false → IsTaken j.state x taken new
    → IsPosted s x taken (record s { jobs = slice_set s.jobs (x.job - 1) (record j { state = new }) })
posted_is s x j Accepted new found live taken =
    let with : JobView → JobsView = λ v.
    record s { jobs = slice_set s.jobs (x.job - 1) (record j { state = v }) } in (
      subst (λ o. MatchesJob o x) (sym found) (live, taken.0),
      ap with taken.1
          ∙ sym (ap (changed_from s x.job (λ (k : FoldingJob). record k { state = posted k.state x })) found),
    )
posted_is s x j (Stranger kept came) new found live taken =
    let with : JobView → JobsView = λ v.
    record s { jobs = slice_set s.jobs (x.job - 1) (record j { state = v }) } in (
      λ matches. taken.0 (subst (λ o. MatchesJob o x) found matches).1,
      taken.1 ∙ sym (ap (λ o. kept_from o x.piece) found),
      taken.2,
      ap with taken.3 ∙ ap (λ jobs. record s { jobs = jobs }) (same_jobs s x.job j found),
    )

-- ---- tasks

task_job : (j : JobView) (piece : ℕ) (t : TaskView) → Some t ≡ task_at j piece → t.job ≡ j.job
task_job j piece t e = by_ask (is_some j.ask) e
  where
    by_end : (p : Piece) (end : PieceEnd) (last : LastTask) → Some t ≡ task_by j piece p end last
        → t.job ≡ j.job
    by_end p Open (Asked budget) e = ap (λ (v : TaskView). v.job) (same_Some t _ e)
    by_end p Open (Answered budget) e = absurd (cc)
    by_end p Open Never e = absurd (cc)
    by_end p (Ready order) last e = absurd (cc)
    by_end p Finished last e = absurd (cc)

    by_piece : (o : Option Piece) → Some t ≡ task_of_piece j piece o → t.job ≡ j.job
    by_piece None e = absurd (cc)
    by_piece (Some p) e = by_end p p.end p.last e

    by_ask : (b : Bool) → Some t ≡ cond b (task_of_piece j piece (piece_at j piece)) None → t.job ≡ j.job
    by_ask true e = by_piece (piece_at j piece) e
    by_ask false e = absurd (cc)

pub numbered_at : (s : JobsView) (n : ℕ) (j : FoldingJob) → HaveTheirNumbers s.jobs → job_at s n ≡ Some j
    → j.state.job ≡ n
numbered_at s n j numbered found =
    let here = at_place s n j found in
    let own = ap (λ (k : FoldingJob). k.state.job) (here.is j) in
    omega (arith, here.some, own, numbered (n - 1) j here.inside)

-- a task of a job names it
pub job_in : {E : Type 0} (s : JobsView) (n : ℕ) (j : FoldingJob) (piece : ℕ) (result : Result (Option Task) E)
    → job_at s n ≡ Some j → HaveTheirNumbers s.jobs
    → IfOk result (λ task. option_map task_of task ≡ task_at j.state piece)
    → IfOk result (λ task. IfSome task (λ t. t.job ≡ n))
job_in s n j piece (Err e) found numbered task = task
job_in s n j piece (Ok None) found numbered task = tt
job_in s n j piece (Ok (Some t)) found numbered task =
    task_job j.state piece (task_of t) task ∙ numbered_at s n j numbered found

-- an outcome that is right for a task of a job is right among all jobs
pub right_in : {E : Type 0} (s : JobsView) (n : ℕ) (j : FoldingJob) (piece : ℕ)
    (result : Result (Option Task) E) → job_at s n ≡ Some j → HaveTheirNumbers s.jobs
    → IfOk result (λ task. option_map task_of task ≡ task_at j.state piece)
    → IfOk result (λ task. IfSome task (λ t. (x : Outcome) → IsRightOutcome (task_of t) x
    → IsRightFor j.state x))
    → IfOk result (λ task. IfSome task (λ t. (x : Outcome) → IsRightOutcome (task_of t) x → IsRightIn s x))
right_in s n j piece (Err e) found numbered task right = right
right_in s n j piece (Ok None) found numbered task right = right
right_in s n j piece (Ok (Some t)) found numbered task right = λ x is_right.
    let number : x.job ≡ n =
    is_right.job ∙ task_job j.state piece (task_of t) task ∙ numbered_at s n j numbered found in
    (j, ap (job_at s) number ∙ found, right x is_right)

-- an outcome that is right for a task of a live job matches among all jobs
pub answers_in : {E : Type 0} (s : JobsView) (n : ℕ) (j : FoldingJob) (piece : ℕ)
    (result : Result (Option Task) E) → job_at s n ≡ Some j → j.cancelled ≡ false → HaveTheirNumbers s.jobs
    → IfOk result (λ task. option_map task_of task ≡ task_at j.state piece)
    → IfOk result (λ task. IfSome task (λ t. (x : Outcome) → IsRightOutcome (task_of t) x
    → Matches j.state x))
    → IfOk result (λ task. IfSome task (λ t. (x : Outcome) → IsRightOutcome (task_of t) x → MatchesIn s x))
answers_in s n j piece (Err e) found live numbered task answers = answers
answers_in s n j piece (Ok None) found live numbered task answers = answers
answers_in s n j piece (Ok (Some t)) found live numbered task answers = λ x is_right.
    let number : x.job ≡ n =
    is_right.job ∙ task_job j.state piece (task_of t) task ∙ numbered_at s n j numbered found in
    subst (λ o. MatchesJob o x) (sym (ap (job_at s) number ∙ found)) (live, answers x is_right)
