-- Records of one job: its asks, the outcomes posted to it and its answers; and which of them are legal.
use Rattle.std.specs.Prelude.{◌≡◌, ℕ, ◌≤◌, Bool, true, false, List, [], ◌∷◌, Some, IsSome, IsNone, ⊤}
use Rattle.sign_rules.specs.Rules.{RulesView}
use Rattle.worker_split.specs.declared.outcome.Outcome.{Outcome}
use Rattle.worker_split.specs.declared.piece.Piece.{Piece}
use Rattle.worker_split.specs.declared.answers.JobAnswer.{JobAnswer}
use Rattle.worker_split.specs.Tasks.{IsRightOutcome}
use Rattle.worker_split.specs.Job.{JobView, opened_job, asked, piece_at, task_with, Matches, posted, next_answer, after_answer}

pub data JobEvent : Type 0 where
  -- an ask with its budget
  Ask : (budget : ℕ) → JobEvent
  -- an outcome that was posted, and whether it was accepted
  Post : (outcome : Outcome) (accepted : Bool) → JobEvent
  Answer : (answer : JobAnswer) → JobEvent

-- the job after an event; an outcome that is not accepted changes nothing
abbrev pub after_event : JobView → JobEvent → JobView
after_event j (Ask budget) = asked j budget
after_event j (Post x true) = posted j x
after_event j (Post x false) = j
after_event j (Answer answer) = after_answer j answer

-- the job after some events
abbrev pub job_after : JobView → List JobEvent → JobView
job_after j [] = j
job_after j (e ∷ es) = job_after (after_event j e) es

-- the outcome is right for the last task of its piece
abbrev pub IsRightPost : JobView → Outcome → Type 0
IsRightPost j x =
    (p : Piece) → piece_at j x.piece ≡ Some p → IsRightOutcome (task_with j x.piece p x.budget) x

-- an ask comes only where none is open, an answer only where one is; exactly the outcomes that match are
-- accepted, and those are right
abbrev pub IsLegalEvent : JobView → JobEvent → Type 0
IsLegalEvent j (Ask budget) = IsNone j.ask × (1 ≤ budget)
IsLegalEvent j (Post x true) = Matches j x × IsRightPost j x
IsLegalEvent j (Post x false) = ¬ Matches j x
IsLegalEvent j (Answer answer) = IsSome j.ask × (answer ≡ next_answer j)

abbrev pub IsJobRecordFrom : JobView → List JobEvent → Type 0
IsJobRecordFrom j [] = ⊤
IsJobRecordFrom j (e ∷ es) = IsLegalEvent j e × IsJobRecordFrom (after_event j e) es

-- a legal record of a job that was opened with these numbers and rules, in at most `most` pieces
abbrev pub IsJobRecord : ℕ → ℕ → RulesView → ℕ → List JobEvent → Type 0
IsJobRecord job version r most es = IsJobRecordFrom (opened_job job version r most) es
