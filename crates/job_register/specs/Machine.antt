-- The session machine: what a command is answered, what an outcome that is posted changes, and the state after it.
use Rattle.std.specs.Prelude.{◌≡◌, ⊤, ℕ, ◌+◌, Bool, true, false, Option, None, Some, Ok, Err, length, IsTrue, IsFalse}
use Rattle.std.specs.declared.result.Result.{Result}
use Rattle.undo_journal.specs.Versions.{JournalView}
use Rattle.worker_split.specs.declared.outcome.Outcome.{Outcome}
use Rattle.script_lang.specs.declared.command.Command.{Command}
use Rattle.script_lang.specs.declared.command.Command.TheVariants.{Fold, Another, Budget, Peek, Wait, Cancel}
use Rattle.script_lang.specs.declared.reply.Reply.{Reply}
use Rattle.script_lang.specs.declared.reply.Reply.TheVariants as reply
use Rattle.script_lang.specs.declared.refusal.Refusal.{Refusal}
use Rattle.script_lang.specs.declared.refusal.Refusal.TheVariants as refusal
use Rattle.fold_jobs.specs.declared.folding_job.FoldAnswer.{FoldAnswer}
use Rattle.fold_jobs.specs.declared.folding_job.FoldAnswer.TheVariants.{Shown, NoMore, Paused, NotReady}
use Rattle.fold_jobs.specs.declared.refusal.JobRefusal.{JobRefusal}
use Rattle.fold_jobs.specs.declared.refusal.JobRefusal.TheVariants as job
use Rattle.fold_jobs.specs.Machine.{JobsView, no_jobs, is_full, opened_in, ask_answer, after_ask, answer_to, after_answer_to, cancel_answer, after_cancel, MatchesIn, posted_in, needed_in}
use Rattle.fold_jobs.specs.Record.{IsRightPostIn}
use Rattle.layer_rules.specs.declared.layering.InstanceFault.{InstanceFault}
use Rattle.layer_rules.specs.declared.layering.InstanceFault.TheVariants as fault
use Rattle.layer_rules.specs.Layering.{LayeringView, IsInstanceFault}
use Rattle.job_register.specs.Edits.{EditAnswer, answer, first_journal, current_pattern_of}
use Rattle.job_register.specs.Layers.{IsLayersOf}

-- the versions of the pattern, and the folding jobs
pub record State : Type 0 where
  pub journal : JournalView
  pub jobs : JobsView

-- a job may have so many pieces
abbrev pub first_state : ℕ → State
first_state most = record { journal = first_journal; jobs = no_jobs most }

-- ---- commands about the pattern leave the jobs as they are

abbrev pub IsEdit : State → Option EditAnswer → Reply → State → Type 0
IsEdit s None r t = ⊥
IsEdit s (Some a) r t = (r ≡ a.reply) × (t ≡ record s { journal = a.journal })

-- ---- fold

abbrev pub refusal_of_layers : InstanceFault → Option Refusal
refusal_of_layers (fault.NotConvex at direction) = Some (refusal.NotConvex at direction)
refusal_of_layers (fault.TooManyFaces faces) = Some (refusal.TooManyFaces faces)
refusal_of_layers (fault.Unreached face) = Some (refusal.Unreached face)
refusal_of_layers (fault.DoesNotClose piece) = Some (refusal.DoesNotClose piece)
refusal_of_layers (fault.FoldRange face) = Some (refusal.FoldRange face)
refusal_of_layers (fault.TooManyLines lines) = Some (refusal.TooManyLines lines)
refusal_of_layers (fault.TooManyPairs pairs) = Some (refusal.TooManyPairs pairs)
refusal_of_layers fault.Memory = None

-- there are too many jobs, else the pattern has no layers for this reason
abbrev pub IsFoldRefusal : State → Refusal → Type 0
IsFoldRefusal s refusal.TooManyJobs = IsTrue (is_full s.jobs)
IsFoldRefusal s r = IsFalse (is_full s.jobs) × (f : InstanceFault)
    × (refusal_of_layers f ≡ Some r) × IsInstanceFault (current_pattern_of s.journal) f

-- the next number; the job has the version that is current, and the rules of that pattern's layers
pub record IsJobOn (s : State) (number version faces pairs : ℕ) (t : State) : Type 0 where
  pub room : IsFalse (is_full s.jobs)
  pub number_is : number ≡ length s.jobs.jobs + 1
  pub version_is : version ≡ s.journal.current
  pub layers : LayeringView
  pub layers_are : IsLayersOf (current_pattern_of s.journal) layers
  pub faces_are : faces ≡ length layers.shape.faces
  pub pairs_are : pairs ≡ length layers.pairs
  pub opens : t ≡ record s { jobs = opened_in s.jobs version layers.rules }

abbrev pub IsFoldReply : State → Reply → State → Type 0
IsFoldReply s (reply.Job number version faces pairs) t = IsJobOn s number version faces pairs t
IsFoldReply s (reply.Refused r) t = IsFoldRefusal s r × (t ≡ s)
IsFoldReply s r t = ⊥

-- ---- the other commands about jobs

abbrev pub refusal_of_job : ℕ → JobRefusal → Refusal
refusal_of_job number job.NoSuchJob = refusal.NoSuchJob number
refusal_of_job number job.Cancelled = refusal.Cancelled number
refusal_of_job number job.Busy = refusal.Busy number
refusal_of_job number job.NothingAsked = refusal.NothingAsked number
refusal_of_job number job.TooManyAsks = refusal.TooManyAsks

abbrev pub ask_reply : ℕ → Result ⊤ JobRefusal → Reply
ask_reply number (Ok _) = reply.Asked number
ask_reply number (Err r) = reply.Refused (refusal_of_job number r)

abbrev pub cancel_reply : ℕ → Result ⊤ JobRefusal → Reply
cancel_reply number (Ok _) = reply.Cancelled number
cancel_reply number (Err r) = reply.Refused (refusal_of_job number r)

abbrev pub answer_reply : ℕ → Result FoldAnswer JobRefusal → Reply
answer_reply number (Ok (Shown version place order)) = reply.Shown number version place order
answer_reply number (Ok (NoMore version)) = reply.NoMore number version
answer_reply number (Ok (Paused version)) = reply.Paused number version
answer_reply number (Ok (NotReady version piece)) = reply.Running number version
answer_reply number (Err r) = reply.Refused (refusal_of_job number r)

abbrev pub IsAsk : State → ℕ → Reply → State → Type 0
IsAsk s number r t = (r ≡ ask_reply number (ask_answer s.jobs number))
    × (t ≡ record s { jobs = after_ask s.jobs number (ask_answer s.jobs number) })

abbrev pub IsShow : State → ℕ → Reply → State → Type 0
IsShow s number r t = (r ≡ answer_reply number (answer_to s.jobs number))
    × (t ≡ record s { jobs = after_answer_to s.jobs number (answer_to s.jobs number) })

abbrev pub IsCancel : State → ℕ → Reply → State → Type 0
IsCancel s number r t = (r ≡ cancel_reply number (cancel_answer s.jobs number))
    × (t ≡ record s { jobs = after_cancel s.jobs number (cancel_answer s.jobs number) })

-- the asks that are opened from now on have this budget
abbrev pub IsBudget : State → ℕ → Reply → State → Type 0
IsBudget s budget r t =
    (r ≡ reply.Budget budget) × (t ≡ record s { jobs = record s.jobs { budget = budget } })

-- ---- events

-- a wait is answered only where its ask waits for no outcome
abbrev pub IsReady : State → Command → Type 0
IsReady s (Wait number) = needed_in s.jobs number ≡ None
IsReady s command = ⊤

-- the reply to a command, and the state after it
abbrev pub IsAnswered : State → Command → Reply → State → Type 0
IsAnswered s Fold r t = IsFoldReply s r t
IsAnswered s (Another number) r t = IsAsk s number r t
IsAnswered s (Budget budget) r t = IsBudget s budget r t
IsAnswered s (Peek number) r t = IsShow s number r t
IsAnswered s (Wait number) r t = IsShow s number r t
IsAnswered s (Cancel number) r t = IsCancel s number r t
IsAnswered s command r t = IsEdit s (answer s.journal command) r t

-- an outcome is accepted exactly where it answers the last task of its piece, and then it is right; any other
-- changes nothing
abbrev pub IsTakenIn : State → Outcome → Bool → State → Type 0
IsTakenIn s x true t =
    MatchesIn s.jobs x × IsRightPostIn s.jobs x × (t ≡ record s { jobs = posted_in s.jobs x })
IsTakenIn s x false t = (¬ MatchesIn s.jobs x) × (t ≡ s)
