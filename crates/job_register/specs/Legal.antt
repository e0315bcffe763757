-- Records of a session, and which of them are legal.
use Rattle.std.specs.Prelude.{◌≡◌, ℕ, Bool, true, false, List, [], ◌∷◌, Option, None, Some, IsTrue}
use Rattle.std.specs.List.{list_any}
use Rattle.undo_journal.specs.Versions.{JournalView}
use Rattle.worker_split.specs.declared.answers.Taken.{Taken}
use Rattle.worker_split.specs.declared.answers.Taken.TheVariants.{Accepted, Stranger}
use Rattle.script_lang.specs.declared.command.Command.{Command}
use Rattle.script_lang.specs.declared.reply.Reply.{Reply}
use Rattle.script_lang.specs.declared.reply.Reply.TheVariants as reply
use Rattle.script_lang.specs.Script.{meets_condition}
use Rattle.job_register.specs.declared.session.Event.{Event}
use Rattle.job_register.specs.declared.session.Event.TheVariants.{Made, Posted}
use Rattle.job_register.specs.Edits.{EditAnswer, answer, first_journal}
use Rattle.job_register.specs.Machine.{State, first_state, IsReady, IsAnswered, IsTakenIn}

-- one event: a command that meets its conditions and is answered, or an outcome that is posted
abbrev pub IsSessionStep : State → Event → State → Type 0
IsSessionStep s (Made command r) t = IsTrue (meets_condition command) × IsReady s command × IsAnswered s command r t
IsSessionStep s (Posted x accepted) t = IsTakenIn s x accepted t

-- the events lead from one state to the other
abbrev pub Lead : State → List Event → State → Type 0
Lead s [] t = s ≡ t
Lead s (e ∷ es) t = (m : State) × IsSessionStep s e m × Lead m es t

-- a record of a session whose jobs may have so many pieces: each reply is the machine's, in the state that the
-- events before it lead to
pub record IsLegal (most : ℕ) (es : List Event) : Type 0 where
  pub state : State
  pub leads : Lead (first_state most) es state

abbrev pub is_accepted : Taken → Bool
is_accepted Accepted = true
is_accepted (Stranger kept came) = false

-- ---- what the events say by themselves

abbrev pub journal_of : JournalView → Option EditAnswer → JournalView
journal_of j None = j
journal_of j (Some a) = a.journal

-- the journal after an event, which only commands about the pattern change
abbrev pub journal_past : JournalView → Event → JournalView
journal_past j (Made command r) = journal_of j (answer j command)
journal_past j (Posted x accepted) = j

abbrev pub journal_from : JournalView → List Event → JournalView
journal_from j [] = j
journal_from j (e ∷ es) = journal_from (journal_past j e) es

-- the versions that the events made
abbrev pub journal_after : List Event → JournalView
journal_after es = journal_from first_journal es

abbrev pub commands_in : List Event → List Command
commands_in [] = []
commands_in (Made command r ∷ es) = command ∷ commands_in es
commands_in (Posted x accepted ∷ es) = commands_in es

abbrev pub is_refusal : Reply → Bool
is_refusal (reply.Refused r) = true
is_refusal r = false

abbrev pub refuses : Event → Bool
refuses (Made command r) = is_refusal r
refuses (Posted x accepted) = false

-- some reply is a refusal
abbrev pub has_refusal : List Event → Bool
has_refusal es = list_any refuses es
