-- What a session keeps: its record is legal and leads to its state, and it knows whether some reply was a refusal. If it
-- holds faults, they are those of the current version.
use Rattle.std.specs.Prelude.{◌≡◌, Bool, List, Option, IfSome}
use Rattle.std.specs.Global.{Vec}
use Rattle.undo_journal.specs.Versions.{JournalView}
use Rattle.vertex_checks.specs.declared.faults.VertexFault.{VertexFault}
use Rattle.vertex_checks.specs.Faults.{faults_of}
use Rattle.job_register.specs.declared.session.Event.{Event}
use Rattle.job_register.specs.Edits.{current_pattern_of}
use Rattle.job_register.specs.Machine.{State, first_state}
use Rattle.job_register.specs.Legal.{Lead, journal_after, has_refusal}

pub record Keeps (s : State) (refused : Bool) (events : List Event) : Type 0 where
  pub leads : Lead (first_state s.jobs.most) events s
  pub journal_is : s.journal ≡ journal_after events
  pub refused_is : refused ≡ has_refusal events

abbrev pub AreCurrent : Option (Vec VertexFault) → JournalView → Type 0
AreCurrent faults journal = IfSome faults (λ list. list.items ≡ faults_of (current_pattern_of journal))

pub record IsSession (s : State) (refused : Bool) (faults : Option (Vec VertexFault)) (events : List Event)
    : Type 0 where
  pub kept : Keeps s refused events
  pub current : AreCurrent faults s.journal
