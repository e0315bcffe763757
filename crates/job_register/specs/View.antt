-- What a record and a session show.
use Rattle.std.specs.Prelude.{List}
use Rattle.job_register.specs.declared.session.Event.{Event}
use Rattle.job_register.specs.declared.session.Record.{Record}
use Rattle.job_register.specs.Machine.{State}

abbrev pub record_events : Record → List Event
record_events r = r.list.items

-- what happened, and the state that it leads to
pub record SessionView : Type 0 where
  pub events : List Event
  pub state : State
