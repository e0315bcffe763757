-- What a session was to do, and what it writes.
use Rattle.std.specs.Prelude.{⊤, ℕ, ◌≤◌, List, Option, None, Some}
use Rattle.job_register.specs.declared.session.Event.{Event}
use Rattle.oriedita_cli.specs.declared.errands.Errand.{Errand}
use Rattle.oriedita_cli.specs.declared.errands.Errand.TheVariants.{Script, Sample}
use Rattle.oriedita_cli.specs.Clauses.{AreAnswered}
use Rattle.oriedita_cli.specs.Samples.{IsSampled}

-- the number of a sample
abbrev pub IsSample : ℕ → Type 0
IsSample n = (1 ≤ n) × (n ≤ 7)

abbrev pub IsErrand : Errand → Type 0
IsErrand (Script commands) = ⊤
IsErrand (Sample n) = IsSample n

-- the commands were answered, or those of the sample
abbrev pub IsDone : Errand → ℕ → List Event → Type 0
IsDone (Script commands) status events = AreAnswered status events commands
IsDone (Sample n) status events = IsSampled status n events

abbrev pub sample_of : Errand → Option ℕ
sample_of (Script commands) = None
sample_of (Sample n) = Some n
