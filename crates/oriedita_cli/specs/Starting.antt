-- What is to be done once the script was read, and how a run may end then.
use Rattle.std.specs.Prelude.{◌≡◌, ⊤, ℕ, ◌≤◌, ◌⊎◌, nat_lt, Bool, List, Option, if◌then◌else◌}
use Rattle.oriedita_io.specs.Faults.{Rose}
use Rattle.job_register.specs.declared.session.Event.{Event}
use Rattle.job_register.specs.View.{record_events}
use Rattle.job_register.specs.Legal.{IsLegal}
use Rattle.oriedita_cli.specs.declared.errands.Errand.{Errand}
use Rattle.oriedita_cli.specs.declared.running.Ended.{Ended}
use Rattle.oriedita_cli.specs.declared.starting.Start.{Start}
use Rattle.oriedita_cli.specs.declared.starting.Start.TheVariants as start
use Rattle.oriedita_cli.specs.Clauses.{IsOutput, ended_status, written_text}
use Rattle.oriedita_cli.specs.Errands.{IsDone, IsErrand, sample_of}

-- the status of a run whose script a read fault cut
abbrev pub cut_status : ℕ → ℕ
cut_status status = if nat_lt status 2 then 3 else status

-- the errand was done, and the run came to its end, or a write failed, or memory was refused
pub record IsEnd (errand : Errand) (status : ℕ) (events : List Event) : Type 0 where
  pub done : IsDone errand status events
  pub status_is : (status ≡ ended_status events) ⊎ ((status ≡ 4) ⊎ (status ≡ 6))

-- the run may end so
abbrev pub MayEnd : Start → ℕ → List Event → Type 0
MayEnd (start.Whole errand) status events = IsEnd errand status events
MayEnd (start.Cut errand) status events =
    (told : ℕ) × (status ≡ cut_status told) × IsEnd errand told events
MayEnd (start.Over ended) status events = (status ≡ ended.status) × (events ≡ record_events ended.events)

-- an errand that is left to be done is that of the sample, where one is named
abbrev pub IsErrandFor : Option ℕ → Errand → Type 0
IsErrandFor sample errand = IsErrand errand × (sample_of errand ≡ sample)

abbrev pub IsStart : Option ℕ → Start → Type 0
IsStart sample (start.Whole errand) = IsErrandFor sample errand
IsStart sample (start.Cut errand) = IsErrandFor sample errand
IsStart sample (start.Over ended) =
    IsLegal 1 (record_events ended.events) × (3 ≤ ended.status) × (ended.status ≤ 6)

-- where nothing is left to be done, the output is that of the run
abbrev pub IsStartOutput : Option ℕ → Start → Option (List ℕ) → Option (List ℕ) → Option Bool → Type 0
IsStartOutput sample (start.Over ended) taken taken' finished' =
    IsOutput ended.status (written_text sample (record_events ended.events)) taken taken' finished'
IsStartOutput sample s taken taken' finished' = ⊤

-- a fault of the sink is told by the status
abbrev pub IsStartWrite : Start → ℕ → ℕ → Type 0
IsStartWrite (start.Over ended) before now =
    (ended.status ≡ 4 → Rose before now) × ((ended.status ≡ 4 → ⊥) → now ≡ before) × (before ≤ now)
IsStartWrite s before now = ⊤

-- something is left to be done
abbrev pub IsToDo : Start → Type 0
IsToDo (start.Whole errand) = ⊤
IsToDo (start.Cut errand) = ⊤
IsToDo (start.Over ended) = ⊥
