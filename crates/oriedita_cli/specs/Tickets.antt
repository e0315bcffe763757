-- The tickets that a session holds, what their outcomes may be posted to, and how many are held no more.
use Rattle.std.specs.Prelude.{◌≡◌, ⊤, ℕ, zero, suc, ◌+◌, ◌≤◌, ◌<◌, ◌^◌, ◌-◌, ◌⊎◌, ◌==◌, ◌&&◌, Bool, not, is_none, List, [], ◌∷◌, length, Option, Some, IsSome, IfSome, option_map, if◌then◌else◌}
use Rattle.std.specs.List.{find}
use Rattle.worker_split.specs.declared.task.Task.{Task}
use Rattle.worker_split.specs.declared.outcome.Outcome.{Outcome}
use Rattle.worker_split.specs.Tasks.{task_of, IsRightOutcome}
use Rattle.fold_jobs.specs.Machine.{JobsView, MatchesIn, IsRightIn}
use Rattle.job_register.specs.declared.session.Event.{Event}
use Rattle.job_register.specs.Counts.{running_replies, accepted_outcomes}
use Rattle.job_register.specs.View.{SessionView}
use Rattle.oriedita_cli.specs.declared.tickets.HeldTicket.{HeldTicket}
use Rattle.oriedita_cli.specs.declared.tickets.Tickets.{Tickets}

-- how many of the tickets 1 to `given` are held no more
abbrev pub released : {T : Type 0} → (ℕ → Option T) → ℕ → ℕ
released held zero = 0
released held (suc n) = released held n + (if is_none (held (suc n)) then 1 else 0)

-- where the count of misses does not stand at its last value, at most as many replies said that no answer was there yet as
-- it rose
abbrev pub AreMisses : ℕ → ℕ → List Event → List Event → Type 0
AreMisses before now old new =
    now < 2 ^ 64 - 1 → running_replies new + before ≤ running_replies old + now

abbrev pub is_other : ℕ → HeldTicket → Bool
is_other number t = not (t.number == number)

-- the ticket is for the task of this piece of the job, with this budget
abbrev pub is_for : ℕ → ℕ → ℕ → HeldTicket → Bool
is_for job piece budget t = t.job == job && t.piece == piece && t.budget == budget

-- the number of the first ticket for that task
abbrev pub first_number : ℕ → ℕ → ℕ → List HeldTicket → Option ℕ
first_number job piece budget ts = option_map (λ t. t.number) (find (is_for job piece budget) ts)

-- a ticket of this number for a task of this job is in the list
abbrev pub IsListed : ℕ → ℕ → List HeldTicket → Type 0
IsListed number job [] = ⊥
IsListed number job (t ∷ ts) = ((t.number ≡ number) × (t.job ≡ job)) ⊎ IsListed number job ts

-- a task of this job is held under the number
abbrev pub IsHeldFor : (ℕ → Option Task) → ℕ → ℕ → Type 0
IsHeldFor held number job = (task : Task) × (held number ≡ Some task) × (task.job ≡ job)

abbrev pub AreHeld : (ℕ → Option Task) → List HeldTicket → Type 0
AreHeld held [] = ⊤
AreHeld held (t ∷ ts) = IsHeldFor held t.number t.job × AreHeld held ts

-- outcomes that are right for the task may be posted
abbrev pub MayBePosted : JobsView → Task → Type 0
MayBePosted s task = (x : Outcome) → IsRightOutcome (task_of task) x → IsRightIn s x

-- a session with helpers that hold these tasks
pub record IsHelped (held : ℕ → Option Task) (given : ℕ) (s : SessionView) (tickets : Tickets) : Type 0 where
  pub counted : tickets.given ≡ given
  pub numbers : (n : ℕ) → IsSome (held n) → (1 ≤ n) × (n ≤ given)
  pub right : (n : ℕ) → IfSome (held n) (MayBePosted s.state.jobs)
  pub listed : AreHeld held tickets.list.items
  -- no outcome was accepted without its ticket
  pub outcomes : accepted_outcomes s.events ≤ released held given

-- a ticket was in the list, or it is a new one whose outcome will be accepted
pub record IsTicketFor (held : ℕ → Option Task) (s : JobsView) (job number : ℕ) (old new : List HeldTicket)
    : Type 0 where
  pub listed : IsListed number job new
  pub fits : (length new ≡ length old) ⊎ ((length new ≡ length old + 1)
      × (IfSome (held number) (λ task. (x : Outcome) → IsRightOutcome (task_of task) x → MatchesIn s x)))
