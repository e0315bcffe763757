-- What a call answers, and what it adds to the history.
use Rattle.std.specs.Prelude.{◌≡◌, ℕ, Bool, true, false, ◌||◌, List, length, Option, None, Some, Result, Ok, Err}
use Rattle.task_board.specs.declared.event.BoardEvent.{BoardEvent}
use Rattle.task_board.specs.declared.event.BoardStep.{BoardStep}
use Rattle.task_board.specs.declared.event.BoardStep.TheVariants.{Put, Take, Obtain}
use Rattle.task_board.specs.declared.fault.PutFault.{PutFault}
use Rattle.task_board.specs.declared.fault.PutFault.TheVariants.{Closed, Spent, Memory}
use Rattle.task_board.specs.declared.fault.Waits.{Waits}
use Rattle.task_board.specs.History.{Adds, with_event, replay_of, has_waiting, is_ticket, is_answered_for, is_busy_for, is_idle_for, ticket_at}

abbrev pub event : ℕ → BoardStep → BoardEvent
event seat step = record { seat = seat; step = step }

-- a new ticket; or the board is closed; or all tickets were given; or there is no memory
abbrev pub IsPut : {X : Type 0} → List BoardEvent → ℕ → Result ℕ (PutFault X) → List BoardEvent → Type 0
IsPut old seat (Ok n) new = Adds old (event seat (Put (Some n))) new
IsPut old seat (Err (Closed x)) new = Adds old (event seat (Put None)) new
IsPut old seat (Err (Spent x)) new =
    ((replay_of old).is_closed ≡ false) × (length (replay_of old).tickets ≡ 4294967295) × (new ≡ old)
IsPut old seat (Err (Memory x)) new = new ≡ old

-- what a refused call hands back
abbrev pub handed_back : {X : Type 0} → PutFault X → X
handed_back (Closed x) = x
handed_back (Spent x) = x
handed_back (Memory x) = x

-- how many events a put made
abbrev pub put_events : {X : Type 0} → Result ℕ (PutFault X) → ℕ
put_events (Ok n) = 1
put_events (Err (Closed x)) = 1
put_events (Err (Spent x)) = 0
put_events (Err (Memory x)) = 0

-- the same fault with something else
abbrev pub fault_with : {X Y : Type 0} → PutFault X → Y → PutFault Y
fault_with (Closed x) y = Closed y
fault_with (Spent x) y = Spent y
fault_with (Memory x) y = Memory y

-- a ticket that was waiting; or the board is closed, which is told a seat once; or it waits
abbrev pub IsTake : {X : Type 0} → (X → ℕ) → List BoardEvent → ℕ → Result (Option X) Waits → List BoardEvent → Type 0
IsTake number old seat (Ok (Some x)) new = Adds old (event seat (Take (Some (number x)))) new
IsTake number old seat (Ok None) new =
    ((replay_of old).is_closed ≡ true) × (new ≡ with_event old (event seat (Take None)))
IsTake number old seat (Err w) new =
    ((replay_of old).is_closed ≡ false) × (has_waiting (replay_of old) ≡ false) × (new ≡ old)

-- whether the ticket is one that the seat put and whose outcome has come
abbrev pub is_answered_at : List BoardEvent → ℕ → ℕ → Bool
is_answered_at es seat n = is_ticket (is_answered_for seat) (ticket_at (replay_of es) n)

abbrev pub is_idle_at : List BoardEvent → ℕ → ℕ → Bool
is_idle_at es seat n = is_ticket (is_idle_for seat) (ticket_at (replay_of es) n)

abbrev pub is_busy_at : List BoardEvent → ℕ → ℕ → Bool
is_busy_at es seat n = is_ticket (is_busy_for seat) (ticket_at (replay_of es) n)

-- the seat put it, and no other works on it
abbrev pub is_free_at : List BoardEvent → ℕ → ℕ → Bool
is_free_at es seat n = is_answered_at es seat n || is_idle_at es seat n

-- the seat's ticket is gone from now on, whether its outcome came; or there is none to take out; or another seat
-- works on it
abbrev pub TakesOut : List BoardEvent → ℕ → ℕ → Result (Option Bool) Waits → List BoardEvent → Type 0
TakesOut old seat n (Ok (Some found)) new = Adds old (event seat (Obtain n found)) new
TakesOut old seat n (Ok None) new =
    (is_answered_at old seat n ≡ false) × (is_idle_at old seat n ≡ false) × (is_busy_at old seat n ≡ false)
    × (new ≡ old)
TakesOut old seat n (Err w) new = (is_busy_at old seat n ≡ true) × (new ≡ old)

-- the outcome of the seat's ticket; or it has none, and is gone if the seat put it; or another works on it
abbrev pub IsObtain : {X : Type 0} → List BoardEvent → ℕ → ℕ → Result (Option X) Waits → List BoardEvent → Type 0
IsObtain old seat n (Ok (Some x)) new = Adds old (event seat (Obtain n true)) new
IsObtain old seat n (Ok None) new =
    (is_answered_at old seat n ≡ false) × (is_busy_at old seat n ≡ false)
    × (new ≡ with_event old (event seat (Obtain n false)))
IsObtain old seat n (Err w) new = (is_busy_at old seat n ≡ true) × (new ≡ old)
