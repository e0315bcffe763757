-- The board's history: a list of events, each a step of a seat with its answer. A history is legal where each
-- step has the answer that the events before it give.
use Rattle.std.specs.Prelude.{◌≡◌, ℕ, ◌+◌, ◌==◌, nat_lt, Bool, true, false, not, ◌&&◌, List, [], ◌∷◌, ◌++◌, length, Option, None, Some, slice_index_or, slice_set, replicate, if◌then◌else◌}
use Rattle.std.specs.List.{list_any}
use Rattle.task_board.specs.Numbers.{at_number, put_at}
use Rattle.task_board.specs.declared.event.Stand.{Stand}
use Rattle.task_board.specs.declared.event.Stand.TheVariants.{Waiting, Taken, Posted, Left, Gone}
use Rattle.task_board.specs.declared.event.Ticket.{Ticket}
use Rattle.task_board.specs.declared.event.BoardStep.{BoardStep}
use Rattle.task_board.specs.declared.event.BoardStep.TheVariants.{Put, Take, Post, GiveBack, Fetch, Obtain, Close}
use Rattle.task_board.specs.declared.event.BoardEvent.{BoardEvent}

-- What a history leaves: the tickets, the first one first; whether the board is closed; for each seat whether it
-- has closed, and whether a take told it that the board is closed.
pub record Replay : Type 0 where
  pub tickets : List Ticket
  pub is_closed : Bool
  pub has_closed : List Bool
  pub was_told : List Bool

-- a board of nine seats at most, with no ticket
abbrev pub empty_board : Replay
empty_board = record {
  tickets = [];
  is_closed = false;
  has_closed = replicate 9 false;
  was_told = replicate 9 false;
}

-- the ticket of this number, counted from 1
abbrev pub ticket_at : Replay → ℕ → Option Ticket
ticket_at r n = at_number r.tickets n

-- whether there is a ticket, and it passes the test
abbrev pub is_ticket : (Ticket → Bool) → Option Ticket → Bool
is_ticket test None = false
is_ticket test (Some ticket) = test ticket

abbrev pub is_waiting : Ticket → Bool
is_waiting t = is_waiting_stand t.stand
  where
    is_waiting_stand : Stand → Bool
    is_waiting_stand Waiting = true
    is_waiting_stand _ = false

abbrev pub is_taken_for : ℕ → Ticket → Bool
is_taken_for seat t = is_taken_stand t.stand
  where
    is_taken_stand : Stand → Bool
    is_taken_stand (Taken by) = by == seat
    is_taken_stand _ = false

-- the seat put it, and its outcome has come
abbrev pub is_answered_for : ℕ → Ticket → Bool
is_answered_for seat t = (t.owner == seat) && is_posted_stand t.stand
  where
    is_posted_stand : Stand → Bool
    is_posted_stand Posted = true
    is_posted_stand _ = false

-- the seat put it, and no one works on it: it is waiting, or it was given back
abbrev pub is_idle_for : ℕ → Ticket → Bool
is_idle_for seat t = (t.owner == seat) && is_idle_stand t.stand
  where
    is_idle_stand : Stand → Bool
    is_idle_stand Waiting = true
    is_idle_stand Left = true
    is_idle_stand _ = false

-- the seat put it, and a seat has taken it
abbrev pub is_busy_for : ℕ → Ticket → Bool
is_busy_for seat t = (t.owner == seat) && is_taken_stand t.stand
  where
    is_taken_stand : Stand → Bool
    is_taken_stand (Taken by) = true
    is_taken_stand _ = false

-- whether a ticket is waiting
abbrev pub has_waiting : Replay → Bool
has_waiting r = list_any is_waiting r.tickets

-- whether a flag stands for the seat
abbrev pub flag_of : List Bool → ℕ → Bool
flag_of flags seat = slice_index_or flags seat false

-- whether the step may come next, with this answer, and is an event
abbrev pub is_next_step : Replay → ℕ → BoardStep → Bool
is_next_step r seat (Put None) = r.is_closed
is_next_step r seat (Put (Some n)) =
    not r.is_closed && (nat_lt (length r.tickets) 4294967295 && (n == length r.tickets + 1))
is_next_step r seat (Take None) = r.is_closed && not (flag_of r.was_told seat)
is_next_step r seat (Take (Some n)) = not r.is_closed && is_ticket is_waiting (ticket_at r n)
is_next_step r seat (Post n) = is_ticket (is_taken_for seat) (ticket_at r n)
is_next_step r seat (GiveBack n) = is_ticket (is_taken_for seat) (ticket_at r n)
is_next_step r seat (Fetch n true) = is_ticket (is_answered_for seat) (ticket_at r n)
is_next_step r seat (Fetch n false) = not (is_ticket (is_answered_for seat) (ticket_at r n))
is_next_step r seat (Obtain n true) = is_ticket (is_answered_for seat) (ticket_at r n)
is_next_step r seat (Obtain n false) = is_ticket (is_idle_for seat) (ticket_at r n)
is_next_step r seat Close = not (flag_of r.has_closed seat)

abbrev pub is_next : Replay → BoardEvent → Bool
is_next r e = is_next_step r e.seat e.step

-- the ticket of this number is there from now on
abbrev pub with_stand : Replay → ℕ → Stand → Replay
with_stand r n stand = moved_from r n stand (ticket_at r n)
  where
    moved_from : Replay → ℕ → Stand → Option Ticket → Replay
    moved_from r n stand None = r
    moved_from r n stand (Some t) =
        record r { tickets = put_at r.tickets n (record { owner = t.owner; stand = stand }) }

-- what the step leaves
abbrev pub after_step : Replay → ℕ → BoardStep → Replay
after_step r seat (Put None) = r
after_step r seat (Put (Some n)) =
    record r { tickets = r.tickets ++ record { owner = seat; stand = Waiting } ∷ [] }
after_step r seat (Take None) = record r { was_told = slice_set r.was_told seat true }
after_step r seat (Take (Some n)) = with_stand r n (Taken seat)
after_step r seat (Post n) = with_stand r n Posted
after_step r seat (GiveBack n) = with_stand r n Left
after_step r seat (Fetch n true) = with_stand r n Gone
after_step r seat (Fetch n false) = r
after_step r seat (Obtain n found) = with_stand r n Gone
after_step r seat Close = record r { is_closed = true; has_closed = slice_set r.has_closed seat true }

abbrev pub after_event : Replay → BoardEvent → Replay
after_event r e = after_step r e.seat e.step

-- what the events leave, one after another
abbrev pub replay_from : Replay → List BoardEvent → Replay
replay_from r [] = r
replay_from r (e ∷ es) = replay_from (after_event r e) es

abbrev pub replay_of : List BoardEvent → Replay
replay_of es = replay_from empty_board es

-- each event has the answer that those before it give
abbrev pub is_legal_from : Replay → List BoardEvent → Bool
is_legal_from r [] = true
is_legal_from r (e ∷ es) = is_next r e && is_legal_from (after_event r e) es

abbrev pub is_legal : List BoardEvent → Bool
is_legal es = is_legal_from empty_board es

-- the history with the step where it may come next, and else as it is
abbrev pub with_event : List BoardEvent → BoardEvent → List BoardEvent
with_event es e = if is_next (replay_of es) e then es ++ e ∷ [] else es

-- the event may come next, and it was added
abbrev pub Adds : List BoardEvent → BoardEvent → List BoardEvent → Type 0
Adds old e new = (is_next (replay_of old) e ≡ true) × (new ≡ old ++ e ∷ [])
