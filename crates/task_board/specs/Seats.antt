-- A seat, and what a call does to it.
use Rattle.std.specs.Prelude.{◌≡◌, ℕ, ◌+◌, ◌-◌, ◌<◌, ◌≤◌, Bool, false, List, length, Some, slice_get}
use Rattle.task_board.specs.declared.event.BoardEvent.{BoardEvent}

-- its number, how many events it made, and whether a take told it that the board is closed
pub record SeatView : Type 0 where
  pub number : ℕ
  pub made : ℕ
  pub ended : Bool

-- a seat of this number that made nothing
abbrev pub new_seat : ℕ → SeatView
new_seat number = record { number = number; made = 0; ended = false }

-- seats numbered from 0, of which none made anything
abbrev pub AreNewSeats : List SeatView → ℕ → Type 0
AreNewSeats seats n = (length seats ≡ n) × ((k : ℕ) → k < n → slice_get seats k ≡ Some (new_seat k))

-- the seat after a call that led from one history to another: it made what was added
abbrev pub seat_after : SeatView → List BoardEvent → List BoardEvent → SeatView
seat_after s old new = record s { made = s.made + (length new - length old) }

-- the seat after a call that made this many events
abbrev pub counted : SeatView → ℕ → SeatView
counted s k = record s { made = s.made + k }

-- a call that made one event at most
pub record MadeOneAtMost (old new : SeatView) : Type 0 where
  pub number : new.number ≡ old.number
  pub least : old.made ≤ new.made
  pub most : new.made ≤ old.made + 1
