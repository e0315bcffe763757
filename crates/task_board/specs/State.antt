-- What a state under the lock shows: its history, and what stands beside each ticket.
use Rattle.std.specs.Prelude.{ℕ, true, List, Option, None, Some, Result, Ok, Err}
use Rattle.task_board.specs.declared.work.Work.{Ghosts}
use Rattle.task_board.specs.declared.content.Content.{Content}
use Rattle.task_board.specs.declared.content.Content.TheVariants.{Nothing}
use Rattle.task_board.specs.declared.event.BoardEvent.{BoardEvent}
use Rattle.task_board.specs.declared.fault.Waits.{Waits}
use Rattle.task_board.specs.declared.state.BoardState.{BoardState}
use Rattle.task_board.specs.Numbers.{put_at}
use Rattle.task_board.specs.Seats.{SeatView}

module _ {W L T O S : Type 0} {g : Ghosts W T O S} where
  abbrev pub events_of : BoardState W L T O S g → List BoardEvent
  events_of s = s.history

  -- by ticket, the first one first
  abbrev pub contents_of : BoardState W L T O S g → List (Content W T O S g)
  contents_of s = s.contents.items

module _ {W T O S X : Type 0} {g : Ghosts W T O S} where
  -- nothing stands beside a ticket that was answered
  abbrev pub taken_out : (X → ℕ) → Result (Option X) Waits
      → List (Content W T O S g) → List (Content W T O S g)
  taken_out number (Ok (Some x)) cs = put_at cs (number x) Nothing
  taken_out number (Ok None) cs = cs
  taken_out number (Err w) cs = cs

module _ {W T O S X : Type 0} {g : Ghosts W T O S} where
  -- nothing stands beside the ticket where something was handed out
  abbrev pub without : Option X → ℕ → List (Content W T O S g) → List (Content W T O S g)
  without (Some x) n cs = put_at cs n Nothing
  without None n cs = cs

-- a seat that is told that the board is closed has ended
abbrev pub seat_taken : {X : Type 0} → Result (Option X) Waits → SeatView → SeatView
seat_taken (Ok None) s = record s { ended = true }
seat_taken (Ok (Some x)) s = s
seat_taken (Err w) s = s
