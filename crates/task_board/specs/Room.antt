-- The room that a board keeps for the events that are still to come without a call for memory.
use Rattle.std.specs.Prelude.{ℕ, ◌+◌, Bool, true, false}
use Rattle.std.specs.List.{sum_by}
use Rattle.task_board.specs.declared.event.Stand.{Stand}
use Rattle.task_board.specs.declared.event.Stand.TheVariants.{Waiting, Taken, Posted, Left, Gone}
use Rattle.task_board.specs.History.{Replay}

-- for a ticket: that it is taken, that it is posted or given back, that its owner has it
abbrev pub owed_at : Stand → ℕ
owed_at Waiting = 3
owed_at (Taken by) = 2
owed_at Posted = 1
owed_at Left = 1
owed_at Gone = 0

-- for a seat: one event until the flag is set
abbrev pub owed_until : Bool → ℕ
owed_until true = 0
owed_until false = 1

abbrev pub owed_of : Replay → ℕ
owed_of r =
    sum_by (λ t. owed_at t.stand) r.tickets + (sum_by owed_until r.has_closed + sum_by owed_until r.was_told)
