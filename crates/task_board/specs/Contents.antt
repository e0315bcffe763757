-- What stands beside a ticket.
use Rattle.std.specs.Prelude.{ℕ}
use Rattle.task_board.specs.declared.event.Stand.{Stand}
use Rattle.task_board.specs.declared.event.Stand.TheVariants.{Waiting, Posted}
use Rattle.task_board.specs.declared.event.Ticket.{Ticket}
use Rattle.task_board.specs.declared.work.Work.{Ghosts}
use Rattle.task_board.specs.declared.content.Content.{Content}
use Rattle.task_board.specs.declared.content.Content.TheVariants.{Nothing, Task, Answer}

-- how many things stand beside a ticket: a task where it waits, a task and its outcome where it is posted
abbrev pub things_at : Ticket → ℕ
things_at t = things_at_stand t.stand
  where
    things_at_stand : Stand → ℕ
    things_at_stand Waiting = 1
    things_at_stand Posted = 2
    things_at_stand _ = 0

module _ {W T O S : Type 0} {g : Ghosts W T O S} where
  -- nothing, a task, or a task and its outcome
  abbrev pub things_in : Content W T O S g → ℕ
  things_in Nothing = 0
  things_in (Task task) = 1
  things_in (Answer answer) = 2
