use Rattle.std.proofs.Common.{◌≡◌, ◌-◌, ◌++◌, ◌∷◌, [], length, refl, ap, arith, length-append, length-set}
use Rattle.task_board.specs.declared.event.BoardEvent.{BoardEvent}
use Rattle.task_board.specs.declared.event.Ticket.{Ticket}
use Rattle.task_board.specs.History.{replay_of}
use Rattle.task_board.specs.Invariant.{kept_replay}
use Rattle.task_board.proofs.Replays.{replayed_next, legal_next}
use Rattle.task_board.proofs.Tickets.{moves, move_owes, owes_within, set_passed}
use Rattle.task_board.proofs.history.History.advance.Goals as goal

pub overflow_sub-self : goal.overflow_sub-self
overflow_sub-self c =
    let d = c.index-ticket.result.now in
    let is : replay_of c.args.self.now ≡ kept_replay c.self.inside = rw (← c.self.view_is) c.self.invariant.replayed in
    let m = moves (kept_replay c.self.inside) c.args.number c.args.stand d (rw is at c.requires.room) in
    let owes = rw (← c.index-ticket.ensures) at m.owes in
    omega (arith, owes, c.owed.ensures, c.owed-2.ensures)

pub overflow_sub-self-2 : goal.overflow_sub-self-2
overflow_sub-self-2 c =
    let d = c.index-ticket.result.now in
    let is : replay_of c.args.self.now ≡ kept_replay c.self.inside = rw (← c.self.view_is) c.self.invariant.replayed in
    let m = moves (kept_replay c.self.inside) c.args.number c.args.stand d (rw is at c.requires.room) in
    let all = rw (← c.index-ticket.ensures) at (owes_within c.self.inside.tickets.items (c.args.number - 1) d m.within) in
    omega (arith, all, c.owed.ensures, c.owed-2.ensures, c.self.invariant.owed)

pub index_mut-requires : goal.index_mut-requires
index_mut-requires c =
    let is : replay_of c.args.self.now ≡ kept_replay c.self.inside = rw (← c.self.view_is) c.self.invariant.replayed in
    let m = moves (kept_replay c.self.inside) c.args.number c.args.stand c.index-ticket.result.now (rw is at c.requires.room) in
    omega (arith, m.within)

pub unwrap-requires : goal.unwrap-requires
unwrap-requires c =
    let d = c.index-ticket.result.now in
    let is : replay_of c.args.self.now ≡ kept_replay c.self.inside = rw (← c.self.view_is) c.self.invariant.replayed in
    let m = moves (kept_replay c.self.inside) c.args.number c.args.stand d (rw is at c.requires.room) in
    let all = owes_within c.self.inside.tickets.items (c.args.number - 1) d m.within in
    c.push.ensures.succeeds (omega (arith, all, m.owes, c.self.invariant.owed, c.self.invariant.room))

pub invariant_of-self : goal.invariant_of-self
invariant_of-self c =
    let e : BoardEvent = record { seat = c.args.seat; step = c.args.step } in
    let h = c.self.inside in
    let d = c.index-ticket.result.now in
    let is : replay_of c.args.self.now ≡ kept_replay h = rw (← c.self.view_is) c.self.invariant.replayed in
    let m = moves (kept_replay h) c.args.number c.args.stand d (rw is at c.requires.room) in
    let t : Ticket = record { owner = d.owner; stand = c.args.stand } in
    let more : c.push.new.self.items ≡ h.events.items ++ e ∷ [] = rw c.unwrap.ensures at c.push.ensures.items in
    let leaves = rw is at c.requires.leaves in
    let moved = rw (← c.index-ticket.ensures) at m.leaves in
    let owes = rw (← c.index-ticket.ensures) at m.owes in
    let freed = rw (← c.index-ticket.ensures) at (move_owes h.tickets.items (c.args.number - 1) t d m.within) in
    let all = rw (← c.index-ticket.ensures) at (owes_within h.tickets.items (c.args.number - 1) d m.within) in
    record {
      replayed = replayed_next h.events.items c.push.new.self.items e (kept_replay h) _ c.self.invariant.replayed more (rw (leaves, moved) refl);
      legal = legal_next h.events.items c.push.new.self.items e (kept_replay h) c.self.invariant.replayed c.self.invariant.legal more (rw is at c.requires.next);
      seats = c.self.invariant.seats;
      tickets = rw length-set c.self.invariant.tickets;
      begun = rw length-set c.self.invariant.begun;
      passed = set_passed h.tickets.items (c.args.number - 1) t h.first c.requires.other c.self.invariant.passed;
      owed = omega (arith, c.self.invariant.owed, freed, owes, all, c.owed.ensures, c.owed-2.ensures);
      room = omega (arith, c.self.invariant.owed, owes, all, c.owed.ensures, c.owed-2.ensures, c.self.invariant.room, ap length more, length-append h.events.items (e ∷ []), c.push.ensures.capacity);
    }
