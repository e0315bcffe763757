use Rattle.std.proofs.Common.{◌≡◌, ◌<◌, ◌++◌, ◌∷◌, [], None, true, length, refl, ap, arith, length-append, length-set}
use Rattle.task_board.specs.declared.event.BoardEvent.{BoardEvent}
use Rattle.task_board.specs.declared.event.BoardStep.TheVariants.{Take}
use Rattle.task_board.specs.History.{replay_of}
use Rattle.task_board.specs.Invariant.{kept_replay}
use Rattle.task_board.proofs.Replays.{replayed_next, legal_next}
use Rattle.task_board.proofs.Tickets.{flag_set}
use Rattle.task_board.proofs.history.History.tell.Goals as goal

pub invariant_of-self : goal.invariant_of-self
invariant_of-self c =
    let e : BoardEvent = record { seat = c.args.seat; step = Take None } in
    let h = c.self.inside in
    let more : c.push.new.self.items ≡ h.events.items ++ e ∷ [] = rw c.unwrap.ensures at c.push.ensures.items in
    let within : c.args.seat < length h.was_told = omega (arith, c.self.invariant.seats.1, c.requires.seat) in
    let owes = flag_set h.was_told c.args.seat within c.if-not-self-seat.true in
    let is : replay_of c.args.self.now ≡ kept_replay h = rw (← c.self.view_is) c.self.invariant.replayed in
    let closed : h.is_closed ≡ true = rw is at c.requires.closed in
    record {
      replayed = replayed_next h.events.items c.push.new.self.items e (kept_replay h) _ c.self.invariant.replayed more refl;
      legal = legal_next h.events.items c.push.new.self.items e (kept_replay h) c.self.invariant.replayed c.self.invariant.legal more (rw (closed, c.if-not-self-seat.true) refl);
      seats = (c.self.invariant.seats.0, rw length-set c.self.invariant.seats.1);
      tickets = c.self.invariant.tickets;
      begun = c.self.invariant.begun;
      passed = c.self.invariant.passed;
      owed = omega (arith, c.self.invariant.owed, owes);
      room = omega (arith, c.self.invariant.owed, owes, c.self.invariant.room, ap length more, length-append h.events.items (e ∷ []), c.push.ensures.capacity);
    }

pub returns-then-not-self-seat : goal.returns-then-not-self-seat
returns-then-not-self-seat c =
    let is : replay_of c.args.self.now ≡ kept_replay c.self.inside = rw (← c.self.view_is) c.self.invariant.replayed in
    let closed : c.self.inside.is_closed ≡ true = rw is at c.requires.closed in
    let more = rw c.unwrap.ensures at c.push.ensures.items in
    rw (is, closed, c.if-not-self-seat.true, more, c.self.view_is) refl

pub returns-else-not-self-seat : goal.returns-else-not-self-seat
returns-else-not-self-seat c =
    let is : replay_of c.args.self.now ≡ kept_replay c.self.inside = rw (← c.self.view_is) c.self.invariant.replayed in
    let closed : c.self.inside.is_closed ≡ true = rw is at c.requires.closed in
    rw (is, closed, c.if-not-self-seat.false) refl
