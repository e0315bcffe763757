use Rattle.std.proofs.Common.{◌≡◌, ◌<◌, ◌++◌, ◌∷◌, [], length, refl, ap, arith, length-append, length-set}
use Rattle.task_board.specs.declared.event.BoardEvent.{BoardEvent}
use Rattle.task_board.specs.declared.event.BoardStep.TheVariants.{Close}
use Rattle.task_board.specs.History.{replay_of}
use Rattle.task_board.specs.Invariant.{kept_replay}
use Rattle.task_board.proofs.Replays.{replayed_next, legal_next}
use Rattle.task_board.proofs.Tickets.{flag_set}
use Rattle.task_board.proofs.history.History.close.Goals as goal

pub invariant_of-self : goal.invariant_of-self
invariant_of-self c =
    let e : BoardEvent = record { seat = c.args.seat; step = Close } in
    let h = c.self.inside in
    let more : c.push.new.self.items ≡ h.events.items ++ e ∷ [] = rw c.unwrap.ensures at c.push.ensures.items in
    let within : c.args.seat < length h.has_closed = omega (arith, c.self.invariant.seats.0, c.requires) in
    let owes = flag_set h.has_closed c.args.seat within c.if-closes.true in
    record {
      replayed = replayed_next h.events.items c.push.new.self.items e (kept_replay h) _ c.self.invariant.replayed more refl;
      legal = legal_next h.events.items c.push.new.self.items e (kept_replay h) c.self.invariant.replayed c.self.invariant.legal more (rw c.if-closes.true refl);
      seats = (rw length-set c.self.invariant.seats.0, c.self.invariant.seats.1);
      tickets = c.self.invariant.tickets;
      begun = c.self.invariant.begun;
      passed = c.self.invariant.passed;
      owed = omega (arith, c.self.invariant.owed, owes);
      room = omega (arith, c.self.invariant.owed, owes, c.self.invariant.room, ap length more, length-append h.events.items (e ∷ []), c.push.ensures.capacity);
    }

pub returns-then-closes-clause-value : goal.returns-then-closes-clause-value
returns-then-closes-clause-value c =
    let is : replay_of c.args.self.now ≡ kept_replay c.self.inside = rw (← c.self.view_is) c.self.invariant.replayed in
    rw is refl

pub returns-then-closes-clause-after : goal.returns-then-closes-clause-after
returns-then-closes-clause-after c =
    let is : replay_of c.args.self.now ≡ kept_replay c.self.inside = rw (← c.self.view_is) c.self.invariant.replayed in
    let more = rw c.unwrap.ensures at c.push.ensures.items in
    rw (is, c.if-closes.true, more, c.self.view_is) refl

pub returns-else-closes-clause-value : goal.returns-else-closes-clause-value
returns-else-closes-clause-value c =
    let is : replay_of c.args.self.now ≡ kept_replay c.self.inside = rw (← c.self.view_is) c.self.invariant.replayed in
    rw is refl

pub returns-else-closes-clause-after : goal.returns-else-closes-clause-after
returns-else-closes-clause-after c =
    let is : replay_of c.args.self.now ≡ kept_replay c.self.inside = rw (← c.self.view_is) c.self.invariant.replayed in
    rw (is, c.if-closes.false) refl
