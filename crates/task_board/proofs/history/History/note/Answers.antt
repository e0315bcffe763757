use Rattle.std.proofs.Common.{◌≡◌, ◌++◌, ◌∷◌, [], length, refl, ap, arith, length-append}
use Rattle.task_board.specs.declared.event.BoardEvent.{BoardEvent}
use Rattle.task_board.specs.History.{replay_of}
use Rattle.task_board.specs.Invariant.{kept_replay}
use Rattle.task_board.proofs.Replays.{replayed_next, legal_next}
use Rattle.task_board.proofs.history.History.note.Goals as goal

pub invariant_of-self-2 : goal.invariant_of-self-2
invariant_of-self-2 c =
    let e : BoardEvent = record { seat = c.args.seat; step = c.args.step } in
    let h = c.self.inside in
    let room = c.in_ok-reserve.ensures.ok in
    let same = c.in_ok-reserve.ensures.items in
    let pushed = rw c.unwrap.ensures at c.push.ensures.items in
    let more : c.push.new.self.items ≡ h.events.items ++ e ∷ [] = rw (pushed, same) refl in
    let is : replay_of c.args.self.now ≡ kept_replay h = rw (← c.self.view_is) c.self.invariant.replayed in
    record {
      replayed = replayed_next h.events.items c.push.new.self.items e (kept_replay h) _ c.self.invariant.replayed more (rw is at c.requires.leaves);
      legal = legal_next h.events.items c.push.new.self.items e (kept_replay h) c.self.invariant.replayed c.self.invariant.legal more (rw is at c.requires.next);
      seats = c.self.invariant.seats;
      tickets = c.self.invariant.tickets;
      begun = c.self.invariant.begun;
      passed = c.self.invariant.passed;
      owed = c.self.invariant.owed;
      room = omega (arith, room, ap length same, ap length more, length-append h.events.items (e ∷ []), c.push.ensures.capacity);
    }
