use Rattle.std.proofs.Common.{◌≡◌, ◌<◌, ◌+◌, ◌++◌, ◌∷◌, [], Some, false, length, refl, ap, arith, length-append}
use Rattle.task_board.specs.declared.event.BoardEvent.{BoardEvent}
use Rattle.task_board.specs.declared.event.Ticket.{Ticket}
use Rattle.task_board.specs.declared.event.Stand.TheVariants.{Waiting}
use Rattle.task_board.specs.declared.event.BoardStep.TheVariants.{Put}
use Rattle.task_board.specs.History.{replay_of}
use Rattle.task_board.specs.Invariant.{kept_replay}
use Rattle.task_board.proofs.Replays.{replayed_next, legal_next}
use Rattle.std.proofs.lemmas.List.Sums.{sum_by-append}
use Rattle.task_board.specs.Room.{owed_at}
use Rattle.task_board.proofs.Tickets.{more_passed, put_next}
use Rattle.task_board.proofs.history.History.issue.Goals as goal

pub invariant_of-self-2 : goal.invariant_of-self-2
invariant_of-self-2 c =
    let n = c.len.result + 1 in
    let e : BoardEvent = record { seat = c.args.seat; step = Put (Some n) } in
    let t : Ticket = record { owner = c.args.seat; stand = Waiting } in
    let h = c.self.inside in
    let is : replay_of c.args.self.now ≡ kept_replay h = rw (← c.self.view_is) c.self.invariant.replayed in
    let room = c.in_ok-reserve.ensures.ok in
    let same = c.in_ok-reserve.ensures.items in
    let pushed = rw c.unwrap-2.ensures at c.push-2.ensures.items in
    let more : c.push-2.new.self.items ≡ h.events.items ++ e ∷ [] = rw (pushed, same) refl in
    let put = rw c.unwrap.ensures at c.push.ensures.items in
    let tickets : c.push.new.self.items ≡ h.tickets.items ++ t ∷ [] = rw (put, c.in_ok-reserve-2.ensures.items) refl in
    let opened : h.is_closed ≡ false = rw is at c.requires.opened in
    let left : length h.tickets.items < 4294967295 = rw is at c.requires.left in
    let number : n ≡ length h.tickets.items + 1 = omega (arith, c.len.ensures, ap length c.in_ok-reserve-2.ensures.items) in
    let long = length-append h.tickets.items (t ∷ []) in
    record {
      replayed = replayed_next h.events.items c.push-2.new.self.items e (kept_replay h) _ c.self.invariant.replayed more (rw tickets refl);
      legal = legal_next h.events.items c.push-2.new.self.items e (kept_replay h) c.self.invariant.replayed c.self.invariant.legal more (put_next (kept_replay h) c.args.seat n opened left number);
      seats = c.self.invariant.seats;
      tickets = rw tickets (omega (arith, long, left));
      begun = rw tickets (omega (arith, c.self.invariant.begun, long));
      passed = rw tickets (more_passed h.tickets.items t h.first c.self.invariant.begun c.self.invariant.passed);
      owed = rw tickets (omega (arith, c.self.invariant.owed, sum_by-append (λ (k : Ticket). owed_at k.stand) h.tickets.items (t ∷ [])));
      room = omega (arith, room, ap length same, ap length more, length-append h.events.items (e ∷ []), c.push-2.ensures.capacity);
    }
