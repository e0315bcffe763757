use Rattle.std.proofs.Common.{◌∙◌, Some, true, false, ap, arith, map}
use Rattle.task_board.specs.declared.event.BoardStep.TheVariants.{Fetch}
use Rattle.task_board.specs.Answers.{event}
use Rattle.task_board.specs.Contents.{things_in}
use Rattle.task_board.proofs.Fitting.{map-put_at, there_at, things_there, adds_grows, missed_fits, fetch_fits}
use Rattle.task_board.proofs.state.BoardState.fetch.Goals as goal

pub invariant_of-self-then-not-found : goal.invariant_of-self-then-not-found
invariant_of-self-then-not-found g c =
    let s = c.args.self.now in
    let missed = rw c.if-not-found.true at c.in_ok-found.ensures.ok in
    let grows = adds_grows s.history c.fetch.new.self (event c.number.result (Fetch c.args.ticket false)) missed in
    record {
      counted = omega (arith, s.counted, grows, c.count-2.ensures.total, c.count-before.ensures, c.count.ensures);
      fits = missed_fits (map things_in s.contents.items) s.history c.fetch.new.self c.number.result c.args.ticket s.fits missed;
    }

pub replaced-content-requires : goal.replaced-content-requires
replaced-content-requires g c =
    let s = c.args.self.now in
    let found = rw c.if-not-found.false at c.in_ok-found.ensures.ok in
    let fits = fetch_fits (map things_in s.contents.items) s.history c.fetch.new.self c.number.result c.args.ticket s.fits found in
    there_at things_in s.contents.items c.args.ticket 2 fits.0

pub invariant_of-self-2 : goal.invariant_of-self-2
invariant_of-self-2 g c =
    let s = c.args.self.now in
    let found = rw c.if-not-found.false at c.in_ok-found.ensures.ok in
    let grows = adds_grows s.history c.fetch.new.self (event c.number.result (Fetch c.args.ticket true)) found in
    let fits = fetch_fits (map things_in s.contents.items) s.history c.fetch.new.self c.number.result c.args.ticket s.fits found in
    record {
      counted = omega (arith, s.counted, grows, c.count-2.ensures.total, c.count-before.ensures, c.count.ensures);
      fits = rw (c.replaced-content.ensures.after, map-put_at) fits.1;
    }

pub answer_of-requires : goal.answer_of-requires
answer_of-requires g c =
    let s = c.args.self.now in
    let found = rw c.if-not-found.false at c.in_ok-found.ensures.ok in
    let fits = fetch_fits (map things_in s.contents.items) s.history c.fetch.new.self c.number.result c.args.ticket s.fits found in
    things_there things_in s.contents.items c.args.ticket 2 _ fits.0 c.replaced-content.ensures.value

pub returns-clause-handed : goal.returns-clause-handed
returns-clause-handed g c =
    let a = c.answer_of.ensures.handed in
    (a.0, c.replaced-content.ensures.value ∙ ap Some a.1, a.2, a.3)
