use Rattle.std.proofs.Common.{◌∙◌, Some, ap, arith, map}
use Rattle.task_board.specs.declared.event.BoardStep.TheVariants.{Obtain}
use Rattle.task_board.specs.Answers.{event}
use Rattle.task_board.specs.Contents.{things_in}
use Rattle.task_board.proofs.Fitting.{map-put_at, things_there, adds_grows, obtain_fits, take_out_fits}
use Rattle.task_board.proofs.state.BoardState.obtain.Goals as goal

pub invariant_of-self-in-Some : goal.invariant_of-self-in-Some
invariant_of-self-in-Some g c =
    let s = c.args.self.now in
    let out = rw c.in-Some.is at c.in_ok-obtained.ensures in
    let grows = adds_grows s.history c.obtain.new.self (event c.number.result (Obtain c.args.ticket c.in-Some.found)) out in
    let fits = take_out_fits (map things_in s.contents.items) s.history c.obtain.new.self c.number.result c.args.ticket c.in-Some.found s.fits out in
    record {
      counted = omega (arith, s.counted, grows, c.count-2.ensures.total, c.count-before.ensures, c.count.ensures);
      fits = rw (c.replaced-content.ensures.after, map-put_at) fits;
    }

pub answer_of-requires : goal.answer_of-requires
answer_of-requires g c =
    let s = c.args.self.now in
    let out = rw (c.in-Some.is, c.if-found.true) at c.in_ok-obtained.ensures in
    let fits = obtain_fits (map things_in s.contents.items) s.history c.obtain.new.self c.number.result c.args.ticket s.fits out in
    things_there things_in s.contents.items c.args.ticket 2 _ fits.0 c.replaced-content.ensures.value

pub returns-then-found-clause-handed : goal.returns-then-found-clause-handed
returns-then-found-clause-handed g c =
    let a = c.answer_of.ensures.handed in
    (a.0, c.replaced-content.ensures.value ∙ ap Some a.1, a.2, a.3)
