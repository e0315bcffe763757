use Rattle.std.proofs.Common.{Some, None, arith, map}
use Rattle.task_board.specs.declared.event.BoardStep.TheVariants.{Take}
use Rattle.task_board.specs.Answers.{event}
use Rattle.task_board.specs.Contents.{things_in}
use Rattle.task_board.proofs.Fitting.{map-put_at, things_there, added_grows, adds_grows, take_fits, told_fits}
use Rattle.task_board.proofs.state.BoardState.take.Goals as goal

pub invariant_of-self-in-Some : goal.invariant_of-self-in-Some
invariant_of-self-in-Some g c =
    let s = c.args.self.now in
    let taken = rw c.in-Some.is at c.in_ok-taken.ensures in
    let grows = adds_grows s.history c.take.new.self (event c.number.result (Take (Some c.in-Some.ticket))) taken in
    let fits = take_fits (map things_in s.contents.items) s.history c.take.new.self c.number.result c.in-Some.ticket s.fits taken in
    record {
      counted = omega (arith, s.counted, grows, c.count-2.ensures.total, c.count-before.ensures, c.count.ensures);
      fits = rw (c.replaced-content.ensures.after, map-put_at) fits.1;
    }

pub task_of-requires : goal.task_of-requires
task_of-requires g c =
    let s = c.args.self.now in
    let taken = rw c.in-Some.is at c.in_ok-taken.ensures in
    let fits = take_fits (map things_in s.contents.items) s.history c.take.new.self c.number.result c.in-Some.ticket s.fits taken in
    things_there things_in s.contents.items c.in-Some.ticket 1 _ fits.0 c.replaced-content.ensures.value

pub invariant_of-self-in-None : goal.invariant_of-self-in-None
invariant_of-self-in-None g c =
    let s = c.args.self.now in
    let told = rw c.in-None.is at c.in_ok-taken.ensures in
    let grows = added_grows s.history c.take.new.self (event c.number.result (Take None)) told.1 in
    record {
      counted = omega (arith, s.counted, grows, c.count-2.ensures.total, c.count-before.ensures, c.count.ensures);
      fits = told_fits (map things_in s.contents.items) s.history c.take.new.self c.number.result s.fits told.1;
    }
