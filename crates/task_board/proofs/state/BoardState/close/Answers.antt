use Rattle.std.proofs.Common.{arith, map}
use Rattle.task_board.specs.declared.event.BoardStep.TheVariants.{Close}
use Rattle.task_board.specs.Answers.{event}
use Rattle.task_board.specs.Contents.{things_in}
use Rattle.task_board.proofs.Fitting.{added_grows, close_fits}
use Rattle.task_board.proofs.state.BoardState.close.Goals as goal

pub invariant_of-self : goal.invariant_of-self
invariant_of-self g c =
    let s = c.args.self.now in
    let after = c.close-closes.ensures.after in
    let grows = added_grows s.history c.close-closes.new.self (event c.number.result Close) after in
    record {
      counted = omega (arith, s.counted, grows, c.count-2.ensures.total, c.count-before.ensures, c.count.ensures);
      fits = close_fits (map things_in s.contents.items) s.history c.close-closes.new.self c.number.result s.fits after;
    }
