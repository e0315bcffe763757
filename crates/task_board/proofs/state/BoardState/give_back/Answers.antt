use Rattle.std.proofs.Common.{arith, map}
use Rattle.task_board.specs.declared.event.BoardStep.TheVariants.{GiveBack}
use Rattle.task_board.specs.Answers.{event}
use Rattle.task_board.specs.Contents.{things_in}
use Rattle.task_board.proofs.Fitting.{added_grows, give_back_fits}
use Rattle.task_board.proofs.state.BoardState.give_back.Goals as goal

pub invariant_of-self : goal.invariant_of-self
invariant_of-self g c =
    let s = c.args.self.now in
    let after = c.give_back-given.ensures.after in
    let grows = added_grows s.history c.give_back-given.new.self (event c.number.result (GiveBack c.args.ticket)) after in
    record {
      counted = omega (arith, s.counted, grows, c.count-2.ensures.total, c.count-before.ensures, c.count.ensures);
      fits = give_back_fits (map things_in s.contents.items) s.history c.give_back-given.new.self c.number.result c.args.ticket s.fits after;
    }
