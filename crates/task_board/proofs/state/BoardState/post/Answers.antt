use Rattle.std.proofs.Common.{◌∙◌, sym, ap, arith, map, refl}
use Rattle.task_board.specs.declared.event.BoardStep.TheVariants.{Post}
use Rattle.task_board.specs.Answers.{event}
use Rattle.task_board.specs.Contents.{things_in}
use Rattle.task_board.proofs.Fitting.{map-put_at, adds_grows, added_next, post_fits}
use Rattle.task_board.proofs.state.BoardState.post.Goals as goal

pub invariant_of-self : goal.invariant_of-self
invariant_of-self g c =
    let s = c.args.self.now in
    let next = sym c.post-posted.ensures.value ∙ c.if-posted.true in
    let posted = added_next s.history c.post-posted.new.self (event c.number.result (Post c.args.ticket)) next c.post-posted.ensures.after in
    let grows = adds_grows s.history c.post-posted.new.self (event c.number.result (Post c.args.ticket)) posted in
    let fits = post_fits (map things_in s.contents.items) s.history c.post-posted.new.self c.number.result c.args.ticket s.fits posted in
    let two = ap things_in c.answer_with-answer.ensures.1 in
    record {
      counted = omega (arith, s.counted, grows, c.count-2.ensures.total, c.count-before.ensures, c.count.ensures);
      fits = rw (c.replaced-taken.ensures.after, map-put_at, two) fits.1;
    }

pub returns-then-posted-clause-posted : goal.returns-then-posted-clause-posted
returns-then-posted-clause-posted g c =
    let a = c.answer_with-answer.ensures in
    rw c.if-posted.true (a.0, rw (c.replaced-taken.ensures.after, a.1) refl, a.2, a.3)
