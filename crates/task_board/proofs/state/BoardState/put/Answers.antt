use Rattle.std.proofs.Common.{arith, map}
use Rattle.task_board.specs.Contents.{things_in}
use Rattle.task_board.proofs.Fitting.{put_grows, put_fits, refuse_fits}
use Rattle.task_board.proofs.state.BoardState.put.Goals as goal
use Rattle.std.proofs.lemmas.List.{map-append}

pub invariant_of-self-in-Ok : goal.invariant_of-self-in-Ok
invariant_of-self-in-Ok g c =
    let s = c.args.self.now in
    let grows = put_grows s.history c.put-put.new.self c.number.result c.put-put.result c.put-put.ensures in
    let fits = put_fits (map things_in s.contents.items) s.history c.put-put.new.self c.number.result c.in-Ok.ticket s.fits c.in-Ok.ensures in
    record {
      counted = omega (arith, s.counted, grows, c.count-2.ensures.total, c.count-before.ensures, c.count.ensures);
      fits = rw (c.append.ensures, c.reserve.ensures.items, map-append) fits;
    }

pub invariant_of-self-in-Err-1 : goal.invariant_of-self-in-Err-1
invariant_of-self-in-Err-1 g c =
    let s = c.args.self.now in
    let grows = put_grows s.history c.put-put.new.self c.number.result c.put-put.result c.put-put.ensures in
    let fits = refuse_fits (map things_in s.contents.items) s.history c.put-put.new.self c.number.result c.in-Err.fault c.in-Err.ensures s.fits in
    record {
      counted = omega (arith, s.counted, grows, c.count-2.ensures.total, c.count-before.ensures, c.count.ensures);
      fits = rw c.reserve.ensures.items fits;
    }
