use Rattle.std.proofs.Common.{◌≡◌, ◌+◌}
use Rattle.task_board.specs.Seats.{AreNewSeats}
use Rattle.task_board.proofs.board.seated.Given as goal

abbrev pub invariant-loop-number : goal.invariant-loop-number
invariant-loop-number g l =
    (l.share.parts + l.number ≡ l.seats) × (l.share.amount ≡ 0) × AreNewSeats l.all.items l.number
