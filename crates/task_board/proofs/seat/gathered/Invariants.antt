use Rattle.std.proofs.Common.{◌≡◌, ◌+◌, vec_len}
use Rattle.std.specs.List.{sum_by}
use Rattle.task_board.specs.Seats.{SeatView}
use Rattle.task_board.proofs.seat.gathered.Given as goal

abbrev pub invariant-loop-seat : goal.invariant-loop-seat
invariant-loop-seat g l =
    (l.all.parts + vec_len l.seats ≡ vec_len l.fn.seats)
    × (l.all.amount + sum_by (λ (s : SeatView). s.made) l.seats.items ≡ sum_by (λ (s : SeatView). s.made) l.fn.seats.items)

abbrev pub decreases-loop-seat : goal.decreases-loop-seat
decreases-loop-seat g l = vec_len l.seats
