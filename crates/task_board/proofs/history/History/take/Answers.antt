use Rattle.std.proofs.Common.{◌≡◌, ◌<◌, ℕ, false, length, slice_get, arith}
use Rattle.task_board.specs.History.{replay_of, is_ticket, is_waiting}
use Rattle.task_board.specs.Invariant.{kept_replay}
use Rattle.task_board.proofs.Tickets.{none_waits}
use Rattle.task_board.proofs.history.History.take.Goals as goal

pub returns-then-place-len : goal.returns-then-place-len
returns-then-place-len c =
    let h = c.self.inside in
    let is : replay_of c.args.self.now ≡ kept_replay h = rw (← c.self.view_is) c.self.invariant.replayed in
    let passed = rw c.deref.ensures.value at c.first_waiting-place.ensures.passed in
    let all : (k : ℕ) → k < length h.tickets.items → is_ticket is_waiting (slice_get h.tickets.items k) ≡ false =
    λ k below. passed k (omega arith) in
    (rw is c.if-self.false, rw is (none_waits h.tickets.items all), c.self.view_is)
