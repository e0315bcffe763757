use Rattle.std.proofs.Common.{◌≡◌, ℕ, ◌<◌, false, slice_get}
use Rattle.task_board.specs.History.{is_ticket, is_waiting}
use Rattle.task_board.proofs.history.first_waiting.Given as goal

abbrev pub invariant-loop-place : goal.invariant-loop-place
invariant-loop-place l = (k : ℕ) → k < l.place → is_ticket is_waiting (slice_get l.tickets k) ≡ false
