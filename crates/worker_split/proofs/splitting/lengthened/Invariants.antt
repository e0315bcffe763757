use Rattle.std.proofs.Common.{◌≤◌, ◌-◌, length}
use Rattle.worker_split.proofs.Splits.{IsOnly}
use Rattle.worker_split.proofs.splitting.lengthened.Given as goal

abbrev pub invariant-loop-order : goal.invariant-loop-order
invariant-loop-order l = record {
  only : IsOnly l.rules l.order.list;
  room : l.rules.pairs ≤ l.order.room;
}

abbrev pub decreases-loop-order : goal.decreases-loop-order
decreases-loop-order l = l.rules.pairs - length l.order.list
