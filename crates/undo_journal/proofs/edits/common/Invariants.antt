use Rattle.std.proofs.Common.{length, ◌-◌, ◌≡◌, ◌≤◌, take}
use Rattle.undo_journal.proofs.edits.common.Given as goal

abbrev pub invariant-loop-count : goal.invariant-loop-count
invariant-loop-count g l =
    record { old : l.count ≤ length l.old; new : l.count ≤ length l.new; same : take l.count l.old ≡ take l.count l.new }

abbrev pub decreases-loop-count : goal.decreases-loop-count
decreases-loop-count g l = length l.old - l.count
