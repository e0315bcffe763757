use Rattle.std.proofs.Common.{◌≡◌, ◌≤◌, take, length}
use Rattle.cp_text.specs.Digits.{without_zeros}
use Rattle.cp_text.proofs.number_reading.trim_zeros.Given as goal

abbrev pub invariant-loop-end : goal.invariant-loop-end
invariant-loop-end l = record {
  value : without_zeros (take l.end l.digits) ≡ without_zeros l.digits;
  bound : l.end ≤ length l.digits;
}

abbrev pub decreases-loop-end : goal.decreases-loop-end
decreases-loop-end l = l.end
