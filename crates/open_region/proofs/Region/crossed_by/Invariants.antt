use Rattle.std.proofs.Common.{◌↔◌, ℕ, ◌<◌, ◌≤◌}
use Rattle.surd_number.specs.Number.{Number}
use Rattle.open_region.specs.EdgeView.{line_offset_of}
use Rattle.open_region.specs.Interval.{IsInInterval}
use Rattle.open_region.specs.Strip.{HoldsAcross}
use Rattle.open_region.proofs.Region.crossed_by.Given as goal

abbrev pub invariant-loop-k : goal.invariant-loop-k
invariant-loop-k l =
    (y : Number) → IsInInterval y l.heights
    ↔ (IsInInterval y l.initial.heights
    × ((j : ℕ) → j < l.k → 1 ≤ j → HoldsAcross l.self l.n (line_offset_of l.right) j y))
