use Rattle.std.proofs.Common.{◌↔◌, ℕ, ◌<◌, ◌≤◌}
use Rattle.surd_number.specs.Number.{Number}
use Rattle.open_region.specs.Interval.{IsInInterval}
use Rattle.open_region.specs.Strip.{IsLevel, IsCrossed}
use Rattle.open_region.proofs.Region.heights.Given as goal

abbrev pub invariant-loop-n : goal.invariant-loop-n
invariant-loop-n l =
    (y : Number) → IsInInterval y l.heights
    ↔ (IsLevel l.self y × ((j : ℕ) → j < l.n → 1 ≤ j → IsCrossed l.self j y))
