use Rattle.std.proofs.Common.{ℕ, ◌<◌, ◌⊎◌}
use Rattle.open_region.specs.Region.{LeaveNothing}
use Rattle.open_region.proofs.Region.is_apart.Given as goal

abbrev pub invariant-loop-n : goal.invariant-loop-n
invariant-loop-n l = (k : ℕ) → k < l.n → (LeaveNothing l.self l.other k ⊎ LeaveNothing l.other l.self k) → ⊥
