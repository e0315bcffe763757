use Rattle.std.proofs.Common.{ℕ, ◌<◌, IfSome}
use Rattle.plane_geometry.specs.Position.{position_of}
use Rattle.open_region.specs.Region.{offset_at, IsBeyond}
use Rattle.open_region.proofs.Region.holds.Given as goal

abbrev pub invariant-loop-n : goal.invariant-loop-n
invariant-loop-n l = (k : ℕ) → k < l.n → IfSome (offset_at l.self k) (λ o. IsBeyond o k (position_of l.p))
