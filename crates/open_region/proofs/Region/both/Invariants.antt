use Rattle.std.proofs.Common.{◌↔◌, ℕ, ◌<◌, IfSome}
use Rattle.plane_geometry.specs.Position.{Position}
use Rattle.open_region.specs.Region.{offset_at, IsBeyond, IsInRegion}
use Rattle.open_region.proofs.Region.both.Given as goal

abbrev pub invariant-loop-n : goal.invariant-loop-n
invariant-loop-n l =
    (q : Position) → IsInRegion q l.region
    ↔ (IsInRegion q l.self × ((k : ℕ) → k < l.n → IfSome (offset_at l.other k) (λ o. IsBeyond o k q)))
