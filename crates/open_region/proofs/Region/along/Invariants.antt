use Rattle.std.proofs.Common.{◌↔◌, ℕ, ◌<◌, IfSome}
use Rattle.surd_number.specs.Number.{Number}
use Rattle.plane_geometry.specs.Position.{position_of}
use Rattle.open_region.specs.Interval.{IsInInterval}
use Rattle.open_region.specs.Region.{offset_at, IsBeyond}
use Rattle.open_region.specs.Strip.{point_along}
use Rattle.open_region.proofs.Region.along.Given as goal

abbrev pub invariant-loop-n : goal.invariant-loop-n
invariant-loop-n l =
    (z : Number) → IsInInterval z l.interval
    ↔ (IsInInterval z l.initial.interval
    × ((k : ℕ) → k < l.n → IfSome (offset_at l.self k)
    (λ o. IsBeyond o k (point_along (position_of l.q) l.along z))))
