use Rattle.std.proofs.Common.{◌≡◌, ℕ, ◌<◌, false}
use Rattle.plane_geometry.specs.Position.{position_of}
use Rattle.plane_geometry.specs.Direction.{is_along}
use Rattle.plane_geometry.proofs.directions.first_direction.Given as goal

abbrev pub invariant-loop-number : goal.invariant-loop-number
invariant-loop-number l = (k : ℕ) → k < l.number → is_along k (position_of l.p) (position_of l.q) ≡ false
