-- Which offset a line keeps: the cross product of its direction with some point of two stored numbers.
use Rattle.std.specs.Prelude.{ℕ}
use Rattle.surd_number.specs.declared.Wide.{Wide}
use Rattle.surd_number.specs.Exact.{IsWideOf}
use Rattle.plane_geometry.specs.declared.Point.{Point}
use Rattle.plane_geometry.specs.Position.{position_of, cross_of}
use Rattle.plane_geometry.specs.Direction.{direction_vector}

-- the offset of the line through p in direction n
abbrev pub IsOffsetAt : ℕ → Wide → Point → Type 0
IsOffsetAt n offset p = IsWideOf offset (cross_of (direction_vector n) (position_of p))

-- the line in direction n of this offset passes through a point
abbrev pub PassesThroughPoint : ℕ → Wide → Type 0
PassesThroughPoint n offset = (p : Point) × IsOffsetAt n offset p
