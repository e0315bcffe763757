-- What a segment shows: its two ends, its direction, and the stretch of the plane that it stands for.
use Rattle.std.specs.Prelude.{ℕ}
use Rattle.plane_geometry.specs.declared.Point.{Point}
use Rattle.plane_geometry.specs.declared.Segment.{Segment}
use Rattle.plane_geometry.specs.Position.{position_of}
use Rattle.plane_geometry.specs.Stretch.{Stretch}

abbrev pub lesser_end : Segment → Point
lesser_end s = s.from

abbrev pub greater_end : Segment → Point
greater_end s = s.to

abbrev pub direction_number : Segment → ℕ
direction_number s = s.dir.number

abbrev pub stretch_of : Segment → Stretch
stretch_of s = record { from = position_of s.from; to = position_of s.to; dir = s.dir.number }
