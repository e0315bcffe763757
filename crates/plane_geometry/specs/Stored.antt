-- Which ends and direction a segment keeps: the lesser end first, and the direction from one to the other.
use Rattle.std.specs.Prelude.{IsTrue}
use Rattle.std.specs.Ordering.{is_lt}
use Rattle.plane_geometry.specs.Position.{compare_positions}
use Rattle.plane_geometry.specs.Direction.{is_along}
use Rattle.plane_geometry.specs.Stretch.{Stretch}

abbrev pub IsStretch : Stretch → Type 0
IsStretch s = IsTrue (is_lt (compare_positions s.from s.to)) × IsTrue (is_along s.dir s.from s.to)
