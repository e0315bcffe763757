-- What an isometry shows: its linear part, and the map of points that it stands for.
use Rattle.isometry_map.specs.declared.linear_parts.Linear.{Linear}
use Rattle.isometry_map.specs.declared.isometries.Isometry.{Isometry}
use Rattle.isometry_map.specs.LinearView.{linear_number}
use Rattle.isometry_map.specs.Motion.{Motion}
use Rattle.isometry_map.specs.WidePointView.{wide_position}

abbrev pub linear_part : Isometry → Linear
linear_part t = t.linear

abbrev pub motion_of : Isometry → Motion
motion_of t = record { linear = linear_number t.linear; shift = wide_position t.shift }
