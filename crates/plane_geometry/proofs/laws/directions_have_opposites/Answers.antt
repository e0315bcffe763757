use Rattle.plane_geometry.specs.DirectionLaws.{opposite_direction}
use Rattle.plane_geometry.proofs.laws.directions_have_opposites.Goals as goal

pub returns : goal.returns
returns c = opposite_direction
