use Rattle.plane_geometry.specs.DirectionLaws.{along_is_multiple}
use Rattle.plane_geometry.proofs.laws.directions_are_positive_multiples.Goals as goal

pub returns : goal.returns
returns c = along_is_multiple
