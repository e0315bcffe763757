use Rattle.isometry_map.specs.MotionLaws.{directions_go_to_directions}
use Rattle.isometry_map.proofs.laws.directions_go_to_directions.Goals as goal

pub returns : goal.returns
returns c = directions_go_to_directions
