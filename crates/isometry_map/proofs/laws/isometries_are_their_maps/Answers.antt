use Rattle.isometry_map.specs.MotionLaws.{isometries_are_their_maps}
use Rattle.isometry_map.proofs.laws.isometries_are_their_maps.Goals as goal

pub returns : goal.returns
returns c = isometries_are_their_maps
