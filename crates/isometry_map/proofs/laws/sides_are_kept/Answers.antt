use Rattle.isometry_map.specs.MotionLaws.{sides_are_kept}
use Rattle.isometry_map.proofs.laws.sides_are_kept.Goals as goal

pub returns : goal.returns
returns c = sides_are_kept
