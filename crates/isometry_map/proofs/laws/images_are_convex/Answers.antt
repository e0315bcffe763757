use Rattle.isometry_map.specs.ConvexLaws.{images_are_convex}
use Rattle.isometry_map.proofs.laws.images_are_convex.Goals as goal

pub returns : goal.returns
returns c = images_are_convex
