use Rattle.isometry_map.proofs.Insides.{insides_are_images}
use Rattle.isometry_map.proofs.laws.insides_are_images.Goals as goal

pub returns : goal.returns
returns c = insides_are_images
