use Rattle.isometry_map.proofs.Insides.{each_is_an_image}
use Rattle.isometry_map.proofs.laws.each_is_an_image.Goals as goal

pub returns : goal.returns
returns c = each_is_an_image
