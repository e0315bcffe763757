use Rattle.wireframe_fold.proofs.InnerImages.{inside_is_image}
use Rattle.wireframe_fold.proofs.laws.inside_is_image.Goals as goal

pub returns : goal.returns
returns c = inside_is_image c.insides_are_images.ensures c.each_is_an_image.ensures
