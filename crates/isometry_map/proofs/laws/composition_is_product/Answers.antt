use Rattle.isometry_map.specs.MatrixLaws.{composition_is_product}
use Rattle.isometry_map.proofs.laws.composition_is_product.Goals as goal

pub returns : goal.returns
returns c = composition_is_product
