use Rattle.surd_number.specs.SignLaws.{sign_of-product}
use Rattle.surd_number.proofs.laws.signs_of_products.Goals as goal

pub returns : goal.returns
returns c = sign_of-product
