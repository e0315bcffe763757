use Rattle.surd_number.specs.SignLaws.{sign_of-negative}
use Rattle.surd_number.proofs.laws.signs_of_negatives.Goals as goal

pub returns : goal.returns
returns c = sign_of-negative
