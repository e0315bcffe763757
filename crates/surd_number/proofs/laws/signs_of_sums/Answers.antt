use Rattle.surd_number.specs.SignLaws.{sign_of-sum_positive}
use Rattle.surd_number.proofs.laws.signs_of_sums.Goals as goal

pub returns : goal.returns
returns c = sign_of-sum_positive
