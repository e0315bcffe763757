use Rattle.std.proofs.Common.{refl}
use Rattle.surd_number.specs.SignLaws.{root_two_positive}
use Rattle.surd_number.proofs.laws.root_two_is_positive.Goals as goal

pub returns-clause-square : goal.returns-clause-square
returns-clause-square c = (refl, refl)

pub returns-clause-positive : goal.returns-clause-positive
returns-clause-positive c = root_two_positive
