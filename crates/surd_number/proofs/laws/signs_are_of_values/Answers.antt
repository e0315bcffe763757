use Rattle.surd_number.specs.SignLaws.{sign_of-same, sign_of-zero, zero_sign_of}
use Rattle.surd_number.proofs.laws.signs_are_of_values.Goals as goal

pub returns-clause-same : goal.returns-clause-same
returns-clause-same c = sign_of-same

pub returns-clause-zero : goal.returns-clause-zero
returns-clause-zero c = λ x. (sign_of-zero x, zero_sign_of x)
