use Rattle.plane_geometry.specs.DirectionLaws.{along_unique}
use Rattle.plane_geometry.proofs.laws.directions_are_unique.Goals as goal

pub returns : goal.returns
returns c = λ m n p q few_m few_n e f. along_unique m n p q few_m few_n e f
