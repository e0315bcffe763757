use Rattle.layer_rules.proofs.Assignments.{orders_are_of_assignments}
use Rattle.layer_rules.proofs.laws.orders_are_of_assignments.Goals as goal

pub returns : goal.returns
returns c = orders_are_of_assignments
