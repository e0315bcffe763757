use Rattle.worker_split.proofs.OneFact.{right_outcome}
use Rattle.worker_split.proofs.laws.right_outcomes_are_one_fact.Goals as goal

pub returns : goal.returns
returns c = right_outcome
