use Rattle.sign_rules.specs.ConsistencyLaws.{consistent-front}
use Rattle.sign_rules.proofs.laws.fronts_are_consistent.Goals as goal

pub returns : goal.returns
returns c = consistent-front
