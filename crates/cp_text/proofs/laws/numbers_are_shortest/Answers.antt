use Rattle.cp_text.proofs.ShortestNumbers.{numbers_are_shortest}
use Rattle.cp_text.proofs.laws.numbers_are_shortest.Goals as goal

pub returns : goal.returns
returns c = numbers_are_shortest
