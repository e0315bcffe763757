use Rattle.cp_text.proofs.ShortestNumbers.{numbers_are_shortest}
use Rattle.cp_text.proofs.number_writing.write_number.Goals as goal

pub returns-clause-shortest : goal.returns-clause-shortest
returns-clause-shortest c = numbers_are_shortest c.args.n.now
