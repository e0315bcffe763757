use Rattle.surd_number.specs.CanonicalLaws.{stored_from_wide}
use Rattle.surd_number.specs.Value.{triple_number_of}
use Rattle.surd_number.proofs.Wide.exactly.Goals as goal

pub kept-requires : goal.kept-requires
kept-requires c =
    stored_from_wide (triple_number_of c.reduced.result)
    (triple_number_of c.args.number.now) c.reduced.ensures.least c.reduced.ensures.same c.requires
