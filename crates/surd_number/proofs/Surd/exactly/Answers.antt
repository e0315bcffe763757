use Rattle.std.proofs.lemmas.Bool.{false≢true}
use Rattle.surd_number.specs.CanonicalLaws.{stored_from_surd}
use Rattle.surd_number.specs.Value.{triple_number_of}
use Rattle.surd_number.proofs.Surd.exactly.Goals as goal

-- were the number a Surd's, its canonical triple would be within the limits
pub returns-else-is_narrow : goal.returns-else-is_narrow
returns-else-is_narrow c = λ h.
    false≢true (c.if-is_narrow.ensures.1
    (stored_from_surd (triple_number_of c.reduced-least.result)
    (triple_number_of c.args.number.now) c.reduced-least.ensures.least c.reduced-least.ensures.same h).1)
