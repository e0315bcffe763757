use Rattle.std.proofs.Common.{◌≡◌, ◌∙◌, ap, subst}
use Rattle.surd_number.specs.Number.{Number, half_of}
use Rattle.surd_number.specs.Exact.{IsExactly}
use Rattle.surd_number.specs.SurdLaws.{exactly_half}
use Rattle.surd_number.specs.Value.{number_of, triple_number_of}
use Rattle.surd_number.proofs.Surd.half.Goals as goal

pub returns-clause-twice : goal.returns-clause-twice
returns-clause-twice c =
    let x = number_of c.args.self.now in
    let value : triple_number_of c.half.result ≡ half_of x = c.half.ensures ∙ ap half_of c.triple.ensures in
    exactly_half x c.exactly.result
    (subst (λ (y : Number). IsExactly c.exactly.result y) value c.exactly.ensures)
