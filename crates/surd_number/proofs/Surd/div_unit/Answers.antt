use Rattle.std.proofs.Common.{ap₂, subst, ◌≡◌, ◌∙◌}
use Rattle.surd_number.specs.Number.{Number, product_of, unit_inverse_of}
use Rattle.surd_number.specs.Exact.{IsExactly}
use Rattle.surd_number.specs.SurdLaws.{exactly_quotient}
use Rattle.surd_number.specs.Value.{number_of, triple_number_of}
use Rattle.surd_number.proofs.Surd.div_unit.Goals as goal

pub returns-clause-quotient : goal.returns-clause-quotient
returns-clause-quotient c =
    let x = number_of c.args.self.now in
    let value : triple_number_of c.times.result
    ≡ product_of x (unit_inverse_of c.args.i c.args.j) =
    c.times.ensures ∙ ap₂ product_of c.triple.ensures c.unit_inverse.ensures.value in
    exactly_quotient c.args.i c.args.j x c.exactly.result
    (subst (λ (y : Number). IsExactly c.exactly.result y) value c.exactly.ensures)
