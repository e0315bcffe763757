use Rattle.std.proofs.Common.{◌≡◌, ◌∙◌, ap, subst}
use Rattle.surd_number.specs.Number.{Number, product_of, half_root}
use Rattle.surd_number.specs.Exact.{IsWideOf}
use Rattle.surd_number.specs.SurdLaws.{half_root_times_root}
use Rattle.surd_number.specs.Value.{wide_number_of, triple_number_of}
use Rattle.surd_number.proofs.Wide.half_root.Goals as goal

pub returns-clause-root : goal.returns-clause-root
returns-clause-root c =
    let x = wide_number_of c.args.self.now in
    let value : triple_number_of c.times.result ≡ product_of x half_root = c.times.ensures
    ∙ ap (λ (y : Number). product_of y half_root) c.triple.ensures in
    half_root_times_root (wide_number_of c.exactly.result) x
    (subst (λ (y : Number). IsWideOf c.exactly.result y) value c.exactly.ensures)
