use Rattle.std.proofs.Common.{◌∙◌, ap}
use Rattle.sign_rules.specs.Signs.{OrderView}
use Rattle.sign_rules.specs.contracts.sign.SignPartialEq.TheImpl as sign
use Rattle.sign_rules.proofs.Equality.{sign_is, sign_same, told_same}
use Rattle.sign_rules.proofs.sign.Order.same.Goals as goal

pub returns : goal.returns
returns c =
    told_same sign.eq-value.it sign_is sign_same c.eq.result c.as_slice.result.now c.as_slice-2.result.now
    c.args.self.now.list c.args.other.now.list c.eq.ensures
    (c.as_slice.ensures.value ∙ ap (λ (v : OrderView). v.list) c.self.view_is)
    (c.as_slice-2.ensures.value ∙ ap (λ (v : OrderView). v.list) c.other.view_is)
