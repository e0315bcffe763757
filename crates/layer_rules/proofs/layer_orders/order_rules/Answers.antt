use Rattle.layer_rules.proofs.RulesInOrder.{consistent_among, rules_among}
use Rattle.std.proofs.Common.{length}
use Rattle.layer_rules.proofs.layer_orders.order_rules.Goals as goal

pub returns-clause-meaning : goal.returns-clause-meaning
returns-clause-meaning c = λ signs.
    let xs = c.in_ok-rules.rules.items in
    let ys = c.in_order.result.items in
    let n = length c.args.pairs.now in
    let means = c.in_ok-rules.ensures.meaning signs in (
      λ h. means.0 (consistent_among ys xs (λ r m. (c.in_order.ensures.same r).1 m) n signs h),
      λ h. consistent_among xs ys (λ r m. (c.in_order.ensures.same r).0 m) n signs (means.1 h),
    )

pub returns-clause-rules : goal.returns-clause-rules
returns-clause-rules c =
    rules_among (length c.args.pairs.now) c.in_ok-rules.rules.items c.in_order.result.items
    (λ r m. (c.in_order.ensures.same r).0 m) c.in_ok-rules.ensures.rules
