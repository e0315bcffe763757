use Rattle.std.proofs.Common.{arith, rules}
use Rattle.std.proofs.lemmas.List.Sorted.{length_permutation}
use Rattle.layer_rules.proofs.RulesInOrder.{once, same_rules, sorted_by_key}
use Rattle.layer_rules.proofs.rule_order.in_order.Goals as goal

pub returns-clause-same : goal.returns-clause-same
returns-clause-same c =
    same_rules c.args.rules.items c.sort_unstable_by_key.new.self.items c.dedup.new.self.items
    c.dedup.ensures.filtered c.sort_unstable_by_key.ensures.permutation

pub returns-clause-order : goal.returns-clause-order
returns-clause-order c =
    once c.args.rules.items c.sort_unstable_by_key.new.self.items c.dedup.new.self.items c.dedup.ensures.filtered
    (sorted_by_key c.sort_unstable_by_key.new.self.items c.sort_unstable_by_key.ensures.sorted
    (λ a r q k. search rules))

pub returns-clause-few : goal.returns-clause-few
returns-clause-few c =
    omega (
      arith,
      c.dedup.ensures.bound,
      c.dedup.new.self.ok.0,
      c.sort_unstable_by_key.new.self.ok.0,
      length_permutation c.args.rules.items c.sort_unstable_by_key.new.self.items
          c.sort_unstable_by_key.ensures.permutation,
    )
