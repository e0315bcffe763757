-- A list of rules on the signs of pairs, and the sign lists that break none of them.
use Rattle.std.specs.Prelude.{ℕ, ◌-◌, Bool, not, ◌&&◌, List, length, nat_lt, nat_le, Option}
use Rattle.std.specs.List.{list_all, list_any, position_from}
use Rattle.sign_rules.specs.declared.sign.Sign.{Sign}
use Rattle.sign_rules.specs.declared.rule.Rule.{Rule}
use Rattle.sign_rules.specs.Rule.{pairs_of, is_rule_on, is_met}

-- how many pairs there are, and the rules in their order: the number of a rule is its place, from 0
pub record RulesView : Type 0 where
  pub pairs : ℕ
  pub rules : List Rule

abbrev pub are_rules_on : ℕ → List Rule → Bool
are_rules_on pairs rules = list_all (is_rule_on pairs) rules

-- whether a list of this length, which gives the first pairs their signs, decides all pairs of the rule
abbrev pub is_decided : ℕ → Rule → Bool
is_decided count rule = list_all (λ p. nat_lt p count) (pairs_of rule)

-- whether the list decides the rule and does not meet it
abbrev pub is_broken : List Sign → Rule → Bool
is_broken signs rule = is_decided (length signs) rule && not (is_met signs rule)

-- the same of a rule that the list does not decide without its last sign
abbrev pub is_broken_at_last : List Sign → Rule → Bool
is_broken_at_last signs rule = is_broken signs rule && not (is_decided (length signs - 1) rule)

-- the least number of a rule that is decided and broken
abbrev pub broken_rule : RulesView → List Sign → Option ℕ
broken_rule r signs = position_from (is_broken signs) 0 r.rules

-- whether the list has at most one sign for each pair, and breaks no rule that it decides
abbrev pub is_consistent : RulesView → List Sign → Bool
is_consistent r signs = nat_le (length signs) r.pairs && not (list_any (is_broken signs) r.rules)
