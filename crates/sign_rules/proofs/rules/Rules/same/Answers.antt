use Rattle.std.proofs.Common.{◌∙◌, sym, ap, ℕ, List}
use Rattle.sign_rules.specs.declared.rule.Rule.{Rule}
use Rattle.sign_rules.specs.Rules.{RulesView}
use Rattle.sign_rules.specs.contracts.rule.RulePartialEq.TheImpl as rule
use Rattle.sign_rules.proofs.Equality.{rule_is, rule_same, told_same}
use Rattle.sign_rules.proofs.rules.Rules.same.Goals as goal

view_of : ℕ → List Rule → RulesView
view_of p rs = record { pairs = p; rules = rs }

pub returns-then-self-other : goal.returns-then-self-other
unfolding view_of
returns-then-self-other c =
    let told = told_same rule.eq-value.it rule_is rule_same c.eq.result c.as_slice.result.now
    c.as_slice-then-self-other.result.now
    c.self.inside.rules.items c.other.inside.rules.items c.eq.ensures c.as_slice.ensures.value
    c.as_slice-then-self-other.ensures.value in (
      λ e.
          sym c.self.view_is
          ∙ ap (λ p. view_of p c.self.inside.rules.items) c.if-self-other.true
          ∙ ap (λ rs. view_of c.other.inside.pairs rs) (told.0 e)
          ∙ c.other.view_is,
      λ e. told.1 (ap (λ (v : RulesView). v.rules) (c.self.view_is ∙ e ∙ sym c.other.view_is)),
    )
