use Rattle.std.proofs.Common.{◌∙◌, ◌++◌, List, ap, ap₂}
use Rattle.std.proofs.lemmas.List.{append_assoc}
use Rattle.sign_rules.specs.declared.rule.Rule.{Rule}
use Rattle.sign_rules.specs.declared.sign.Sign.TheVariants.{Over, Under}
use Rattle.layer_rules.specs.FixedRules.{fixed_rule, fixed_rules}
use Rattle.layer_rules.proofs.creases.push_fixed.Goals as goal

pub returns : goal.returns
unfolding fixed_rules
returns c =
    let old = c.args.rules.now.items in
    let over = fixed_rule c.is_wanted.result c.args.p Over in
    let under = fixed_rule c.is_wanted-2.result c.args.p Under in
    c.in_ok-push_if-2.ensures
    ∙ ap (λ (l : List Rule). l ++ under) c.in_ok-push_if.ensures
    ∙ append_assoc old over under
    ∙ ap₂ (λ x y. old ++ (fixed_rule x c.args.p Over ++ fixed_rule y c.args.p Under)) c.is_wanted.ensures
    c.is_wanted-2.ensures
