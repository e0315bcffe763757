use Rattle.std.proofs.Common.{◌≡◌, ◌∙◌, List, length, not, drop, false, is_some, refl, sym, ap}
use Rattle.std.specs.List.{list_any}
use Rattle.std.proofs.lemmas.Bool.{and_from, le-leb}
use Rattle.std.proofs.lemmas.List.{at_drop_all}
use Rattle.sign_rules.specs.declared.rule.Rule.{Rule}
use Rattle.sign_rules.specs.Rules.{RulesView, is_broken}
use Rattle.sign_rules.proofs.Places.{is_some-position_from}
use Rattle.sign_rules.proofs.rules.Rules.breaks.Goals as goal

pub returns-clause-none : goal.returns-clause-none
returns-clause-none c =
    let signs = c.args.signs.now in
    let items = c.deref-rule-items.result.now in
    let number = c.loop-number.number in
    let left = at_drop_all (list_any (is_broken signs)) items number c.loop-number-test.false in
    let none : list_any (is_broken signs) items ≡ false =
    sym (is_some-position_from (is_broken signs) 0 items)
    ∙ ap is_some (sym c.loop-number.invariant)
    ∙ is_some-position_from (is_broken signs) number (drop number items)
    ∙ left in
    let here : items ≡ c.args.self.now.rules = c.deref-rule-items.ensures.value
    ∙ ap (λ (v : RulesView). v.rules) c.self.view_is in (
      λ _. and_from _ _ (le-leb (length signs) c.args.self.now.pairs c.requires)
          (ap not (ap (λ (rs : List Rule). list_any (is_broken signs) rs) (sym here) ∙ none)),
      λ _. refl,
    )
