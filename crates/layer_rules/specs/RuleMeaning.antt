-- What rules say of sign lists: which lists break one of them.
use Rattle.std.specs.Prelude.{ℕ, ◌+◌, ◌<◌, ◌≤◌, ◌⊎◌, ◌↔◌, List, length, Option, MatchOption, IsTrue}
use Rattle.std.specs.List.{list_any}
use Rattle.sign_rules.specs.declared.sign.Sign.{Sign}
use Rattle.sign_rules.specs.declared.rule.Rule.{Rule}
use Rattle.sign_rules.specs.Rule.{is_rule_on}
use Rattle.sign_rules.specs.Rules.{are_rules_on, is_broken}

-- a rule on so many pairs, which just these lists break
pub record IsRuleFor (count : ℕ) (Breaks : List Sign → Type 0) (rule : Rule) : Type 0 where
  pub on_pairs : IsTrue (is_rule_on count rule)
  pub meaning : (signs : List Sign) → IsTrue (is_broken signs rule) ↔ Breaks signs

-- such a rule, or none where there are no such lists
abbrev pub MakesRule : ℕ → (List Sign → Type 0) → Option Rule → Type 0
MakesRule count Breaks found =
    MatchOption found ((signs : List Sign) → ¬ Breaks signs) (IsRuleFor count Breaks)

-- further rules on so many pairs, at most so many of them, one of which just these lists break
pub record MakesRules (count most : ℕ) (Breaks : List Sign → Type 0) (old new : List Rule) : Type 0 where
  pub few : length new ≤ length old + most
  pub on_pairs : IsTrue (are_rules_on count old) → IsTrue (are_rules_on count new)
  pub meaning : (signs : List Sign) → IsTrue (list_any (is_broken signs) new)
      ↔ (IsTrue (list_any (is_broken signs) old) ⊎ Breaks signs)

-- for some number below this one
abbrev pub ForSomeBelow : (ℕ → List Sign → Type 0) → ℕ → List Sign → Type 0
ForSomeBelow Breaks end signs = (n : ℕ) × (n < end) × Breaks n signs
