-- Lists of rules without doubles.
use Rattle.std.specs.Prelude.{◌≢◌, List}
use Rattle.std.specs.List.{AllPairs}
use Rattle.sign_rules.specs.declared.rule.Rule.{Rule}

-- no rule is there twice
abbrev pub AreDifferent : List Rule → Type 0
AreDifferent rules = AllPairs (λ r s. r ≢ s) rules
