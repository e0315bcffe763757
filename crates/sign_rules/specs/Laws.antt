-- What holds of all rules and lists.
use Rattle.std.specs.Prelude.{List, ◌++◌, IsTrue}
use Rattle.sign_rules.specs.declared.sign.Sign.{Sign}
use Rattle.sign_rules.specs.Rules.{RulesView, is_consistent}

-- a front of a consistent list is consistent
abbrev pub FrontsAreConsistent : Type 0
FrontsAreConsistent =
    (r : RulesView) (front rest : List Sign) → IsTrue (is_consistent r (front ++ rest))
    → IsTrue (is_consistent r front)
