use Rattle.std.proofs.Common.{◌≡◌, drop}
use Rattle.std.specs.List.{position_from}
use Rattle.sign_rules.specs.Rules.{is_broken}
use Rattle.sign_rules.proofs.rules.Rules.breaks.Given as goal

abbrev pub invariant-loop-number : goal.invariant-loop-number
invariant-loop-number l =
    position_from (is_broken l.signs) l.number (drop l.number l.rule-items)
    ≡ position_from (is_broken l.signs) 0 l.rule-items
