use Rattle.sign_rules.specs.RuleIndex.{IsIndex}
use Rattle.sign_rules.proofs.rules.Rules.new.Given as goal

abbrev pub invariant-loop-number : goal.invariant-loop-number
invariant-loop-number l = IsIndex l.pairs l.number l.rule-items l.latest.items l.earlier.items
