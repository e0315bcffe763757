use Rattle.std.proofs.Common.{◌≡◌, ◌++◌, drop}
use Rattle.layer_rules.specs.FixedRules.{fixed_rules_from}
use Rattle.layer_rules.proofs.creases.crease_rules.Given as goal

abbrev pub invariant-loop-p : goal.invariant-loop-p
invariant-loop-p l =
    l.rules.items ++ fixed_rules_from l.folded l.kinds l.p (drop l.p l.pairs)
    ≡ fixed_rules_from l.folded l.kinds 0 l.pairs
