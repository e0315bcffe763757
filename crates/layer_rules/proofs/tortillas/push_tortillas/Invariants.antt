use Rattle.std.proofs.Common.{◌+◌, ◌*◌, length}
use Rattle.layer_rules.specs.RuleMeaning.{MakesRules, ForSomeBelow}
use Rattle.layer_rules.specs.TacoTortilla.{BreaksTacoTortillaAt}
use Rattle.layer_rules.proofs.tortillas.push_tortillas.Given as goal

abbrev pub invariant-loop-u : goal.invariant-loop-u
invariant-loop-u l =
    MakesRules (length l.pairs) (l.u * 1)
    (ForSomeBelow (λ n. BreaksTacoTortillaAt l.shape l.pairs l.crease (n + 1)) l.u)
    l.initial.rules.items l.rules.items
