use Rattle.std.proofs.Common.{◌*◌, length}
use Rattle.layer_rules.specs.declared.crease_lines.LinedCrease.{LinedCrease}
use Rattle.layer_rules.specs.RuleMeaning.{MakesRules, ForSomeBelow}
use Rattle.layer_rules.specs.TacoTaco.{BreaksTacoTacoAt}
use Rattle.layer_rules.proofs.RulesMade.{AtPlace}
use Rattle.layer_rules.proofs.tacos.push_tacos.Given as goal

abbrev pub invariant-loop-second : goal.invariant-loop-second
invariant-loop-second l =
    MakesRules (length l.pairs) (l.second-index * 1)
    (ForSomeBelow
    (AtPlace (length l.pairs) l.near (λ (x : LinedCrease). BreaksTacoTacoAt l.shape l.pairs l.first x.crease))
    l.second-index)
    l.initial.rules.items l.rules.items
