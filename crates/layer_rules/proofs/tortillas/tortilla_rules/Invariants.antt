use Rattle.std.proofs.Common.{◌*◌, [], length}
use Rattle.layer_rules.specs.RuleMeaning.{MakesRules, ForSomeBelow}
use Rattle.layer_rules.proofs.RulesMade.{AtPlace}
use Rattle.layer_rules.proofs.TortillaRules.{OfCrease}
use Rattle.layer_rules.proofs.tortillas.tortilla_rules.Given as goal

abbrev pub invariant-loop-crease : goal.invariant-loop-crease
invariant-loop-crease l =
    MakesRules (length l.pairs) (l.crease-index * length l.shape.faces)
    (ForSomeBelow (AtPlace (length l.pairs) l.shape.creases (OfCrease l.shape l.pairs)) l.crease-index)
    [] l.rules.items
