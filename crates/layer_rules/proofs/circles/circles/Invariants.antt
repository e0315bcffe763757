use Rattle.layer_rules.specs.Circles.{AreCirclesBefore}
use Rattle.layer_rules.proofs.circles.circles.Given as goal

abbrev pub invariant-loop-p : goal.invariant-loop-p
invariant-loop-p l = AreCirclesBefore l.shape l.pairs l.p 0 l.rules.items
