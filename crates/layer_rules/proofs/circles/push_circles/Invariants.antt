use Rattle.layer_rules.specs.Circles.{AreCirclesBefore}
use Rattle.layer_rules.proofs.circles.push_circles.Given as goal

abbrev pub invariant-loop-t : goal.invariant-loop-t
invariant-loop-t l = AreCirclesBefore l.shape l.pairs l.p l.t l.rules.items
