use Rattle.std.proofs.Common.{◌≤◌, arith}
use Rattle.open_region.specs.Strip.{IsCrossed}
use Rattle.open_region.proofs.Steps.{iff_trans, and_empty_from, and_given, next_place, all_places}
use Rattle.open_region.proofs.Heights.{heights_are}
use Rattle.open_region.proofs.Region.heights.Goals as goal

pub loop-n-init : goal.loop-n-init
loop-n-init c = λ y. and_empty_from (c.level-heights.ensures y)

pub loop-n-preserved : goal.loop-n-preserved
loop-n-preserved c =
    λ y. next_place (λ k. 1 ≤ k → IsCrossed c.args.self.now k y) c.loop-n.n (c.loop-n.invariant y)
    (and_given c.loop-n.auto.n (c.crossed-heights.ensures y))

pub returns : goal.returns
returns c = λ y. iff_trans
    (all_places (λ k. 1 ≤ k → IsCrossed c.args.self.now k y) c.loop-n.n 8 (omega arith)
    (c.loop-n.invariant y)) (heights_are c.args.self.now y)
