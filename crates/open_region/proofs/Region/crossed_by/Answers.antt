use Rattle.std.proofs.Common.{◌≤◌, arith}
use Rattle.open_region.specs.EdgeView.{line_offset_of}
use Rattle.open_region.specs.Strip.{HoldsAcross}
use Rattle.open_region.proofs.Steps.{and_empty, and_given, next_place, all_places}
use Rattle.open_region.proofs.Region.crossed_by.Goals as goal

pub loop-k-init : goal.loop-k-init
loop-k-init c = λ y. and_empty

pub loop-k-preserved : goal.loop-k-preserved
loop-k-preserved c =
    λ y. next_place (λ k. 1 ≤ k
    → HoldsAcross c.args.self.now c.args.n (line_offset_of c.args.right.now) k y) c.loop-k.k
    (c.loop-k.invariant y) (and_given c.loop-k.auto.k (c.crossed_at-heights.ensures y))

pub returns : goal.returns
returns c = λ y. all_places
    (λ k. 1 ≤ k → HoldsAcross c.args.self.now c.args.n (line_offset_of c.args.right.now) k y) c.loop-k.k 8
    (omega arith) (c.loop-k.invariant y)
