use Rattle.std.proofs.Common.{IfSome, arith}
use Rattle.open_region.specs.Region.{offset_at, IsBeyond}
use Rattle.open_region.proofs.Steps.{and_held, next_place, all_places}
use Rattle.open_region.proofs.Region.both.Goals as goal

pub loop-n-init : goal.loop-n-init
loop-n-init c = λ q. and_held

pub loop-n-preserved : goal.loop-n-preserved
loop-n-preserved c =
    λ q. next_place (λ k. IfSome (offset_at c.args.other.now k) (λ o. IsBeyond o k q)) c.loop-n.n
    (c.loop-n.invariant q) (c.narrow_by.ensures q)

pub returns : goal.returns
returns c = λ q. all_places (λ k. IfSome (offset_at c.args.other.now k) (λ o. IsBeyond o k q)) c.loop-n.n 16
    (omega arith) (c.loop-n.invariant q)
