use Rattle.std.proofs.Common.{IfSome, arith}
use Rattle.plane_geometry.specs.Position.{position_of}
use Rattle.open_region.specs.Region.{offset_at, IsBeyond}
use Rattle.open_region.specs.Strip.{point_along}
use Rattle.open_region.proofs.Steps.{and_held, next_place, all_places}
use Rattle.open_region.proofs.Region.along.Goals as goal

pub loop-n-init : goal.loop-n-init
loop-n-init c = λ z. and_held

pub loop-n-preserved : goal.loop-n-preserved
loop-n-preserved c =
    λ z. next_place (λ k. IfSome (offset_at c.args.self.now k)
    (λ o. IsBeyond o k (point_along (position_of c.args.q.now) c.args.along z))) c.loop-n.n
    (c.loop-n.invariant z) (c.along_edge-interval.ensures z)

pub returns : goal.returns
returns c =
    λ z. all_places (λ k. IfSome (offset_at c.args.self.now k)
    (λ o. IsBeyond o k (point_along (position_of c.args.q.now) c.args.along z))) c.loop-n.n 16
    (omega arith) (c.loop-n.invariant z)
