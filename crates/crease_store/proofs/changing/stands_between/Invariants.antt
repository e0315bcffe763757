use Rattle.std.proofs.Common.{◌≡◌, drop}
use Rattle.crease_store.specs.Changed.{stands_between}
use Rattle.crease_store.proofs.changing.stands_between.Given as goal

abbrev pub invariant-loop-item : goal.invariant-loop-item
invariant-loop-item g l =
    let segment_of = g.T.OnSegment.segment_of in
    stands_between segment_of (drop l.item-index l.items) l.from l.to ≡ stands_between segment_of l.items l.from l.to
