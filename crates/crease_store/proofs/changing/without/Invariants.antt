use Rattle.std.proofs.Common.{◌≡◌, take}
use Rattle.crease_store.specs.Changed.{without}
use Rattle.crease_store.proofs.changing.without.Given as goal

abbrev pub invariant-loop-item : goal.invariant-loop-item
invariant-loop-item g l = l.rest.items ≡ without g.T.OnSegment.segment_of (take l.item-index l.items) l.from l.to
