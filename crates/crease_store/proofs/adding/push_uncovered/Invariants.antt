use Rattle.std.proofs.Common.{◌≡◌, ◌++◌, drop}
use Rattle.plane_geometry.specs.SegmentView.{stretch_of}
use Rattle.crease_store.specs.Adding.{uncovered}
use Rattle.crease_store.proofs.adding.push_uncovered.Given as goal

abbrev pub invariant-loop-piece : goal.invariant-loop-piece
invariant-loop-piece l = l.rests.items ++ uncovered (stretch_of l.s) (drop l.piece-index l.pieces) ≡ l.initial.rests.items ++ uncovered (stretch_of l.s) l.pieces
