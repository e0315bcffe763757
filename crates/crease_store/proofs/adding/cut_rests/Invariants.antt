use Rattle.std.proofs.Common.{◌≡◌, ◌++◌, drop}
use Rattle.plane_geometry.specs.SegmentView.{stretch_of}
use Rattle.crease_store.specs.Adding.{rests_of}
use Rattle.crease_store.proofs.adding.cut_rests.Given as goal

abbrev pub invariant-loop-piece : goal.invariant-loop-piece
invariant-loop-piece l =
    l.rests.items ++ rests_of (stretch_of l.s) l.cuts (drop l.piece-index l.pieces) ≡ rests_of (stretch_of l.s) l.cuts l.pieces
