use Rattle.std.proofs.Common.{◌≡◌, take, map}
use Rattle.crease_store.specs.Changed.{in_kind}
use Rattle.crease_store.proofs.changing.pieces_in_kind.Given as goal

abbrev pub invariant-loop-piece : goal.invariant-loop-piece
invariant-loop-piece l = l.all.items ≡ map (in_kind l.kind l.from l.to) (take l.piece-index l.pieces)
