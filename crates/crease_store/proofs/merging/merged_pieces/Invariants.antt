use Rattle.std.proofs.Common.{◌≡◌, ◌++◌, drop}
use Rattle.crease_store.proofs.MergedOnce.{chains_among}
use Rattle.crease_store.proofs.merging.merged_pieces.Given as goal

abbrev pub invariant-loop-piece : goal.invariant-loop-piece
invariant-loop-piece l = l.chains.items ++ chains_among l.pieces (drop l.piece-index l.pieces) ≡ chains_among l.pieces l.pieces
