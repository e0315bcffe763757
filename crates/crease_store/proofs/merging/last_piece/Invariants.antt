use Rattle.std.proofs.Common.{◌≡◌, ◌-◌, length}
use Rattle.crease_store.specs.Merged.{last_piece}
use Rattle.crease_store.proofs.merging.last_piece.Given as goal

abbrev pub invariant-loop : goal.invariant-loop
invariant-loop l = last_piece (length l.pieces - l.counter) l.pieces l.last ≡ last_piece (length l.pieces) l.pieces l.piece
