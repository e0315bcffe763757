use Rattle.std.specs.Prelude.{◌≡◌, ◌++◌, drop}
use Rattle.layer_rules.specs.Layering.{kinds_of}
use Rattle.layer_rules.proofs.layering.kinds_of.Given as goal

abbrev pub invariant-loop-piece : goal.invariant-loop-piece
invariant-loop-piece l = l.kinds.items ++ kinds_of (drop l.piece-index l.pieces) ≡ kinds_of l.pieces
