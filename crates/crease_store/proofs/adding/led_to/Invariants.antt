use Rattle.crease_store.specs.Held.{IsLedTo}
use Rattle.crease_store.proofs.adding.led_to.Given as goal

abbrev pub invariant-loop-piece : goal.invariant-loop-piece
invariant-loop-piece l = IsLedTo l.pieces l.kind l.s l.v
