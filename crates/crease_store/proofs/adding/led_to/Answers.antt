use Rattle.std.proofs.Common.{◌∙◌, sym, subst}
use Rattle.crease_store.specs.Held.{IsLedTo}
use Rattle.crease_store.proofs.Held.{led_on}
use Rattle.crease_store.proofs.adding.led_to.Goals as goal
use Rattle.crease_store.proofs.adding.led_to.Goals.{then-goes_on, else-goes_on}

pub loop-piece-preserved : goal.loop-piece-preserved
loop-piece-preserved c =
    let pieces = c.args.pieces.now in
    let kind = c.args.kind in
    let s = c.args.s.now in
    elim c.if-goes_on.branch [
      | then-goes_on w ↦
          subst (IsLedTo pieces kind s) (sym (w.v-is ∙ w.to.ensures))
          (led_on pieces kind s c.loop-piece.v c.piece-item.result (c.loop-piece.piece-index, c.loop-piece-test.true, sym c.piece-item.is) (c.goes_on.ensures w.if-goes_on.true) c.loop-piece.invariant)
      | else-goes_on w ↦ subst (IsLedTo pieces kind s) (sym w.v-is) c.loop-piece.invariant
    ]
