use Rattle.std.proofs.Common.{◌≡◌, ◌-◌, ◌+◌, ap, sym, ◌∙◌, length, arith}
use Rattle.crease_store.specs.Merged.{last_piece}
use Rattle.crease_store.proofs.Steps.{last_on, last_stays}
use Rattle.crease_store.proofs.merging.last_piece.Goals as goal

pub loop-init : goal.loop-init
loop-init c = let all : length c.args.pieces.now - 0 ≡ length c.args.pieces.now = omega arith in ap (λ n. last_piece n c.args.pieces.now c.args.piece.now) all

pub returns-in-None : goal.returns-in-None
returns-in-None c = sym (last_stays (length c.args.pieces.now - c.loop.counter) c.args.pieces.now c.loop.last (sym c.in-None.ensures)) ∙ c.loop.invariant

pub loop-preserved : goal.loop-preserved
loop-preserved c =
    sym (last_on (length c.args.pieces.now - c.loop.counter) (length c.args.pieces.now - (c.loop.counter + 1)) c.args.pieces.now c.loop.last c.in-Some.next (omega arith) (sym c.in-Some.ensures)) ∙ c.loop.invariant

pub returns : goal.returns
returns c = let none : length c.args.pieces.now - c.loop.counter ≡ 0 = omega arith in sym (ap (λ n. last_piece n c.args.pieces.now c.loop.last) none) ∙ c.loop.invariant
