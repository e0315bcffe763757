use Rattle.std.proofs.Common.{arith, ◌∙◌, ap, sym, subst, List, []}
use Rattle.crease_model.specs.declared.Piece.{Piece}
use Rattle.crease_store.specs.InOrder.{segment_at, with_all_in_order, HaveOneOnEach}
use Rattle.crease_store.proofs.InOneWalk.{if_ok_then}
use Rattle.crease_store.proofs.MergedOnce.{all_chains, one_on_each_chain, merged_once}
use Rattle.crease_store.proofs.merging.merged_pieces.Goals as goal

pub place_pieces-requires-clause-one : goal.place_pieces-requires-clause-one
place_pieces-requires-clause-one c =
    let pieces = c.args.pieces.now in
    let chains = all_chains pieces c.loop-piece.chains.items c.loop-piece.piece-index (omega (arith, c.loop-piece-test.false)) c.loop-piece.invariant in
    subst (λ (l : List Piece). HaveOneOnEach [] l) (sym chains) (one_on_each_chain pieces c.requires.meetings c.requires.up)

pub returns : goal.returns
returns c =
    let pieces = c.args.pieces.now in
    let chains = all_chains pieces c.loop-piece.chains.items c.loop-piece.piece-index (omega (arith, c.loop-piece-test.false)) c.loop-piece.invariant in
    if_ok_then c.place_pieces.result _ _
    (λ all e. e ∙ ap (λ (l : List Piece). with_all_in_order segment_at [] l) chains ∙ merged_once pieces c.requires.meetings c.requires.up)
    c.place_pieces.ensures
