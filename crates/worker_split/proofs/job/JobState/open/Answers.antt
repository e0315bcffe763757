use Rattle.std.proofs.Common.{◌∙◌, None, List, map, sym, ap, subst}
use Rattle.std.specs.Arc.{arc_value}
use Rattle.sign_rules.specs.Signs.{bare_order}
use Rattle.worker_split.specs.declared.piece.Piece.{Piece}
use Rattle.worker_split.specs.Pieces.{pieces_of}
use Rattle.worker_split.specs.Job.{JobView, new_piece}
use Rattle.worker_split.specs.Invariant.{IsJob}
use Rattle.worker_split.proofs.Jobs.{made_pieces, IsJob-opened}
use Rattle.worker_split.proofs.job.JobState.open.Goals as goal

pub invariant_of-result : goal.invariant_of-result
invariant_of-result c =
    let r = arc_value c.args.rules in
    let prefixes = c.deref-prefix-items.ensures.value ∙ c.in_ok-prefixes.ensures ∙ ap (λ q. map bare_order (pieces_of q c.args.most)) c.deref.ensures in
    let all = made_pieces c.loop-prefix.pieces.items c.deref-prefix-items.result.now c.loop-prefix.prefix-index (pieces_of r c.args.most)
    c.loop-prefix.invariant c.loop-prefix-test.false prefixes in
    subst (λ ps. IsJob r ps None) (sym all)
    (subst (λ most. IsJob r (map new_piece (pieces_of r most)) None) (sym c.requires) (IsJob-opened r))

pub returns : goal.returns
returns c =
    let r = arc_value c.args.rules in
    let prefixes = c.deref-prefix-items.ensures.value ∙ c.in_ok-prefixes.ensures ∙ ap (λ q. map bare_order (pieces_of q c.args.most)) c.deref.ensures in
    let all = made_pieces c.loop-prefix.pieces.items c.deref-prefix-items.result.now c.loop-prefix.prefix-index (pieces_of r c.args.most)
    c.loop-prefix.invariant c.loop-prefix-test.false prefixes in
    let with : List Piece → JobView = λ ps. record { job = c.args.job; version = c.args.version; rules = r; pieces = ps; ask = None } in
    ap with all
