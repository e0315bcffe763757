use Rattle.std.proofs.Common.{◌≡◌, ◌∙◌, ◌++◌, length, map, Some, take, drop, sym, ap, subst, arith, slice_set}
use Rattle.std.specs.Arc.{arc_value}
use Rattle.std.proofs.lemmas.List.Edits.{map_over_more}
use Rattle.worker_split.specs.Job.{asked_piece}
use Rattle.worker_split.specs.Invariant.{IsJob}
use Rattle.worker_split.proofs.Jobs.{IsJob-asked, whole_list}
use Rattle.worker_split.proofs.job.JobState.ask.Goals as goal

pub loop-piece-preserved : goal.loop-piece-preserved
loop-piece-preserved c =
    let items = c.loop-piece.piece-items in
    ap (slice_set items c.loop-piece.piece-index) (c.ask.ensures ∙ ap (asked_piece c.args.budget) (sym c.piece-item.is))
    ∙ map_over_more (asked_piece c.args.budget) c.deref_mut-piece-items.result.now items c.loop-piece.piece-index c.piece-item.result
    c.loop-piece-test.true c.loop-piece.invariant c.piece-item.is

pub invariant_of-self : goal.invariant_of-self
invariant_of-self c =
    let start = c.self.inside.pieces.items in
    let items = c.loop-piece.piece-items in
    let f = asked_piece c.args.budget in
    let here : c.deref_mut-piece-items.result.now ≡ start = c.deref_mut-piece-items.ensures.value in
    let invariant : items ≡ map f (take c.loop-piece.piece-index start) ++ drop c.loop-piece.piece-index start =
    subst (λ l. items ≡ map f (take c.loop-piece.piece-index l) ++ drop c.loop-piece.piece-index l) here c.loop-piece.invariant in
    let whole = whole_list f start items c.loop-piece.piece-index c.self.inside.pieces.len invariant
    (omega (arith, c.loop-piece-test.false, ap length here)) (omega (arith, c.self.inside.pieces.ok.0)) in
    subst (λ ps. IsJob (arc_value c.self.inside.rules) ps (Some c.args.budget)) (sym whole)
    (IsJob-asked (arc_value c.self.inside.rules) start c.self.inside.ask c.args.budget c.requires c.self.invariant)
