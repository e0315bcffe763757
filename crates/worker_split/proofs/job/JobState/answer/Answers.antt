use Rattle.std.proofs.Common.{◌≡◌, ◌∙◌, ◌+◌, ◌<◌, ℕ, Option, Some, None, length, slice_get, slice_set, refl, sym, ap, arith}
use Rattle.std.proofs.lemmas.Option.{slice_get_read}
use Rattle.worker_split.specs.declared.piece.Piece.{Piece}
use Rattle.worker_split.specs.Job.{JobView, done_before, piece_answer, reopened_end}
use Rattle.worker_split.proofs.Jobs.{closed-none, after_is}
use Rattle.worker_split.proofs.job.JobState.answer.Goals as goal

pub returns-in_default : goal.returns-in_default
returns-in_default c =
    let j = c.args.self.now in
    let n = c.done_before-first.result in
    let p = c.index_mut-piece.result.now in
    let here : n ≡ done_before j.pieces =
    c.done_before-first.ensures ∙ ap done_before c.deref.ensures.value ∙ ap (λ (v : JobView). done_before v.pieces) c.self.view_is in
    let below : n < length c.self.inside.pieces.items = omega (arith, c.self.inside.pieces.ok.0) in
    let found : slice_get j.pieces n ≡ Some p =
    ap (λ (v : JobView). slice_get v.pieces n) (sym c.self.view_is)
    ∙ slice_get_read c.self.inside.pieces.items (length c.self.inside.pieces.items) n p refl below c.index_mut-piece.ensures.value in
    let with : JobView → Piece → Option ℕ → JobView = λ v q ask. record v { pieces = slice_set v.pieces n q; ask = ask } in
    record {
      answer =
          c.answer.ensures.answer
          ∙ ap (piece_answer (n + 1)) (sym found)
          ∙ ap (λ k. piece_answer (k + 1) (slice_get j.pieces k)) here;
      state =
          ap (λ v. with v c.answer.new.self None) c.self.view_is
          ∙ ap (λ q. with j q None) c.answer.ensures.state
          ∙ ap (with j (record p { end = reopened_end p.end })) (sym (closed-none c.answer.result j.ask c.in_default.not-NotReady))
          ∙ after_is j p n c.answer.result here found c.answer.ensures.answer;
    }
