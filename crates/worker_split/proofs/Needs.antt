-- A piece that a job needs has a task, and waits for its outcome no longer than until that is posted.
use Rattle.std.proofs.Common.{◌≡◌, ℕ, ◌+◌, ◌-◌, true, cond, Option, Some, None, is_some, slice_get, slice_index_or, refl, sym, ◌∙◌, ap, subst, arith}
use Rattle.std.specs.Prelude.{IfSome, IsSome}
use Rattle.std.specs.List.{All}
use Rattle.std.proofs.lemmas.Bool.{ne_eqb}
use Rattle.std.proofs.lemmas.List.Sums.{sum_by-set}
use Rattle.worker_split.specs.declared.outcome.Outcome.{Outcome}
use Rattle.worker_split.specs.declared.outcome.End.{End}
use Rattle.worker_split.specs.declared.outcome.End.TheVariants.{Found, Done, Paused}
use Rattle.worker_split.specs.declared.piece.Piece.{Piece}
use Rattle.worker_split.specs.declared.piece.PieceEnd.{PieceEnd}
use Rattle.worker_split.specs.declared.piece.PieceEnd.TheVariants.{Open, Ready, Done as Finished}
use Rattle.worker_split.specs.declared.piece.LastTask.{LastTask}
use Rattle.worker_split.specs.declared.piece.LastTask.TheVariants.{Never, Asked, Answered}
use Rattle.worker_split.specs.Job.{JobView, piece_at, task_by, task_of_piece, task_at, Matches, answered_piece, posted, posted_to, done_before, end_answer, piece_answer, next_answer, waits_for}
use Rattle.worker_split.specs.Invariant.{HasBudget, WasAsked}
use Rattle.worker_split.specs.Waiting.{is_unanswered, waiting}
use Rattle.worker_split.proofs.Jobs.{at_place, match_of, piece_asked}

pub needed_task : (j : JobView) (needed : Option ℕ) → is_some j.ask ≡ true → All (WasAsked j.ask) j.pieces
    → needed ≡ waits_for (next_answer j) → IfSome needed (λ piece. IsSome (task_at j piece))
needed_task j needed some asked is =
    subst (λ o. IfSome o (λ piece. IsSome (task_at j piece))) (sym is) (by_piece (slice_get j.pieces n) refl)
  where
    n : ℕ
    n = done_before j.pieces

    behind : n + 1 - 1 ≡ n
    behind = omega arith

    at : (p : Piece) → slice_get j.pieces n ≡ Some p → piece_at j (n + 1) ≡ Some p
    at p e =
        ap (λ b. cond b None (slice_get j.pieces (n + 1 - 1))) (ne_eqb (n + 1) 0 (λ zero_piece. omega (arith, zero_piece)))
        ∙ ap (slice_get j.pieces) behind ∙ e

    by_ask : (o : Option ℕ) (p : Piece) → j.ask ≡ o → is_some o ≡ true → p.end ≡ Open → p.last ≡ Never → WasAsked j.ask p → ⊥
    by_ask None p e some open_end last was = absurd (cc)
    by_ask (Some budget) p e some open_end last was = subst (HasBudget budget) last (was budget e open_end)

    by_end : (p : Piece) (end : PieceEnd) (last : LastTask) → slice_get j.pieces n ≡ Some p → p.end ≡ end → p.last ≡ last
        → IfSome (waits_for (end_answer (n + 1) end last)) (λ piece. IsSome (task_at j piece))
    by_end p (Ready order) last e f g = tt
    by_end p Finished last e f g = tt
    by_end p Open (Answered budget) e f g = tt
    by_end p Open Never e f g = absurd (by_ask j.ask p refl some f g (piece_asked j (n + 1) p asked (at p e)))
    by_end p Open (Asked budget) e f g =
        let task = ap (λ b. cond b (task_of_piece j (n + 1) (piece_at j (n + 1))) None) some
        ∙ ap (task_of_piece j (n + 1)) (at p e)
        ∙ ap (λ x. task_by j (n + 1) p x p.last) f
        ∙ ap (task_by j (n + 1) p Open) g in
        subst IsSome (sym task) refl

    by_piece : (o : Option Piece) → slice_get j.pieces n ≡ o
        → IfSome (waits_for (piece_answer (n + 1) o)) (λ piece. IsSome (task_at j piece))
    by_piece None e = tt
    by_piece (Some p) e = by_end p p.end p.last e refl refl

-- ---- outcomes that are waited for

abbrev waits : Piece → ℕ
waits p = cond (is_unanswered p.last) 1 0

waits-answered : (p : Piece) (budget : ℕ) (end : End) → waits (answered_piece p budget end) ≡ 0
waits-answered p budget (Found order position) = refl
waits-answered p budget Done = refl
waits-answered p budget (Paused position) = refl

pub posted_waits : (j : JobView) (x : Outcome) → Matches j x → waiting j ≡ waiting (posted j x) + 1
posted_waits j x matches =
    let found = match_of j x matches in
    let p = found.0 in
    let here = at_place j x.piece p found.1 in
    let after = answered_piece p x.budget x.end in
    let before_one : waits (slice_index_or j.pieces (x.piece - 1) p) ≡ 1 =
    ap waits (here.is p) ∙ ap (λ l. cond {A = ℕ} (is_unanswered l) 1 0) found.2.unanswered in
    let after_none = waits-answered p x.budget x.end in
    let sums = sum_by-set waits j.pieces (x.piece - 1) after p here.inside in
    subst (λ o. waiting j ≡ waiting (posted_to j x o) + 1) (sym found.1) (omega (arith, sums, before_one, after_none))
