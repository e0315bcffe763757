-- The orders that a legal record shows, and where "no more" stands in it.
use Rattle.std.proofs.Common.{◌≡◌, ℕ, ◌+◌, ◌≤◌, true, false, List, [], ◌∷◌, ◌++◌, length, take, refl, sym, ◌∙◌, ap, subst, arith, length-append}
use Rattle.std.specs.List.{All}
use Rattle.std.proofs.lemmas.List.{append_assoc, take_at}
use Rattle.std.proofs.lemmas.List.Elements.{All-nil, All-cons}
use Rattle.sign_rules.specs.declared.sign.Sign.{Sign}
use Rattle.sign_rules.specs.Signs.{OrderView}
use Rattle.sign_rules.specs.Rules.{RulesView}
use Rattle.order_search.specs.Lists.{orders}
use Rattle.order_search.specs.ListLaws.{Each, each_mapped}
use Rattle.worker_split.specs.declared.piece.Piece.{Piece}
use Rattle.worker_split.specs.declared.piece.PieceEnd.TheVariants.{Done as Finished}
use Rattle.worker_split.specs.declared.answers.JobAnswer.TheVariants.{Shown as Showing, NoMore as Ended, Paused as Waiting, NotReady}
use Rattle.worker_split.specs.Pieces.{pieces_of}
use Rattle.worker_split.specs.Job.{JobView, opened_job, asked_piece, done_before, next_answer}
use Rattle.job_enumeration.specs.Record.{JobEvent, Ask, Post, Answer, after_event, IsLegalEvent, IsJobRecordFrom, IsJobRecord}
use Rattle.job_enumeration.specs.Closings.{Closing, Shown, NoMore, Paused, closings_from, closings, shown_orders}
use Rattle.job_enumeration.proofs.Steps.{pieces_left, finished_left, all_finished, first_piece, waiting_for}
use Rattle.job_enumeration.proofs.Kept.{IsKept, each-at}
use Rattle.job_enumeration.proofs.Events.{IsReached, reached-opened, left-opened, asked-is, posting, showing, reached-after, event_shows, left-after}

-- the budget of the last ask
abbrev pub budget_after : ℕ → JobEvent → ℕ
budget_after budget (Ask next) = next
budget_after budget (Post x accepted) = budget
budget_after budget (Answer answer) = budget

shown-step : (budget : ℕ) (e : JobEvent) (es : List JobEvent)
    → shown_orders (closings_from budget (e ∷ es))
    ≡ event_shows e ++ shown_orders (closings_from (budget_after budget e) es)
shown-step budget (Ask next) es = refl
shown-step budget (Post x accepted) es = refl
shown-step budget (Answer (NotReady piece)) es = refl
shown-step budget (Answer (Showing order)) es = refl
shown-step budget (Answer Ended) es = refl
shown-step budget (Answer Waiting) es = refl

-- what is shown is a front of what was left
shown-front : (r : RulesView) (lists : List (List Sign)) (es : List JobEvent) (j : JobView) (budget : ℕ)
    → IsReached r lists j → IsJobRecordFrom j es
    → (rest : List (List Sign)) × (shown_orders (closings_from budget es) ++ rest ≡ pieces_left r j.pieces)
shown-front r lists [] j budget reached legal = (pieces_left r j.pieces, refl)
shown-front r lists (e ∷ es) j budget reached legal =
    let later = shown-front r lists es (after_event j e) (budget_after budget e)
    (reached-after r lists j e legal.0 reached) legal.1 in (
      later.0,
      ap (λ l. l ++ later.0) (shown-step budget e es)
          ∙ append_assoc (event_shows e) (shown_orders (closings_from (budget_after budget e) es)) later.0
          ∙ ap (λ l. event_shows e ++ l) later.1
          ∙ sym (left-after r lists j e legal.0 reached),
    )

pub shown-first : (job version : ℕ) (r : RulesView) (most : ℕ) (es : List JobEvent)
    → IsJobRecord job version r most es
    → (shown_orders (closings es) ≡ take (length (shown_orders (closings es))) (orders r))
    × (length (shown_orders (closings es)) ≤ length (orders r))
shown-first job version r most es legal =
    let shown = shown_orders (closings es) in
    let front = shown-front r (pieces_of r most) es (opened_job job version r most) 0
    (reached-opened job version r most) legal in
    let whole : shown ++ front.0 ≡ orders r = front.1 ∙ left-opened job version r most in (
      sym (take_at shown front.0 (length shown) refl) ∙ ap (take (length shown)) whole,
      omega (arith, ap length whole, length-append shown front.0),
    )

-- ---- after "no more"

not_showing : (j : JobView) (order : OrderView) → Each (λ p. p.end ≡ Finished) j.pieces
    → Showing order ≡ next_answer j → ⊥
not_showing j order finished e =
    let s = showing j order e in
    let at = s.first.at in
    let own : s.piece.end ≡ Finished = each-at (λ p. p.end ≡ Finished) at.front at.back s.piece
    (subst (Each (λ p. p.end ≡ Finished)) at.parts finished) in
    let ready = s.ready in
    absurd (cc)

not_waiting : (j : JobView) → Each (λ p. p.end ≡ Finished) j.pieces → Waiting ≡ next_answer j → ⊥
not_waiting j finished e =
    let w = waiting_for j.pieces (done_before j.pieces + 1) e in
    let at = (first_piece j.pieces w.0 w.2.found).at in
    let own : w.0.end ≡ Finished = each-at (λ p. p.end ≡ Finished) at.front at.back w.0
    (subst (Each (λ p. p.end ≡ Finished)) at.parts finished) in
    let open_end = w.2.end in
    absurd (cc)

-- pieces that are all done stay so
finished-after : (r : RulesView) (lists : List (List Sign)) (j : JobView) (e : JobEvent) → IsLegalEvent j e
    → IsReached r lists j
    → Each (λ p. p.end ≡ Finished) j.pieces → Each (λ p. p.end ≡ Finished) (after_event j e).pieces
finished-after r lists j (Ask budget) legal reached finished =
    subst (λ (k : JobView). Each (λ p. p.end ≡ Finished) k.pieces) (sym (asked-is j budget legal.0))
    (each_mapped (λ (p : Piece). p.end ≡ Finished) (asked_piece budget) j.pieces finished)
finished-after r lists j (Post x true) legal reached finished =
    let p = posting j x legal.0 legal.1 in
    let own : p.piece.end ≡ Finished = each-at (λ p. p.end ≡ Finished) p.at.front p.at.back p.piece
    (subst (Each (λ p. p.end ≡ Finished)) p.at.parts finished) in
    let kept = each-at (IsKept j.ask) p.at.front p.at.back p.piece (subst (Each
    (IsKept j.ask)) p.at.parts reached.kept) in
    let open_end = kept.is_open x.budget p.task.unanswered in
    absurd (cc)
finished-after r lists j (Post x false) legal reached finished = finished
finished-after r lists j (Answer (NotReady piece)) legal reached finished = finished
finished-after r lists j (Answer (Showing order)) legal reached finished = absurd
    (not_showing j order finished legal.1)
finished-after r lists j (Answer Ended) legal reached finished = finished
finished-after r lists j (Answer Waiting) legal reached finished = finished

all_ended : (r : RulesView) (lists : List (List Sign)) (es : List JobEvent) (j : JobView) (budget : ℕ)
    → IsReached r lists j → IsJobRecordFrom j es → Each (λ p. p.end ≡ Finished) j.pieces
    → All (λ c. c ≡ NoMore) (closings_from budget es)
all_ended r lists [] j budget reached legal finished = All-nil (λ c. c ≡ NoMore)
all_ended r lists (e ∷ es) j budget reached legal finished =
    by_event e legal.0 (all_ended r lists es (after_event j e) (budget_after budget e)
    (reached-after r lists j e legal.0 reached) legal.1 (finished-after r lists j e legal.0 reached finished))
  where
    by_event : (e : JobEvent) → IsLegalEvent j e
        → All (λ c. c ≡ NoMore) (closings_from (budget_after budget e) es)
        → All (λ c. c ≡ NoMore) (closings_from budget (e ∷ es))
    by_event (Ask next) legal later = later
    by_event (Post x accepted) legal later = later
    by_event (Answer (NotReady piece)) legal later = later
    by_event (Answer (Showing order)) legal later = absurd (not_showing j order finished legal.1)
    by_event (Answer Ended) legal later =
        All-cons (λ c. c ≡ NoMore) NoMore (closings_from budget es) refl later
    by_event (Answer Waiting) legal later = absurd (not_waiting j finished legal.1)

-- ---- before "no more"

-- before it all that was left was shown, and nothing else comes after it
abbrev IsLast : RulesView → JobView → List Closing → List Closing → Type 0
IsLast r j before after = (shown_orders before ≡ pieces_left r j.pieces) × All (λ c. c ≡ NoMore) after

last : (r : RulesView) (lists : List (List Sign)) (es : List JobEvent) (j : JobView) (budget : ℕ)
    → IsReached r lists j → IsJobRecordFrom j es → (before after : List Closing)
    → closings_from budget es ≡ before ++ NoMore ∷ after → IsLast r j before after
last r lists [] j budget reached legal [] after e = absurd (cc)
last r lists [] j budget reached legal (c ∷ before) after e = absurd (cc)
last r lists (e ∷ es) j budget reached legal before after parts =
    by_event e legal.0 before parts
    (λ before p. last r lists es (after_event j e) (budget_after budget e)
    (reached-after r lists j e legal.0 reached) legal.1
    before after p)
    (λ finished. all_ended r lists es (after_event j e) (budget_after budget e)
    (reached-after r lists j e legal.0 reached) legal.1 (finished-after r lists j e legal.0 reached finished))
    (left-after r lists j e legal.0 reached)
  where
    by_event : (e : JobEvent) → IsLegalEvent j e → (before : List Closing)
        → closings_from budget (e ∷ es) ≡ before ++ NoMore ∷ after
        → ((before : List Closing) → closings_from (budget_after budget e) es ≡ before ++ NoMore ∷ after
        → IsLast r (after_event j e) before after)
        → (Each (λ p. p.end ≡ Finished) j.pieces
        → All (λ c. c ≡ NoMore) (closings_from (budget_after budget e) es))
        → pieces_left r j.pieces ≡ event_shows e ++ pieces_left r (after_event j e).pieces
        → IsLast r j before after
    by_event (Ask next) legal before parts later end left =
        let l = later before parts in (l.0 ∙ sym left, l.1)
    by_event (Post x accepted) legal before parts later end left =
        let l = later before parts in (l.0 ∙ sym left, l.1)
    by_event (Answer (NotReady piece)) legal before parts later end left =
        let l = later before parts in (l.0 ∙ sym left, l.1)
    by_event (Answer (Showing order)) legal [] parts later end left = absurd (cc)
    by_event (Answer (Showing order)) legal (c ∷ before) parts later end left =
        let own : Shown order.list ≡ c = (cc) in
        let l = later before (cc) in
        (ap (λ c. shown_orders (c ∷ before)) (sym own) ∙ ap (λ l. order.list ∷ l) l.0 ∙ sym left, l.1)
    by_event (Answer Ended) legal [] parts later end left =
        let finished = all_finished j.pieces (done_before j.pieces + 1) legal.1 in
        let rest : closings_from budget es ≡ after = (cc) in
        (sym (finished_left r j.pieces finished), subst (All (λ c. c ≡ NoMore)) rest (end finished))
    by_event (Answer Ended) legal (c ∷ before) parts later end left =
        let own : NoMore ≡ c = (cc) in
        let l = later before (cc) in
        (ap (λ c. shown_orders (c ∷ before)) (sym own) ∙ l.0 ∙ sym left, l.1)
    by_event (Answer Waiting) legal [] parts later end left = absurd (cc)
    by_event (Answer Waiting) legal (c ∷ before) parts later end left =
        let own : Paused budget ≡ c = (cc) in
        let l = later before (cc) in
        (ap (λ c. shown_orders (c ∷ before)) (sym own) ∙ l.0 ∙ sym left, l.1)

pub no_more-last : (job version : ℕ) (r : RulesView) (most : ℕ) (es : List JobEvent)
    → IsJobRecord job version r most es
    → (before after : List Closing) → closings es ≡ before ++ NoMore ∷ after
    → (shown_orders before ≡ orders r) × All (λ c. c ≡ NoMore) after
no_more-last job version r most es legal before after parts =
    let own = last r (pieces_of r most) es (opened_job job version r most) 0
    (reached-opened job version r most) legal
    before after parts in
    (own.0 ∙ left-opened job version r most, own.1)
