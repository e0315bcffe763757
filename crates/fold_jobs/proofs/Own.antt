-- The events of one job in a legal record of all jobs are a legal record of it, and its orders are numbered.
use Rattle.std.proofs.Common.{◌≡◌, ℕ, zero, suc, ◌+◌, ◌<◌, ◌≤◌, Bool, true, false, cond, eqb, List, [], ◌∷◌, ◌++◌, length, map, take, Option, Some, None, is_some, slice_get, refl, sym, ◌∙◌, ap, subst, arith, inl, inr, length-append}
use Rattle.std.specs.declared.result.Result.TheVariants.{Ok, Err}
use Rattle.std.proofs.lemmas.Bool.{cases_Bool, eqb-true}
use Rattle.std.proofs.lemmas.List.{append_assoc}
use Rattle.std.proofs.lemmas.Option.{same_Some}
use Rattle.std.proofs.lemmas.List.Concat.{flat_map-cons}
use Rattle.sign_rules.specs.declared.sign.Sign.{Sign}
use Rattle.sign_rules.specs.Rules.{RulesView}
use Rattle.order_search.specs.Lists.{orders}
use Rattle.worker_split.specs.declared.piece.Piece.{Piece}
use Rattle.worker_split.specs.declared.answers.JobAnswer.TheVariants as job_answer
use Rattle.worker_split.specs.Job.{JobView, opened_job, asked, posted, asked_piece, piece_at, posted_to}
use Rattle.job_enumeration.specs.Record.{JobEvent, Ask as OwnAsk, Post as OwnPost, Answer as OwnAnswer, after_event as own_after, job_after, IsJobRecordFrom, IsJobRecord}
use Rattle.job_enumeration.specs.Closings.{closings_from, closings, shown_orders}
use Rattle.job_enumeration.specs.Enumeration.{IsEnumeration, order_at}
use Rattle.fold_jobs.specs.declared.folding_job.FoldingJob.{FoldingJob}
use Rattle.fold_jobs.specs.declared.folding_job.FoldAnswer.{FoldAnswer}
use Rattle.fold_jobs.specs.declared.folding_job.FoldAnswer.TheVariants.{Shown, NoMore, Paused, NotReady}
use Rattle.fold_jobs.specs.Machine.{JobsView, no_jobs, job_at, live_from, new_job, changed, opened_in, ask_from, ask_answer, answer_from, answer_to, answer_of, answered, MatchesJob}
use Rattle.fold_jobs.specs.Record.{JobsEvent, Open, TooMany, Ask, SetBudget, Answer, Cancel, Post, after_event, IsLegalEvent, IsRecordFrom, IsJobsRecord}
use Rattle.fold_jobs.specs.OwnEvents.{budget_after, own_event, own_events_from, own_events, ShownOrder, shown_by_event, shown_by}
use Rattle.fold_jobs.specs.Laws.{ShowsOrders}
use Rattle.fold_jobs.proofs.Events.{opened-new, not_there, length-changed, budget-changed, most-changed, event_shows, orders_in, numbered, step}

-- ---- joining

record-append : (j : JobView) (xs ys : List JobEvent) → IsJobRecordFrom j xs
    → IsJobRecordFrom (job_after j xs) ys → IsJobRecordFrom j (xs ++ ys)
record-append j [] ys front back = back
record-append j (x ∷ xs) ys front back = (front.0, record-append (own_after j x) xs ys front.1 back)

orders_in-append : (xs ys : List JobEvent) → orders_in (xs ++ ys) ≡ orders_in xs ++ orders_in ys
orders_in-append [] ys = refl
orders_in-append (x ∷ xs) ys =
    ap (λ l. event_shows x ++ l) (orders_in-append xs ys)
    ∙ sym (append_assoc (event_shows x) (orders_in xs) (orders_in ys))

numbered-append : (count version : ℕ) (xs ys : List (List Sign))
    → numbered count version (xs ++ ys) ≡ numbered count version xs ++ numbered (count + length xs) version ys
numbered-append count version [] ys =
    let same : count ≡ count + 0 = omega arith in ap (λ c. numbered c version ys) same
numbered-append count version (x ∷ xs) ys =
    let same : count + 1 + length xs ≡ count + length (x ∷ xs) = omega arith in
    let with : List ShownOrder → List ShownOrder = λ l.
    record { number = count + 1; version = version; order = x } ∷ l in
    ap with (numbered-append (count + 1) version xs ys
    ∙ ap (λ c. numbered (count + 1) version xs ++ numbered c version ys) same)

-- ---- what stays

version-after : (j : JobView) (e : JobEvent) → (own_after j e).version ≡ j.version
version-after j (OwnAsk budget) = by_test (is_some j.ask)
  where
    by_test : (b : Bool)
        → (cond b j (record j { pieces = map (asked_piece budget) j.pieces; ask = Some budget })).version
        ≡ j.version
    by_test true = refl
    by_test false = refl
version-after j (OwnPost x true) = by_piece (piece_at j x.piece)
  where
    by_piece : (o : Option Piece) → (posted_to j x o).version ≡ j.version
    by_piece None = refl
    by_piece (Some p) = refl
version-after j (OwnPost x false) = refl
version-after j (OwnAnswer (job_answer.Shown order)) = refl
version-after j (OwnAnswer job_answer.NoMore) = refl
version-after j (OwnAnswer job_answer.Paused) = refl
version-after j (OwnAnswer (job_answer.NotReady piece)) = refl

versions-after : (j : JobView) (es : List JobEvent) → (job_after j es).version ≡ j.version
versions-after j [] = refl
versions-after j (e ∷ es) = versions-after (own_after j e) es ∙ version-after j e

-- what no event changes, and what only a new budget does
pub record IsKept (s : JobsView) (e : JobsEvent) : Type 0 where
  pub budget : budget_after s.budget e ≡ (after_event s e).budget
  pub most : (after_event s e).most ≡ s.most
  pub length : length s.jobs ≤ length (after_event s e).jobs

kept-changed : (s : JobsView) (m : ℕ) (change : FoldingJob → FoldingJob)
    → (s.budget ≡ (changed s m change).budget) × ((changed s m change).most ≡ s.most)
    × (length s.jobs ≤ length (changed s m change).jobs)
kept-changed s m change =
    let size = length-changed s m change in
    (sym (budget-changed s m change), most-changed s m change, omega (arith, size))

kept : (s : JobsView) (e : JobsEvent) → IsKept s e
kept s (Open number version r) =
    let new = new_job (length s.jobs + 1) version r s.most in
    let size = length-append s.jobs (new ∷ []) in
    record { budget = refl; most = refl; length = omega (arith, size) }
kept s TooMany = record { budget = refl; most = refl; length = omega arith }
kept s (Ask m (Ok u)) =
    let k = kept-changed s m
    (λ (j : FoldingJob). record j { state = asked j.state s.budget }) in
    record { budget = k.0; most = k.1; length = k.2 }
kept s (Ask m (Err refusal)) = record { budget = refl; most = refl; length = omega arith }
kept s (SetBudget budget) = record { budget = refl; most = refl; length = omega arith }
kept s (Answer m (Ok (Shown v k order))) =
    let k = kept-changed s m (answered (Shown v k order)) in
    record { budget = k.0; most = k.1; length = k.2 }
kept s (Answer m (Ok (NoMore v))) =
    let k = kept-changed s m (answered (NoMore v)) in record { budget = k.0; most = k.1; length = k.2 }
kept s (Answer m (Ok (Paused v))) =
    let k = kept-changed s m (answered (Paused v)) in record { budget = k.0; most = k.1; length = k.2 }
kept s (Answer m (Ok (NotReady v piece))) = record { budget = refl; most = refl; length = omega arith }
kept s (Answer m (Err refusal)) = record { budget = refl; most = refl; length = omega arith }
kept s (Cancel m (Ok u)) =
    let k = kept-changed s m (λ (j : FoldingJob). record j { cancelled = true }) in
    record { budget = k.0; most = k.1; length = k.2 }
kept s (Cancel m (Err refusal)) = record { budget = refl; most = refl; length = omega arith }
kept s (Post x true) =
    let k = kept-changed s x.job
    (λ (j : FoldingJob). record j { state = posted j.state x }) in
    record { budget = k.0; most = k.1; length = k.2 }
kept s (Post x false) = record { budget = refl; most = refl; length = omega arith }

some_budget : (s : JobsView) (e : JobsEvent) → 1 ≤ s.budget → IsLegalEvent s e → 1 ≤ (after_event s e).budget
some_budget s e some legal = subst (λ b. 1 ≤ b) (kept s e).budget (by_event e legal)
  where
    by_event : (e : JobsEvent) → IsLegalEvent s e → 1 ≤ budget_after s.budget e
    by_event (SetBudget budget) legal = legal.0
    by_event (Open number version r) legal = some
    by_event TooMany legal = some
    by_event (Ask m answer) legal = some
    by_event (Answer m answer) legal = some
    by_event (Cancel m answer) legal = some
    by_event (Post x accepted) legal = some

-- ---- the events of a job that is there

pub record IsOwn (n count : ℕ) (j : JobView) (budget : ℕ) (es : List JobsEvent) : Type 0 where
  pub legal : IsJobRecordFrom j (own_events_from n budget es)
  pub shown : shown_by n es ≡ numbered count j.version (orders_in (own_events_from n budget es))

pub own : (n : ℕ) (s : JobsView) (j : FoldingJob) (es : List JobsEvent) → job_at s n ≡ Some j → 1 ≤ s.budget
    → IsRecordFrom s es → IsOwn n j.shown j.state s.budget es
own n s j [] found some legal = record { legal = tt; shown = refl }
own n s j (e ∷ es) found some legal =
    let st = step n s e j found some legal.0 in
    let rest = own n (after_event s e) st.next es st.at (some_budget s e some legal.0) legal.1 in
    let front = own_event n s.budget e in
    let back = own_events_from n (budget_after s.budget e) es in
    let budget = sym (kept s e).budget in
    let later = subst (λ b. IsOwn n st.next.shown st.next.state b es) budget rest in
    let version : st.next.state.version ≡ j.state.version =
    ap (λ (v : JobView). v.version) st.state ∙ versions-after j.state front in
    record {
      legal = record-append j.state front back st.legal
          (subst (λ v. IsJobRecordFrom v back) st.state later.legal);
      shown = flat_map-cons (shown_by_event n) e es
          ∙ ap (λ l. l ++ shown_by n es) st.shown
          ∙ ap (λ l. numbered j.shown j.state.version (orders_in front) ++ l) (later.shown
          ∙ ap (λ v. numbered st.next.shown v (orders_in back)) version
          ∙ ap (λ c. numbered c j.state.version (orders_in back)) st.count)
          ∙ sym (numbered-append j.shown j.state.version (orders_in front) (orders_in back))
          ∙ ap (numbered j.shown j.state.version) (sym (orders_in-append front back));
    }

-- ---- before a job is opened

not_yet : (n version : ℕ) (r : RulesView) (before after : List JobsEvent) (s : JobsView)
    → IsRecordFrom s (before ++ Open n version r ∷ after) → length s.jobs < n
not_yet n version r [] after s legal = let number = legal.0.0 in omega (arith, number)
not_yet n version r (e ∷ before) after s legal =
    let rest = not_yet n version r before after (after_event s e) legal.1 in
    omega (arith, rest, (kept s e).length)

none_before : (n : ℕ) (s : JobsView) (e : JobsEvent) → job_at s n ≡ None → IsLegalEvent s e
    → (own_event n s.budget e ≡ []) × (shown_by_event n e ≡ [])
none_before n s (Open number version r) none legal = (refl, refl)
none_before n s TooMany none legal = (refl, refl)
none_before n s (Ask m (Ok u)) none legal = elim (cases_Bool (eqb m n)) [
  | inl same ↦
      let here : Ok u ≡ ask_from s (live_from None) =
      legal ∙ ap (ask_answer s) (eqb-true m n same) ∙ ap (λ o. ask_from s (live_from o)) none in
      absurd (cc)
  | inr other ↦ (ap (λ b. cond b (OwnAsk s.budget ∷ []) []) other, refl)
]
none_before n s (Ask m (Err refusal)) none legal = (refl, refl)
none_before n s (SetBudget budget) none legal = (refl, refl)
none_before n s (Answer m (Ok a)) none legal = elim (cases_Bool (eqb m n)) [
  | inl same ↦
      let here : Ok a ≡ answer_from (live_from None) =
      legal ∙ ap (answer_to s) (eqb-true m n same) ∙ ap (λ o. answer_from (live_from o)) none in
      absurd (cc)
  | inr other ↦ (ap (λ b. cond b (OwnAnswer (answer_of a) ∷ []) []) other, by_answer a other)
]
  where
    by_answer : (a : FoldAnswer) → eqb m n ≡ false → shown_by_event n (Answer m (Ok a)) ≡ []
    by_answer (Shown v k order) other =
        let shown : ShownOrder = record { number = k; version = v; order = order.list } in
        ap (λ b. cond b (shown ∷ []) []) other
    by_answer (NoMore v) other = refl
    by_answer (Paused v) other = refl
    by_answer (NotReady v piece) other = refl
none_before n s (Answer m (Err refusal)) none legal = (refl, refl)
none_before n s (Cancel m answer) none legal = (refl, refl)
none_before n s (Post x true) none legal = elim (cases_Bool (eqb x.job n)) [
  | inl same ↦ absurd
      (subst (λ o. MatchesJob o x) (ap (job_at s) (eqb-true x.job n same) ∙ none) legal.0)
  | inr other ↦ (ap (λ b. cond b (OwnPost x true ∷ []) []) other, refl)
]
none_before n s (Post x false) none legal = (refl, refl)

pub opened-own : (n version : ℕ) (r : RulesView) (before after : List JobsEvent) (s : JobsView) → 1 ≤ s.budget
    → IsRecordFrom s (before ++ Open n version r ∷ after)
    → IsOwn n 0 (opened_job n version r s.most) s.budget (before ++ Open n version r ∷ after)
opened-own n version r [] after s some legal =
    let number = legal.0.0 in
    let new = opened-new s version r in
    let found : job_at (opened_in s version r) n ≡ Some (new_job n version r s.most) =
    subst (λ k. job_at (opened_in s version r) k ≡ Some (new_job k version r s.most)) (sym number) new in
    let rest = own n (opened_in s version r) (new_job n version r s.most) after found some legal.1 in
    record {
      legal = rest.legal;
      shown = flat_map-cons (shown_by_event n) (Open n version r) after ∙ rest.shown;
    }
opened-own n version r (e ∷ before) after s some legal =
    let es = before ++ Open n version r ∷ after in
    let rest = opened-own n version r before after (after_event s e) (some_budget s e some legal.0) legal.1 in
    let there = not_there s n (not_yet n version r (e ∷ before) after s legal) in
    let none = none_before n s e there legal.0 in
    let later = subst (λ b. IsOwn n 0 (opened_job n version r s.most) b es) (sym (kept s e).budget)
    (subst (λ most. IsOwn n 0 (opened_job n version r most) (after_event s e).budget es) (kept s e).most rest) in
    let all : own_events_from n (budget_after s.budget e) es ≡ own_events_from n s.budget (e ∷ es) =
    ap (λ l. l ++ own_events_from n (budget_after s.budget e) es) (sym none.0) in
    record {
      legal = subst (IsJobRecordFrom (opened_job n version r s.most)) all later.legal;
      shown = flat_map-cons (shown_by_event n) e es
          ∙ ap (λ l. l ++ shown_by n es) none.1
          ∙ later.shown
          ∙ ap (λ l. numbered 0 version (orders_in l)) all;
    }

-- ---- the numbers

shown-step : (budget : ℕ) (es : List JobEvent) → shown_orders (closings_from budget es) ≡ orders_in es
shown-step budget [] = refl
shown-step budget (OwnAsk next ∷ es) = shown-step next es
shown-step budget (OwnPost x accepted ∷ es) = shown-step budget es
shown-step budget (OwnAnswer (job_answer.Shown order) ∷ es) =
    ap (λ l. order.list ∷ l) (shown-step budget es)
shown-step budget (OwnAnswer job_answer.NoMore ∷ es) = shown-step budget es
shown-step budget (OwnAnswer job_answer.Paused ∷ es) = shown-step budget es
shown-step budget (OwnAnswer (job_answer.NotReady piece) ∷ es) = shown-step budget es

numbered-at : (count version : ℕ) (os : List (List Sign)) (k : ℕ) (o : ShownOrder)
    → slice_get (numbered count version os) k ≡ Some o
    → (o.number ≡ count + k + 1) × (o.version ≡ version) × (slice_get os k ≡ Some o.order)
numbered-at count version [] k o e = absurd (cc)
numbered-at count version (x ∷ os) zero o e =
    let same : record { number = count + 1; version = version; order = x } ≡ o =
    same_Some _ o e in
    let number = ap (λ (q : ShownOrder). q.number) same in
    let version_is = ap (λ (q : ShownOrder). q.version) same in
    (omega (arith, number), sym version_is, ap (λ (q : ShownOrder). Some q.order) same)
numbered-at count version (x ∷ os) (suc k) o e =
    let rest = numbered-at (count + 1) version os k o e in
    let number = rest.0 in
    (omega (arith, number), rest.1, rest.2)

take-front : (m : ℕ) (xs : List (List Sign)) (k : ℕ) (o : List Sign) → slice_get (take m xs) k ≡ Some o
    → slice_get xs k ≡ Some o
take-front zero xs k o e = absurd (cc)
take-front (suc m) [] k o e = absurd (cc)
take-front (suc m) (x ∷ xs) zero o e = e
take-front (suc m) (x ∷ xs) (suc k) o e = take-front m xs k o e

pub shows_orders : (most n version : ℕ) (r : RulesView) (es before after : List JobsEvent)
    → IsJobsRecord most es → es ≡ before ++ Open n version r ∷ after
    → ((own : List JobEvent) → IsJobRecord n version r most own → IsEnumeration r most (closings own))
    → ShowsOrders most n version r es
shows_orders most n version r es before after legal parts enumerate =
    let all = opened-own n version r before after (no_jobs most) (omega arith)
    (subst (IsJobsRecord most) parts legal) in
    let here = subst (IsOwn n 0 (opened_job n version r most) (no_jobs most).budget) (sym parts) all in
    let enumeration = enumerate (own_events n es) here.legal in
    let shown = orders_in (own_events n es) in
    let first : shown ≡ take (length (shown_orders (closings (own_events n es)))) (orders r) =
    sym (shown-step 0 (own_events n es)) ∙ enumeration.first in
    record {
      legal = here.legal;
      shown = λ k o at.
          let own_at = numbered-at 0 version shown k o (sym (ap (λ l. slice_get l k) here.shown) ∙ at) in
          let number = own_at.0 in
          let place : suc k ≡ k + 1 = omega arith in (
            omega (arith, number),
            own_at.1,
            ap (order_at r) (sym place)
                ∙ take-front (length (shown_orders (closings (own_events n es)))) (orders r) k o.order
                (sym (ap (λ l. slice_get l k) first) ∙ own_at.2),
          );
      enumeration = enumeration;
    }
