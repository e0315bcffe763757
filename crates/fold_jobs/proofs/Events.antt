-- What each legal event leaves of the job of a number, and what it shows of it.
use Rattle.std.proofs.Common.{◌≡◌, ℕ, ◌+◌, ◌-◌, ◌<◌, ◌≤◌, Bool, true, false, cond, eqb, List, [], ◌∷◌, ◌++◌, length, Option, Some, None, is_some, slice_get, slice_set, refl, sym, ◌∙◌, ap, subst, arith, inl, inr, length-append}
use Rattle.std.specs.Prelude.{nat_le, IsNone, IsSome, ⊤}
use Rattle.std.specs.declared.result.Result.TheVariants.{Ok, Err}
use Rattle.std.proofs.lemmas.Bool.{cases_Bool, eqb-true, eqb-false, ne_eqb}
use Rattle.std.proofs.lemmas.List.{append-nil, length-set, get_or-set_same, get_or-set_other, get_or_append_left, get_or_push}
use Rattle.std.proofs.lemmas.Option.{slice_get-get_or, slice_get_past}
use Rattle.sign_rules.specs.declared.sign.Sign.{Sign}
use Rattle.sign_rules.specs.Signs.{OrderView}
use Rattle.sign_rules.specs.Rules.{RulesView}
use Rattle.worker_split.specs.declared.outcome.Outcome.{Outcome}
use Rattle.worker_split.specs.declared.answers.JobAnswer.{JobAnswer}
use Rattle.worker_split.specs.declared.answers.JobAnswer.TheVariants as job_answer
use Rattle.worker_split.specs.Job.{asked, posted, next_answer}
use Rattle.job_enumeration.specs.Record.{JobEvent, Ask as OwnAsk, Post as OwnPost, Answer as OwnAnswer, after_event as own_after, job_after, IsLegalEvent as IsOwnLegal, IsJobRecordFrom}
use Rattle.fold_jobs.specs.declared.folding_job.FoldingJob.{FoldingJob}
use Rattle.fold_jobs.specs.declared.folding_job.FoldAnswer.{FoldAnswer}
use Rattle.fold_jobs.specs.declared.folding_job.FoldAnswer.TheVariants.{Shown, NoMore, Paused, NotReady}
use Rattle.fold_jobs.specs.declared.refusal.JobRefusal.{JobRefusal}
use Rattle.fold_jobs.specs.Limits.{most_asks}
use Rattle.fold_jobs.specs.Machine.{JobsView, job_at, live_from, new_job, changed_from, changed, opened_in, ask_from, ask_answer, answer_told, answer_from, answer_to, answer_of, shown_after, answered, after_answer_to, MatchesJob}
use Rattle.fold_jobs.specs.Record.{JobsEvent, Open, TooMany, Ask, SetBudget, Answer, Cancel, Post, after_event, IsLegalEvent, IsRightPostIn}
use Rattle.fold_jobs.specs.OwnEvents.{own_event, ShownOrder, shown_by_event}
use Rattle.fold_jobs.proofs.Places.{at_place}

-- ---- which jobs stand where after a change

at_number : (s : JobsView) (n : ℕ) (j : FoldingJob) → 0 < n → slice_get s.jobs (n - 1) ≡ Some j
    → job_at s n ≡ Some j
at_number s n j some found =
    let apart : eqb n 0 ≡ false = ne_eqb n 0 (λ e. omega (arith, some, e)) in
    ap (λ b. cond b None (slice_get s.jobs (n - 1))) apart ∙ found

pub changed-own : (s : JobsView) (n : ℕ) (change : FoldingJob → FoldingJob) (j : FoldingJob)
    → job_at s n ≡ Some j → job_at (changed s n change) n ≡ Some (change j)
changed-own s n change j found =
    let here = at_place s n j found in
    let list = slice_set s.jobs (n - 1) (change j) in
    let below : n - 1 < length list = omega (arith, here.inside, length-set s.jobs (n - 1) (change j)) in
    ap (λ (v : JobsView). job_at v n) (ap (changed_from s n change) found)
    ∙ at_number (record s { jobs = list }) n (change j) here.some
    (slice_get-get_or list (n - 1) (change j) below
    ∙ ap Some (get_or-set_same s.jobs (n - 1) (change j) (change j) here.inside))

pub changed-other : (s : JobsView) (m n : ℕ) (change : FoldingJob → FoldingJob) (j : FoldingJob)
    → eqb m n ≡ false → job_at s n ≡ Some j → job_at (changed s m change) n ≡ Some j
changed-other s m n change j apart found = by_job (job_at s m) refl
  where
    by_job : (o : Option FoldingJob) → job_at s m ≡ o → job_at (changed_from s m change o) n ≡ Some j
    by_job None other = found
    by_job (Some k) other =
        let here = at_place s n j found in
        let there = at_place s m k other in
        let list = slice_set s.jobs (m - 1) (change k) in
        let below : n - 1 < length list = omega (arith, here.inside, length-set s.jobs (m - 1) (change k)) in
        let differ = eqb-false m n apart in
        at_number (record s { jobs = list }) n j here.some
        (slice_get-get_or list (n - 1) j below
        ∙ ap Some (get_or-set_other s.jobs (m - 1) (n - 1) (change k) j
        (λ e. differ (omega (arith, e, here.some, there.some)))
        ∙ here.is j))

pub opened-old : (s : JobsView) (version : ℕ) (r : RulesView) (n : ℕ) (j : FoldingJob) → job_at s n ≡ Some j
    → job_at (opened_in s version r) n ≡ Some j
opened-old s version r n j found =
    let here = at_place s n j found in
    let new = new_job (length s.jobs + 1) version r s.most in
    let list = s.jobs ++ new ∷ [] in
    let below : n - 1 < length list = omega (arith, here.inside, length-append s.jobs (new ∷ [])) in
    at_number (opened_in s version r) n j here.some
    (slice_get-get_or list (n - 1) j below
    ∙ ap Some (get_or_append_left s.jobs (new ∷ []) j (n - 1) here.inside ∙ here.is j))

pub opened-new : (s : JobsView) (version : ℕ) (r : RulesView)
    → job_at (opened_in s version r) (length s.jobs + 1)
    ≡ Some (new_job (length s.jobs + 1) version r s.most)
opened-new s version r =
    let n = length s.jobs + 1 in
    let new = new_job n version r s.most in
    let list = s.jobs ++ new ∷ [] in
    let below : n - 1 < length list = omega (arith, length-append s.jobs (new ∷ [])) in
    at_number (opened_in s version r) n new (omega arith)
    (slice_get-get_or list (n - 1) new below
    ∙ ap Some (get_or_push s.jobs new new (n - 1) (omega arith)))

-- a number that no job has yet
pub not_there : (s : JobsView) (n : ℕ) → length s.jobs < n → job_at s n ≡ None
not_there s n below =
    let apart : eqb n 0 ≡ false = ne_eqb n 0 (λ e. omega (arith, below, e)) in
    ap (λ b. cond b None (slice_get s.jobs (n - 1))) apart
    ∙ slice_get_past s.jobs (n - 1) (omega (arith, below))

-- ---- what a change leaves

pub length-changed : (s : JobsView) (m : ℕ) (change : FoldingJob → FoldingJob)
    → length (changed s m change).jobs ≡ length s.jobs
length-changed s m change = by_job (job_at s m)
  where
    by_job : (o : Option FoldingJob) → length (changed_from s m change o).jobs ≡ length s.jobs
    by_job None = refl
    by_job (Some k) = length-set s.jobs (m - 1) (change k)

pub budget-changed : (s : JobsView) (m : ℕ) (change : FoldingJob → FoldingJob)
    → (changed s m change).budget ≡ s.budget
budget-changed s m change = by_job (job_at s m)
  where
    by_job : (o : Option FoldingJob) → (changed_from s m change o).budget ≡ s.budget
    by_job None = refl
    by_job (Some k) = refl

pub most-changed : (s : JobsView) (m : ℕ) (change : FoldingJob → FoldingJob)
    → (changed s m change).most ≡ s.most
most-changed s m change = by_job (job_at s m)
  where
    by_job : (o : Option FoldingJob) → (changed_from s m change o).most ≡ s.most
    by_job None = refl
    by_job (Some k) = refl

-- ---- what an event shows of a job

abbrev pub event_shows : JobEvent → List (List Sign)
event_shows (OwnAsk budget) = []
event_shows (OwnPost x accepted) = []
event_shows (OwnAnswer (job_answer.Shown order)) = order.list ∷ []
event_shows (OwnAnswer job_answer.NoMore) = []
event_shows (OwnAnswer job_answer.Paused) = []
event_shows (OwnAnswer (job_answer.NotReady piece)) = []

abbrev pub orders_in : List JobEvent → List (List Sign)
orders_in [] = []
orders_in (e ∷ es) = event_shows e ++ orders_in es

-- orders of a version with their numbers, behind so many others
abbrev pub numbered : ℕ → ℕ → List (List Sign) → List ShownOrder
numbered count version [] = []
numbered count version (o ∷ os) =
    record { number = count + 1; version = version; order = o } ∷ numbered (count + 1) version os

pub record IsStep (n : ℕ) (s : JobsView) (e : JobsEvent) (j : FoldingJob) : Type 0 where
  pub next : FoldingJob
  pub at : job_at (after_event s e) n ≡ Some next
  pub legal : IsJobRecordFrom j.state (own_event n s.budget e)
  pub state : next.state ≡ job_after j.state (own_event n s.budget e)
  pub shown : shown_by_event n e ≡ numbered j.shown j.state.version (orders_in (own_event n s.budget e))
  pub count : next.shown ≡ j.shown + length (orders_in (own_event n s.budget e))

-- an event that is none of the job's
quiet : (n : ℕ) (s : JobsView) (e : JobsEvent) (j next : FoldingJob) → own_event n s.budget e ≡ []
    → shown_by_event n e ≡ [] → job_at (after_event s e) n ≡ Some next → next.state ≡ j.state
    → next.shown ≡ j.shown → IsStep n s e j
quiet n s e j next own none at state count = record {
  next = next;
  at = at;
  legal = subst (IsJobRecordFrom j.state) (sym own) tt;
  state = state ∙ ap (job_after j.state) (sym own);
  shown = none ∙ ap (λ es. numbered j.shown j.state.version (orders_in es)) (sym own);
  count = let size = ap (λ es. length (orders_in es)) own in omega (arith, count, size);
}

-- an event that is one of the job's
single : (n : ℕ) (s : JobsView) (e : JobsEvent) (j next : FoldingJob) (d : JobEvent)
    → own_event n s.budget e ≡ d ∷ [] → IsOwnLegal j.state d → job_at (after_event s e) n ≡ Some next
    → next.state ≡ own_after j.state d
    → shown_by_event n e ≡ numbered j.shown j.state.version (event_shows d)
    → next.shown ≡ j.shown + length (event_shows d) → IsStep n s e j
single n s e j next d own legal at state shown count =
    let orders : event_shows d ≡ orders_in (own_event n s.budget e) =
    sym (ap orders_in own ∙ append-nil (event_shows d)) in
    record {
      next = next;
      at = at;
      legal = subst (IsJobRecordFrom j.state) (sym own) (legal, tt);
      state = state ∙ ap (job_after j.state) (sym own);
      shown = shown ∙ ap (numbered j.shown j.state.version) orders;
      count = count ∙ ap (λ os. j.shown + length os) orders;
    }

-- ---- asks

ask_legal : (s : JobsView) (j : FoldingJob) (u : ⊤) → Ok u ≡ ask_from s (live_from (Some j))
    → IsNone j.state.ask
ask_legal s j u e = by_test j.cancelled e
  where
    by_ask : (a : Option ℕ)
        → Ok u ≡ cond (is_some a) (Err JobRefusal.Busy)
        (cond (nat_le most_asks s.asks) (Err JobRefusal.TooManyAsks) (Ok tt))
        → IsNone a
    by_ask None e = refl
    by_ask (Some b) e = absurd (cc)

    by_test : (b : Bool) → Ok u ≡ ask_from s (cond b (Err JobRefusal.Cancelled) (Ok j)) → IsNone j.state.ask
    by_test true e = absurd (cc)
    by_test false e = by_ask j.state.ask e

step-ask : (n m : ℕ) (s : JobsView) (u : ⊤) (j : FoldingJob) → job_at s n ≡ Some j → 1 ≤ s.budget
    → Ok u ≡ ask_answer s m → IsStep n s (Ask m (Ok u)) j
step-ask n m s u j found some legal = elim (cases_Bool (eqb m n)) [
  | inl own ↦
      let same : m ≡ n = eqb-true m n own in
      let change : FoldingJob → FoldingJob = λ k. record k { state = asked k.state s.budget } in
      let here : Ok u ≡ ask_from s (live_from (Some j)) =
      legal ∙ ap (ask_answer s) same ∙ ap (λ o. ask_from s (live_from o)) found in
      single n s (Ask m (Ok u)) j (change j) (OwnAsk s.budget)
      (ap (λ b. cond b (OwnAsk s.budget ∷ []) []) own) (ask_legal s j u here, some)
      (ap (λ k. job_at (changed s k change) n) same ∙ changed-own s n change j found)
      refl refl (omega arith)
  | inr other ↦
      let change : FoldingJob → FoldingJob = λ k. record k { state = asked k.state s.budget } in
      quiet n s (Ask m (Ok u)) j j (ap (λ b. cond b (OwnAsk s.budget ∷ []) []) other) refl
      (changed-other s m n change j other found) refl refl
]

-- ---- answers

answer_legal : (j : FoldingJob) (a : FoldAnswer) → Ok a ≡ answer_from (live_from (Some j))
    → IsSome j.state.ask × (a ≡ answer_told j.state.version j.shown (next_answer j.state))
answer_legal j a e = by_test j.cancelled e
  where
    by_ask : (o : Option ℕ) (told : FoldAnswer)
        → Ok a ≡ cond (is_some o) (Ok told) (Err JobRefusal.NothingAsked) → IsSome o × (a ≡ told)
    by_ask None told e = absurd (cc)
    by_ask (Some b) told e = (refl, (cc))

    by_test : (b : Bool) → Ok a ≡ answer_from (cond b (Err JobRefusal.Cancelled) (Ok j))
        → IsSome j.state.ask × (a ≡ answer_told j.state.version j.shown (next_answer j.state))
    by_test true e = absurd (cc)
    by_test false e = by_ask j.state.ask (answer_told j.state.version j.shown (next_answer j.state)) e

told_back : (version count : ℕ) (x : JobAnswer) → answer_of (answer_told version count x) ≡ x
told_back version count (job_answer.Shown order) = refl
told_back version count job_answer.NoMore = refl
told_back version count job_answer.Paused = refl
told_back version count (job_answer.NotReady piece) = refl

told_shown : (version count v k : ℕ) (order : OrderView) (x : JobAnswer)
    → Shown v k order ≡ answer_told version count x → (v ≡ version) × (k ≡ count + 1)
told_shown version count v k order (job_answer.Shown o) e = ((cc), (cc))
told_shown version count v k order job_answer.NoMore e = absurd (cc)
told_shown version count v k order job_answer.Paused e = absurd (cc)
told_shown version count v k order (job_answer.NotReady piece) e = absurd (cc)

answer-own : (s : JobsView) (n : ℕ) (j : FoldingJob) (a : FoldAnswer) → job_at s n ≡ Some j
    → job_at (after_answer_to s n (Ok a)) n ≡ Some (answered a j)
answer-own s n j (Shown v k order) found = changed-own s n (answered (Shown v k order)) j found
answer-own s n j (NoMore v) found = changed-own s n (answered (NoMore v)) j found
answer-own s n j (Paused v) found = changed-own s n (answered (Paused v)) j found
answer-own s n j (NotReady v piece) found = found

answer-other : (s : JobsView) (m n : ℕ) (j : FoldingJob) (a : FoldAnswer) → eqb m n ≡ false
    → job_at s n ≡ Some j → job_at (after_answer_to s m (Ok a)) n ≡ Some j
answer-other s m n j (Shown v k order) apart found =
    changed-other s m n (answered (Shown v k order)) j apart found
answer-other s m n j (NoMore v) apart found = changed-other s m n (answered (NoMore v)) j apart found
answer-other s m n j (Paused v) apart found = changed-other s m n (answered (Paused v)) j apart found
answer-other s m n j (NotReady v piece) apart found = found

answer_shows-own : (n m : ℕ) (j : FoldingJob) (a : FoldAnswer) → eqb m n ≡ true
    → a ≡ answer_told j.state.version j.shown (next_answer j.state)
    → shown_by_event n (Answer m (Ok a))
    ≡ numbered j.shown j.state.version (event_shows (OwnAnswer (answer_of a)))
answer_shows-own n m j (Shown v k order) own told =
    let parts = told_shown j.state.version j.shown v k order (next_answer j.state) told in
    let with : ℕ → ℕ → List ShownOrder = λ k v. record { number = k; version = v; order = order.list } ∷ [] in
    ap (λ b. cond b (with k v) []) own ∙ ap (λ k. with k v) parts.1 ∙ ap (with (j.shown + 1)) parts.0
answer_shows-own n m j (NoMore v) own told = refl
answer_shows-own n m j (Paused v) own told = refl
answer_shows-own n m j (NotReady v piece) own told = refl

answer_shows-other : (n m : ℕ) (a : FoldAnswer) → eqb m n ≡ false → shown_by_event n (Answer m (Ok a)) ≡ []
answer_shows-other n m (Shown v k order) other =
    let shown : ShownOrder = record { number = k; version = v; order = order.list } in
    ap (λ b. cond b (shown ∷ []) []) other
answer_shows-other n m (NoMore v) other = refl
answer_shows-other n m (Paused v) other = refl
answer_shows-other n m (NotReady v piece) other = refl

answer_counts : (j : FoldingJob) (a : FoldAnswer)
    → shown_after j.shown a ≡ j.shown + length (event_shows (OwnAnswer (answer_of a)))
answer_counts j (Shown v k order) = omega arith
answer_counts j (NoMore v) = omega arith
answer_counts j (Paused v) = omega arith
answer_counts j (NotReady v piece) = omega arith

step-answer : (n m : ℕ) (s : JobsView) (a : FoldAnswer) (j : FoldingJob) → job_at s n ≡ Some j
    → Ok a ≡ answer_to s m → IsStep n s (Answer m (Ok a)) j
step-answer n m s a j found legal = elim (cases_Bool (eqb m n)) [
  | inl own ↦
      let same : m ≡ n = eqb-true m n own in
      let here = answer_legal j a
      (legal ∙ ap (answer_to s) same ∙ ap (λ o. answer_from (live_from o)) found) in
      single n s (Answer m (Ok a)) j (answered a j) (OwnAnswer (answer_of a))
      (ap (λ b. cond b (OwnAnswer (answer_of a) ∷ []) []) own)
      (here.0, ap answer_of here.1 ∙ told_back j.state.version j.shown (next_answer j.state))
      (ap (λ k. job_at (after_answer_to s k (Ok a)) n) same ∙ answer-own s n j a found)
      refl (answer_shows-own n m j a own here.1) (answer_counts j a)
  | inr other ↦
      quiet n s (Answer m (Ok a)) j j (ap (λ b. cond b (OwnAnswer (answer_of a) ∷ []) []) other)
      (answer_shows-other n m a other) (answer-other s m n j a other found) refl refl
]

-- ---- cancellations and outcomes

step-cancel : (n m : ℕ) (s : JobsView) (u : ⊤) (j : FoldingJob) → job_at s n ≡ Some j
    → IsStep n s (Cancel m (Ok u)) j
step-cancel n m s u j found =
    let change : FoldingJob → FoldingJob = λ k. record k { cancelled = true } in
    elim (cases_Bool (eqb m n)) [
      | inl own ↦
          let same : m ≡ n = eqb-true m n own in
          quiet n s (Cancel m (Ok u)) j (change j) refl refl
          (ap (λ k. job_at (changed s k change) n) same ∙ changed-own s n change j found) refl refl
      | inr other ↦
          quiet n s (Cancel m (Ok u)) j j refl refl (changed-other s m n change j other found) refl refl
    ]

step-post : (n : ℕ) (s : JobsView) (x : Outcome) (j : FoldingJob) → job_at s n ≡ Some j
    → MatchesJob (job_at s x.job) x → IsRightPostIn s x → IsStep n s (Post x true) j
step-post n s x j found matches right =
    let change : FoldingJob → FoldingJob = λ k. record k { state = posted k.state x } in
    elim (cases_Bool (eqb x.job n)) [
      | inl own ↦
          let same : x.job ≡ n = eqb-true x.job n own in
          let at : job_at s x.job ≡ Some j = ap (job_at s) same ∙ found in
          single n s (Post x true) j (change j) (OwnPost x true)
          (ap (λ b. cond b (OwnPost x true ∷ []) []) own)
          ((subst (λ o. MatchesJob o x) at matches).1, right j at)
          (ap (λ k. job_at (changed s k change) n) same ∙ changed-own s n change j found)
          refl refl (omega arith)
      | inr other ↦
          quiet n s (Post x true) j j (ap (λ b. cond b (OwnPost x true ∷ []) []) other) refl
          (changed-other s x.job n change j other found) refl refl
    ]

pub step : (n : ℕ) (s : JobsView) (e : JobsEvent) (j : FoldingJob) → job_at s n ≡ Some j → 1 ≤ s.budget
    → IsLegalEvent s e → IsStep n s e j
step n s (Open number version r) j found some legal =
    quiet n s (Open number version r) j j refl refl (opened-old s version r n j found) refl refl
step n s TooMany j found some legal = quiet n s TooMany j j refl refl found refl refl
step n s (Ask m (Ok u)) j found some legal = step-ask n m s u j found some legal
step n s (Ask m (Err refusal)) j found some legal =
    quiet n s (Ask m (Err refusal)) j j refl refl found refl refl
step n s (SetBudget budget) j found some legal = quiet n s (SetBudget budget) j j refl refl found refl refl
step n s (Answer m (Ok a)) j found some legal = step-answer n m s a j found legal
step n s (Answer m (Err refusal)) j found some legal =
    quiet n s (Answer m (Err refusal)) j j refl refl found refl refl
step n s (Cancel m (Ok u)) j found some legal = step-cancel n m s u j found
step n s (Cancel m (Err refusal)) j found some legal =
    quiet n s (Cancel m (Err refusal)) j j refl refl found refl refl
step n s (Post x true) j found some legal = step-post n s x j found legal.0 legal.1
step n s (Post x false) j found some legal = quiet n s (Post x false) j j refl refl found refl refl
