-- The record of a session as a record of its folding jobs, which shows the same.
use Rattle.std.proofs.Common.{◌≡◌, ℕ, ◌+◌, ◌≤◌, ◌==◌, Bool, true, false, if◌then◌else◌, inl, inr, List, [], ◌∷◌, ◌++◌, length, Option, None, Some, refl, sym, ap, ap₂, subst, ◌∙◌, append_assoc, arith}
use Rattle.std.specs.Prelude.{⊤, Ok, Err, IsTrue, IsFalse, nat_eq, nat_le}
use Rattle.std.specs.declared.result.Result.{Result}
use Rattle.std.proofs.lemmas.Bool.{cases_Bool, and_parts}
use Rattle.std.proofs.lemmas.Bool.Decides.{nat_tests}
use Rattle.std.proofs.lemmas.Grind.{flat_map-append}
use Rattle.plane_geometry.specs.declared.Point.{Point}
use Rattle.crease_model.specs.View.{PatternView, empty_on}
use Rattle.crease_model.specs.NewSheet.{sheet_of}
use Rattle.crease_store.specs.declared.faults.StoreRefusal.{StoreRefusal}
use Rattle.crease_store.specs.Adding.{add_of}
use Rattle.crease_store.specs.Changed.{delete_of, set_of, clear_of}
use Rattle.crease_store.specs.Merged.{merge_of}
use Rattle.crease_store.specs.Loading.{LoadRefusal, load_of}
use Rattle.undo_journal.specs.Versions.{JournalView, greatest_version, greatest_of, committed, undone, redone}
use Rattle.sign_rules.specs.Rules.{RulesView}
use Rattle.worker_split.specs.declared.outcome.Outcome.{Outcome}
use Rattle.job_enumeration.specs.Closings.{closings_from}
use Rattle.job_enumeration.specs.Closings.{Shown as closing_shown, NoMore as closing_end, Paused as closing_pause}
use Rattle.fold_jobs.specs.declared.folding_job.FoldingJob.{FoldingJob}
use Rattle.fold_jobs.specs.declared.folding_job.FoldAnswer.{FoldAnswer}
use Rattle.fold_jobs.specs.declared.folding_job.FoldAnswer.TheVariants.{Shown, NoMore, Paused, NotReady}
use Rattle.fold_jobs.specs.declared.refusal.JobRefusal.{JobRefusal}
use Rattle.fold_jobs.specs.Limits.{greatest_budget}
use Rattle.fold_jobs.specs.Machine.{JobsView, job_at, is_full, changed_from, opened_in, ask_answer, after_ask, answer_to, after_answer_to, cancel_answer, after_cancel, MatchesIn, posted_in}
use Rattle.fold_jobs.specs.Record.{JobsEvent, Open, Ask, SetBudget, Answer as Answering, Cancel as Cancelling, Post, after_event, jobs_after, IsRecordFrom, IsRightPostIn}
use Rattle.fold_jobs.specs.OwnEvents.{own_events_from, shown_by, shown_by_event as shown_by_job, ShownOrder}
use Rattle.script_lang.specs.declared.block.LoadStop.{LoadStop}
use Rattle.script_lang.specs.declared.block.LoadStop.TheVariants as stop
use Rattle.script_lang.specs.declared.command.Command.{Command}
use Rattle.script_lang.specs.declared.command.Command.TheVariants.{Add, Delete, Set, Merge, Clear, Sheet, Load, Undo, Redo, List as ListCommand, Check, Bad, Fold, Another, Budget, Peek, Wait, Cancel}
use Rattle.script_lang.specs.declared.reply.Reply.{Reply}
use Rattle.script_lang.specs.declared.reply.Reply.TheVariants as reply
use Rattle.script_lang.specs.declared.refusal.Refusal.TheVariants as refusal
use Rattle.script_lang.specs.Judged.{least_budget, most_budget}
use Rattle.script_lang.specs.Script.{meets_condition}
use Rattle.job_register.specs.declared.session.Event.{Event}
use Rattle.job_register.specs.declared.session.Event.TheVariants.{Made, Posted}
use Rattle.job_register.specs.Edits.{EditAnswer, current_pattern_of, refusal_answer, version_answer, committed_answer, change_answer, sheet_answer, stop_answer, load_answer, redone_answer, answer}
use Rattle.job_register.specs.Machine.{State, IsEdit, IsFoldReply, IsAnswered, ask_reply, answer_reply, cancel_reply}
use Rattle.job_register.specs.Legal.{IsSessionStep, Lead}
use Rattle.job_register.specs.FoldingRecords.{shown_by_event, shown_in, closings_past}

-- what the session's events are to its jobs
pub record Tells (s t : JobsView) (es : List Event) (js : List JobsEvent) : Type 0 where
  pub legal : IsRecordFrom s js
  pub after : jobs_after s js ≡ t
  pub shown : (n : ℕ) → shown_in n es ≡ shown_by n js
  -- whatever comes later
  pub closes : (n asked : ℕ) (rest : List Event) (more : List JobsEvent)
      → ((next : ℕ) → closings_past n t.budget next rest
      ≡ closings_from next (own_events_from n t.budget more))
      → closings_past n s.budget asked (es ++ rest) ≡ closings_from asked (own_events_from n s.budget (js ++ more))

record_append : (s : JobsView) (js ks : List JobsEvent) → IsRecordFrom s js
    → IsRecordFrom (jobs_after s js) ks → IsRecordFrom s (js ++ ks)
record_append s [] ks h k = k
record_append s (j ∷ js) ks h k = (h.0, record_append (after_event s j) js ks h.1 k)

jobs_after-append : (s : JobsView) (js ks : List JobsEvent)
    → jobs_after s (js ++ ks) ≡ jobs_after (jobs_after s js) ks
jobs_after-append s [] ks = refl
jobs_after-append s (j ∷ js) ks = jobs_after-append (after_event s j) js ks

tells_none : (s : JobsView) → Tells s s [] []
tells_none s = record {
  legal = tt;
  after = refl;
  shown = λ n. refl;
  closes = λ n asked rest more h. h asked;
}

pub tells_both : (s m t : JobsView) (es fs : List Event) (js ks : List JobsEvent) → Tells s m es js
    → Tells m t fs ks → Tells s t (es ++ fs) (js ++ ks)
tells_both s m t es fs js ks a b = record {
  legal = record_append s js ks a.legal (subst (λ (u : JobsView). IsRecordFrom u ks) (sym a.after) b.legal);
  after = jobs_after-append s js ks ∙ ap (λ (u : JobsView). jobs_after u ks) a.after ∙ b.after;
  shown = λ n. flat_map-append (shown_by_event n) es fs
      ∙ ap₂ (λ (xs ys : List ShownOrder). xs ++ ys) (a.shown n) (b.shown n)
      ∙ sym (flat_map-append (shown_by_job n) js ks);
  closes = λ n asked rest more h.
      ap (closings_past n s.budget asked) (append_assoc es fs rest)
      ∙ a.closes n asked (fs ++ rest) (ks ++ more) (λ next. b.closes n next rest more h)
      ∙ ap (λ xs. closings_from asked (own_events_from n s.budget xs)) (sym (append_assoc js ks more));
}

-- ---- one event

-- what one event is to the jobs
abbrev pub Told : JobsView → JobsView → Event → Type 0
Told s t e = (js : List JobsEvent) × Tells s t (e ∷ []) js

-- the reply says nothing of a job's asks
abbrev pub is_quiet : Reply → Bool
is_quiet (reply.Version version pieces) = true
is_quiet (reply.Listed version pieces) = true
is_quiet (reply.Checked version faults) = true
is_quiet (reply.Refused refusal) = true
is_quiet r = false

tells_quiet : (s : JobsView) (c : Command) (r : Reply) → is_quiet r ≡ true → Told s s (Made c r)
tells_quiet s c (reply.Version version pieces) q =
    ([], record { legal = tt; after = refl; shown = λ n. refl; closes = λ n asked rest more h. h asked })
tells_quiet s c (reply.Listed version pieces) q =
    ([], record { legal = tt; after = refl; shown = λ n. refl; closes = λ n asked rest more h. h asked })
tells_quiet s c (reply.Checked version faults) q =
    ([], record { legal = tt; after = refl; shown = λ n. refl; closes = λ n asked rest more h. h asked })
tells_quiet s c (reply.Refused refusal) q =
    ([], record { legal = tt; after = refl; shown = λ n. refl; closes = λ n asked rest more h. h asked })
tells_quiet s c (reply.Job job version faces pairs) q = cc
tells_quiet s c (reply.Asked job) q = cc
tells_quiet s c (reply.Budget budget) q = cc
tells_quiet s c (reply.Shown job version number order) q = cc
tells_quiet s c (reply.NoMore job version) q = cc
tells_quiet s c (reply.Paused job version) q = cc
tells_quiet s c (reply.Running job version) q = cc
tells_quiet s c (reply.Cancelled job) q = cc

told_as : (s u t : JobsView) (c : Command) (r next : Reply) → next ≡ r → t ≡ u → Told s u (Made c r)
    → Told s t (Made c next)
told_as s u t c r next e f told =
    subst (λ (p : Reply). Told s t (Made c p)) (sym e)
    (subst (λ (v : JobsView). Told s v (Made c r)) (sym f) told)

-- ---- edits are quiet

abbrev pub IsQuiet : Option EditAnswer → Type 0
IsQuiet None = ⊤
IsQuiet (Some a) = is_quiet a.reply ≡ true

quiet_either : (b : Bool) (x y : EditAnswer) → is_quiet x.reply ≡ true → is_quiet y.reply ≡ true
    → is_quiet (if b then x else y).reply ≡ true
quiet_either true x y h k = h
quiet_either false x y h k = k

quiet_commit : (j : JournalView) (p : PatternView) → is_quiet (committed_answer j p).reply ≡ true
quiet_commit j p =
    quiet_either (nat_eq (greatest_of j) greatest_version) (refusal_answer j refusal.Full)
    (version_answer (committed j p)) refl refl

quiet_change : (j : JournalView) (r : Result PatternView StoreRefusal)
    → is_quiet (change_answer j r).reply ≡ true
quiet_change j (Ok p) = quiet_commit j p
quiet_change j (Err fault) = refl

quiet_sheet : (j : JournalView) (r : Result (List Point) ℕ) → is_quiet (sheet_answer j r).reply ≡ true
quiet_sheet j (Ok corners) = quiet_commit j (empty_on corners)
quiet_sheet j (Err corner) = refl

quiet_stop : (j : JournalView) (end : LoadStop) (p : PatternView)
    → is_quiet (stop_answer j end p).reply ≡ true
quiet_stop j stop.Ended p = quiet_commit j p
quiet_stop j (stop.Bad number fault) p = refl
quiet_stop j stop.Unended p = refl

quiet_load : (j : JournalView) (end : LoadStop) (r : Result PatternView LoadRefusal)
    → is_quiet (load_answer j end r).reply ≡ true
quiet_load j end (Ok p) = quiet_stop j end p
quiet_load j end (Err fault) = refl

quiet_redo : (j : JournalView) (o : Option JournalView) → is_quiet (redone_answer j o).reply ≡ true
quiet_redo j None = refl
quiet_redo j (Some next) = refl

pub quiet_answer : (j : JournalView) (command : Command) → IsQuiet (answer j command)
quiet_answer j (Add kind from to) = quiet_change j (add_of (current_pattern_of j) kind from to)
quiet_answer j (Delete from to) = quiet_change j (delete_of (current_pattern_of j) from to)
quiet_answer j (Set kind from to) = quiet_change j (set_of (current_pattern_of j) kind from to)
quiet_answer j Merge = quiet_commit j (merge_of (current_pattern_of j))
quiet_answer j Clear = quiet_commit j (clear_of (current_pattern_of j))
quiet_answer j (Sheet corners) = quiet_sheet j (sheet_of corners)
quiet_answer j (Load lines end) = quiet_load j end (load_of (current_pattern_of j) lines)
quiet_answer j Undo =
    quiet_either (nat_eq j.current 0) (refusal_answer j refusal.NothingToUndo) (version_answer (undone j))
    refl refl
quiet_answer j Redo = quiet_redo j (redone j)
quiet_answer j ListCommand = refl
quiet_answer j Check = refl
quiet_answer j (Bad fault) = refl
quiet_answer j Fold = tt
quiet_answer j (Another job) = tt
quiet_answer j (Budget budget) = tt
quiet_answer j (Peek job) = tt
quiet_answer j (Wait job) = tt
quiet_answer j (Cancel job) = tt

told_edit : (s t : State) (o : Option EditAnswer) (c : Command) (r : Reply) → IsQuiet o → IsEdit s o r t
    → Told s.jobs t.jobs (Made c r)
told_edit s t None c r q h = absurd h
told_edit s t (Some a) c r q h =
    told_as s.jobs s.jobs t.jobs c a.reply r h.0 (ap (λ (u : State). u.jobs) h.1)
    (tells_quiet s.jobs c a.reply q)

-- ---- commands about jobs

changed_budget : (s : JobsView) (n : ℕ) (change : FoldingJob → FoldingJob) (o : Option FoldingJob)
    → (changed_from s n change o).budget ≡ s.budget
changed_budget s n change None = refl
changed_budget s n change (Some j) = refl

-- what comes later, with the budget that stays
abbrev Later : ℕ → ℕ → List Event → List JobsEvent → Type 0
Later n budget rest more =
    (next : ℕ) → closings_past n budget next rest ≡ closings_from next (own_events_from n budget more)

later_at : (n b c : ℕ) (rest : List Event) (more : List JobsEvent) → b ≡ c → Later n b rest more
    → Later n c rest more
later_at n b c rest more e h = subst (λ budget. Later n budget rest more) e h

told_ask : (s : JobsView) (job : ℕ) (o : Result ⊤ JobRefusal) → o ≡ ask_answer s job
    → Told s (after_ask s job o) (Made (Another job) (ask_reply job o))
told_ask s job (Err refused) e = (
  Ask job (Err refused) ∷ [],
  record {
    legal = (e, tt);
    after = refl;
    shown = λ n. refl;
    closes = λ n asked rest more h. h asked;
  },
)
told_ask s job (Ok done) e = (
  Ask job (Ok done) ∷ [],
  record {
    legal = (e, tt);
    after = refl;
    shown = λ n. refl;
    closes = λ n asked rest more h.
        let k : Later n s.budget rest more =
        later_at n _ s.budget rest more (changed_budget s job _ (job_at s job)) h in
        elim (cases_Bool (job == n)) [
          | inl same ↦ rw same (k s.budget)
          | inr other ↦ rw other (k asked)
        ];
  },
)

told_cancel : (s : JobsView) (job : ℕ) (o : Result ⊤ JobRefusal) → o ≡ cancel_answer s job
    → Told s (after_cancel s job o) (Made (Cancel job) (cancel_reply job o))
told_cancel s job (Err refused) e = (
  Cancelling job (Err refused) ∷ [],
  record {
    legal = (e, tt);
    after = refl;
    shown = λ n. refl;
    closes = λ n asked rest more h. h asked;
  },
)
told_cancel s job (Ok done) e = (
  Cancelling job (Ok done) ∷ [],
  record {
    legal = (e, tt);
    after = refl;
    shown = λ n. refl;
    closes = λ n asked rest more h.
        later_at n _ s.budget rest more (changed_budget s job _ (job_at s job)) h asked;
  },
)

told_show : (s : JobsView) (c : Command) (job : ℕ) (o : Result FoldAnswer JobRefusal) → o ≡ answer_to s job
    → Told s (after_answer_to s job o) (Made c (answer_reply job o))
told_show s c job (Err refused) e = (
  Answering job (Err refused) ∷ [],
  record {
    legal = (e, tt);
    after = refl;
    shown = λ n. refl;
    closes = λ n asked rest more h. h asked;
  },
)
told_show s c job (Ok (NotReady version piece)) e = (
  Answering job (Ok (NotReady version piece)) ∷ [],
  record {
    legal = (e, tt);
    after = refl;
    shown = λ n. refl;
    closes = λ n asked rest more h.
        elim (cases_Bool (job == n)) [
          | inl same ↦ rw same (h asked)
          | inr other ↦ rw other (h asked)
        ];
  },
)
told_show s c job (Ok (NoMore version)) e = (
  Answering job (Ok (NoMore version)) ∷ [],
  record {
    legal = (e, tt);
    after = refl;
    shown = λ n. refl;
    closes = λ n asked rest more h.
        let k : Later n s.budget rest more =
        later_at n _ s.budget rest more (changed_budget s job _ (job_at s job)) h in
        elim (cases_Bool (job == n)) [
          | inl same ↦ rw same (ap (λ cs. closing_end ∷ cs) (k asked))
          | inr other ↦ rw other (k asked)
        ];
  },
)
told_show s c job (Ok (Paused version)) e = (
  Answering job (Ok (Paused version)) ∷ [],
  record {
    legal = (e, tt);
    after = refl;
    shown = λ n. refl;
    closes = λ n asked rest more h.
        let k : Later n s.budget rest more =
        later_at n _ s.budget rest more (changed_budget s job _ (job_at s job)) h in
        elim (cases_Bool (job == n)) [
          | inl same ↦ rw same (ap (λ cs. closing_pause asked ∷ cs) (k asked))
          | inr other ↦ rw other (k asked)
        ];
  },
)
told_show s c job (Ok (Shown version number order)) e = (
  Answering job (Ok (Shown version number order)) ∷ [],
  record {
    legal = (e, tt);
    after = refl;
    shown = λ n. refl;
    closes = λ n asked rest more h.
        let k : Later n s.budget rest more =
        later_at n _ s.budget rest more (changed_budget s job _ (job_at s job)) h in
        elim (cases_Bool (job == n)) [
          | inl same ↦ rw same (ap (λ cs. closing_shown order.list ∷ cs) (k asked))
          | inr other ↦ rw other (k asked)
        ];
  },
)

told_budget : (s : JobsView) (budget : ℕ) → 1 ≤ budget → budget ≤ greatest_budget
    → Told s (record s { budget = budget }) (Made (Budget budget) (reply.Budget budget))
told_budget s budget some few = (
  SetBudget budget ∷ [],
  record {
    legal = ((some, few), tt);
    after = refl;
    shown = λ n. refl;
    closes = λ n asked rest more h. h asked;
  },
)

-- a job that is opened; the event says with which rules
pub tells_opened : (s : JobsView) (c : Command) (number version faces pairs : ℕ) (rules : RulesView)
    → number ≡ length s.jobs + 1 → IsFalse (is_full s)
    → Tells s (opened_in s version rules) (Made c (reply.Job number version faces pairs) ∷ [])
    (Open number version rules ∷ [])
tells_opened s c number version faces pairs rules e room = record {
  legal = ((e, room), tt);
  after = refl;
  shown = λ n. refl;
  closes = λ n asked rest more h. h asked;
}

told_fold : (s t : State) (r : Reply) → IsFoldReply s r t → Told s.jobs t.jobs (Made Fold r)
told_fold s t (reply.Job number version faces pairs) h =
    subst (λ (v : JobsView). Told s.jobs v (Made Fold (reply.Job number version faces pairs)))
    (sym (ap (λ (u : State). u.jobs) h.opens)) (
      Open number version h.layers.rules ∷ [],
      tells_opened s.jobs Fold number version faces pairs h.layers.rules h.number_is h.room,
    )
told_fold s t (reply.Refused refusal) h =
    subst (λ (v : JobsView). Told s.jobs v (Made Fold (reply.Refused refusal)))
    (sym (ap (λ (u : State). u.jobs) h.1)) (tells_quiet s.jobs Fold (reply.Refused refusal) refl)
told_fold s t (reply.Version version pieces) h = absurd h
told_fold s t (reply.Listed version pieces) h = absurd h
told_fold s t (reply.Checked version faults) h = absurd h
told_fold s t (reply.Asked job) h = absurd h
told_fold s t (reply.Budget budget) h = absurd h
told_fold s t (reply.Shown job version number order) h = absurd h
told_fold s t (reply.NoMore job version) h = absurd h
told_fold s t (reply.Paused job version) h = absurd h
told_fold s t (reply.Running job version) h = absurd h
told_fold s t (reply.Cancelled job) h = absurd h

-- ---- events

told_answer : (s t : State) (c : Command) (r : Reply) → IsTrue (meets_condition c) → IsAnswered s c r t
    → Told s.jobs t.jobs (Made c r)
told_answer s t (Add kind from to) r m h =
    told_edit s t (answer s.journal (Add kind from to)) (Add kind from to) r (quiet_answer s.journal (Add kind from to)) h
told_answer s t (Delete from to) r m h =
    told_edit s t (answer s.journal (Delete from to)) (Delete from to) r (quiet_answer s.journal (Delete from to)) h
told_answer s t (Set kind from to) r m h =
    told_edit s t (answer s.journal (Set kind from to)) (Set kind from to) r (quiet_answer s.journal (Set kind from to)) h
told_answer s t Merge r m h =
    told_edit s t (answer s.journal Merge) Merge r (quiet_answer s.journal Merge) h
told_answer s t Clear r m h =
    told_edit s t (answer s.journal Clear) Clear r (quiet_answer s.journal Clear) h
told_answer s t (Sheet corners) r m h =
    told_edit s t (answer s.journal (Sheet corners)) (Sheet corners) r (quiet_answer s.journal (Sheet corners)) h
told_answer s t (Load lines end) r m h =
    told_edit s t (answer s.journal (Load lines end)) (Load lines end) r (quiet_answer s.journal (Load lines end)) h
told_answer s t Undo r m h =
    told_edit s t (answer s.journal Undo) Undo r (quiet_answer s.journal Undo) h
told_answer s t Redo r m h =
    told_edit s t (answer s.journal Redo) Redo r (quiet_answer s.journal Redo) h
told_answer s t ListCommand r m h =
    told_edit s t (answer s.journal ListCommand) ListCommand r (quiet_answer s.journal ListCommand) h
told_answer s t Check r m h =
    told_edit s t (answer s.journal Check) Check r (quiet_answer s.journal Check) h
told_answer s t (Bad fault) r m h =
    told_edit s t (answer s.journal (Bad fault)) (Bad fault) r (quiet_answer s.journal (Bad fault)) h
told_answer s t Fold r m h = told_fold s t r h
told_answer s t (Another job) r m h =
    told_as s.jobs _ t.jobs (Another job) (ask_reply job (ask_answer s.jobs job)) r h.0
    (ap (λ (u : State). u.jobs) h.1) (told_ask s.jobs job (ask_answer s.jobs job) refl)
told_answer s t (Budget budget) r m h =
    let range = and_parts (nat_le least_budget budget) (nat_le budget most_budget) m in
    told_as s.jobs _ t.jobs (Budget budget) (reply.Budget budget) r h.0
    (ap (λ (u : State). u.jobs) h.1)
    (told_budget s.jobs budget (grind (arith, nat_tests, range.0)) (grind (arith, nat_tests, range.1)))
told_answer s t (Peek job) r m h =
    told_as s.jobs _ t.jobs (Peek job) (answer_reply job (answer_to s.jobs job)) r h.0
    (ap (λ (u : State). u.jobs) h.1) (told_show s.jobs (Peek job) job (answer_to s.jobs job) refl)
told_answer s t (Wait job) r m h =
    told_as s.jobs _ t.jobs (Wait job) (answer_reply job (answer_to s.jobs job)) r h.0
    (ap (λ (u : State). u.jobs) h.1) (told_show s.jobs (Wait job) job (answer_to s.jobs job) refl)
told_answer s t (Cancel job) r m h =
    told_as s.jobs _ t.jobs (Cancel job) (cancel_reply job (cancel_answer s.jobs job)) r h.0
    (ap (λ (u : State). u.jobs) h.1) (told_cancel s.jobs job (cancel_answer s.jobs job) refl)

told_post : (s : JobsView) (x : Outcome) → MatchesIn s x → IsRightPostIn s x
    → Told s (posted_in s x) (Posted x true)
told_post s x matches right = (
  Post x true ∷ [],
  record {
    legal = ((matches, right), tt);
    after = refl;
    shown = λ n. refl;
    closes = λ n asked rest more h.
        let k : Later n s.budget rest more =
        later_at n _ s.budget rest more (changed_budget s x.job _ (job_at s x.job)) h in
        elim (cases_Bool (x.job == n)) [
          | inl same ↦ rw same (k asked)
          | inr other ↦ rw other (k asked)
        ];
  },
)

pub told_step : (s t : State) (e : Event) → IsSessionStep s e t → Told s.jobs t.jobs e
told_step s t (Made c r) h = told_answer s t c r h.0 h.2
told_step s t (Posted x true) h =
    subst (λ (v : JobsView). Told s.jobs v (Posted x true)) (sym (ap (λ (u : State). u.jobs) h.2))
    (told_post s.jobs x h.0 h.1)
told_step s t (Posted x false) h =
    subst (λ (v : JobsView). Told s.jobs v (Posted x false)) (sym (ap (λ (u : State). u.jobs) h.1)) (
      Post x false ∷ [],
      record {
        legal = (h.0, tt);
        after = refl;
        shown = λ n. refl;
        closes = λ n asked rest more k. k asked;
      },
    )

-- a legal record of a session is one of its jobs
pub told_lead : (s t : State) (es : List Event) → Lead s es t → (js : List JobsEvent) × Tells s.jobs t.jobs es js
told_lead s t [] h =
    ([], subst (λ (u : State). Tells s.jobs u.jobs [] []) h (tells_none s.jobs))
told_lead s t (e ∷ es) h =
    let first = told_step s h.0 e h.1 in
    let rest = told_lead h.0 t es h.2 in (
      first.0 ++ rest.0,
      tells_both s.jobs h.0.jobs t.jobs (e ∷ []) es first.0 rest.0 first.1 rest.1,
    )
