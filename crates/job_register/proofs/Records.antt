-- A record with one more event.
use Rattle.std.proofs.Common.{◌≡◌, ℕ, ◌-◌, Bool, true, false, ◌||◌, List, [], ◌∷◌, ◌++◌, length, Option, None, Some, refl, sym, ap, subst, ◌∙◌, append_assoc, length-append, arith}
use Rattle.std.specs.Prelude.{⊤, Ok, Err}
use Rattle.std.specs.declared.result.Result.{Result}
use Rattle.std.specs.List.{slice_get}
use Rattle.std.proofs.lemmas.List.{append-nil}
use Rattle.std.proofs.Math.Bool.{or-false, or_assoc}
use Rattle.undo_journal.specs.Versions.{JournalView}
use Rattle.worker_split.specs.declared.outcome.Outcome.{Outcome}
use Rattle.script_lang.specs.declared.command.Command.{Command}
use Rattle.script_lang.specs.declared.command.Command.TheVariants.{Add, Delete, Set, Merge, Clear, Sheet, Load, Undo, Redo, List as ListCommand, Check, Bad, Fold, Another, Budget, Peek, Wait, Cancel}
use Rattle.script_lang.specs.declared.reply.Reply.{Reply}
use Rattle.script_lang.specs.declared.reply.Reply.TheVariants as reply
use Rattle.fold_jobs.specs.declared.folding_job.FoldingJob.{FoldingJob}
use Rattle.fold_jobs.specs.declared.folding_job.FoldAnswer.{FoldAnswer}
use Rattle.fold_jobs.specs.declared.folding_job.FoldAnswer.TheVariants.{Shown, NoMore, Paused, NotReady}
use Rattle.fold_jobs.specs.declared.refusal.JobRefusal.{JobRefusal}
use Rattle.fold_jobs.specs.Machine.{JobsView, job_at, changed_from, ask_answer, after_ask, answer_to, after_answer_to, cancel_answer, after_cancel}
use Rattle.job_register.specs.declared.session.Event.{Event}
use Rattle.job_register.specs.declared.session.Event.TheVariants.{Made, Posted}
use Rattle.job_register.specs.Edits.{EditAnswer, answer, first_journal}
use Rattle.job_register.specs.Machine.{State, first_state, IsEdit, IsFoldReply, IsAnswered, IsTakenIn}
use Rattle.job_register.specs.Legal.{IsSessionStep, Lead, IsLegal, journal_of, journal_past, journal_from, journal_after, commands_in, refuses, has_refusal}
use Rattle.job_register.specs.Text.{event_text, text_from, text_of, text_at, last_text}
use Rattle.job_register.specs.Kept.{Keeps}

-- ---- the journal after a step

edit_journal : (s t : State) (o : Option EditAnswer) (r : Reply) → IsEdit s o r t
    → t.journal ≡ journal_of s.journal o
edit_journal s t None r h = absurd h
edit_journal s t (Some a) r h = ap (λ (u : State). u.journal) h.1

fold_journal : (s t : State) (r : Reply) → IsFoldReply s r t → t.journal ≡ s.journal
fold_journal s t (reply.Job number version faces pairs) h = ap (λ (u : State). u.journal) h.opens
fold_journal s t (reply.Refused refusal) h = ap (λ (u : State). u.journal) h.1
fold_journal s t (reply.Version version pieces) h = absurd h
fold_journal s t (reply.Listed version pieces) h = absurd h
fold_journal s t (reply.Checked version faults) h = absurd h
fold_journal s t (reply.Asked job) h = absurd h
fold_journal s t (reply.Budget budget) h = absurd h
fold_journal s t (reply.Shown job version number order) h = absurd h
fold_journal s t (reply.NoMore job version) h = absurd h
fold_journal s t (reply.Paused job version) h = absurd h
fold_journal s t (reply.Running job version) h = absurd h
fold_journal s t (reply.Cancelled job) h = absurd h

answer_journal : (s t : State) (command : Command) (r : Reply) → IsAnswered s command r t
    → t.journal ≡ journal_of s.journal (answer s.journal command)
answer_journal s t (Add kind from to) r h = edit_journal s t (answer s.journal (Add kind from to)) r h
answer_journal s t (Delete from to) r h = edit_journal s t (answer s.journal (Delete from to)) r h
answer_journal s t (Set kind from to) r h = edit_journal s t (answer s.journal (Set kind from to)) r h
answer_journal s t Merge r h = edit_journal s t (answer s.journal Merge) r h
answer_journal s t Clear r h = edit_journal s t (answer s.journal Clear) r h
answer_journal s t (Sheet corners) r h = edit_journal s t (answer s.journal (Sheet corners)) r h
answer_journal s t (Load lines end) r h = edit_journal s t (answer s.journal (Load lines end)) r h
answer_journal s t Undo r h = edit_journal s t (answer s.journal Undo) r h
answer_journal s t Redo r h = edit_journal s t (answer s.journal Redo) r h
answer_journal s t ListCommand r h = edit_journal s t (answer s.journal ListCommand) r h
answer_journal s t Check r h = edit_journal s t (answer s.journal Check) r h
answer_journal s t (Bad fault) r h = edit_journal s t (answer s.journal (Bad fault)) r h
answer_journal s t Fold r h = fold_journal s t r h
answer_journal s t (Another job) r h = ap (λ (u : State). u.journal) h.1
answer_journal s t (Budget budget) r h = ap (λ (u : State). u.journal) h.1
answer_journal s t (Peek job) r h = ap (λ (u : State). u.journal) h.1
answer_journal s t (Wait job) r h = ap (λ (u : State). u.journal) h.1
answer_journal s t (Cancel job) r h = ap (λ (u : State). u.journal) h.1

pub step_journal : (s t : State) (e : Event) → IsSessionStep s e t → t.journal ≡ journal_past s.journal e
step_journal s t (Made command r) h = answer_journal s t command r h.2
step_journal s t (Posted x true) h = ap (λ (u : State). u.journal) h.2
step_journal s t (Posted x false) h = ap (λ (u : State). u.journal) h.1

pub lead_journal : (s t : State) (es : List Event) → Lead s es t → t.journal ≡ journal_from s.journal es
lead_journal s t [] h = ap (λ (u : State). u.journal) (sym h)
lead_journal s t (e ∷ es) h =
    lead_journal h.0 t es h.2
    ∙ ap (λ (j : JournalView). journal_from j es) (step_journal s h.0 e h.1)

-- ---- the number of pieces that a job may have stays

changed_most : (s : JobsView) (n : ℕ) (change : FoldingJob → FoldingJob) (o : Option FoldingJob)
    → (changed_from s n change o).most ≡ s.most
changed_most s n change None = refl
changed_most s n change (Some j) = refl

ask_most : (s : JobsView) (n : ℕ) (r : Result ⊤ JobRefusal) → (after_ask s n r).most ≡ s.most
ask_most s n (Err refusal) = refl
ask_most s n (Ok done) = changed_most s n _ (job_at s n)

show_most : (s : JobsView) (n : ℕ) (r : Result FoldAnswer JobRefusal) → (after_answer_to s n r).most ≡ s.most
show_most s n (Err refusal) = refl
show_most s n (Ok (NotReady version piece)) = refl
show_most s n (Ok (Shown version number order)) = changed_most s n _ (job_at s n)
show_most s n (Ok (NoMore version)) = changed_most s n _ (job_at s n)
show_most s n (Ok (Paused version)) = changed_most s n _ (job_at s n)

cancel_most : (s : JobsView) (n : ℕ) (r : Result ⊤ JobRefusal) → (after_cancel s n r).most ≡ s.most
cancel_most s n (Err refusal) = refl
cancel_most s n (Ok done) = changed_most s n _ (job_at s n)

edit_most : (s t : State) (o : Option EditAnswer) (r : Reply) → IsEdit s o r t → t.jobs.most ≡ s.jobs.most
edit_most s t None r h = absurd h
edit_most s t (Some a) r h = ap (λ (u : State). u.jobs.most) h.1

fold_most : (s t : State) (r : Reply) → IsFoldReply s r t → t.jobs.most ≡ s.jobs.most
fold_most s t (reply.Job number version faces pairs) h = ap (λ (u : State). u.jobs.most) h.opens
fold_most s t (reply.Refused refusal) h = ap (λ (u : State). u.jobs.most) h.1
fold_most s t (reply.Version version pieces) h = absurd h
fold_most s t (reply.Listed version pieces) h = absurd h
fold_most s t (reply.Checked version faults) h = absurd h
fold_most s t (reply.Asked job) h = absurd h
fold_most s t (reply.Budget budget) h = absurd h
fold_most s t (reply.Shown job version number order) h = absurd h
fold_most s t (reply.NoMore job version) h = absurd h
fold_most s t (reply.Paused job version) h = absurd h
fold_most s t (reply.Running job version) h = absurd h
fold_most s t (reply.Cancelled job) h = absurd h

answer_most : (s t : State) (command : Command) (r : Reply) → IsAnswered s command r t
    → t.jobs.most ≡ s.jobs.most
answer_most s t (Add kind from to) r h = edit_most s t (answer s.journal (Add kind from to)) r h
answer_most s t (Delete from to) r h = edit_most s t (answer s.journal (Delete from to)) r h
answer_most s t (Set kind from to) r h = edit_most s t (answer s.journal (Set kind from to)) r h
answer_most s t Merge r h = edit_most s t (answer s.journal Merge) r h
answer_most s t Clear r h = edit_most s t (answer s.journal Clear) r h
answer_most s t (Sheet corners) r h = edit_most s t (answer s.journal (Sheet corners)) r h
answer_most s t (Load lines end) r h = edit_most s t (answer s.journal (Load lines end)) r h
answer_most s t Undo r h = edit_most s t (answer s.journal Undo) r h
answer_most s t Redo r h = edit_most s t (answer s.journal Redo) r h
answer_most s t ListCommand r h = edit_most s t (answer s.journal ListCommand) r h
answer_most s t Check r h = edit_most s t (answer s.journal Check) r h
answer_most s t (Bad fault) r h = edit_most s t (answer s.journal (Bad fault)) r h
answer_most s t Fold r h = fold_most s t r h
answer_most s t (Another job) r h =
    ap (λ (u : State). u.jobs.most) h.1 ∙ ask_most s.jobs job (ask_answer s.jobs job)
answer_most s t (Budget budget) r h = ap (λ (u : State). u.jobs.most) h.1
answer_most s t (Peek job) r h =
    ap (λ (u : State). u.jobs.most) h.1 ∙ show_most s.jobs job (answer_to s.jobs job)
answer_most s t (Wait job) r h =
    ap (λ (u : State). u.jobs.most) h.1 ∙ show_most s.jobs job (answer_to s.jobs job)
answer_most s t (Cancel job) r h =
    ap (λ (u : State). u.jobs.most) h.1 ∙ cancel_most s.jobs job (cancel_answer s.jobs job)

pub step_most : (s t : State) (e : Event) → IsSessionStep s e t → t.jobs.most ≡ s.jobs.most
step_most s t (Made command r) h = answer_most s t command r h.2
step_most s t (Posted x true) h =
    ap (λ (u : State). u.jobs.most) h.2 ∙ changed_most s.jobs x.job _ (job_at s.jobs x.job)
step_most s t (Posted x false) h = ap (λ (u : State). u.jobs.most) h.1

-- ---- one more event

pub lead_append : (s m t : State) (es fs : List Event) → Lead s es m → Lead m fs t → Lead s (es ++ fs) t
lead_append s m t [] fs h k = subst (λ (u : State). Lead u fs t) (sym h) k
lead_append s m t (e ∷ es) fs h k = (h.0, h.1, lead_append h.0 m t es fs h.2 k)

pub lead_split : (s t : State) (es fs : List Event) → Lead s (es ++ fs) t
    → (m : State) × Lead s es m × Lead m fs t
lead_split s t [] fs h = (s, refl, h)
lead_split s t (e ∷ es) fs h =
    let rest = lead_split h.0 t es fs h.2 in (rest.0, (h.0, h.1, rest.1), rest.2)

pub journal_from-append : (j : JournalView) (es fs : List Event)
    → journal_from j (es ++ fs) ≡ journal_from (journal_from j es) fs
journal_from-append j [] fs = refl
journal_from-append j (e ∷ es) fs = journal_from-append (journal_past j e) es fs

text_from-append : (j : JournalView) (es fs : List Event)
    → text_from j (es ++ fs) ≡ text_from j es ++ text_from (journal_from j es) fs
text_from-append j [] fs = refl
text_from-append j (e ∷ es) fs =
    ap (λ xs. event_text (journal_past j e) e ++ xs) (text_from-append (journal_past j e) es fs)
    ∙ sym (append_assoc (event_text (journal_past j e) e) (text_from (journal_past j e) es)
    (text_from (journal_from (journal_past j e) es) fs))

has_refusal-push : (es : List Event) (e : Event) → has_refusal (es ++ e ∷ []) ≡ (has_refusal es || refuses e)
has_refusal-push [] e = or-false (refuses e)
has_refusal-push (f ∷ fs) e =
    ap (λ b. refuses f || b) (has_refusal-push fs e)
    ∙ sym (or_assoc (refuses f) (has_refusal fs) (refuses e))

pub commands_in-append : (es fs : List Event) → commands_in (es ++ fs) ≡ commands_in es ++ commands_in fs
commands_in-append [] fs = refl
commands_in-append (Made command r ∷ es) fs = ap (λ xs. command ∷ xs) (commands_in-append es fs)
commands_in-append (Posted x accepted ∷ es) fs = commands_in-append es fs

pushed_at : (es : List Event) (e : Event) → slice_get (es ++ e ∷ []) (length es) ≡ Some e
pushed_at [] e = refl
pushed_at (f ∷ es) e = pushed_at es e

last_pushed : (es : List Event) (e : Event) → slice_get (es ++ e ∷ []) (length (es ++ e ∷ []) - 1) ≡ Some e
last_pushed es e =
    let place : length (es ++ e ∷ []) - 1 ≡ length es = omega (arith, length-append es (e ∷ [])) in
    ap (slice_get (es ++ e ∷ [])) place ∙ pushed_at es e

pub text_pushed : (es : List Event) (e : Event)
    → text_of (es ++ e ∷ []) ≡ text_of es ++ last_text (es ++ e ∷ [])
text_pushed es e =
    let next : journal_after (es ++ e ∷ []) ≡ journal_past (journal_after es) e =
    journal_from-append first_journal es (e ∷ []) in
    let last : last_text (es ++ e ∷ []) ≡ event_text (journal_past (journal_after es) e) e =
    ap (λ (o : Option Event). text_at (journal_after (es ++ e ∷ [])) o) (last_pushed es e)
    ∙ ap (λ (j : JournalView). event_text j e) next in
    text_from-append first_journal es (e ∷ [])
    ∙ ap (λ xs. text_of es ++ xs) (append-nil (event_text (journal_past (journal_after es) e) e) ∙ sym last)

pub text_posted : (es : List Event) (x : Outcome) (accepted : Bool)
    → text_of (es ++ Posted x accepted ∷ []) ≡ text_of es
text_posted es x accepted =
    text_from-append first_journal es (Posted x accepted ∷ []) ∙ append-nil (text_of es)

-- what a session keeps, it keeps by one more event
pub keeps_on : (s t : State) (es : List Event) (e : Event) (refused : Bool) → Keeps s refused es → IsSessionStep s e t
    → Keeps t (refused || refuses e) (es ++ e ∷ [])
keeps_on s t es e refused kept h = record {
  leads = subst (λ most. Lead (first_state most) (es ++ e ∷ []) t) (sym (step_most s t e h))
      (lead_append (first_state s.jobs.most) s t es (e ∷ []) kept.leads (t, h, refl));
  journal_is = step_journal s t e h
      ∙ ap (λ (j : JournalView). journal_past j e) kept.journal_is
      ∙ sym (journal_from-append first_journal es (e ∷ []));
  refused_is = ap (λ b. b || refuses e) kept.refused_is ∙ sym (has_refusal-push es e);
}

pub keeps_posted : (s t : State) (es : List Event) (x : Outcome) (accepted refused : Bool)
    → Keeps s refused es → IsTakenIn s x accepted t → Keeps t refused (es ++ Posted x accepted ∷ [])
keeps_posted s t es x accepted refused kept h =
    subst (λ b. Keeps t b (es ++ Posted x accepted ∷ [])) (or-false refused)
    (keeps_on s t es (Posted x accepted) refused kept h)

pub commands_posted : (es : List Event) (x : Outcome) (accepted : Bool)
    → commands_in (es ++ Posted x accepted ∷ []) ≡ commands_in es
commands_posted es x accepted =
    commands_in-append es (Posted x accepted ∷ []) ∙ append-nil (commands_in es)

pub legal_kept : (s : State) (es : List Event) (refused : Bool) → Keeps s refused es → IsLegal s.jobs.most es
legal_kept s es refused kept = record { state = s; leads = kept.leads }
