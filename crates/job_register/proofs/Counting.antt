-- What one more event adds to the counts of a record, and that right outcomes stay right.
use Rattle.std.proofs.Common.{◌≡◌, ℕ, ◌+◌, ◌≤◌, Bool, true, false, cond, List, [], ◌∷◌, ◌++◌, Option, None, Some, is_some, refl, ap, subst, ◌∙◌, arith}
use Rattle.std.specs.Prelude.{⊤, Ok, Err}
use Rattle.std.specs.declared.result.Result.{Result}
use Rattle.std.proofs.lemmas.List.Sums.{sum_by-append}
use Rattle.worker_split.specs.declared.answers.JobAnswer.{JobAnswer}
use Rattle.worker_split.specs.declared.answers.JobAnswer.TheVariants as job_answer
use Rattle.worker_split.specs.declared.outcome.Outcome.{Outcome}
use Rattle.worker_split.specs.Job.{next_answer, waits_for}
use Rattle.fold_jobs.specs.declared.folding_job.FoldingJob.{FoldingJob}
use Rattle.fold_jobs.specs.declared.refusal.JobRefusal.{JobRefusal}
use Rattle.fold_jobs.specs.declared.refusal.JobRefusal.TheVariants.{NothingAsked}
use Rattle.fold_jobs.specs.Machine.{JobsView, live_job, answer_told, answer_from, needed_from, ask_answer, cancel_answer, IsRightIn}
use Rattle.fold_jobs.specs.Record.{JobsEvent, after_event, jobs_after}
use Rattle.fold_jobs.specs.Laws.{RightOutcomesStay}
use Rattle.script_lang.specs.declared.command.Command.{Command}
use Rattle.script_lang.specs.declared.command.Command.TheVariants.{Add, Delete, Set, Merge, Clear, Sheet, Load, Undo, Redo, List as ListCommand, Check, Bad, Fold, Another, Budget, Peek, Wait, Cancel}
use Rattle.script_lang.specs.declared.reply.Reply.{Reply}
use Rattle.script_lang.specs.declared.reply.Reply.TheVariants as reply
use Rattle.job_register.specs.declared.session.Event.{Event}
use Rattle.job_register.specs.declared.session.Event.TheVariants.{Made, Posted}
use Rattle.job_register.specs.Edits.{EditAnswer, answer}
use Rattle.job_register.specs.Machine.{State, IsEdit, IsFoldReply, IsReady, IsAnswered, ask_reply, answer_reply, cancel_reply}
use Rattle.job_register.specs.Legal.{IsSessionStep}
use Rattle.job_register.specs.Counts.{says_running, is_running, running_replies, is_accepted_outcome, accepted_outcomes, peeks_too_early}
use Rattle.job_register.proofs.JobRecords.{is_quiet, IsQuiet, quiet_answer, told_step}

-- ---- which replies say that no answer is there yet

quiet_reply : (r : Reply) → is_quiet r ≡ true → says_running r ≡ false
quiet_reply (reply.Version version pieces) q = refl
quiet_reply (reply.Listed version pieces) q = refl
quiet_reply (reply.Checked version faults) q = refl
quiet_reply (reply.Refused refusal) q = refl
quiet_reply (reply.Job job version faces pairs) q = refl
quiet_reply (reply.Asked job) q = refl
quiet_reply (reply.Budget budget) q = refl
quiet_reply (reply.Shown job version number order) q = refl
quiet_reply (reply.NoMore job version) q = refl
quiet_reply (reply.Paused job version) q = refl
quiet_reply (reply.Running job version) q = cc
quiet_reply (reply.Cancelled job) q = refl

edit_runs : (s t : State) (o : Option EditAnswer) (r : Reply) → IsQuiet o → IsEdit s o r t
    → says_running r ≡ false
edit_runs s t None r q h = absurd h
edit_runs s t (Some a) r q h = ap says_running h.0 ∙ quiet_reply a.reply q

fold_runs : (s t : State) (r : Reply) → IsFoldReply s r t → says_running r ≡ false
fold_runs s t (reply.Job number version faces pairs) h = refl
fold_runs s t (reply.Refused refusal) h = refl
fold_runs s t (reply.Version version pieces) h = absurd h
fold_runs s t (reply.Listed version pieces) h = absurd h
fold_runs s t (reply.Checked version faults) h = absurd h
fold_runs s t (reply.Asked job) h = absurd h
fold_runs s t (reply.Budget budget) h = absurd h
fold_runs s t (reply.Shown job version number order) h = absurd h
fold_runs s t (reply.NoMore job version) h = absurd h
fold_runs s t (reply.Paused job version) h = absurd h
fold_runs s t (reply.Running job version) h = absurd h
fold_runs s t (reply.Cancelled job) h = absurd h

ask_runs : (job : ℕ) (o : Result ⊤ JobRefusal) → says_running (ask_reply job o) ≡ false
ask_runs job (Ok done) = refl
ask_runs job (Err refused) = refl

cancel_runs : (job : ℕ) (o : Result ⊤ JobRefusal) → says_running (cancel_reply job o) ≡ false
cancel_runs job (Ok done) = refl
cancel_runs job (Err refused) = refl

show_runs : (job : ℕ) (o : Result FoldingJob JobRefusal)
    → says_running (answer_reply job (answer_from o)) ≡ is_some (needed_from o)
show_runs job (Err refused) = refl
show_runs job (Ok j) = by_ask (is_some j.state.ask)
  where
    by_answer : (a : JobAnswer)
        → says_running (answer_reply job (Ok (answer_told j.state.version j.shown a))) ≡ is_some (waits_for a)
    by_answer (job_answer.Shown order) = refl
    by_answer job_answer.NoMore = refl
    by_answer job_answer.Paused = refl
    by_answer (job_answer.NotReady piece) = refl

    by_ask : (b : Bool)
        → says_running (answer_reply job (cond b (Ok (answer_told j.state.version j.shown (next_answer j.state)))
        (Err NothingAsked)))
        ≡ is_some (cond b (waits_for (next_answer j.state)) None)
    by_ask true = by_answer (next_answer j.state)
    by_ask false = refl

answer_runs : (s t : State) (c : Command) (r : Reply) → IsReady s c → IsAnswered s c r t
    → says_running r ≡ peeks_too_early s c
answer_runs s t (Add kind from to) r ready h =
    edit_runs s t (answer s.journal (Add kind from to)) r (quiet_answer s.journal (Add kind from to)) h
answer_runs s t (Delete from to) r ready h =
    edit_runs s t (answer s.journal (Delete from to)) r (quiet_answer s.journal (Delete from to)) h
answer_runs s t (Set kind from to) r ready h =
    edit_runs s t (answer s.journal (Set kind from to)) r (quiet_answer s.journal (Set kind from to)) h
answer_runs s t Merge r ready h = edit_runs s t (answer s.journal Merge) r (quiet_answer s.journal Merge) h
answer_runs s t Clear r ready h = edit_runs s t (answer s.journal Clear) r (quiet_answer s.journal Clear) h
answer_runs s t (Sheet corners) r ready h =
    edit_runs s t (answer s.journal (Sheet corners)) r (quiet_answer s.journal (Sheet corners)) h
answer_runs s t (Load lines end) r ready h =
    edit_runs s t (answer s.journal (Load lines end)) r (quiet_answer s.journal (Load lines end)) h
answer_runs s t Undo r ready h = edit_runs s t (answer s.journal Undo) r (quiet_answer s.journal Undo) h
answer_runs s t Redo r ready h = edit_runs s t (answer s.journal Redo) r (quiet_answer s.journal Redo) h
answer_runs s t ListCommand r ready h =
    edit_runs s t (answer s.journal ListCommand) r (quiet_answer s.journal ListCommand) h
answer_runs s t Check r ready h = edit_runs s t (answer s.journal Check) r (quiet_answer s.journal Check) h
answer_runs s t (Bad fault) r ready h =
    edit_runs s t (answer s.journal (Bad fault)) r (quiet_answer s.journal (Bad fault)) h
answer_runs s t Fold r ready h = fold_runs s t r h
answer_runs s t (Another job) r ready h =
    ap says_running h.0 ∙ ask_runs job (ask_answer s.jobs job)
answer_runs s t (Budget budget) r ready h = ap says_running h.0
answer_runs s t (Peek job) r ready h =
    ap says_running h.0 ∙ show_runs job (live_job s.jobs job)
answer_runs s t (Wait job) r ready h =
    ap says_running h.0 ∙ show_runs job (live_job s.jobs job) ∙ ap (λ (o : Option ℕ). is_some o) ready
answer_runs s t (Cancel job) r ready h =
    ap says_running h.0 ∙ cancel_runs job (cancel_answer s.jobs job)

-- ---- one more event

pub running_made : (s t : State) (es : List Event) (c : Command) (r : Reply) → IsReady s c
    → IsAnswered s c r t
    → running_replies (es ++ Made c r ∷ []) ≡ running_replies es + cond (peeks_too_early s c) 1 0
running_made s t es c r ready h =
    let sum = sum_by-append (λ e. cond (is_running e) 1 0) es (Made c r ∷ []) in
    let own = ap {B = ℕ} (λ b. cond b 1 0) (answer_runs s t c r ready h) in omega (arith, sum, own)

pub running_posted : (es : List Event) (x : Outcome) (accepted : Bool)
    → running_replies (es ++ Posted x accepted ∷ []) ≡ running_replies es
running_posted es x accepted =
    let sum = sum_by-append (λ e. cond (is_running e) 1 0) es (Posted x accepted ∷ []) in omega (arith, sum)

pub accepted_made : (es : List Event) (c : Command) (r : Reply)
    → accepted_outcomes (es ++ Made c r ∷ []) ≡ accepted_outcomes es
accepted_made es c r =
    let sum = sum_by-append (λ e. cond (is_accepted_outcome e) 1 0) es (Made c r ∷ []) in omega (arith, sum)

one_at_most : (b : Bool) → cond b 1 0 ≤ 1
one_at_most true = omega arith
one_at_most false = omega arith

pub accepted_posted : (es : List Event) (x : Outcome) (accepted : Bool)
    → accepted_outcomes (es ++ Posted x accepted ∷ []) ≤ accepted_outcomes es + 1
accepted_posted es x accepted =
    let sum = sum_by-append (λ e. cond (is_accepted_outcome e) 1 0) es (Posted x accepted ∷ []) in
    let one = one_at_most accepted in omega (arith, sum, one)

-- ---- outcomes that are right stay right

right_after : RightOutcomesStay → (s : JobsView) (js : List JobsEvent) (x : Outcome) → IsRightIn s x
    → IsRightIn (jobs_after s js) x
right_after law s [] x right = right
right_after law s (j ∷ js) x right = right_after law (after_event s j) js x (law.stays s j x right)

pub step_keeps_right : RightOutcomesStay → (s t : State) (e : Event) → IsSessionStep s e t → (x : Outcome)
    → IsRightIn s.jobs x → IsRightIn t.jobs x
step_keeps_right law s t e h x right =
    let told = told_step s t e h in
    subst (λ (u : JobsView). IsRightIn u x) told.1.after (right_after law s.jobs told.0 x right)
