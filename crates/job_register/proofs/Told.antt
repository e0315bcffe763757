-- What the definitions say where the answer of the code tells it.
use Rattle.std.proofs.Common.{◌≡◌, ℕ, false, arith, refl, sym, ap, ap₂, subst, ◌∙◌}
use Rattle.std.specs.Prelude.{⊤, Option, None, Some, Err, IsFalse, option_map, unwrap_or}
use Rattle.std.specs.declared.result.Result.{Result}
use Rattle.std.proofs.lemmas.Option.{same_Some}
use Rattle.crease_model.specs.View.{PatternView, empty_on}
use Rattle.crease_model.specs.Sheet.{square_corners}
use Rattle.crease_model.specs.Rules.{size_of}
use Rattle.crease_store.specs.declared.faults.StoreRefusal.{StoreRefusal}
use Rattle.crease_store.specs.Answer.{IsRefusal}
use Rattle.crease_store.specs.Loading.{LoadRefusal, refused_line, IsLoadRefusal}
use Rattle.undo_journal.specs.Versions.{JournalView}
use Rattle.worker_split.specs.declared.outcome.Outcome.{Outcome}
use Rattle.worker_split.specs.declared.outcome.End.{End}
use Rattle.worker_split.specs.declared.outcome.End.TheVariants.{Found, Done, Paused}
use Rattle.worker_split.specs.declared.piece.Piece.{Piece}
use Rattle.worker_split.specs.declared.answers.Taken.{Taken}
use Rattle.worker_split.specs.declared.answers.Taken.TheVariants.{Accepted, Stranger}
use Rattle.worker_split.specs.Job.{piece_at, task_with, NamesTask, NamesTaskOf}
use Rattle.worker_split.specs.Settled.{settled, settled_position, settled_end}
use Rattle.worker_split.specs.Tasks.{TaskView, IsRightEnd, IsRightOutcome}
use Rattle.fold_jobs.specs.declared.folding_job.FoldingJob.{FoldingJob}
use Rattle.fold_jobs.specs.Machine.{JobsView, job_at, is_full, MatchesJob, MatchesIn, IsPosted, IsRightWhereLive}
use Rattle.fold_jobs.specs.Record.{IsRightPostIn}
use Rattle.layer_rules.specs.declared.layering.InstanceFault.{InstanceFault}
use Rattle.layer_rules.specs.declared.layering.InstanceFault.TheVariants as fault
use Rattle.layer_rules.specs.Layering.{IsInstanceFault}
use Rattle.script_lang.specs.declared.reply.Reply.{Reply}
use Rattle.script_lang.specs.declared.refusal.Refusal.{Refusal}
use Rattle.job_register.specs.Edits.{EditAnswer, current_pattern_of}
use Rattle.job_register.specs.Machine.{State, IsEdit, IsFoldRefusal, IsTakenIn, refusal_of_layers}
use Rattle.job_register.specs.Legal.{is_accepted}

pub refusal_told : (o : Option StoreRefusal) (refusal : StoreRefusal)
    (answer : Result PatternView StoreRefusal) → IsRefusal o answer → o ≡ Some refusal → answer ≡ Err refusal
refusal_told o refusal answer told is = subst (λ (t : Option StoreRefusal). IsRefusal t answer) is told

pub load_refusal_told : (number : ℕ) (o : Option StoreRefusal) (refusal : StoreRefusal)
    (answer : Result PatternView LoadRefusal) → IsLoadRefusal number o answer → o ≡ Some refusal
    → answer ≡ Err (refused_line number refusal)
load_refusal_told number o refusal answer told is =
    subst (λ (t : Option StoreRefusal). IsLoadRefusal number t answer) is told

pub size_told : (o : Option PatternView)
    → unwrap_or (option_map size_of o) 0 ≡ size_of (unwrap_or o (empty_on square_corners))
size_told None = omega arith
size_told (Some p) = refl

abbrev pub answer_with : Reply → JournalView → EditAnswer
answer_with reply j = record { reply = reply; journal = j }

abbrev pub state_with : JournalView → JobsView → State
state_with j jobs = record { journal = j; jobs = jobs }

pub edited : (old new : JournalView) (jobs : JobsView) (reply : Reply) (a : EditAnswer)
    → answer_with reply new ≡ a → IsEdit (state_with old jobs) (Some a) reply (state_with new jobs)
edited old new jobs reply a e =
    (ap (λ (b : EditAnswer). b.reply) e, ap (λ (b : EditAnswer). state_with b.journal jobs) e)

pub edit_told : (old new : JournalView) (jobs : JobsView) (reply : Reply) (o : Option EditAnswer)
    → Some (answer_with reply new) ≡ o → IsEdit (state_with old jobs) o reply (state_with new jobs)
edit_told old new jobs reply o e =
    subst (λ (p : Option EditAnswer). IsEdit (state_with old jobs) p reply (state_with new jobs)) e
    (refl, refl)

-- ---- fold

abbrev IsGiven : State → Option Refusal → Type 0
IsGiven s None = ⊤
IsGiven s (Some r) = IsFoldRefusal s r

fault_given : (s : State) (f : InstanceFault) → IsFalse (is_full s.jobs)
    → IsInstanceFault (current_pattern_of s.journal) f → IsGiven s (refusal_of_layers f)
fault_given s (fault.NotConvex at direction) room h = (room, fault.NotConvex at direction, refl, h)
fault_given s (fault.TooManyFaces faces) room h = (room, fault.TooManyFaces faces, refl, h)
fault_given s (fault.Unreached face) room h = (room, fault.Unreached face, refl, h)
fault_given s (fault.DoesNotClose piece) room h = (room, fault.DoesNotClose piece, refl, h)
fault_given s (fault.FoldRange face) room h = (room, fault.FoldRange face, refl, h)
fault_given s (fault.TooManyLines lines) room h = (room, fault.TooManyLines lines, refl, h)
fault_given s (fault.TooManyPairs pairs) room h = (room, fault.TooManyPairs pairs, refl, h)
fault_given s fault.Memory room h = tt

pub fold_refused : (s : State) (f : InstanceFault) (r : Refusal) → IsFalse (is_full s.jobs)
    → IsInstanceFault (current_pattern_of s.journal) f → refusal_of_layers f ≡ Some r → IsFoldRefusal s r
fold_refused s f r room h e = subst (IsGiven s) e (fault_given s f room h)

-- ---- outcomes that lose their room

pub settled_twice : (x : Outcome) → settled (settled x) ≡ settled x
settled_twice x = ap (λ end. record x { from = settled_position x.from; end = end }) (twice x.end)
  where
    twice : (end : End) → settled_end (settled_end end) ≡ settled_end end
    twice (Found order position) = refl
    twice Done = refl
    twice (Paused position) = refl

pub matches_settled : (s : JobsView) (x : Outcome) → MatchesIn s x → MatchesIn s (settled x)
matches_settled s x h = by_job (job_at s x.job) h
  where
    by_piece : (j : FoldingJob) (o : Option Piece) → NamesTaskOf j.state o x → NamesTaskOf j.state o (settled x)
    by_piece j None h = absurd h
    by_piece j (Some p) h =
        record { job = h.job; version = h.version; unanswered = h.unanswered; from = h.from }

    by_job : (o : Option FoldingJob) → MatchesJob o x → MatchesJob o (settled x)
    by_job None h = absurd h
    by_job (Some j) h = (h.0, by_piece j (piece_at j.state x.piece) h.1)

right_settled : (t : TaskView) (x : Outcome) → IsRightOutcome t x → IsRightOutcome t (settled x)
right_settled t x h = record {
  job = h.job;
  version = h.version;
  piece = h.piece;
  from = h.from;
  budget = h.budget;
  end = end_settled t x.end h.end;
}
  where
    end_settled : (t : TaskView) (end : End) → IsRightEnd t end → IsRightEnd t (settled_end end)
    end_settled t (Found order position) k = k
    end_settled t Done k = k
    end_settled t (Paused position) k = k

pub live_settled : (s : JobsView) (x : Outcome) → IsRightWhereLive s x → IsRightWhereLive s (settled x)
live_settled s x h j found live p at named =
    let before : NamesTask j.state p x =
    record { job = named.job; version = named.version; unanswered = named.unanswered; from = named.from } in
    right_settled (task_with j.state x.piece p x.budget) x (h j found live p at before)

-- an outcome that matches, and is right where it is named, is right for the last task of its piece
pub right_post : (s : JobsView) (x : Outcome) → MatchesIn s x → IsRightWhereLive s x → IsRightPostIn s x
right_post s x matches right j found p at = by_job (job_at s x.job) refl matches
  where
    by_piece : (o : Option Piece) → piece_at j.state x.piece ≡ o → NamesTaskOf j.state o x
        → j.cancelled ≡ false → IsRightOutcome (task_with j.state x.piece p x.budget) x
    by_piece None e named live = absurd named
    by_piece (Some q) e named live =
        let same : q ≡ p = same_Some q p (sym e ∙ at) in
        right j found live p at (subst (λ (d : Piece). NamesTask j.state d x) same named)

    by_job : (o : Option FoldingJob) → job_at s x.job ≡ o → MatchesJob o x
        → IsRightOutcome (task_with j.state x.piece p x.budget) x
    by_job None e h = absurd h
    by_job (Some k) e h =
        let same : k ≡ j = same_Some k j (sym e ∙ found) in
        let here : MatchesJob (Some j) x = subst (λ (d : FoldingJob). MatchesJob (Some d) x) same h in
        by_piece (piece_at j.state x.piece) refl here.1 here.0

-- what a post is to the session
pub post_taken : (s t : State) (x : Outcome) (taken : Taken) → IsRightWhereLive s.jobs x
    → IsPosted s.jobs x taken t.jobs → t.journal ≡ s.journal → IsTakenIn s x (is_accepted taken) t
post_taken s t x Accepted right posted same = (
  posted.0,
  right_post s.jobs x posted.0 right,
  ap₂ (λ (j : JournalView) (jobs : JobsView). state_with j jobs) same posted.1,
)
post_taken s t x (Stranger kept came) right posted same =
    (posted.0, ap₂ (λ (j : JournalView) (jobs : JobsView). state_with j jobs) same posted.3)

-- a matching outcome is accepted
pub accepted_where_matching : (old new : JobsView) (x : Outcome) (taken : Taken) → IsPosted old x taken new
    → MatchesIn old x → taken ≡ Accepted
accepted_where_matching old new x Accepted posted h = refl
accepted_where_matching old new x (Stranger kept came) posted h = absurd (posted.0 h)
