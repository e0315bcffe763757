-- Outcomes that are right for a job stay right for it.
use Rattle.std.proofs.Common.{◌≡◌, ℕ, zero, suc, ◌-◌, Bool, true, false, cond, eqb, List, [], ◌∷◌, map, Option, Some, None, is_some, slice_get, slice_index_or, slice_set, refl, sym, ◌∙◌, ap, subst, arith, inl, inr}
use Rattle.std.specs.declared.result.Result.TheVariants.{Ok, Err}
use Rattle.std.proofs.lemmas.Bool.{cases_Bool, eqb-true, cases_eq}
use Rattle.std.proofs.lemmas.List.{length-set, get_or-set_same, get_or-set_other}
use Rattle.std.proofs.lemmas.Option.{same_Some, slice_get-get_or, get_or_from_slice_get, slice_get_within}
use Rattle.sign_rules.specs.declared.sign.Sign.{Sign}
use Rattle.sign_rules.specs.Signs.{OrderView}
use Rattle.search_cursor.specs.Place.{SearchPlace, search_place}
use Rattle.worker_split.specs.declared.outcome.Outcome.{Outcome}
use Rattle.worker_split.specs.declared.outcome.End.{End}
use Rattle.worker_split.specs.declared.outcome.End.TheVariants.{Found, Done, Paused as Stopped}
use Rattle.worker_split.specs.declared.piece.Piece.{Piece}
use Rattle.worker_split.specs.declared.answers.JobAnswer.{JobAnswer}
use Rattle.worker_split.specs.declared.answers.JobAnswer.TheVariants as job_answer
use Rattle.worker_split.specs.Tasks.{TaskView, IsRightEnd}
use Rattle.worker_split.specs.Job.{JobView, piece_at, task_told, asked, asked_piece, posted, posted_to, answered_piece, done_before, reopened_end, reopened, after_answer, IsRightFor, IsRightWhereNamed}
use Rattle.fold_jobs.specs.declared.folding_job.FoldingJob.{FoldingJob}
use Rattle.fold_jobs.specs.declared.folding_job.FoldAnswer.TheVariants.{Shown, NoMore, Paused, NotReady}
use Rattle.fold_jobs.specs.Machine.{JobsView, job_at, changed, answered, IsRightIn, IsRightWhereLive}
use Rattle.fold_jobs.specs.Record.{JobsEvent, Open, TooMany, Ask, SetBudget, Answer, Cancel, Post, after_event}
use Rattle.fold_jobs.proofs.Events.{changed-own, changed-other, opened-old}

-- ---- pieces that keep their prefixes

record KeepsPrefix (xs : List Piece) (i : ℕ) (p : Piece) : Type 0 where
  old : Piece
  at : slice_get xs i ≡ Some old
  prefix : old.prefix ≡ p.prefix

abbrev KeepPrefixes : List Piece → List Piece → Type 0
KeepPrefixes xs ys = (i : ℕ) (p : Piece) → slice_get ys i ≡ Some p → KeepsPrefix xs i p

same_prefixes : (xs : List Piece) → KeepPrefixes xs xs
same_prefixes xs i p at = record { old = p; at = at; prefix = refl }

mapped_prefixes : (xs : List Piece) (f : Piece → Piece) → ((p : Piece) → p.prefix ≡ (f p).prefix)
    → KeepPrefixes xs (map f xs)
mapped_prefixes [] f keeps i p at = absurd (cc)
mapped_prefixes (x ∷ xs) f keeps zero p at = record {
  old = x;
  at = refl;
  prefix = keeps x ∙ ap (λ (q : Piece). q.prefix) (same_Some (f x) p at);
}
mapped_prefixes (x ∷ xs) f keeps (suc i) p at =
    let rest = mapped_prefixes xs f keeps i p at in
    record { old = rest.old; at = rest.at; prefix = rest.prefix }

set_prefixes : (xs : List Piece) (k : ℕ) (old new : Piece) → slice_get xs k ≡ Some old
    → old.prefix ≡ new.prefix → KeepPrefixes xs (slice_set xs k new)
set_prefixes xs k old new found keeps i p at = elim (cases_eq i k) [
  | inl same ↦
      let below = slice_get_within xs k old found in
      let own : new ≡ p =
      sym (get_or-set_same xs k new p below) ∙ ap (λ n. slice_index_or (slice_set xs k new) n p) (sym same)
      ∙ get_or_from_slice_get (slice_set xs k new) i p p at in
      record {
        old = old;
        at = ap (slice_get xs) same ∙ found;
        prefix = keeps ∙ ap (λ (q : Piece). q.prefix) own;
      }
  | inr apart ↦
      let below = slice_get_within (slice_set xs k new) i p at in
      let size = length-set xs k new in
      let own = slice_get-get_or xs i p (omega (arith, below, size)) in
      record {
        old = p;
        at = own ∙ ap Some (sym (get_or-set_other xs k i new p apart)
            ∙ get_or_from_slice_get (slice_set xs k new) i p p at);
        prefix = refl;
      }
]

-- ---- one job

right_with : (j : JobView) (ps : List Piece) (a : Option ℕ) (x : Outcome) → KeepPrefixes j.pieces ps
    → IsRightFor j x → IsRightFor (record j { pieces = ps; ask = a }) x
right_with j ps a x keeps right p known job version = by_test (eqb x.piece 0) refl known
  where
    by_test : (b : Bool) → eqb x.piece 0 ≡ b → cond b None (slice_get ps (x.piece - 1)) ≡ Some p
        → IsRightEnd (task_told (record j { pieces = ps; ask = a }) p x) x.end
    by_test true is none = absurd (cc)
    by_test false is found =
        let k = keeps (x.piece - 1) p found in
        let told : List Sign → TaskView = λ prefix.
        record {
          job = j.job;
          version = j.version;
          piece = x.piece;
          rules = j.rules;
          prefix = prefix;
          from = search_place x.from;
          budget = x.budget;
        } in
        subst (λ o. IsRightEnd (told o) x.end) (ap (λ (o : OrderView). o.list) k.prefix)
        (right k.old (ap (λ b. cond b None (slice_get j.pieces (x.piece - 1))) is ∙ k.at) job version)

right_asked : (j : JobView) (budget : ℕ) (x : Outcome) → IsRightFor j x → IsRightFor (asked j budget) x
right_asked j budget x right = by_test (is_some j.ask)
  where
    by_test : (b : Bool)
        → IsRightFor (cond b j (record j { pieces = map (asked_piece budget) j.pieces; ask = Some budget })) x
    by_test true = right
    by_test false = right_with j (map (asked_piece budget) j.pieces) (Some budget) x
        (mapped_prefixes j.pieces (asked_piece budget) (λ p. refl)) right

right_posted : (j : JobView) (y x : Outcome) → IsRightFor j x → IsRightFor (posted j y) x
right_posted j y x right = by_piece (piece_at j y.piece) refl
  where
    same_prefix : (p : Piece) (end : End) → p.prefix ≡ (answered_piece p y.budget end).prefix
    same_prefix p (Found order position) = refl
    same_prefix p Done = refl
    same_prefix p (Stopped position) = refl

    at_place : (b : Bool) (p : Piece) → cond b None (slice_get j.pieces (y.piece - 1)) ≡ Some p
        → slice_get j.pieces (y.piece - 1) ≡ Some p
    at_place true p e = absurd (cc)
    at_place false p e = e

    by_piece : (o : Option Piece) → piece_at j y.piece ≡ o → IsRightFor (posted_to j y o) x
    by_piece None e = right
    by_piece (Some p) e = right_with j
        (slice_set j.pieces (y.piece - 1) (answered_piece p y.budget y.end)) j.ask x
        (set_prefixes j.pieces (y.piece - 1) p (answered_piece p y.budget y.end)
        (at_place (eqb y.piece 0) p e) (same_prefix p y.end)) right

right_answered : (j : JobView) (answer : JobAnswer) (x : Outcome) → IsRightFor j x
    → IsRightFor (after_answer j answer) x
right_answered j (job_answer.NotReady piece) x right = right
right_answered j job_answer.NoMore x right = right_with j j.pieces None x (same_prefixes j.pieces) right
right_answered j job_answer.Paused x right = right_with j j.pieces None x (same_prefixes j.pieces) right
right_answered j (job_answer.Shown order) x right =
    by_piece (slice_get j.pieces (done_before j.pieces)) refl
  where
    by_piece : (o : Option Piece) → slice_get j.pieces (done_before j.pieces) ≡ o
        → IsRightFor (record j { pieces = reopened j.pieces (done_before j.pieces) o; ask = None }) x
    by_piece None e = right_with j j.pieces None x (same_prefixes j.pieces) right
    by_piece (Some p) e = right_with j
        (slice_set j.pieces (done_before j.pieces) (record p { end = reopened_end p.end })) None x
        (set_prefixes j.pieces (done_before j.pieces) p (record p { end = reopened_end p.end }) e refl) right

-- ---- all jobs

right_changed : (s : JobsView) (m : ℕ) (change : FoldingJob → FoldingJob) (x : Outcome) → IsRightIn s x
    → ((k : FoldingJob) → IsRightFor k.state x → IsRightFor (change k).state x)
    → IsRightIn (changed s m change) x
right_changed s m change x (j, found, right) keeps = elim (cases_Bool (eqb m x.job)) [
  | inl own ↦ (
    change j,
    ap (λ n. job_at (changed s n change) x.job) (eqb-true m x.job own)
        ∙ changed-own s x.job change j found,
    keeps j right,
  )
  | inr other ↦ (j, changed-other s m x.job change j other found, right)
]

pub right_stays : (s : JobsView) (e : JobsEvent) (x : Outcome) → IsRightIn s x → IsRightIn (after_event s e) x
right_stays s (Open number version r) x (j, found, right) = (j, opened-old s version r x.job j found, right)
right_stays s TooMany x right = right
right_stays s (Ask m (Ok u)) x right =
    right_changed s m (λ (k : FoldingJob). record k { state = asked k.state s.budget }) x right
    (λ k keeps. right_asked k.state s.budget x keeps)
right_stays s (Ask m (Err refusal)) x right = right
right_stays s (SetBudget budget) x right = right
right_stays s (Answer m (Ok (Shown v n order))) x right =
    right_changed s m (answered (Shown v n order)) x right
    (λ k keeps. right_answered k.state (job_answer.Shown order) x keeps)
right_stays s (Answer m (Ok (NoMore v))) x right =
    right_changed s m (answered (NoMore v)) x right
    (λ k keeps. right_answered k.state job_answer.NoMore x keeps)
right_stays s (Answer m (Ok (Paused v))) x right =
    right_changed s m (answered (Paused v)) x right
    (λ k keeps. right_answered k.state job_answer.Paused x keeps)
right_stays s (Answer m (Ok (NotReady v piece))) x right = right
right_stays s (Answer m (Err refusal)) x right = right
right_stays s (Cancel m (Ok u)) x right =
    right_changed s m (λ (k : FoldingJob). record k { cancelled = true }) x right (λ k keeps. keeps)
right_stays s (Cancel m (Err refusal)) x right = right
right_stays s (Post y true) x right =
    right_changed s y.job (λ (k : FoldingJob). record k { state = posted k.state y }) x right
    (λ k keeps. right_posted k.state y x keeps)
right_stays s (Post y false) x right = right

right_named : (j : JobView) (x : Outcome) → IsRightFor j x → IsRightWhereNamed j x
right_named j x right p known names =
    let task : SearchPlace → TaskView = λ from.
    record {
      job = j.job;
      version = j.version;
      piece = x.piece;
      rules = j.rules;
      prefix = p.prefix.list;
      from = from;
      budget = x.budget;
    } in
    record {
      job = names.job;
      version = names.version;
      piece = refl;
      from = names.from;
      budget = refl;
      end = subst (λ from. IsRightEnd (task from) x.end) names.from (right p known names.job names.version);
    }

pub right_posts : (s : JobsView) (x : Outcome) → IsRightIn s x → IsRightWhereLive s x
right_posts s x (j, found, right) k at live =
    right_named k.state x (subst (λ (d : FoldingJob). IsRightFor d.state x) (same_Some j k (sym found ∙ at)) right)
