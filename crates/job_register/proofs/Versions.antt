-- A version keeps its pattern through each answer of the machine, and undo brings back the pattern before a change.
use Rattle.std.proofs.Common.{◌≡◌, ℕ, ◌-◌, ◌<◌, inl, inr, true, false, List, [], ◌∷◌, length, Option, None, Some, refl, ap, sym, ◌∙◌, arith, subst}
use Rattle.std.specs.Prelude.{Ok, Err, nat_eq}
use Rattle.std.specs.declared.result.Result.{Result}
use Rattle.std.specs.Prelude.{option_map, unwrap_or}
use Rattle.std.proofs.Common.{get_or}
use Rattle.std.proofs.lemmas.Option.{slice_get-get_or}
use Rattle.std.proofs.lemmas.Bool.{cases_eq}
use Rattle.std.proofs.lemmas.Bool.Decides.{nat_tests}
use Rattle.plane_geometry.specs.declared.Point.{Point}
use Rattle.crease_model.specs.View.{PatternView, empty_on}
use Rattle.crease_model.specs.Sheet.{square_corners}
use Rattle.crease_model.specs.NewSheet.{sheet_of}
use Rattle.crease_store.specs.declared.faults.StoreRefusal.{StoreRefusal}
use Rattle.crease_store.specs.Adding.{add_of}
use Rattle.crease_store.specs.Changed.{delete_of, set_of, clear_of}
use Rattle.crease_store.specs.Merged.{merge_of}
use Rattle.crease_store.specs.Loading.{LoadRefusal, load_of}
use Rattle.undo_journal.specs.Versions.{Version, JournalView, greatest_version, committed, undone, redone, pattern_at, current_pattern, KeepsPatterns}
use Rattle.undo_journal.specs.Invariant.{IsJournal}
use Rattle.undo_journal.specs.JournalLaws.{committed_keeps, committed_taken_back, redone_keeps, IsJournal-opened, IsJournal-committed, IsJournal-undone, IsJournal-redone}
use Rattle.script_lang.specs.declared.block.LoadStop.{LoadStop}
use Rattle.script_lang.specs.declared.block.LoadStop.TheVariants as stop
use Rattle.script_lang.specs.declared.command.Command.{Command}
use Rattle.script_lang.specs.declared.command.Command.TheVariants.{Add, Delete, Set, Merge, Clear, Sheet, Load, Undo, Redo, List as ListCommand, Check, Bad, Fold, Another, Budget, Peek, Wait, Cancel}
use Rattle.script_lang.specs.declared.reply.Reply.{Reply}
use Rattle.job_register.specs.declared.session.Event.{Event}
use Rattle.job_register.specs.declared.session.Event.TheVariants.{Made, Posted}
use Rattle.job_register.specs.Edits.{EditAnswer, first_journal, current_pattern_of, committed_answer, change_answer, sheet_answer, stop_answer, load_answer, undo_answer, redone_answer, answer}
use Rattle.job_register.specs.Machine.{State, first_state, IsEdit, IsAnswered}
use Rattle.job_register.specs.Legal.{journal_of, journal_past, journal_from, journal_after, is_refusal}
use Rattle.job_register.specs.RecordVersions.{is_change, VersionsStay, UndoBringsBack, RedoGoesBack}
use Rattle.job_register.proofs.Records.{journal_from-append, lead_split, lead_journal}

-- ---- what an answer does to the journal

record IsMove (old new : JournalView) : Type 0 where
  sound : IsJournal old → IsJournal new
  keeps : KeepsPatterns old new

stays : (j : JournalView) → IsMove j j
stays j = record { sound = λ h. h; keeps = λ v p e. e }

both_steps : (i j k : JournalView) → IsMove i j → IsMove j k → IsMove i k
both_steps i j k h h' =
    record { sound = λ sound. h'.sound (h.sound sound); keeps = λ v p e. h'.keeps v p (h.keeps v p e) }

-- the answer is a commit of some pattern, or a refusal that changes nothing
data IsCommit (j : JournalView) : EditAnswer → Type 0 where
  commits : (a : EditAnswer) (p : PatternView) → a.journal ≡ committed j p
      → (IsJournal j → IsJournal (committed j p)) → IsCommit j a
  refuses : (a : EditAnswer) → a.journal ≡ j → is_refusal a.reply ≡ true → IsCommit j a

version_commits : (j : JournalView) (p : PatternView) → IsCommit j (committed_answer j p)
version_commits j p =
    elim (cases_eq (length j.versions - 1) greatest_version) [
      | inl last ↦
          let test : nat_eq (length j.versions - 1) greatest_version ≡ true = grind (arith, nat_tests) in
          rw test (refuses _ refl refl)
      | inr room ↦
          let test : nat_eq (length j.versions - 1) greatest_version ≡ false = grind (arith, nat_tests) in
          rw test (commits _ p refl (λ h. IsJournal-committed j p h (omega (arith, h.most))))
    ]

change_commits : (j : JournalView) (r : Result PatternView StoreRefusal) → IsCommit j (change_answer j r)
change_commits j (Ok p) = version_commits j p
change_commits j (Err fault) = refuses _ refl refl

sheet_commits : (j : JournalView) (r : Result (List Point) ℕ) → IsCommit j (sheet_answer j r)
sheet_commits j (Ok corners) = version_commits j (empty_on corners)
sheet_commits j (Err corner) = refuses _ refl refl

stop_commits : (j : JournalView) (end : LoadStop) (p : PatternView) → IsCommit j (stop_answer j end p)
stop_commits j stop.Ended p = version_commits j p
stop_commits j (stop.Bad number fault) p = refuses _ refl refl
stop_commits j stop.Unended p = refuses _ refl refl

load_commits : (j : JournalView) (end : LoadStop) (r : Result PatternView LoadRefusal)
    → IsCommit j (load_answer j end r)
load_commits j end (Ok p) = stop_commits j end p
load_commits j end (Err fault) = refuses _ refl refl

-- the command has an answer, which is a commit
record IsChange (j : JournalView) (o : Option EditAnswer) : Type 0 where
  answer_is : EditAnswer
  told : o ≡ Some answer_is
  commit : IsCommit j answer_is

change_by : (j : JournalView) (a : EditAnswer) → IsCommit j a → IsChange j (Some a)
change_by j a h = record { answer_is = a; told = refl; commit = h }

changes : (j : JournalView) (command : Command) → is_change command ≡ true → IsChange j (answer j command)
changes j (Add kind from to) h =
    change_by j _ (change_commits j (add_of (current_pattern_of j) kind from to))
changes j (Delete from to) h = change_by j _ (change_commits j (delete_of (current_pattern_of j) from to))
changes j (Set kind from to) h =
    change_by j _ (change_commits j (set_of (current_pattern_of j) kind from to))
changes j Merge h = change_by j _ (version_commits j (merge_of (current_pattern_of j)))
changes j Clear h = change_by j _ (version_commits j (clear_of (current_pattern_of j)))
changes j (Sheet corners) h = change_by j _ (sheet_commits j (sheet_of corners))
changes j (Load lines end) h =
    change_by j _ (load_commits j end (load_of (current_pattern_of j) lines))
changes j Undo h = absurd (cc)
changes j Redo h = absurd (cc)
changes j ListCommand h = absurd (cc)
changes j Check h = absurd (cc)
changes j (Bad fault) h = absurd (cc)
changes j Fold h = absurd (cc)
changes j (Another job) h = absurd (cc)
changes j (Budget budget) h = absurd (cc)
changes j (Peek job) h = absurd (cc)
changes j (Wait job) h = absurd (cc)
changes j (Cancel job) h = absurd (cc)

commit_step : (j : JournalView) (a : EditAnswer) → IsCommit j a → IsMove j a.journal
commit_step j a (commits a' p e sound) =
    subst (IsMove j) (sym e) (record { sound = sound; keeps = committed_keeps j p })
commit_step j a (refuses a' e h) = subst (IsMove j) (sym e) (stays j)

change_step : (j : JournalView) (o : Option EditAnswer) → IsChange j o → IsMove j (journal_of j o)
change_step j o h =
    subst (λ (p : Option EditAnswer). IsMove j (journal_of j p)) (sym h.told) (commit_step j h.answer_is h.commit)

undo_step : (j : JournalView) → IsMove j (undo_answer j).journal
undo_step j =
    elim (cases_eq j.current 0) [
      | inl first ↦
          let test : nat_eq j.current 0 ≡ true = grind (arith, nat_tests) in
          rw test (stays j)
      | inr later ↦
          let test : nat_eq j.current 0 ≡ false = grind (arith, nat_tests) in
          rw test (record { sound = λ h. IsJournal-undone j h (omega arith); keeps = λ v p e. e })
    ]

redo_step : (j : JournalView) (o : Option JournalView) → redone j ≡ o → IsMove j (redone_answer j o).journal
redo_step j None e = stays j
redo_step j (Some next) e =
    record { sound = λ h. IsJournal-redone j next h e; keeps = redone_keeps j next e }

step_of : (j : JournalView) (command : Command) → IsMove j (journal_of j (answer j command))
step_of j (Add kind from to) = change_step j _ (changes j (Add kind from to) refl)
step_of j (Delete from to) = change_step j _ (changes j (Delete from to) refl)
step_of j (Set kind from to) = change_step j _ (changes j (Set kind from to) refl)
step_of j Merge = change_step j _ (changes j Merge refl)
step_of j Clear = change_step j _ (changes j Clear refl)
step_of j (Sheet corners) = change_step j _ (changes j (Sheet corners) refl)
step_of j (Load lines end) = change_step j _ (changes j (Load lines end) refl)
step_of j Undo = undo_step j
step_of j Redo = redo_step j (redone j) refl
step_of j ListCommand = stays j
step_of j Check = stays j
step_of j (Bad fault) = stays j
step_of j Fold = stays j
step_of j (Another job) = stays j
step_of j (Budget budget) = stays j
step_of j (Peek job) = stays j
step_of j (Wait job) = stays j
step_of j (Cancel job) = stays j

past : (j : JournalView) (e : Event) → IsMove j (journal_past j e)
past j (Made command reply) = step_of j command
past j (Posted x accepted) = stays j

steps_of : (j : JournalView) (es : List Event) → IsMove j (journal_from j es)
steps_of j [] = stays j
steps_of j (e ∷ es) =
    both_steps j (journal_past j e) (journal_from (journal_past j e) es) (past j e)
    (steps_of (journal_past j e) es)

first_sound : IsJournal first_journal
unfolding first_journal
first_sound = IsJournal-opened (empty_on square_corners)

sound_after : (es : List Event) → IsJournal (journal_after es)
sound_after es = (steps_of first_journal es).sound first_sound

-- the current version of a record is there
pub current_there : (es : List Event) (j : JournalView) → j ≡ journal_after es
    → pattern_at j j.current ≡ Some (current_pattern_of j)
current_there es j here =
    let sound : IsJournal j = subst IsJournal (sym here) (sound_after es) in
    let inside : j.current < length j.versions = omega (arith, sound.current) in
    let first : Version = record { pattern = empty_on square_corners; parent = 0 } in
    let version : Version = get_or j.versions j.current first in
    let found : pattern_at j j.current ≡ Some version.pattern =
    ap (option_map (λ (v : Version). v.pattern)) (slice_get-get_or j.versions j.current first inside) in
    found ∙ ap (λ (o : Option PatternView). Some (unwrap_or o (empty_on square_corners))) (sym found)

-- ---- the laws

pub versions_stay : VersionsStay
versions_stay es later version p e =
    ap (λ (j : JournalView). pattern_at j version) (journal_from-append first_journal es later)
    ∙ (steps_of (journal_after es) later).keeps version p e

edit_reply : (s t : State) (o : Option EditAnswer) (a : EditAnswer) (r : Reply) → o ≡ Some a → IsEdit s o r t
    → r ≡ a.reply
edit_reply s t o a r e h = (subst (λ (p : Option EditAnswer). IsEdit s p r t) e h).0

-- where the command is about the pattern, its reply is that of its answer
pub answer_reply : (s t : State) (command : Command) (a : EditAnswer) (r : Reply)
    → answer s.journal command ≡ Some a → IsAnswered s command r t → r ≡ a.reply
answer_reply s t (Add kind from to) a r e h = edit_reply s t _ a r e h
answer_reply s t (Delete from to) a r e h = edit_reply s t _ a r e h
answer_reply s t (Set kind from to) a r e h = edit_reply s t _ a r e h
answer_reply s t Merge a r e h = edit_reply s t _ a r e h
answer_reply s t Clear a r e h = edit_reply s t _ a r e h
answer_reply s t (Sheet corners) a r e h = edit_reply s t _ a r e h
answer_reply s t (Load lines end) a r e h = edit_reply s t _ a r e h
answer_reply s t Undo a r e h = edit_reply s t _ a r e h
answer_reply s t Redo a r e h = edit_reply s t _ a r e h
answer_reply s t ListCommand a r e h = edit_reply s t _ a r e h
answer_reply s t Check a r e h = edit_reply s t _ a r e h
answer_reply s t (Bad fault) a r e h = edit_reply s t _ a r e h
answer_reply s t Fold a r e h = cc
answer_reply s t (Another job) a r e h = cc
answer_reply s t (Budget budget) a r e h = cc
answer_reply s t (Peek job) a r e h = cc
answer_reply s t (Wait job) a r e h = cc
answer_reply s t (Cancel job) a r e h = cc

committed_back : (j : JournalView) (a : EditAnswer) → IsJournal j → IsCommit j a → is_refusal a.reply ≡ false
    → current_pattern (undo_answer a.journal).journal ≡ current_pattern j
committed_back j a sound (refuses a' e h) accepted = cc
committed_back j a sound (commits a' p e kept) accepted =
    let below : j.current < length j.versions = omega (arith, sound.current) in
    let later : nat_eq (length j.versions) 0 ≡ false = grind (arith, nat_tests) in
    let back : (undo_answer (committed j p)).journal ≡ undone (committed j p) = rw later refl in
    ap (λ (k : JournalView). current_pattern (undo_answer k).journal) e
    ∙ ap current_pattern back
    ∙ committed_taken_back j p below

pub undo_brings_back : UndoBringsBack
undo_brings_back most es command reply other legal change accepted =
    let j = journal_after es in
    let two : List Event = Made command reply ∷ Made Undo other ∷ [] in
    let parts = lead_split (first_state most) legal.state es two legal.leads in
    let s : State = parts.0 in
    let here : s.journal ≡ j = lead_journal (first_state most) s es parts.1 in
    let made = changes j command change in
    let a = made.answer_is in
    let told : answer s.journal command ≡ Some a =
    ap (λ (k : JournalView). answer k command) here ∙ made.told in
    let step = parts.2 in
    let reply_is : reply ≡ a.reply = answer_reply s step.0 command a reply told step.1.2 in
    let quiet : is_refusal a.reply ≡ false = ap is_refusal (sym reply_is) ∙ accepted in
    let next : journal_past j (Made command reply) ≡ a.journal = ap (journal_of j) made.told in
    ap current_pattern (journal_from-append first_journal es two)
    ∙ ap (λ (k : JournalView). current_pattern (undo_answer k).journal) next
    ∙ committed_back j a (sound_after es) made.commit quiet

undone_again : (j : JournalView) → is_refusal (undo_answer j).reply ≡ false
    → (redone_answer (undo_answer j).journal (redone (undo_answer j).journal)).journal ≡ j
undone_again j accepted =
    elim (cases_eq j.current 0) [
      | inl first ↦
          let test : nat_eq j.current 0 ≡ true = grind (arith, nat_tests) in
          let never : true ≡ false = rw test at accepted in cc
      | inr later ↦
          let test : nat_eq j.current 0 ≡ false = grind (arith, nat_tests) in
          rw test refl
    ]

pub redo_goes_back : RedoGoesBack
redo_goes_back most es reply other legal accepted =
    let j = journal_after es in
    let two : List Event = Made Undo reply ∷ Made Redo other ∷ [] in
    let parts = lead_split (first_state most) legal.state es two legal.leads in
    let s : State = parts.0 in
    let here : s.journal ≡ j = lead_journal (first_state most) s es parts.1 in
    let step = parts.2 in
    let reply_is : reply ≡ (undo_answer s.journal).reply = step.1.2.0 in
    let quiet : is_refusal (undo_answer j).reply ≡ false =
    ap (λ (k : JournalView). is_refusal (undo_answer k).reply) (sym here) ∙ ap is_refusal (sym reply_is)
    ∙ accepted in
    journal_from-append first_journal es two ∙ undone_again j quiet
