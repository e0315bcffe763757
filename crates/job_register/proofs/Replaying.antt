-- Records are determined by their commands, and rows computed by the definitions.
use Rattle.std.proofs.Common.{◌≡◌, ◌-◌, inl, inr, true, false, List, [], ◌∷◌, length, Option, None, Some, refl, sym, ap, ap₂, subst, ◌∙◌, arith}
use Rattle.std.specs.Prelude.{nat_eq}
use Rattle.std.proofs.lemmas.Bool.{cases_eq}
use Rattle.std.proofs.lemmas.Bool.Decides.{nat_tests}
use Rattle.undo_journal.specs.Versions.{greatest_version}
use Rattle.cp_text.specs.NumberText.{magnitude_text, number_text}
use Rattle.cp_text.specs.LineText.{line_text}
use Rattle.std.specs.Fmt.{digits}
use Rattle.plane_geometry.specs.Direction.{direction_of}
use Rattle.crease_model.specs.NewSheet.{sheet_of}
use Rattle.line_split.specs.Cuts.{cuts_of}
use Rattle.line_split.specs.Parts.{parts_of}
use Rattle.crease_store.specs.Adding.{add_of}
use Rattle.crease_store.specs.Changed.{delete_of, set_of}
use Rattle.crease_store.specs.Merged.{is_loose, next_piece, merged_from, merge_of}
use Rattle.crease_store.specs.Loading.{load_of}
use Rattle.job_register.specs.declared.session.Event.{Event}
use Rattle.job_register.specs.declared.session.Event.TheVariants.{Made, Posted}
use Rattle.undo_journal.specs.Versions.{JournalView}
use Rattle.script_lang.specs.declared.command.Command.{Command}
use Rattle.script_lang.specs.declared.command.Command.TheVariants.{Add, Delete, Set, Merge, Clear, Sheet, Load, Undo, Redo, List as ListCommand, Check, Bad, Fold, Another, Budget, Peek, Wait, Cancel}
use Rattle.job_register.specs.Edits.{EditAnswer, answer, first_journal}
use Rattle.job_register.specs.Machine.{State, first_state}
use Rattle.job_register.specs.Legal.{Lead, commands_in, journal_of}
use Rattle.job_register.proofs.Records.{step_journal}
use Rattle.job_register.proofs.Versions.{answer_reply}
use Rattle.job_register.specs.Replay.{is_edit_answer, is_edit, record_from, edits_in, LegalEditsAreReplayed, FirstRow, RedoRow, RefusalRow, MergingRow, SheetRow, LoadRow, DeleteRow, BadRow, FullRow, RisingRow, RisingText}

-- a command about the pattern has an answer in each journal
is_edit_here : (j : JournalView) (command : Command) → is_edit_answer (answer j command) ≡ is_edit command
is_edit_here j (Add kind from to) = refl
is_edit_here j (Delete from to) = refl
is_edit_here j (Set kind from to) = refl
is_edit_here j Merge = refl
is_edit_here j Clear = refl
is_edit_here j (Sheet corners) = refl
is_edit_here j (Load lines end) = refl
is_edit_here j Undo = refl
is_edit_here j Redo = refl
is_edit_here j ListCommand = refl
is_edit_here j Check = refl
is_edit_here j (Bad fault) = refl
is_edit_here j Fold = refl
is_edit_here j (Another job) = refl
is_edit_here j (Budget budget) = refl
is_edit_here j (Peek job) = refl
is_edit_here j (Wait job) = refl
is_edit_here j (Cancel job) = refl

replayed_from : (s t : State) (es : List Event) → Lead s es t
    → edits_in es ≡ record_from s.journal (commands_in (edits_in es))
replayed_from s t [] h = refl
replayed_from s t (Posted x accepted ∷ es) h =
    let same : h.0.journal ≡ s.journal = step_journal s h.0 (Posted x accepted) h.1 in
    subst (λ (j : JournalView). edits_in es ≡ record_from j (commands_in (edits_in es))) same
    (replayed_from h.0 t es h.2)
replayed_from s t (Made command reply ∷ es) h =
    let next : h.0.journal ≡ journal_of s.journal (answer s.journal command) =
    step_journal s h.0 (Made command reply) h.1 in
    let rest : edits_in es
    ≡ record_from (journal_of s.journal (answer s.journal command)) (commands_in (edits_in es)) =
    subst (λ (j : JournalView). edits_in es ≡ record_from j (commands_in (edits_in es))) next
    (replayed_from h.0 t es h.2) in
    by_answer (answer s.journal command) refl rest
  where
    by_answer : (o : Option EditAnswer) → answer s.journal command ≡ o
        → edits_in es ≡ record_from (journal_of s.journal o) (commands_in (edits_in es))
        → edits_in (Made command reply ∷ es)
        ≡ record_from s.journal (commands_in (edits_in (Made command reply ∷ es)))
    by_answer None e rest =
        let no : is_edit command ≡ false = sym (is_edit_here s.journal command) ∙ ap is_edit_answer e in
        rw no rest
    by_answer (Some a) e rest =
        let yes : is_edit command ≡ true = sym (is_edit_here s.journal command) ∙ ap is_edit_answer e in
        let told : reply ≡ a.reply = answer_reply s h.0 command a reply e h.1.2 in
        rw yes (rw e (ap₂ (λ r (fs : List Event). Made command r ∷ fs) told rest))

pub legal_edits_are_replayed : LegalEditsAreReplayed
legal_edits_are_replayed most es legal = replayed_from (first_state most) legal.state es legal.leads

pub first_row : FirstRow
unfolding first_journal add_of direction_of cuts_of parts_of delete_of set_of merge_of is_loose next_piece
    merged_from sheet_of load_of
first_row = refl

pub redo_row : RedoRow
unfolding first_journal add_of direction_of cuts_of parts_of delete_of set_of merge_of is_loose next_piece
    merged_from sheet_of load_of
redo_row = refl

pub refusal_row : RefusalRow
unfolding first_journal add_of direction_of cuts_of parts_of delete_of set_of merge_of is_loose next_piece
    merged_from sheet_of load_of
refusal_row = refl

pub merging_row : MergingRow
unfolding first_journal add_of direction_of cuts_of parts_of delete_of set_of merge_of is_loose next_piece
    merged_from sheet_of load_of
merging_row = refl

pub sheet_row : SheetRow
unfolding first_journal add_of direction_of cuts_of parts_of delete_of set_of merge_of is_loose next_piece
    merged_from sheet_of load_of
sheet_row = refl

pub load_row : LoadRow
unfolding first_journal add_of direction_of cuts_of parts_of delete_of set_of merge_of is_loose next_piece
    merged_from sheet_of load_of
load_row = refl

pub delete_row : DeleteRow
unfolding first_journal add_of direction_of cuts_of parts_of delete_of set_of merge_of is_loose next_piece
    merged_from sheet_of load_of
delete_row = refl

pub bad_row : BadRow
unfolding first_journal add_of direction_of cuts_of parts_of delete_of set_of merge_of is_loose next_piece
    merged_from sheet_of load_of
bad_row = refl

pub full_row : FullRow
full_row j =
    elim (cases_eq (length j.versions - 1) greatest_version) [
      | inl last ↦
          let test : nat_eq (length j.versions - 1) greatest_version ≡ true = grind (arith, nat_tests) in
          rw test ((λ e. last), (λ e. refl))
      | inr room ↦
          let test : nat_eq (length j.versions - 1) greatest_version ≡ false = grind (arith, nat_tests) in
          rw test ((λ e. cc), (λ e. absurd (room e)))
    ]

pub rising_row : RisingRow
unfolding first_journal add_of direction_of cuts_of parts_of delete_of set_of merge_of is_loose next_piece
    merged_from sheet_of load_of
rising_row = refl

pub rising_text : RisingText
unfolding first_journal add_of direction_of cuts_of parts_of delete_of set_of merge_of is_loose next_piece
    merged_from sheet_of load_of number_text magnitude_text line_text digits
rising_text = refl
