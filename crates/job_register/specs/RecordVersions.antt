-- The versions of a record: a number keeps its pattern, and undo brings back the pattern before the change.
use Rattle.std.specs.Prelude.{◌≡◌, ℕ, Bool, true, false, List, [], ◌∷◌, ◌++◌, Option, Some, IsTrue}
use Rattle.crease_model.specs.View.{PatternView}
use Rattle.undo_journal.specs.Versions.{pattern_at, current_pattern}
use Rattle.script_lang.specs.declared.command.Command.{Command}
use Rattle.script_lang.specs.declared.command.Command.TheVariants.{Undo, Redo, List as ListCommand, Check, Bad, Fold, Another, Budget, Peek, Wait, Cancel}
use Rattle.script_lang.specs.declared.reply.Reply.{Reply}
use Rattle.job_register.specs.declared.session.Event.{Event}
use Rattle.job_register.specs.declared.session.Event.TheVariants.{Made}
use Rattle.job_register.specs.Legal.{journal_after, IsLegal, is_refusal}

-- the pattern of a version, once these events have happened
abbrev pub version_in : List Event → ℕ → Option PatternView
version_in es version = pattern_at (journal_after es) version

-- the pattern that is edited, once they have happened
abbrev pub pattern_after : List Event → Option PatternView
pattern_after es = current_pattern (journal_after es)

-- each version of the one record has the same pattern in the other
abbrev pub KeepsVersions : List Event → List Event → Type 0
KeepsVersions old new =
    (version : ℕ) (p : PatternView) → version_in old version ≡ Some p → version_in new version ≡ Some p

-- the command asks for another pattern, and not for one that was there, nor for an answer alone
abbrev pub is_change : Command → Bool
is_change Undo = false
is_change Redo = false
is_change ListCommand = false
is_change Check = false
is_change (Bad fault) = false
is_change Fold = false
is_change (Another job) = false
is_change (Budget budget) = false
is_change (Peek job) = false
is_change (Wait job) = false
is_change (Cancel job) = false
is_change command = true

-- the pattern of a version number never changes, whatever happens later
abbrev pub VersionsStay : Type 0
VersionsStay = (es later : List Event) → KeepsVersions es (es ++ later)

-- after a change and an undo the pattern is the one before the change, piece by piece
abbrev pub UndoBringsBack : Type 0
UndoBringsBack =
    (most : ℕ) (es : List Event) (command : Command) (reply other : Reply)
    → IsLegal most (es ++ Made command reply ∷ Made Undo other ∷ []) → IsTrue (is_change command)
    → is_refusal reply ≡ false
    → pattern_after (es ++ Made command reply ∷ Made Undo other ∷ []) ≡ pattern_after es

-- after an undo and a redo the versions are as before
abbrev pub RedoGoesBack : Type 0
RedoGoesBack =
    (most : ℕ) (es : List Event) (reply other : Reply)
    → IsLegal most (es ++ Made Undo reply ∷ Made Redo other ∷ []) → is_refusal reply ≡ false
    → journal_after (es ++ Made Undo reply ∷ Made Redo other ∷ []) ≡ journal_after es
