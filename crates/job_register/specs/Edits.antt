-- Edits of the pattern and questions about it: the reply to each command, and the journal after it.
use Rattle.std.specs.Prelude.{ℕ, List, Option, None, Some, Ok, Err, unwrap_or, length, nat_eq, if◌then◌else◌}
use Rattle.std.specs.declared.result.Result.{Result}
use Rattle.plane_geometry.specs.declared.Point.{Point}
use Rattle.crease_model.specs.View.{PatternView, empty_on}
use Rattle.crease_model.specs.Sheet.{square_corners}
use Rattle.crease_model.specs.NewSheet.{sheet_of}
use Rattle.crease_model.specs.Rules.{size_of}
use Rattle.crease_store.specs.declared.faults.StoreRefusal.{StoreRefusal}
use Rattle.crease_store.specs.Adding.{add_of}
use Rattle.crease_store.specs.Changed.{delete_of, set_of, clear_of}
use Rattle.crease_store.specs.Merged.{merge_of}
use Rattle.crease_store.specs.Loading.{LoadRefusal, load_of}
use Rattle.undo_journal.specs.Versions.{JournalView, greatest_version, new_journal, committed, undone, redone, current_pattern, greatest_of}
use Rattle.script_lang.specs.declared.block.LoadStop.{LoadStop}
use Rattle.script_lang.specs.declared.block.LoadStop.TheVariants as stop
use Rattle.script_lang.specs.declared.command.Command.{Command}
use Rattle.script_lang.specs.declared.command.Command.TheVariants.{Add, Delete, Set, Merge, Clear, Sheet, Load, Undo, Redo, List as ListCommand, Check, Bad, Fold, Another, Budget, Peek, Wait, Cancel}
use Rattle.script_lang.specs.declared.refusal.LoadCause.TheVariants as cause
use Rattle.script_lang.specs.declared.reply.Reply.{Reply}
use Rattle.script_lang.specs.declared.reply.Reply.TheVariants.{Version, Listed, Checked, Refused}
use Rattle.script_lang.specs.declared.refusal.Refusal.{Refusal}
use Rattle.script_lang.specs.declared.refusal.Refusal.TheVariants as refusal
use Rattle.vertex_checks.specs.Faults.{faults_of}
use Rattle.script_lang.specs.Refusals.{line_refusal, store_refusal}

-- version 0 is the square sheet with nothing on it
unfoldable pub first_journal : JournalView
first_journal = new_journal (empty_on square_corners)

-- a reply, and the journal after it
pub record EditAnswer : Type 0 where
  pub reply : Reply
  pub journal : JournalView

abbrev pub current_pattern_of : JournalView → PatternView
current_pattern_of j = unwrap_or (current_pattern j) (empty_on square_corners)

-- a refusal changes nothing
abbrev pub refusal_answer : JournalView → Refusal → EditAnswer
refusal_answer j r = record { reply = Refused r; journal = j }

-- the journal has changed, and its current version is told
abbrev pub version_answer : JournalView → EditAnswer
version_answer j = record {
  reply = Version j.current (size_of (current_pattern_of j));
  journal = j;
}

-- the pattern becomes a version, unless the last number is taken
abbrev pub committed_answer : JournalView → PatternView → EditAnswer
committed_answer j pattern =
    if nat_eq (greatest_of j) greatest_version then refusal_answer j refusal.Full
    else version_answer (committed j pattern)

abbrev pub change_answer : JournalView → Result PatternView StoreRefusal → EditAnswer
change_answer j (Ok pattern) = committed_answer j pattern
change_answer j (Err refusal) = refusal_answer j (store_refusal refusal)

-- the new sheet with nothing on it
abbrev pub sheet_answer : JournalView → Result (List Point) ℕ → EditAnswer
sheet_answer j (Ok corners) = committed_answer j (empty_on corners)
sheet_answer j (Err corner) = refusal_answer j (refusal.BadSheet corner)

-- how a block that is all added ends
abbrev pub stop_answer : JournalView → LoadStop → PatternView → EditAnswer
stop_answer j stop.Ended pattern = committed_answer j pattern
stop_answer j (stop.Bad number fault) pattern = refusal_answer j (refusal.LoadLine number (cause.Line fault))
stop_answer j stop.Unended pattern = refusal_answer j refusal.LoadUnended

-- a block is refused by its first line that is not added, else by how it ends
abbrev pub load_answer : JournalView → LoadStop → Result PatternView LoadRefusal → EditAnswer
load_answer j end (Ok pattern) = stop_answer j end pattern
load_answer j end (Err refused_line) =
    refusal_answer j (refusal.LoadLine refused_line.number (cause.Add refused_line.refusal))

abbrev pub undo_answer : JournalView → EditAnswer
undo_answer j =
    if nat_eq j.current 0 then refusal_answer j refusal.NothingToUndo else version_answer (undone j)

abbrev pub redone_answer : JournalView → Option JournalView → EditAnswer
redone_answer j None = refusal_answer j refusal.NothingToRedo
redone_answer j (Some next) = version_answer next

-- the answer to a command about the pattern; none to a command about folding jobs
abbrev pub answer : JournalView → Command → Option EditAnswer
answer j (Add kind from to) = Some (change_answer j (add_of (current_pattern_of j) kind from to))
answer j (Delete from to) = Some (change_answer j (delete_of (current_pattern_of j) from to))
answer j (Set kind from to) = Some (change_answer j (set_of (current_pattern_of j) kind from to))
answer j Merge = Some (committed_answer j (merge_of (current_pattern_of j)))
answer j Clear = Some (committed_answer j (clear_of (current_pattern_of j)))
answer j (Sheet corners) = Some (sheet_answer j (sheet_of corners))
answer j (Load lines end) = Some (load_answer j end (load_of (current_pattern_of j) lines))
answer j Undo = Some (undo_answer j)
answer j Redo = Some (redone_answer j (redone j))
answer j ListCommand =
    Some (record { reply = Listed j.current (size_of (current_pattern_of j)); journal = j })
answer j Check = Some (record
    { reply = Checked j.current (length (faults_of (current_pattern_of j))); journal = j })
answer j (Bad fault) = Some (refusal_answer j (line_refusal fault))
answer j Fold = None
answer j (Another job) = None
answer j (Budget budget) = None
answer j (Peek job) = None
answer j (Wait job) = None
answer j (Cancel job) = None
