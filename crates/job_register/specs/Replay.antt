-- The record that the machine makes of a list of commands.
use Rattle.std.specs.Prelude.{◌≡◌, ◌↔◌, ℕ, Bool, true, false, if◌then◌else◌, Option, None, Some, pos, negsuc, List, [], ◌∷◌, ◌++◌, codes}
use Rattle.std.proofs.Common.{arith}
use Rattle.surd_number.specs.declared.Surd.{Surd}
use Rattle.surd_number.specs.Stored.{IsStored}
use Rattle.surd_number.specs.Whole.{whole_surd}
use Rattle.plane_geometry.specs.declared.Point.{Point}
use Rattle.script_lang.specs.declared.command.Command.{Command}
use Rattle.script_lang.specs.declared.command.Command.TheVariants.{Add, Delete, Set, Merge, Clear, Sheet, Load, Undo, Redo, List as ListCommand, Bad}
use Rattle.crease_model.specs.declared.Kind.TheVariants.{Edge, Mountain, Valley}
use Rattle.crease_model.specs.Sheet.{whole_point}
use Rattle.crease_store.specs.declared.faults.StoreRefusal.TheVariants.{BadDirection}
use Rattle.crease_store.specs.declared.loading.LoadLine.{LoadLine}
use Rattle.cp_text.specs.declared.line.LineFault.TheVariants as line_fault
use Rattle.script_lang.specs.declared.block.LoadStop.TheVariants.{Ended, Unended}
use Rattle.script_lang.specs.declared.refusal.LoadCause.TheVariants as cause
use Rattle.script_lang.specs.declared.reply.Reply.{Reply}
use Rattle.script_lang.specs.declared.reply.Reply.TheVariants.{Version, Listed, Refused}
use Rattle.script_lang.specs.declared.refusal.Refusal.TheVariants as refusal
use Rattle.job_register.specs.declared.session.Event.{Event}
use Rattle.job_register.specs.declared.session.Event.TheVariants.{Made, Posted}
use Rattle.undo_journal.specs.Versions.{JournalView, greatest_version, greatest_of}
use Rattle.crease_store.specs.Changed.{clear_of}
use Rattle.job_register.specs.Edits.{EditAnswer, first_journal, answer, committed_answer, current_pattern_of}
use Rattle.job_register.specs.Legal.{IsLegal, commands_in, journal_of}
use Rattle.job_register.specs.Text.{text_of}

abbrev pub is_edit_answer : Option EditAnswer → Bool
is_edit_answer None = false
is_edit_answer (Some a) = true

-- the command is about the pattern, and not about folding jobs
abbrev pub is_edit : Command → Bool
is_edit command = is_edit_answer (answer first_journal command)

abbrev pub event_by : Command → Option EditAnswer → List Event
event_by command None = []
event_by command (Some a) = Made command a.reply ∷ []

abbrev pub record_from : JournalView → List Command → List Event
record_from j [] = []
record_from j (command ∷ commands) =
    event_by command (answer j command) ++ record_from (journal_of j (answer j command)) commands

-- the record that the machine makes of commands about the pattern
abbrev pub record_of : List Command → List Event
record_of commands = record_from first_journal commands

-- the events in which a command about the pattern is answered
abbrev pub edits_in : List Event → List Event
edits_in [] = []
edits_in (Made command reply ∷ es) = if is_edit command then Made command reply ∷ edits_in es else edits_in es
edits_in (Posted x accepted ∷ es) = edits_in es

-- whatever folding jobs do meanwhile, the edits of a legal record are those that the machine makes of their commands
abbrev pub LegalEditsAreReplayed : Type 0
LegalEditsAreReplayed =
    (most : ℕ) (es : List Event) → IsLegal most es → edits_in es ≡ record_of (commands_in (edits_in es))

-- ---- rows worked by hand, which the definitions compute

-- the mountain at x = 0 from border to border, and the valley there
abbrev pub mountain : Command
mountain = Add Mountain (whole_point (pos 0) (negsuc 199)) (whole_point (pos 0) (pos 200))

abbrev pub valley : Command
valley = Add Valley (whole_point (pos 0) (negsuc 199)) (whole_point (pos 0) (pos 200))

abbrev pub replies_in : List Event → List Reply
replies_in [] = []
replies_in (Made command reply ∷ es) = reply ∷ replies_in es
replies_in (Posted x accepted ∷ es) = replies_in es

-- the replies to these commands
abbrev pub replies_to : List Command → List Reply
replies_to commands = replies_in (record_of commands)

-- undo goes back, redo comes again, and the list is of the current version
abbrev pub FirstRow : Type 0
FirstRow = replies_to (mountain ∷ Undo ∷ Redo ∷ ListCommand ∷ [])
    ≡ Version 1 1 ∷ Version 0 0 ∷ Version 1 1 ∷ Listed 1 1 ∷ []

-- a change after an undo empties the redo list
abbrev pub RedoRow : Type 0
RedoRow =
    replies_to (mountain ∷ Undo ∷ valley ∷ Undo ∷ Redo ∷ Redo ∷ [])
    ≡ Version 1 1 ∷ Version 0 0 ∷ Version 2 1 ∷ Version 0 0 ∷ Version 2 1 ∷ Refused refusal.NothingToRedo ∷ []

-- each refusal of a line to add, and of a piece to take away
abbrev pub RefusalRow : Type 0
RefusalRow =
    replies_to (Add Mountain (whole_point (pos 0) (pos 0)) (whole_point (pos 0) (pos 0))
    ∷ Add Valley (whole_point (pos 0) (pos 0)) (whole_point (pos 100) (pos 50))
    ∷ Add Edge (whole_point (pos 0) (pos 0)) (whole_point (pos 100) (pos 0))
    ∷ Add Valley (whole_point (pos 0) (pos 0)) (whole_point (pos 300) (pos 0))
    ∷ Add Valley (whole_point (negsuc 199) (negsuc 199)) (whole_point (pos 200) (negsuc 199))
    ∷ Delete (whole_point (pos 0) (pos 0)) (whole_point (pos 1) (pos 0)) ∷ [])
    ≡ Refused refusal.ZeroLength ∷ Refused refusal.BadDirection ∷ Refused refusal.EdgeOffBorder ∷ Refused
    refusal.OutsideSheet ∷ Refused refusal.OnBorder ∷ Refused refusal.NoSuchPiece ∷ []

-- the newest kind wins where a crease lies on another; set and merge make one piece of it again
abbrev pub MergingRow : Type 0
MergingRow =
    replies_to (mountain
    ∷ Add Valley (whole_point (pos 0) (negsuc 99)) (whole_point (pos 0) (pos 100))
    ∷ Set Mountain (whole_point (pos 0) (negsuc 99)) (whole_point (pos 0) (pos 100))
    ∷ Merge ∷ Clear ∷ [])
    ≡ Version 1 1 ∷ Version 2 3 ∷ Version 3 3 ∷ Version 4 1 ∷ Version 5 0 ∷ []

-- a new sheet, its corners counterclockwise, and what is refused
abbrev pub SheetRow : Type 0
SheetRow =
    replies_to (Sheet (whole_point (pos 0) (pos 0) ∷ whole_point (pos 0) (pos 100) ∷ whole_point (pos 100)
    (pos 0) ∷ [])
    ∷ Sheet (whole_point (pos 0) (pos 0) ∷ whole_point (pos 100) (pos 0) ∷ whole_point (pos 0) (pos 100) ∷ [])
    ∷ Add Mountain (whole_point (pos 0) (pos 0)) (whole_point (pos 50) (pos 50)) ∷ [])
    ≡ Refused (refusal.BadSheet 1) ∷ Version 1 0 ∷ Version 2 1 ∷ []

abbrev pub line_of : ℕ → Point → Point → LoadLine
line_of number from to = record { number = number; kind = Mountain; from = from; to = to }

-- a block is one version, or none
abbrev pub LoadRow : Type 0
LoadRow =
    replies_to (Load (line_of 1 (whole_point (pos 0) (negsuc 199)) (whole_point (pos 0) (pos 200)) ∷ line_of 2
    (whole_point (pos 0) (pos 0)) (whole_point (pos 100) (pos 50)) ∷ []) Ended
    ∷ Load (line_of 1 (whole_point (pos 0) (negsuc 199)) (whole_point (pos 0) (pos 200)) ∷ []) Unended
    ∷ Load (line_of 1 (whole_point (pos 0) (negsuc 199)) (whole_point (pos 0) (pos 200)) ∷ []) Ended ∷ [])
    ≡ Refused (refusal.LoadLine 2 (cause.Add BadDirection)) ∷ Refused refusal.LoadUnended ∷ Version 1 1 ∷ []

-- a piece that is taken away is there no more
abbrev pub DeleteRow : Type 0
DeleteRow =
    replies_to (mountain
    ∷ Delete (whole_point (pos 0) (pos 200)) (whole_point (pos 0) (negsuc 199))
    ∷ Delete (whole_point (pos 0) (pos 200)) (whole_point (pos 0) (negsuc 199)) ∷ [])
    ≡ Version 1 1 ∷ Version 2 0 ∷ Refused refusal.NoSuchPiece ∷ []

-- a bad line is refused by its fault, and changes nothing
abbrev pub BadRow : Type 0
BadRow =
    replies_to (mountain ∷ Bad line_fault.UnknownWord ∷ Bad (line_fault.NotExact 2) ∷ ListCommand ∷ [])
    ≡ Version 1 1 ∷ Refused refusal.UnknownWord ∷ Refused (refusal.NotExact 2) ∷ Listed 1 1 ∷ []

-- a change that is not refused otherwise is refused exactly where the last version number is taken, in any state
abbrev pub FullRow : Type 0
FullRow = (j : JournalView)
    → ((committed_answer j (clear_of (current_pattern_of j))).reply ≡ Refused refusal.Full)
    ↔ (greatest_of j ≡ greatest_version)

pub root_height_is_stored : IsStored (record { a = negsuc 599; b = pos 400; k = 0 })
root_height_is_stored = (λ y _. omega arith, (omega arith, omega arith, omega arith))

-- -600 + 400 * sqrt 2
abbrev pub root_height : Surd
root_height = record { a = negsuc 599; b = pos 400; k = 0; stored = root_height_is_stored }

-- the mountain from the least corner at 22.5 degrees
abbrev pub rising : Command
rising = Add Mountain (whole_point (negsuc 199) (negsuc 199))
    (record { x = whole_surd (pos 200); y = root_height })

-- its replies, and the whole text of the record
abbrev pub RisingRow : Type 0
RisingRow = replies_to (rising ∷ ListCommand ∷ []) ≡ Version 1 1 ∷ Listed 1 1 ∷ []

abbrev pub RisingText : Type 0
RisingText =
    text_of (record_of (rising ∷ ListCommand ∷ []))
    ≡ codes "version 1 pieces 1\nlist 1 1\n1 -200 -200 200 -200\n1 200 -200 200 200\n1 200 200 -200 200\n1 -200 200 -200 -200\n2 -200 -200 200 -600+400r2\n"
