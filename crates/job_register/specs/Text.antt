-- The text of a record: the texts of its replies, one after another.
use Rattle.std.specs.Prelude.{ℕ, ◌-◌, List, [], ◌∷◌, ◌++◌, Option, None, Some, length}
use Rattle.std.specs.List.{slice_get}
use Rattle.crease_model.specs.View.{PatternView}
use Rattle.undo_journal.specs.Versions.{JournalView, pattern_at}
use Rattle.cp_text.specs.LineText.{pattern_text}
use Rattle.vertex_checks.specs.Faults.{faults_of}
use Rattle.vertex_checks.specs.Text.{faults_text}
use Rattle.script_lang.specs.declared.reply.Reply.{Reply}
use Rattle.script_lang.specs.declared.reply.Reply.TheVariants.{Listed, Checked}
use Rattle.script_lang.specs.Replies.{head_text}
use Rattle.job_register.specs.declared.session.Event.{Event}
use Rattle.job_register.specs.declared.session.Event.TheVariants.{Made, Posted}
use Rattle.job_register.specs.Edits.{first_journal}
use Rattle.job_register.specs.Legal.{journal_past, journal_after}

abbrev pub listing_text : Option PatternView → List ℕ
listing_text None = []
listing_text (Some pattern) = pattern_text pattern

abbrev pub checks_text : Option PatternView → List ℕ
checks_text None = []
checks_text (Some pattern) = faults_text (faults_of pattern)

-- what follows the first line of a reply: the pattern of the version that is listed, or its faults
abbrev pub body_text : JournalView → Reply → List ℕ
body_text j (Listed version pieces) = listing_text (pattern_at j version)
body_text j (Checked version faults) = checks_text (pattern_at j version)
body_text j reply = []

abbrev pub reply_text : JournalView → Reply → List ℕ
reply_text j reply = head_text reply ++ body_text j reply

-- an outcome that is posted has no text
abbrev pub event_text : JournalView → Event → List ℕ
event_text j (Made command reply) = reply_text j reply
event_text j (Posted x accepted) = []

-- each reply with the versions that stand when it is given
abbrev pub text_from : JournalView → List Event → List ℕ
text_from j [] = []
text_from j (e ∷ es) = event_text (journal_past j e) e ++ text_from (journal_past j e) es

abbrev pub text_of : List Event → List ℕ
text_of es = text_from first_journal es

abbrev pub text_at : JournalView → Option Event → List ℕ
text_at j None = []
text_at j (Some e) = event_text j e

-- the text of the last event
abbrev pub last_text : List Event → List ℕ
last_text es = text_at (journal_after es) (slice_get es (length es - 1))
