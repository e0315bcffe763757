use Rattle.std.proofs.Common.{◌≡◌, ◌++◌, drop}
use Rattle.undo_journal.specs.Edited.{edited}
use Rattle.undo_journal.proofs.edits.with_edits.Given as goal

abbrev pub invariant-loop-edit : goal.invariant-loop-edit
invariant-loop-edit g l = l.new.items ++ edited l.rest (drop l.edit-index l.edits) ≡ edited l.old l.edits
