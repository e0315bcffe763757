use Rattle.std.proofs.Common.{length, ◌+◌, ◌≡◌, ◌++◌, List}
use Rattle.undo_journal.specs.declared.edits.Edit.{Edit}
use Rattle.undo_journal.specs.Edited.{edited}
use Rattle.undo_journal.proofs.edits.edits_between.Given as goal

abbrev pub invariant-loop-edit : goal.invariant-loop-edit
invariant-loop-edit g l =
    (more : List (Edit g.row.T.Denot)) → edited l.before more ≡ l.after → edited l.fn.old (l.edits.items ++ more) ≡ l.fn.new

abbrev pub decreases-loop-edit : goal.decreases-loop-edit
decreases-loop-edit g l = length l.before + length l.after
