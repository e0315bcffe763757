use Rattle.undo_journal.proofs.steps.+rebuilt.Given as goal

abbrev pub decreases-rebuilt : goal.decreases-rebuilt
decreases-rebuilt l = l.version
