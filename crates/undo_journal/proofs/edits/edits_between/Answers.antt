use Rattle.std.proofs.Common.{[], ap, refl, sym, ◌∙◌}
use Rattle.std.proofs.lemmas.List.{append-nil}
use Rattle.undo_journal.specs.Edited.{edited}
use Rattle.undo_journal.proofs.edits.edits_between.Goals as goal

pub returns-in-None : goal.returns-in-None
returns-in-None g c = ap (edited c.args.old.now) (sym (append-nil c.loop-edit.edits.items))
    ∙ c.loop-edit.invariant [] (c.in-None.ensures.none refl)
