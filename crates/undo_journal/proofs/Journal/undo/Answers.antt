use Rattle.std.proofs.Common.{rules, ◌≡◌, [], ◌∷◌, ◌++◌, length, refl, ap, ◌∙◌, arith, sym, subst}
use Rattle.std.proofs.lemmas.Option.{slice_get_read}
use Rattle.undo_journal.specs.Versions.{undone}
use Rattle.undo_journal.specs.Invariant.{IsJournal}
use Rattle.undo_journal.specs.JournalLaws.{IsJournal-undone}
use Rattle.undo_journal.proofs.Undoing.{undone-fields}
use Rattle.undo_journal.proofs.Journal.undo.Goals as goal

pub invariant_of-self : goal.invariant_of-self
invariant_of-self c =
    let steps = c.self.inside.steps.items in
    let pushed : c.push.new.self.items ≡ c.self.inside.redo.items
    ++ c.self.inside.current ∷ [] = search rules in
    let at = slice_get_read steps (length steps) c.self.inside.current c.index.result.now refl (omega arith)
    c.index.ensures in
    let fields = undone-fields steps c.self.inside.current c.self.inside.redo.items c.push.new.self.items
    c.index.result.now c.self.invariant.2.earlier at pushed in (
      subst IsJournal (sym fields) (IsJournal-undone _ c.self.invariant.0 (omega arith)),
      omega arith,
      c.self.invariant.2,
    )

pub returns-clause-ok : goal.returns-clause-ok
returns-clause-ok c =
    let steps = c.self.inside.steps.items in
    let pushed : c.push.new.self.items ≡ c.self.inside.redo.items
    ++ c.self.inside.current ∷ [] = search rules in
    let at = slice_get_read steps (length steps) c.self.inside.current c.index.result.now refl (omega arith)
    c.index.ensures in
    undone-fields steps c.self.inside.current c.self.inside.redo.items c.push.new.self.items
    c.index.result.now c.self.invariant.2.earlier at pushed
    ∙ ap undone c.self.view_is
