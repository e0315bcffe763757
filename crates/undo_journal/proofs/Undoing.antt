-- The fields of a journal after an undo.
use Rattle.std.proofs.Common.{◌≡◌, ℕ, List, [], ◌∷◌, ◌++◌, sym, ap, ap₂, ◌∙◌}
use Rattle.std.specs.Prelude.{Some, reverse, slice_get}
use Rattle.std.proofs.lemmas.List.{reverse-append}
use Rattle.undo_journal.specs.declared.steps.Step.{Step}
use Rattle.undo_journal.specs.Versions.{JournalView, undone}
use Rattle.undo_journal.specs.Steps.{AreMadeOfEarlier, versions_of}
use Rattle.undo_journal.proofs.StoredVersions.{parent_is}

-- the fields after an undo are those of the journal that the definition gives
pub undone-fields : (steps : List Step) (current : ℕ) (redo redo' : List ℕ) (s : Step) → AreMadeOfEarlier steps
    → slice_get steps current ≡ Some s → redo' ≡ redo ++ current ∷ []
    → (let j : JournalView = record { versions = versions_of steps; current = s.parent; redo = reverse redo' } in j)
    ≡ undone (record { versions = versions_of steps; current = current; redo = reverse redo })
undone-fields steps current redo redo' s made e p =
    let numbers : reverse redo' ≡ current ∷ reverse redo = ap reverse p ∙ reverse-append redo (current ∷ []) in
    ap₂ (λ (c : ℕ) (r : List ℕ). let j : JournalView = record { versions = versions_of steps; current = c; redo = r } in j)
    (sym (parent_is steps current (reverse redo) current s made e)) numbers
