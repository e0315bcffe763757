-- The fields of a journal with one version more, and of a new one.
use Rattle.std.proofs.Common.{◌≡◌, ℕ, ◌<◌, ◌≤◌, List, [], ◌∷◌, ◌++◌, length, ap, ap₂, sym, ◌∙◌, arith, subst}
use Rattle.std.specs.Prelude.{reverse}
use Rattle.crease_model.specs.View.{PatternView}
use Rattle.crease_model.specs.Rules.{IsPattern, size_of}
use Rattle.undo_journal.specs.declared.steps.Step.{Step}
use Rattle.undo_journal.specs.Versions.{Version, JournalView, greatest_version, new_journal, committed}
use Rattle.undo_journal.specs.Steps.{kept_pattern, pattern_in, versions_of, IsMadeOfEarlier}
use Rattle.undo_journal.specs.Invariant.{IsJournal, IsStored, IsNextStep}
use Rattle.undo_journal.specs.JournalLaws.{IsJournal-opened, IsJournal-committed}
use Rattle.undo_journal.proofs.StoredVersions.{length_versions, versions_next, stored_next, stored_first}

abbrev view_of : List Step → ℕ → List ℕ → JournalView
view_of steps current redo = record { versions = versions_of steps; current = current; redo = reverse redo }

module _ (steps : List Step) (n : ℕ) (hand : PatternView) (stored : IsStored steps n hand) (current : ℕ)
    (redo : List ℕ) (journal : IsJournal (view_of steps current redo)) (p : PatternView) (s : Step)
    (next : IsNextStep (view_of steps current redo) p s)
    (after : List Step) (pushed : after ≡ steps ++ s ∷ []) (count : ℕ) (counted : count ≡ length steps)
    (left : List ℕ) (cleared : left ≡ []) where
  below : current < length steps
  below = omega (arith, journal.current, stored.count)

  pub committed_fields : view_of after count left ≡ committed (view_of steps current redo) p
  committed_fields =
      ap (λ (x : List Step). view_of x count left) pushed
      ∙ ap₂ (λ (m : ℕ) (r : List ℕ). view_of (steps ++ s ∷ []) m r) (counted ∙ sym (length_versions steps)) cleared
      ∙ ap (λ (vs : List Version). let j : JournalView = record { versions = vs; current = length (versions_of steps); redo = [] } in j)
      (versions_next steps n hand stored current (reverse redo) below p s next)

  pub committed_journal : length (versions_of steps) ≤ greatest_version → IsJournal (view_of after count left)
  committed_journal room =
      subst IsJournal (sym committed_fields) (IsJournal-committed (view_of steps current redo) p journal room)

  pub committed_stored : IsStored after count p
  committed_stored =
      let P : List Step → Type 0 = λ x. IsStored x count p in
      let Q : ℕ → Type 0 = λ m. IsStored (steps ++ s ∷ []) m p in
      subst P (sym pushed) (subst Q (sym counted)
      (stored_next steps n hand stored current (reverse redo) below p s next))

module _ (p : PatternView) (s : Step) (parent : s.parent ≡ 0) (whole : (q : PatternView) → kept_pattern q s.kept ≡ p)
    (after : List Step) (pushed : after ≡ s ∷ []) (left : List ℕ) (cleared : left ≡ []) where
  first_version : versions_of (s ∷ []) ≡ record { pattern = p; parent = 0 } ∷ []
  unfolding versions_of
  first_version =
      ap₂ (λ (q : PatternView) (m : ℕ). let v : Version = record { pattern = q; parent = m } in v ∷ [])
      (whole (pattern_in [] s.parent)) parent

  pub opened_fields : view_of after 0 left ≡ new_journal p
  opened_fields =
      ap₂ (λ (x : List Step) (r : List ℕ). view_of x 0 r) pushed cleared
      ∙ ap (λ (vs : List Version). let j : JournalView = record { versions = vs; current = 0; redo = [] } in j)
      first_version

  pub opened_journal : IsJournal (view_of after 0 left)
  opened_journal = subst IsJournal (sym opened_fields) (IsJournal-opened p)

  pub opened_stored : s.size ≡ size_of p → IsPattern p → ((n : ℕ) → IsMadeOfEarlier n s.parent s.kept)
      → IsStored after 0 p
  opened_stored size rules made =
      let P : List Step → Type 0 = λ x. IsStored x 0 p in subst P (sym pushed) (stored_first p s whole size rules made)
