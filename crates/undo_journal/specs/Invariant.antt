-- What every journal keeps.
use Rattle.std.specs.Prelude.{◌≡◌, ℕ, ◌+◌, ◌<◌, ◌≤◌, List, [], ◌∷◌, length, ⊤}
use Rattle.std.specs.Prelude.{Some, slice_get}
use Rattle.crease_model.specs.View.{PatternView}
use Rattle.crease_model.specs.Rules.{IsPattern, size_of}
use Rattle.undo_journal.specs.declared.steps.Step.{Step}
use Rattle.undo_journal.specs.Versions.{JournalView, greatest_version, parent_at}
use Rattle.undo_journal.specs.Steps.{AreMadeOfEarlier, ArePatterns, kept_pattern, pattern_in, versions_of}

-- each number on the redo list names a version, and leaves room for as many undos as stand before it
abbrev pub IsRedoable : ℕ → List ℕ → Type 0
IsRedoable count [] = ⊤
IsRedoable count (n ∷ ns) = (n + length ns < count) × IsRedoable count ns

-- each number on the redo list was made from the one before it, the first from this one
abbrev pub IsMadeInTurn : JournalView → ℕ → List ℕ → Type 0
IsMadeInTurn j parent [] = ⊤
IsMadeInTurn j parent (n ∷ ns) = (parent_at j n ≡ parent) × IsMadeInTurn j n ns

pub record IsJournal (j : JournalView) : Type 0 where
  pub current : j.current + length j.redo < length j.versions
  pub redo : IsRedoable (length j.versions) j.redo
  pub parents : (v : ℕ) → v < length j.versions → 0 < v → parent_at j v < v
  pub chain : IsMadeInTurn j j.current j.redo
  pub most : length j.versions ≤ greatest_version + 1

-- what is kept of the versions, and the pattern of one of them
pub record IsStored (steps : List Step) (hand_version : ℕ) (hand : PatternView) : Type 0 where
  pub count : length (versions_of steps) ≡ length steps
  pub earlier : AreMadeOfEarlier steps
  pub rules : ArePatterns (versions_of steps)
  pub sizes : (n : ℕ) (step : Step) → slice_get steps n ≡ Some step
      → step.size ≡ size_of (pattern_in (versions_of steps) n)
  pub exists : hand_version < length steps
  pub hand_is : pattern_in (versions_of steps) hand_version ≡ hand

-- this is kept of a pattern that is made from the current one
pub record IsNextStep (j : JournalView) (pattern : PatternView) (step : Step) : Type 0 where
  pub parent : step.parent ≡ j.current
  pub kept : kept_pattern (pattern_in j.versions j.current) step.kept ≡ pattern
  pub size : step.size ≡ size_of pattern
  pub rules : IsPattern pattern
