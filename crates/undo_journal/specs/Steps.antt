-- What a journal keeps of its versions, and the versions that are made of it.
use Rattle.std.specs.Prelude.{◌≡◌, ⊤, ℕ, ◌<◌, List, [], ◌∷◌, ◌++◌, Some, slice_get, option_map, unwrap_or}
use Rattle.std.specs.Arc.{arc_value}
use Rattle.crease_model.specs.View.{PatternView, empty_on}
use Rattle.crease_model.specs.Rules.{IsPattern}
use Rattle.undo_journal.specs.declared.steps.Change.{Change}
use Rattle.undo_journal.specs.declared.steps.Kept.{Kept}
use Rattle.undo_journal.specs.declared.steps.Kept.TheVariants.{Whole, Changed}
use Rattle.undo_journal.specs.declared.steps.Step.{Step}
use Rattle.undo_journal.specs.Edited.{edited}
use Rattle.undo_journal.specs.Versions.{Version}

-- a pattern with a change made
abbrev pub changed : PatternView → Change → PatternView
changed old change = record {
  corners = change.sheet;
  pieces = edited old.pieces change.pieces.items;
  aux = edited old.aux change.aux.items;
}

-- the pattern that is kept, where the parent's is known
abbrev pub kept_pattern : PatternView → Kept → PatternView
kept_pattern parent (Whole pattern) = arc_value pattern
kept_pattern parent (Changed change) = changed parent change

abbrev pub pattern_in : List Version → ℕ → PatternView
pattern_in versions n = unwrap_or (option_map (λ (v : Version). v.pattern) (slice_get versions n)) (empty_on [])

-- the version that a step makes, where those before it are known
abbrev pub version_by : List Version → Step → Version
version_by versions step =
    record { pattern = kept_pattern (pattern_in versions step.parent) step.kept; parent = step.parent }

-- the versions with those that these steps make
abbrev pub versions_from : List Version → List Step → List Version
versions_from versions [] = versions
versions_from versions (step ∷ steps) = versions_from (versions ++ version_by versions step ∷ []) steps

unfoldable pub versions_of : List Step → List Version
versions_of steps = versions_from [] steps

-- a pattern that is not kept whole was made from an earlier version
abbrev pub IsMadeOfEarlier : ℕ → ℕ → Kept → Type 0
IsMadeOfEarlier version parent (Whole pattern) = ⊤
IsMadeOfEarlier version parent (Changed change) = parent < version

abbrev pub AreMadeOfEarlier : List Step → Type 0
AreMadeOfEarlier steps =
    (version : ℕ) (step : Step) → slice_get steps version ≡ Some step
    → IsMadeOfEarlier version step.parent step.kept

abbrev pub ArePatterns : List Version → Type 0
ArePatterns versions = (n : ℕ) (v : Version) → slice_get versions n ≡ Some v → IsPattern v.pattern
