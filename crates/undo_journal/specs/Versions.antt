-- The version journal: every version of the pattern with the version that it was made from, the current number, and the
-- numbers that redo goes back to, the last one first.
use Rattle.std.specs.Prelude.{◌≡◌, ℕ, ◌-◌, List, [], ◌∷◌, ◌++◌, length, Option, None, Some, slice_get, option_map, unwrap_or}
use Rattle.crease_model.specs.View.{PatternView}

-- the last version number
abbrev pub greatest_version : ℕ
greatest_version = 10000

-- a pattern, and the number of the version that it was made from (0 for version 0)
pub record Version : Type 0 where
  pub pattern : PatternView
  pub parent : ℕ

pub record JournalView : Type 0 where
  pub versions : List Version
  pub current : ℕ
  pub redo : List ℕ

-- version 0 alone
abbrev pub new_journal : PatternView → JournalView
new_journal first = record { versions = record { pattern = first; parent = 0 } ∷ []; current = 0; redo = [] }

abbrev pub pattern_at : JournalView → ℕ → Option PatternView
pattern_at j version = option_map (λ v. v.pattern) (slice_get j.versions version)

-- the pattern that is edited now
abbrev pub current_pattern : JournalView → Option PatternView
current_pattern j = pattern_at j j.current

-- each version of the one journal has the same pattern in the other
abbrev pub KeepsPatterns : JournalView → JournalView → Type 0
KeepsPatterns old new =
    (version : ℕ) (p : PatternView) → pattern_at old version ≡ Some p → pattern_at new version ≡ Some p

abbrev pub parent_at : JournalView → ℕ → ℕ
parent_at j version = unwrap_or (option_map (λ v. v.parent) (slice_get j.versions version)) 0

abbrev pub greatest_of : JournalView → ℕ
greatest_of j = length j.versions - 1

-- the pattern as a new version, made from the current one
abbrev pub committed : JournalView → PatternView → JournalView
committed j pattern = record {
  versions = j.versions ++ record { pattern = pattern; parent = j.current } ∷ [];
  current = length j.versions;
  redo = [];
}

-- the parent is current, and redo goes back to where undo came from
abbrev pub undone : JournalView → JournalView
undone j = record { versions = j.versions; current = parent_at j j.current; redo = j.current ∷ j.redo }

abbrev pub redone_to : JournalView → List ℕ → Option JournalView
redone_to j [] = None
redone_to j (n ∷ ns) = Some (record { versions = j.versions; current = n; redo = ns })

-- the number that was put last on the redo list is current
abbrev pub redone : JournalView → Option JournalView
redone j = redone_to j j.redo
