-- What each step of a journal keeps, and what it takes back.
use Rattle.std.proofs.Common.{◌≡◌, ℕ, suc, zero, ◌+◌, inl, inr, ◌<◌, ◌≤◌, List, [], ◌∷◌, ◌++◌, length, Some, slice_get, option_map, refl, ap, ap₂, sym, ◌∙◌, arith, subst}
use Rattle.std.specs.Prelude.{unwrap_or}
use Rattle.std.proofs.lemmas.Bool.{cases_lt}
use Rattle.std.proofs.lemmas.List.{length-append}
use Rattle.crease_model.specs.View.{PatternView}
use Rattle.undo_journal.specs.Versions.{Version, JournalView, greatest_version, new_journal, committed, undone, redone, pattern_at, current_pattern, parent_at, redone_to, KeepsPatterns}
use Rattle.undo_journal.specs.Invariant.{IsRedoable, IsMadeInTurn, IsJournal}

-- ---- versions with one more behind them

slice_get-front : (vs : List Version) (v : Version) (i : ℕ) → i < length vs
    → slice_get (vs ++ v ∷ []) i ≡ slice_get vs i
slice_get-front [] v i h = absurd (omega arith)
slice_get-front (w ∷ vs) v zero h = refl
slice_get-front (w ∷ vs) v (suc i) h = slice_get-front vs v i (omega arith)

slice_get-last : (vs : List Version) (v : Version) → slice_get (vs ++ v ∷ []) (length vs) ≡ Some v
slice_get-last [] v = refl
slice_get-last (w ∷ vs) v = slice_get-last vs v

found_within : (vs : List Version) (i : ℕ) (p : PatternView)
    → option_map (λ (v : Version). v.pattern) (slice_get vs i) ≡ Some p → i < length vs
found_within [] i p e = cc
found_within (v ∷ vs) zero p e = omega arith
found_within (v ∷ vs) (suc i) p e = omega (arith, found_within vs i p e)

-- ---- patterns

pub committed-front : (j : JournalView) (p : PatternView) (version : ℕ) → version < length j.versions
    → pattern_at (committed j p) version ≡ pattern_at j version
committed-front j p version h =
    ap (option_map (λ (v : Version). v.pattern))
    (slice_get-front j.versions (record { pattern = p; parent = j.current }) version h)

-- no version loses its pattern where one is committed
pub committed_keeps : (j : JournalView) (p : PatternView) → KeepsPatterns j (committed j p)
committed_keeps j p version q e = committed-front j p version (found_within j.versions version q e) ∙ e

pub committed_has : (j : JournalView) (p : PatternView)
    → pattern_at (committed j p) (length j.versions) ≡ Some p
committed_has j p = ap (option_map (λ (v : Version). v.pattern))
    (slice_get-last j.versions (record { pattern = p; parent = j.current }))

committed-parent : (j : JournalView) (p : PatternView)
    → parent_at (committed j p) (length j.versions) ≡ j.current
committed-parent j p =
    ap (λ o. unwrap_or (option_map (λ (v : Version). v.parent) o) 0)
    (slice_get-last j.versions (record { pattern = p; parent = j.current }))

-- an undo right after a commit makes the pattern current that was so before it
pub committed_taken_back : (j : JournalView) (p : PatternView) → j.current < length j.versions
    → current_pattern (undone (committed j p)) ≡ current_pattern j
committed_taken_back j p h =
    ap (pattern_at (committed j p)) (committed-parent j p) ∙ committed-front j p j.current h

-- ---- the invariant

parent-front : (j : JournalView) (p : PatternView) (version : ℕ) → version < length j.versions
    → parent_at (committed j p) version ≡ parent_at j version
parent-front j p version h =
    ap (λ o. unwrap_or (option_map (λ (v : Version). v.parent) o) 0)
    (slice_get-front j.versions (record { pattern = p; parent = j.current }) version h)

pub IsJournal-opened : (p : PatternView) → IsJournal (new_journal p)
IsJournal-opened p =
    record {
      current = omega arith;
      redo = tt;
      parents = λ v h positive. absurd (omega arith);
      chain = tt;
      most = omega arith;
    }

parents_below : (j : JournalView) (p : PatternView) → IsJournal j → (v : ℕ)
    → v < length (committed j p).versions → 0 < v → parent_at (committed j p) v < v
parents_below j p h v below positive =
    elim (cases_lt v (length j.versions)) [
      | inl old ↦ omega (arith, parent-front j p v old, h.parents v old positive)
      | inr new ↦
          let last : v ≡ length j.versions = omega
          (arith, length-append j.versions (record { pattern = p; parent = j.current } ∷ [])) in
          omega (arith, ap (parent_at (committed j p)) last, committed-parent j p, h.current)
    ]

pub IsJournal-committed : (j : JournalView) (p : PatternView) → IsJournal j
    → length j.versions ≤ greatest_version → IsJournal (committed j p)
IsJournal-committed j p h room =
    let more : length (committed j p).versions
    ≡ length j.versions + 1 = length-append j.versions (record { pattern = p; parent = j.current } ∷ [])
    in
    record {
      current = omega (arith, more);
      redo = tt;
      parents = parents_below j p h;
      chain = tt;
      most = omega (arith, more);
    }

pub IsJournal-undone : (j : JournalView) → IsJournal j → 0 < j.current → IsJournal (undone j)
IsJournal-undone j h positive = record {
  current = omega (arith, h.current, h.parents j.current (omega arith) positive);
  redo = (h.current, h.redo);
  parents = h.parents;
  chain = (refl, h.chain);
  most = h.most;
}

IsJournal-redone_to : (j k : JournalView) (ns : List ℕ) → IsJournal j → j.redo ≡ ns → redone_to j ns ≡ Some k
    → IsJournal k × (undone k ≡ j)
IsJournal-redone_to j k [] h e found = cc
IsJournal-redone_to j k (n ∷ ns) h e found =
    let redo : IsRedoable (length j.versions) (n ∷ ns) = subst (IsRedoable (length j.versions)) e h.redo in
    let chain : IsMadeInTurn j j.current (n ∷ ns) = subst (IsMadeInTurn j j.current) e h.chain in
    let next : JournalView = record { versions = j.versions; current = n; redo = ns } in
    let same : next ≡ k = cc in
    let P : JournalView → Type 0 = λ i. IsJournal i × (undone i ≡ j) in
    subst P same (
      record { current = redo.0; redo = redo.1; parents = h.parents; chain = chain.1; most = h.most },
      ap₂ (λ c (r : List ℕ). let i : JournalView = record { versions = j.versions; current = c; redo = r }
          in i) chain.0 (sym e),
    )

pub IsJournal-redone : (j k : JournalView) → IsJournal j → redone j ≡ Some k → IsJournal k
IsJournal-redone j k h found = (IsJournal-redone_to j k j.redo h refl found).0

-- an undo right after a redo gives back the journal before it
pub redone_taken_back : (j k : JournalView) → IsJournal j → redone j ≡ Some k → undone k ≡ j
redone_taken_back j k h found = (IsJournal-redone_to j k j.redo h refl found).1

redone_to-keeps : (j k : JournalView) (ns : List ℕ) → redone_to j ns ≡ Some k → KeepsPatterns j k
redone_to-keeps j k [] found version p e = cc
redone_to-keeps j k (n ∷ ns) found version p e =
    let next : JournalView = record { versions = j.versions; current = n; redo = ns } in
    let same : next ≡ k = cc in
    let P : JournalView → Type 0 = λ i. pattern_at i version ≡ Some p in
    subst P same e

pub redone_keeps : (j k : JournalView) → redone j ≡ Some k → KeepsPatterns j k
redone_keeps j k found = redone_to-keeps j k j.redo found
