-- The versions that are made of what is kept.
use Rattle.std.proofs.Common.{◌≡◌, ℕ, zero, suc, ◌+◌, ◌<◌, ◌≤◌, List, [], ◌∷◌, ◌++◌, length, refl, ap, ap₂, sym, ◌∙◌, arith, subst, inl, inr}
use Rattle.std.specs.Prelude.{Option, Some, None, slice_get, option_map, unwrap_or}
use Rattle.std.proofs.lemmas.Bool.{cases_lt}
use Rattle.std.proofs.lemmas.List.{length-append}
use Rattle.std.proofs.lemmas.Option.{slice_get_within, slice_get_past}
use Rattle.std.specs.Prelude.{Ok, Err, IfOk}
use Rattle.std.specs.declared.result.Result.{Result}
use Rattle.crease_model.specs.View.{PatternView, empty_on}
use Rattle.undo_journal.specs.declared.steps.Change.{Change}
use Rattle.crease_model.specs.Rules.{IsPattern, size_of}
use Rattle.undo_journal.specs.declared.steps.Kept.{Kept}
use Rattle.undo_journal.specs.declared.steps.Kept.TheVariants.{Whole, Changed}
use Rattle.undo_journal.specs.declared.steps.Step.{Step}
use Rattle.undo_journal.specs.Versions.{Version, JournalView, pattern_at, parent_at}
use Rattle.undo_journal.specs.Steps.{changed, kept_pattern, pattern_in, version_by, versions_from, versions_of, IsMadeOfEarlier, AreMadeOfEarlier, ArePatterns}
use Rattle.undo_journal.specs.Invariant.{IsStored, IsNextStep}

-- ---- lists with one more behind them

front : {X : Type 0} (xs : List X) (x : X) (i : ℕ) → i < length xs → slice_get (xs ++ x ∷ []) i ≡ slice_get xs i
front [] x i h = absurd (omega arith)
front (y ∷ xs) x zero h = refl
front (y ∷ xs) x (suc i) h = front xs x i (omega arith)

last : {X : Type 0} (xs : List X) (x : X) → slice_get (xs ++ x ∷ []) (length xs) ≡ Some x
last [] x = refl
last (y ∷ xs) x = last xs x

-- the i-th of them is one of the list, or the one behind it
data IsFrontOrLast {X : Type 0} (xs : List X) (x : X) (i : ℕ) (y : X) : Type 0 where
  in_front : i < length xs → slice_get xs i ≡ Some y → IsFrontOrLast xs x i y
  at_last : i ≡ length xs → x ≡ y → IsFrontOrLast xs x i y

front_or_last : {X : Type 0} (xs : List X) (x : X) (i : ℕ) (y : X) → slice_get (xs ++ x ∷ []) i ≡ Some y
    → IsFrontOrLast xs x i y
front_or_last xs x i y e =
    elim (cases_lt i (length xs)) [
      | inl before ↦ in_front before (sym (front xs x i before) ∙ e)
      | inr behind ↦
          let within : i < length (xs ++ x ∷ []) = slice_get_within (xs ++ x ∷ []) i y e in
          let place : i ≡ length xs = omega (arith, length-append xs (x ∷ [])) in
          let same : Some x ≡ Some y = sym (last xs x) ∙ ap (slice_get (xs ++ x ∷ [])) (sym place) ∙ e in
          at_last place (cc)
    ]

-- ---- steps

pub one_step_more : (vs : List Version) (steps : List Step) (s : Step)
    → versions_from vs (steps ++ s ∷ []) ≡ versions_from vs steps ++ version_by (versions_from vs steps) s ∷ []
one_step_more vs [] s = refl
one_step_more vs (t ∷ steps) s = one_step_more (vs ++ version_by vs t ∷ []) steps s

length_from : (vs : List Version) (steps : List Step)
    → length (versions_from vs steps) ≡ length vs + length steps
length_from vs [] = omega arith
length_from vs (t ∷ steps) =
    omega (arith, length_from (vs ++ version_by vs t ∷ []) steps, length-append vs (version_by vs t ∷ []))

-- what is made first stays
kept_from : (vs : List Version) (steps : List Step) (i : ℕ) → i < length vs
    → slice_get (versions_from vs steps) i ≡ slice_get vs i
kept_from vs [] i h = refl
kept_from vs (t ∷ steps) i h =
    kept_from (vs ++ version_by vs t ∷ []) steps i (omega (arith, length-append vs (version_by vs t ∷ [])))
    ∙ front vs (version_by vs t) i h

same_pattern : (vs all : List Version) (n parent : ℕ) (kept : Kept) → IsMadeOfEarlier n parent kept
    → ((k : ℕ) → k < n → slice_get all k ≡ slice_get vs k)
    → kept_pattern (pattern_in vs parent) kept ≡ kept_pattern (pattern_in all parent) kept
same_pattern vs all n parent (Whole p) h same = refl
same_pattern vs all n parent (Changed change) h same =
    ap (λ (o : Option Version). changed
    (unwrap_or (option_map (λ (v : Version). v.pattern) o) (empty_on [])) change)
    (sym (same parent h))

same_version : (vs all : List Version) (n : ℕ) (s : Step) → IsMadeOfEarlier n s.parent s.kept
    → ((k : ℕ) → k < n → slice_get all k ≡ slice_get vs k) → version_by vs s ≡ version_by all s
same_version vs all n s h same =
    ap (λ (p : PatternView). let v : Version = record { pattern = p; parent = s.parent } in v)
    (same_pattern vs all n s.parent s.kept h same)

step_in : (vs : List Version) (steps : List Step) (i : ℕ) (s : Step) → slice_get steps i ≡ Some s
    → IsMadeOfEarlier (length vs + i) s.parent s.kept
    → slice_get (versions_from vs steps) (length vs + i) ≡ Some (version_by (versions_from vs steps) s)
step_in vs [] i s e h = cc
step_in vs (t ∷ steps) zero s e h =
    let is : t ≡ s = cc in
    let more = vs ++ version_by vs t ∷ [] in
    let all = versions_from more steps in
    let place : length vs + 0 ≡ length vs = omega arith in
    let here : slice_get all (length vs) ≡ Some (version_by vs t) = kept_from more steps (length vs)
    (omega (arith, length-append vs (version_by vs t ∷ []))) ∙ last vs (version_by vs t) in
    let earlier : (k : ℕ) → k < length vs + 0 → slice_get all k ≡ slice_get vs k = λ k below.
    kept_from more steps k (omega (arith, length-append vs (version_by vs t ∷ [])))
    ∙ front vs (version_by vs t) k (omega arith) in
    ap (slice_get all) place ∙ here ∙ ap (λ (r : Step). Some (version_by vs r)) is
    ∙ ap Some (same_version vs all (length vs + 0) s h earlier)
step_in vs (t ∷ steps) (suc i) s e h =
    let more = vs ++ version_by vs t ∷ [] in
    let place : length more + i ≡ length vs + suc i = omega (arith, length-append vs (version_by vs t ∷ [])) in
    let h' : IsMadeOfEarlier (length more + i) s.parent s.kept = subst (λ n. IsMadeOfEarlier n s.parent s.kept) (sym place) h
    in
    ap (slice_get (versions_from more steps)) (sym place) ∙ step_in more steps i s e h'

-- ---- all versions

pub length_versions : (steps : List Step) → length (versions_of steps) ≡ length steps
unfolding versions_of
length_versions steps = omega (arith, length_from [] steps)

-- the version of a step
pub version_is : (steps : List Step) (i : ℕ) (s : Step) → AreMadeOfEarlier steps → slice_get steps i ≡ Some s
    → slice_get (versions_of steps) i ≡ Some (version_by (versions_of steps) s)
unfolding versions_of
version_is steps i s earlier e =
    let place : length {A = Version} [] + i ≡ i = omega arith in
    let h : IsMadeOfEarlier (length {A = Version} [] + i) s.parent s.kept = subst
    (λ n. IsMadeOfEarlier n s.parent s.kept) (sym place) (earlier i s e) in
    ap (slice_get (versions_from [] steps)) (sym place) ∙ step_in [] steps i s e h

pub pattern_is : (steps : List Step) (i : ℕ) (s : Step) → AreMadeOfEarlier steps → slice_get steps i ≡ Some s
    → pattern_in (versions_of steps) i ≡ kept_pattern (pattern_in (versions_of steps) s.parent) s.kept
pattern_is steps i s earlier e =
    ap (λ (o : Option Version). unwrap_or (option_map (λ (v : Version). v.pattern) o) (empty_on []))
    (version_is steps i s earlier e)

-- the pattern of a version keeps the rules
pub rules_of : (steps : List Step) (i : ℕ) (s : Step) → AreMadeOfEarlier steps → ArePatterns (versions_of steps)
    → slice_get steps i ≡ Some s
    → IsPattern (kept_pattern (pattern_in (versions_of steps) s.parent) s.kept)
rules_of steps i s earlier rules e =
    rules i (version_by (versions_of steps) s) (version_is steps i s earlier e)

there : (vs : List Version) (i : ℕ) → i < length vs
    → option_map (λ (v : Version). v.pattern) (slice_get vs i) ≡ Some (pattern_in vs i)
there [] i h = absurd (omega arith)
there (v ∷ vs) zero h = refl
there (v ∷ vs) (suc i) h = there vs i (omega arith)

-- there is a version for each step
pub pattern_there : (steps : List Step) (i : ℕ) → i < length steps
    → option_map (λ (v : Version). v.pattern) (slice_get (versions_of steps) i)
    ≡ Some (pattern_in (versions_of steps) i)
pattern_there steps i h = there (versions_of steps) i (omega (arith, length_versions steps))

-- and for no other number
pub no_pattern : (steps : List Step) (i : ℕ) → length steps ≤ i
    → option_map (λ (v : Version). v.pattern) (slice_get (versions_of steps) i) ≡ None
no_pattern steps i h =
    ap (option_map (λ (v : Version). v.pattern))
    (slice_get_past (versions_of steps) i (omega (arith, length_versions steps)))

pub size_is : (steps : List Step) (hand_version : ℕ) (hand : PatternView) (i : ℕ)
    → IsStored steps hand_version hand → (o : Option Step) → slice_get steps i ≡ o
    → option_map (λ (s : Step). s.size) o
    ≡ option_map size_of (option_map (λ (v : Version). v.pattern) (slice_get (versions_of steps) i))
size_is steps n hand i stored None e =
    elim (cases_lt i (length steps)) [
      | inl below ↦ absurd (found steps i below e)
      | inr past ↦ ap (option_map size_of) (sym (no_pattern steps i past))
    ]
  where
    found : (ss : List Step) (k : ℕ) → k < length ss → slice_get ss k ≡ None → ⊥
    found [] k h f = omega arith
    found (s ∷ ss) zero h f = cc
    found (s ∷ ss) (suc k) h f = found ss k (omega arith) f
size_is steps n hand i stored (Some s) e =
    ap Some (stored.sizes i s e)
    ∙ ap (option_map size_of) (sym (pattern_there steps i (slice_get_within steps i s e)))

-- ---- one version more

versions_more : (steps : List Step) (s : Step)
    → versions_of (steps ++ s ∷ []) ≡ versions_of steps ++ version_by (versions_of steps) s ∷ []
unfolding versions_of
versions_more steps s = one_step_more [] steps s

made_of_earlier : (n parent : ℕ) (kept : Kept) → parent < n → IsMadeOfEarlier n parent kept
made_of_earlier n parent (Whole p) h = tt
made_of_earlier n parent (Changed change) h = h

module _ (steps : List Step) (n : ℕ) (hand : PatternView) (stored : IsStored steps n hand)
    (current : ℕ) (redo : List ℕ) (below : current < length steps) (p : PatternView) (s : Step)
    (next : IsNextStep (record { versions = versions_of steps; current = current; redo = redo }) p s) where
  made : version_by (versions_of steps) s ≡ record { pattern = p; parent = current }
  made =
      let pattern : kept_pattern (pattern_in (versions_of steps) s.parent) s.kept ≡ p =
      ap (λ m. kept_pattern (pattern_in (versions_of steps) m) s.kept) next.parent ∙ next.kept in
      ap₂ (λ (q : PatternView) (m : ℕ). let x : Version = record { pattern = q; parent = m } in x)
      pattern next.parent

  pub versions_next : versions_of (steps ++ s ∷ []) ≡ versions_of steps ++ record { pattern = p; parent = current } ∷ []
  versions_next = versions_more steps s ∙ ap (λ (x : Version). versions_of steps ++ x ∷ []) made

  pattern_front : (i : ℕ) → i < length steps
      → pattern_in (versions_of (steps ++ s ∷ [])) i ≡ pattern_in (versions_of steps) i
  pattern_front i h =
      ap (λ (vs : List Version). pattern_in vs i) versions_next
      ∙ ap (λ (o : Option Version). unwrap_or (option_map (λ (v : Version). v.pattern) o) (empty_on []))
      (front (versions_of steps) (record { pattern = p; parent = current }) i (omega (arith, length_versions steps)))

  pattern_last : pattern_in (versions_of (steps ++ s ∷ [])) (length steps) ≡ p
  pattern_last =
      ap (λ (vs : List Version). pattern_in vs (length steps)) versions_next
      ∙ ap (λ (o : Option Version). unwrap_or (option_map (λ (v : Version). v.pattern) o) (empty_on []))
      (ap (slice_get (versions_of steps ++ record { pattern = p; parent = current } ∷ [])) (sym (length_versions steps))
      ∙ last (versions_of steps) (record { pattern = p; parent = current }))

  earlier : AreMadeOfEarlier (steps ++ s ∷ [])
  earlier i t e = go (front_or_last steps s i t e)
    where
      go : IsFrontOrLast steps s i t → IsMadeOfEarlier i t.parent t.kept
      go (in_front h f) = stored.earlier i t f
      go (at_last place is) =
          let P : Step → Type 0 = λ r. IsMadeOfEarlier i r.parent r.kept in
          subst P is (made_of_earlier i s.parent s.kept (omega (arith, next.parent)))

  rules : ArePatterns (versions_of (steps ++ s ∷ []))
  rules i w e =
      go (front_or_last (versions_of steps) (record { pattern = p; parent = current }) i w
      (ap (λ (vs : List Version). slice_get vs i) (sym versions_next) ∙ e))
    where
      go : IsFrontOrLast (versions_of steps) (record { pattern = p; parent = current }) i w → IsPattern w.pattern
      go (in_front h f) = stored.rules i w f
      go (at_last place is) = subst (λ (x : Version). IsPattern x.pattern) is next.rules

  sizes : (i : ℕ) (t : Step) → slice_get (steps ++ s ∷ []) i ≡ Some t
      → t.size ≡ size_of (pattern_in (versions_of (steps ++ s ∷ [])) i)
  sizes i t e = go (front_or_last steps s i t e)
    where
      go : IsFrontOrLast steps s i t → t.size ≡ size_of (pattern_in (versions_of (steps ++ s ∷ [])) i)
      go (in_front h f) = stored.sizes i t f ∙ ap size_of (sym (pattern_front i h))
      go (at_last place is) =
          ap (λ (r : Step). r.size) (sym is) ∙ next.size ∙ ap size_of (sym pattern_last)
          ∙ ap (λ k. size_of (pattern_in (versions_of (steps ++ s ∷ [])) k)) (sym place)

  pub stored_next : IsStored (steps ++ s ∷ []) (length steps) p
  stored_next = record {
    count = length_versions (steps ++ s ∷ []);
    earlier = earlier;
    rules = rules;
    sizes = sizes;
    exists = omega (arith, length-append steps (s ∷ []));
    hand_is = pattern_last;
  }

-- the parent of a version is that of its step
pub parent_is : (steps : List Step) (current : ℕ) (redo : List ℕ) (i : ℕ) (s : Step) → AreMadeOfEarlier steps
    → slice_get steps i ≡ Some s
    → parent_at (record { versions = versions_of steps; current = current; redo = redo }) i ≡ s.parent
parent_is steps current redo i s earlier e =
    ap (λ (o : Option Version). unwrap_or (option_map (λ (v : Version). v.parent) o) 0)
    (version_is steps i s earlier e)

-- the first version alone
pub stored_first : (p : PatternView) (s : Step) (whole : (parent : PatternView) → kept_pattern parent s.kept ≡ p)
    → s.size ≡ size_of p → IsPattern p → (made : (n : ℕ) → IsMadeOfEarlier n s.parent s.kept)
    → IsStored (s ∷ []) 0 p
unfolding versions_of
stored_first p s whole size rules made =
    record {
      count = length_versions (s ∷ []);
      earlier = λ n t e. elim n as (λ m. slice_get (s ∷ []) m ≡ Some t → IsMadeOfEarlier m t.parent t.kept) [
        | zero ↦ λ f. subst (λ (r : Step). IsMadeOfEarlier 0 r.parent r.kept) (is_it s t f) (made 0)
        | suc k ↦ λ f. cc
      ] e;
      rules = λ n v e. elim n as (λ m. slice_get (version_by [] s ∷ []) m ≡ Some v → IsPattern v.pattern) [
        | zero ↦ λ f. subst (λ (w : Version). IsPattern w.pattern) (is_it (version_by [] s) v f) (subst IsPattern (sym (whole (pattern_in [] s.parent))) rules)
        | suc k ↦ λ f. cc
      ] e;
      sizes = λ n t e. elim n as (λ m. slice_get (s ∷ []) m ≡ Some t → t.size ≡ size_of (pattern_in (version_by [] s ∷ []) m)) [
        | zero ↦ λ f. ap (λ (r : Step). r.size) (sym (is_it s t f)) ∙ size ∙ ap size_of (sym (whole (pattern_in [] s.parent)))
        | suc k ↦ λ f. cc
      ] e;
      exists = omega arith;
      hand_is = whole (pattern_in [] s.parent);
    }
  where
    is_it : {X : Type 0} (x y : X) → Some x ≡ Some y → x ≡ y
    is_it x y e = cc

-- ---- a version that is looked up

pub kept_is : (steps : List Step) (i : ℕ) (s : Step) (k : Kept) → AreMadeOfEarlier steps
    → slice_get steps i ≡ Some s → s.kept ≡ k
    → kept_pattern (pattern_in (versions_of steps) s.parent) k ≡ pattern_in (versions_of steps) i
kept_is steps i s k made e is =
    ap (kept_pattern (pattern_in (versions_of steps) s.parent)) (sym is) ∙ sym (pattern_is steps i s made e)

pub changed_is : (steps : List Step) (i : ℕ) (s : Step) (change : Change) (q : PatternView) → AreMadeOfEarlier steps
    → slice_get steps i ≡ Some s → s.kept ≡ Changed change → q ≡ pattern_in (versions_of steps) s.parent
    → changed q change ≡ pattern_in (versions_of steps) i
changed_is steps i s change q earlier e is parent =
    ap (λ (r : PatternView). changed r change) parent
    ∙ ap (kept_pattern (pattern_in (versions_of steps) s.parent)) (sym is) ∙ sym (pattern_is steps i s earlier e)

pub changed_rules : (steps : List Step) (i : ℕ) (s : Step) (change : Change) (q : PatternView)
    → AreMadeOfEarlier steps → ArePatterns (versions_of steps)
    → slice_get steps i ≡ Some s → s.kept ≡ Changed change → q ≡ pattern_in (versions_of steps) s.parent
    → IsPattern (changed q change)
changed_rules steps i s change q earlier rules e is parent =
    subst IsPattern
    (ap (kept_pattern (pattern_in (versions_of steps) s.parent)) is
    ∙ ap (λ (r : PatternView). changed r change) (sym parent)) (rules_of steps i s earlier rules e)

module _ (steps : List Step) (n : ℕ) (hand : PatternView) (stored : IsStored steps n hand) (i : ℕ) where
  -- it is at hand
  pub from_hand : {X E : Type 0} (r : Result X E) (value : X → PatternView) → IfOk r (λ c. value c ≡ hand) → i ≡ n
      → IfOk r (λ c. value c ≡ pattern_in (versions_of steps) i)
  from_hand (Ok c) value is at = is ∙ sym stored.hand_is ∙ ap (pattern_in (versions_of steps)) (sym at)
  from_hand (Err e) value is at = tt

  -- another one is taken to hand
  pub other_hand : (p : PatternView) → i < length steps → p ≡ pattern_in (versions_of steps) i → IsStored steps i p
  other_hand p below is = record {
    count = stored.count;
    earlier = stored.earlier;
    rules = stored.rules;
    sizes = stored.sizes;
    exists = below;
    hand_is = sym is;
  }

  module _ (j : JournalView) (current : ℕ) (redo : List ℕ)
      (view : (let k : JournalView = record { versions = versions_of steps; current = current; redo = redo } in k) ≡ j) where
    pub found_at : i < length steps → pattern_at j i ≡ Some (pattern_in (versions_of steps) i)
    found_at below = ap (λ (k : JournalView). pattern_at k i) (sym view) ∙ pattern_there steps i below

    pub found_is : (p : PatternView) → i < length steps → p ≡ pattern_in (versions_of steps) i → pattern_at j i ≡ Some p
    found_is p below is = found_at below ∙ ap Some (sym is)

    pub none_at : length steps ≤ i → pattern_at j i ≡ None
    none_at past = ap (λ (k : JournalView). pattern_at k i) (sym view) ∙ no_pattern steps i past

    pub size_at : (s : Step) → slice_get steps i ≡ Some s → Some s.size ≡ option_map size_of (pattern_at j i)
    size_at s e = size_is steps n hand i stored (Some s) e ∙ ap (λ (k : JournalView). option_map size_of (pattern_at k i)) view

    pub no_size : length steps ≤ i → None ≡ option_map size_of (pattern_at j i)
    no_size past = ap (option_map size_of) (sym (none_at past))
