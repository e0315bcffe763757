-- The walk has fewer steps than there are faces.
use Rattle.std.proofs.Common.{◌≡◌, ℕ, zero, suc, ◌-◌, ◌≤◌, ◌<◌, true, nat_eq, inl, inr, List, [], ◌∷◌, ◌++◌, Some, length, refl, sym, ap, subst, ◌∙◌, arith}
use Rattle.std.specs.Prelude.{slice_get, slice_index_or}
use Rattle.std.proofs.lemmas.Bool.{both_ways as not_both, eq-eqb, or_right}
use Rattle.std.proofs.lemmas.Option.{slice_get-get_or}
use Rattle.line_split.specs.MemberLaws.{Member, member_any}
use Rattle.indexmap.proofs.IndexTableLemmas.Probe.{pigeonhole}
use Rattle.face_builder.specs.declared.shared.SharedPiece.{SharedPiece}
use Rattle.face_builder.specs.declared.walk.Step.{Step}
use Rattle.face_builder.specs.MapRules.{IsWalk}
use Rattle.face_builder.specs.Walk.{is_reached}
use Rattle.face_builder.proofs.Nexts.{member_of_place}
use Rattle.face_builder.proofs.WalkLaws.{reached_later}

module _ (shared : List SharedPiece) where
  -- no step leads to a face that was reached before the walk
  leads_anew : (before steps : List Step) → IsWalk shared before steps → (t : Step) → Member steps t
      → (f : ℕ) → is_reached before f ≡ true → t.face ≡ f → ⊥
  leads_anew before [] w t m f e same = absurd m
  leads_anew before (s ∷ steps) w t (inl at) f e same =
      let face : f ≡ s.face = sym same ∙ ap (λ (x : Step). x.face) (sym at) in
      not_both (is_reached before s.face) w.0.new (subst (λ g. is_reached before g ≡ true) face e)
  leads_anew before (s ∷ steps) w t (inr m) f e same =
      leads_anew (before ++ s ∷ []) steps w.1 t m f (reached_later before s f e) same

  pub just_reached : (before : List Step) (s : Step) → is_reached (before ++ s ∷ []) s.face ≡ true
  just_reached before s =
      or_right (nat_eq s.face 1) _
      (member_any (λ (x : Step). nat_eq x.face s.face) (before ++ s ∷ []) s (last before)
      (eq-eqb s.face s.face refl))
    where
      last : (xs : List Step) → Member (xs ++ s ∷ []) s
      last [] = inl refl
      last (x ∷ xs) = inr (last xs)

  -- steps in different places lead to different faces
  one_place : (before steps : List Step) → IsWalk shared before steps → (i j : ℕ) (s t : Step)
      → slice_get steps i ≡ Some s → slice_get steps j ≡ Some t → s.face ≡ t.face → i ≡ j
  one_place before [] w i j s t e f same = cc
  one_place before (x ∷ xs) w zero zero s t e f same = refl
  one_place before (x ∷ xs) w zero (suc j) s t e f same =
      let at : x ≡ s = cc in
      absurd
      (leads_anew (before ++ x ∷ []) xs w.1 t (member_of_place xs j t f) x.face (just_reached before x)
      (sym same ∙ ap (λ (y : Step). y.face) (sym at)))
  one_place before (x ∷ xs) w (suc i) zero s t e f same =
      let at : x ≡ t = cc in
      absurd
      (leads_anew (before ++ x ∷ []) xs w.1 s (member_of_place xs i s e) x.face (just_reached before x)
      (same ∙ ap (λ (y : Step). y.face) (sym at)))
  one_place before (x ∷ xs) w (suc i) (suc j) s t e f same =
      ap suc (one_place (before ++ x ∷ []) xs w.1 i j s t e f same)

  -- where all faces of steps are from 1 to n, their number is less than n
  pub short_walk : (steps : List Step) (n : ℕ) → IsWalk shared [] steps
      → ((s : Step) → Member steps s → (1 ≤ s.face) × (s.face ≤ n)) → length steps ≤ n - 1
  short_walk steps n w few = pigeonhole (length steps) (n - 1) (λ k. (step_at k).face - 2) into one
    where
      step_at : ℕ → Step
      step_at k = slice_index_or steps k (record { face = 0; from = 0; piece = 0 })

      stands : (k : ℕ) → k < length steps → slice_get steps k ≡ Some (step_at k)
      stands k less = slice_get-get_or steps k (record { face = 0; from = 0; piece = 0 }) less

      bounds : (k : ℕ) → k < length steps → (2 ≤ (step_at k).face) × ((step_at k).face ≤ n)
      bounds k less =
          let m = member_of_place steps k (step_at k) (stands k less) in
          let b = few (step_at k) m in
          let other : (step_at k).face ≡ 1 → ⊥ = leads_anew [] steps w (step_at k) m 1 refl in
          (omega (arith, b.0, other), b.1)

      into : (k : ℕ) → k < length steps → (step_at k).face - 2 < n - 1
      into k less = let b = bounds k less in omega (arith, b.0, b.1)

      one : (i j : ℕ) → i < length steps → j < length steps
          → (step_at i).face - 2 ≡ (step_at j).face - 2 → i ≡ j
      one i j p q e =
          let b = bounds i p in
          let c = bounds j q in
          one_place [] steps w i j (step_at i) (step_at j) (stands i p) (stands j q)
          (omega (arith, b.0, c.0, e))
