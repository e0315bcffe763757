-- Lists in which each element stands before all later ones, and what a mask keeps of a list.
use Rattle.std.proofs.Common.{◌≡◌, ℕ, zero, suc, ◌<◌, ◌⊎◌, inl, inr, Bool, true, false, List, [], ◌∷◌, length, refl, sym, ap₂, subst, ◌∙◌, arith}
use Rattle.std.specs.Prelude.{◌↔◌, slice_index_or}
use Rattle.std.specs.Bool.{IsTrue}
use Rattle.std.specs.List.{All, AllPairs, AllZip, Contains}
use Rattle.std.proofs.lemmas.Bool.{false≢true}
use Rattle.std.proofs.lemmas.List.Elements.{All-nil, All-cons, All-head, All-tail, All-contains}
use Rattle.std.proofs.lemmas.List.Kept.{AllPairs-cons}
use Rattle.rayon.specs.Lists.{filter_by_mask}

module _ {X : Type 0} where
  pub here : (x : X) (xs : List X) → Contains (x ∷ xs) x
  here x xs = (0, omega arith, refl)

  pub there : (x : X) (xs : List X) (z : X) → Contains xs z → Contains (x ∷ xs) z
  there x xs z h = (suc h.0, omega (arith, h.1), h.2)

  either_at : (x : X) (xs : List X) (z : X) (k : ℕ) → k < length (x ∷ xs) → slice_index_or (x ∷ xs) k z ≡ z
      → (x ≡ z) ⊎ Contains xs z
  either_at x xs z zero below e = inl e
  either_at x xs z (suc k) below e = inr (k, omega arith, e)

  pub either : (x : X) (xs : List X) (z : X) → Contains (x ∷ xs) z → (x ≡ z) ⊎ Contains xs z
  either x xs z h = either_at x xs z h.0 h.1 h.2

  pub none : (z : X) → Contains [] z → ⊥
  none z h = omega (arith, h.1)

module _ {X : Type 0} (P : X → Type 0) where
  pub all_masked : (xs : List X) (bs : List Bool) → All P xs → All P (filter_by_mask xs bs)
  all_masked [] bs h = h
  all_masked (x ∷ xs) [] h = All-nil P
  all_masked (x ∷ xs) (true ∷ bs) h =
      All-cons P x (filter_by_mask xs bs) (All-head P x xs h) (all_masked xs bs (All-tail P x xs h))
  all_masked (x ∷ xs) (false ∷ bs) h = all_masked xs bs (All-tail P x xs h)

  -- where the mask tells of each element whether P holds of it
  pub kept_holds : (xs : List X) (bs : List Bool) → AllZip (λ x b. IsTrue b ↔ P x) xs bs
      → All P (filter_by_mask xs bs)
  kept_holds [] [] h = All-nil P
  kept_holds [] (b ∷ bs) h = absurd h
  kept_holds (x ∷ xs) [] h = absurd h
  kept_holds (x ∷ xs) (true ∷ bs) h = All-cons P x (filter_by_mask xs bs) (h.0.0 refl) (kept_holds xs bs h.1)
  kept_holds (x ∷ xs) (false ∷ bs) h = kept_holds xs bs h.1

  kept_first : (x z : X) (xs : List X) (b : Bool) (bs : List Bool) → IsTrue b ↔ P x → x ≡ z → P z
      → Contains (filter_by_mask (x ∷ xs) (b ∷ bs)) z
  kept_first x z xs true bs tells e holds =
      subst (λ (t : X). Contains (x ∷ filter_by_mask xs bs) t) e (here x (filter_by_mask xs bs))
  kept_first x z xs false bs tells e holds = absurd (false≢true (tells.1 (subst P (sym e) holds)))

  kept_later : (x z : X) (xs : List X) (b : Bool) (bs : List Bool) → Contains (filter_by_mask xs bs) z
      → Contains (filter_by_mask (x ∷ xs) (b ∷ bs)) z
  kept_later x z xs true bs h = there x (filter_by_mask xs bs) z h
  kept_later x z xs false bs h = h

  pub holds_kept : (xs : List X) (bs : List Bool) → AllZip (λ x b. IsTrue b ↔ P x) xs bs → (z : X)
      → Contains xs z → P z → Contains (filter_by_mask xs bs) z
  holds_kept [] [] h z m holds = m
  holds_kept [] (b ∷ bs) h z m holds = absurd h
  holds_kept (x ∷ xs) [] h z m holds = absurd h
  holds_kept (x ∷ xs) (b ∷ bs) h z m holds =
      elim (either x xs z m) [
        | inl e ↦ kept_first x z xs b bs h.0 e holds
        | inr n ↦ kept_later x z xs b bs (holds_kept xs bs h.1 z n holds)
      ]

module _ {X : Type 0} (R : X → X → Type 0) where
  pub before_rest : (x : X) (xs : List X) → AllPairs R (x ∷ xs) → All (R x) xs
  before_rest x xs h = λ k d below. h 0 (suc k) d (omega arith) (omega arith)

  pub rest_ascends : (x : X) (xs : List X) → AllPairs R (x ∷ xs) → AllPairs R xs
  rest_ascends x xs h = λ i j d less below. h (suc i) (suc j) d (omega arith) (omega arith)

  pub ascends_masked : (xs : List X) (bs : List Bool) → AllPairs R xs → AllPairs R (filter_by_mask xs bs)
  ascends_masked [] bs h = h
  ascends_masked (x ∷ xs) [] h = λ i j d less below. absurd (omega arith)
  ascends_masked (x ∷ xs) (true ∷ bs) h =
      AllPairs-cons R x (filter_by_mask xs bs) (all_masked (R x) xs bs (before_rest x xs h))
      (ascends_masked xs bs (rest_ascends x xs h))
  ascends_masked (x ∷ xs) (false ∷ bs) h = ascends_masked xs bs (rest_ascends x xs h)

  -- ascending lists with the same elements are one list
  module _ (not_itself : (x : X) → R x x → ⊥) (not_both : (x y : X) → R x y → R y x → ⊥) where
    same_first : (x y : X) (xs ys : List X) → AllPairs R (x ∷ xs) → AllPairs R (y ∷ ys) → Contains (y ∷ ys) x
        → Contains (x ∷ xs) y → x ≡ y
    same_first x y xs ys up up' m n =
        elim (either y ys x m) [
          | inl e ↦ sym e
          | inr later ↦
              elim (either x xs y n) [
                | inl e ↦ e
                | inr later' ↦
                    absurd
                    (not_both x y (All-contains (R x) xs y (before_rest x xs up) later')
                    (All-contains (R y) ys x (before_rest y ys up') later))
              ]
        ]

    later_too : (x y z : X) (xs ys : List X) → AllPairs R (x ∷ xs) → x ≡ y → Contains xs z
        → Contains (y ∷ ys) z → Contains ys z
    later_too x y z xs ys up same m n =
        elim (either y ys z n) [
          | inl e ↦
              absurd
              (not_itself x
              (subst (λ (t : X). R x t) (sym (same ∙ e)) (All-contains (R x) xs z (before_rest x xs up) m)))
          | inr later ↦ later
        ]

    pub one_list : (xs ys : List X) → AllPairs R xs → AllPairs R ys
        → ((z : X) → Contains xs z → Contains ys z) → ((z : X) → Contains ys z → Contains xs z) → xs ≡ ys
    one_list [] [] up up' to from = refl
    one_list [] (y ∷ ys) up up' to from = absurd (none y (from y (here y ys)))
    one_list (x ∷ xs) [] up up' to from = absurd (none x (to x (here x xs)))
    one_list (x ∷ xs) (y ∷ ys) up up' to from =
        let same : x ≡ y = same_first x y xs ys up up' (to x (here x xs)) (from y (here y ys)) in
        ap₂ ◌∷◌ same
        (one_list xs ys (rest_ascends x xs up) (rest_ascends y ys up')
        (λ z m. later_too x y z xs ys up same m (to z (there x xs z m)))
        (λ z m. later_too y x z ys xs up' (sym same) m (from z (there y ys z m))))
