-- What is in a list, by recursion.
use Rattle.std.proofs.Common.{◌≡◌, ℕ, zero, suc, ◌<◌, Bool, true, ◌⊎◌, inl, inr, List, [], ◌∷◌, ◌++◌, length, get_or, refl, ap, subst, ◌∙◌, arith}
use Rattle.std.specs.Prelude.{Contains}
use Rattle.std.specs.List.{AllByRecursion, list_any, filter}
use Rattle.std.proofs.lemmas.Bool.{false≢true, or_cases, or_left, or_right, both_ways, cond_both}

abbrev pub Member : {X : Type 0} → List X → X → Type 0
Member [] z = ⊥
Member (x ∷ xs) z = (x ≡ z) ⊎ Member xs z

module _ {X : Type 0} where
  member_at : (xs : List X) (z : X) (k : ℕ) → k < length xs → get_or xs k z ≡ z → Member xs z
  member_at [] z k few e = absurd (omega arith)
  member_at (x ∷ xs) z zero few e = inl e
  member_at (x ∷ xs) z (suc k) few e = inr (member_at xs z k (omega arith) e)

  pub member : (xs : List X) (z : X) → Contains xs z → Member xs z
  member xs z c = member_at xs z c.0 c.1 c.2

  pub contained : (xs : List X) (z : X) → Member xs z → Contains xs z
  contained [] z m = absurd m
  contained (x ∷ xs) z (inl e) = (0, omega arith, e)
  contained (x ∷ xs) z (inr m) = let c = contained xs z m in (suc c.0, omega (arith, c.1), c.2)

  pub all_member : (P : X → Type 0) (xs : List X) (z : X) → AllByRecursion P xs → Member xs z → P z
  all_member P [] z all m = absurd m
  all_member P (x ∷ xs) z all (inl e) = subst P e all.0
  all_member P (x ∷ xs) z all (inr m) = all_member P xs z all.1 m

  pub all_from_members : (P : X → Type 0) (xs : List X) → ((z : X) → Member xs z → P z) → AllByRecursion P xs
  all_from_members P [] h = tt
  all_from_members P (x ∷ xs) h = (h x (inl refl), all_from_members P xs (λ z m. h z (inr m)))

  pub any_member : (test : X → Bool) (xs : List X) → list_any test xs ≡ true → (z : X) × Member xs z
      × (test z ≡ true)
  any_member test [] e = absurd (false≢true e)
  any_member test (x ∷ xs) e =
      elim (or_cases (test x) (list_any test xs) e) [
        | inl l ↦ (x, inl refl, l)
        | inr r ↦ (let w = any_member test xs r in (w.0, inr w.1, w.2))
      ]

  pub member_any : (test : X → Bool) (xs : List X) (z : X) → Member xs z → test z ≡ true
      → list_any test xs ≡ true
  member_any test [] z m e = absurd m
  member_any test (x ∷ xs) z (inl at) e = or_left (test x) (list_any test xs) (ap test at ∙ e)
  member_any test (x ∷ xs) z (inr m) e = or_right (test x) (list_any test xs) (member_any test xs z m e)

  pub filter_member : (test : X → Bool) (xs : List X) (z : X) → Member (filter test xs) z → Member xs z
      × (test z ≡ true)
  filter_member test [] z = λ m. absurd m
  filter_member test (x ∷ xs) z =
      cond_both (test x) (x ∷ filter test xs) (filter test xs)
      (λ ys. Member ys z → Member (x ∷ xs) z × (test z ≡ true))
      (λ e m. elim m [
        | inl f ↦ (inl f, subst (λ (t : X). test t ≡ true) f e)
        | inr n ↦ (let r = filter_member test xs z n in (inr r.0, r.1))
      ])
      (λ e m. let r = filter_member test xs z m in (inr r.0, r.1))

  pub member_filter : (test : X → Bool) (xs : List X) (z : X) → Member xs z → test z ≡ true
      → Member (filter test xs) z
  member_filter test [] z m e = absurd m
  member_filter test (x ∷ xs) z m e =
      cond_both (test x) (x ∷ filter test xs) (filter test xs) (λ ys. Member ys z)
      (λ f. elim m [ inl g ↦ inl g | inr n ↦ inr (member_filter test xs z n e) ])
      (λ f. elim m [
        | inl g ↦ absurd (both_ways (test x) f (ap test g ∙ e))
        | inr n ↦ member_filter test xs z n e
      ])

-- ---- joined lists

module _ {X : Type 0} where
  pub member_left : (xs ys : List X) (z : X) → Member xs z → Member (xs ++ ys) z
  member_left [] ys z m = absurd m
  member_left (x ∷ xs) ys z (inl e) = inl e
  member_left (x ∷ xs) ys z (inr m) = inr (member_left xs ys z m)

  pub member_right : (xs ys : List X) (z : X) → Member ys z → Member (xs ++ ys) z
  member_right [] ys z m = m
  member_right (x ∷ xs) ys z m = inr (member_right xs ys z m)

  pub member_either : (xs ys : List X) (z : X) → Member (xs ++ ys) z → Member xs z ⊎ Member ys z
  member_either [] ys z m = inr m
  member_either (x ∷ xs) ys z (inl e) = inl (inl e)
  member_either (x ∷ xs) ys z (inr m) = elim (member_either xs ys z m) [ inl n ↦ inl (inr n) | inr n ↦ inr n ]
