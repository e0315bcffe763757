-- Lists whose neighbours stand in a relation, and what is in a list.
use Rattle.std.proofs.Common.{◌≡◌, ◌⊎◌, inl, inr, List, [], ◌∷◌, ◌++◌, reverse, flat_map, refl, sym, ap, subst, ◌∙◌}
use Rattle.std.specs.Prelude.{⊤}
use Rattle.std.proofs.lemmas.List.{append_assoc, reverse-append}
use Rattle.line_split.specs.MemberLaws.{Member}

module _ {X : Type 0} where
  -- each element and the one after it
  abbrev pub Chain : (X → X → Type 0) → List X → Type 0
  Chain R [] = ⊤
  Chain R (x ∷ []) = ⊤
  Chain R (x ∷ y ∷ ys) = R x y × Chain R (y ∷ ys)

  pub member_left : (xs ys : List X) (z : X) → Member xs z → Member (xs ++ ys) z
  member_left [] ys z m = absurd m
  member_left (x ∷ xs) ys z (inl e) = inl e
  member_left (x ∷ xs) ys z (inr m) = inr (member_left xs ys z m)

  pub member_right : (xs ys : List X) (z : X) → Member ys z → Member (xs ++ ys) z
  member_right [] ys z m = m
  member_right (x ∷ xs) ys z m = inr (member_right xs ys z m)

  pub member_either : (xs ys : List X) (z : X) → Member (xs ++ ys) z → Member xs z ⊎ Member ys z
  member_either [] ys z m = inr m
  member_either (x ∷ xs) ys z (inl e) = inl (inl e)
  member_either (x ∷ xs) ys z (inr m) = elim (member_either xs ys z m) [ inl n ↦ inl (inr n) | inr n ↦ inr n ]

  reverse_cons : (x : X) (xs : List X) → reverse (x ∷ xs) ≡ reverse xs ++ x ∷ []
  reverse_cons x xs = reverse-append (x ∷ []) xs

  pub reverse_member : (xs : List X) (z : X) → Member (reverse xs) z → Member xs z
  reverse_member [] z m = m
  reverse_member (x ∷ xs) z m =
      elim (member_either (reverse xs) (x ∷ []) z
      (subst (λ (ys : List X). Member ys z) (reverse_cons x xs) m)) [
        | inl n ↦ inr (reverse_member xs z n)
        | inr n ↦ (elim n [ inl e ↦ inl e | inr none ↦ absurd none ])
      ]

module _ {X : Type 0} (R : X → X → Type 0) where
  pub chain_join : (xs : List X) (y : X) (ys : List X) → Chain R (xs ++ y ∷ []) → Chain R (y ∷ ys)
      → Chain R (xs ++ y ∷ ys)
  chain_join [] y ys a b = b
  chain_join (x ∷ []) y ys a b = (a.0, b)
  chain_join (x ∷ w ∷ xs) y ys a b = (a.0, chain_join (w ∷ xs) y ys a.1 b)

  -- an element that each of the list stands before, put behind
  pub chain_close : (x : X) (xs : List X) (y : X) → ((z : X) → Member (x ∷ xs) z → R z y) → Chain R (x ∷ xs)
      → Chain R (x ∷ xs ++ y ∷ [])
  chain_close x [] y last c = (last x (inl refl), tt)
  chain_close x (w ∷ ws) y last c = (c.0, chain_close w ws y (λ z m. last z (inr m)) c.1)

  pub chain_open : (x : X) (xs : List X) → ((z : X) → Member xs z → R x z) → Chain R xs → Chain R (x ∷ xs)
  chain_open x [] first c = tt
  chain_open x (w ∷ ws) first c = (first w (inl refl), c)

module _ {X : Type 0} (R S : X → X → Type 0) where
  -- another relation that follows for members
  pub chain_as : (xs : List X) → ((x y : X) → Member xs x → Member xs y → R x y → S x y) → Chain R xs
      → Chain S xs
  chain_as [] follows c = tt
  chain_as (x ∷ []) follows c = tt
  chain_as (x ∷ y ∷ ys) follows c = (
    follows x y (inl refl) (inr (inl refl)) c.0,
    chain_as (y ∷ ys) (λ v w m n r. follows v w (inr m) (inr n) r) c.1,
  )

module _ {X : Type 0} (R : X → X → Type 0) where
  abbrev Back : X → X → Type 0
  Back x y = R y x

  pub chain_reverse : (xs : List X) → Chain R xs → Chain Back (reverse xs)
  chain_reverse [] c = tt
  chain_reverse (x ∷ []) c = tt
  chain_reverse (x ∷ y ∷ ys) c =
      let whole : reverse (x ∷ y ∷ ys) ≡ reverse ys ++ y ∷ x ∷ [] =
      reverse_cons x (y ∷ ys) ∙ ap (λ zs. zs ++ x ∷ []) (reverse_cons y ys)
      ∙ append_assoc (reverse ys) (y ∷ []) (x ∷ []) in
      let rest : Chain Back (reverse ys ++ y ∷ []) =
      subst (Chain Back) (reverse_cons y ys) (chain_reverse (y ∷ ys) c.1) in
      subst (Chain Back) (sym whole) (chain_join Back (reverse ys) y (x ∷ []) rest (c.0, tt))

module _ {A X : Type 0} (f : A → List X) where
  pub member_flat : (items : List A) (a : A) (x : X) → Member items a → Member (f a) x
      → Member (flat_map f items) x
  member_flat [] a x m n = absurd m
  member_flat (b ∷ bs) a x (inl e) n =
      member_left (f b) (flat_map f bs) x (subst (λ (t : A). Member (f t) x) (sym e) n)
  member_flat (b ∷ bs) a x (inr m) n = member_right (f b) (flat_map f bs) x (member_flat bs a x m n)

  pub flat_member : (items : List A) (x : X) → Member (flat_map f items) x → (a : A) × Member items a
      × Member (f a) x
  flat_member [] x m = absurd m
  flat_member (b ∷ bs) x m =
      elim (member_either (f b) (flat_map f bs) x m) [
        | inl n ↦ (b, inl refl, n)
        | inr n ↦ (let h = flat_member bs x n in (h.0, inr h.1, h.2))
      ]
