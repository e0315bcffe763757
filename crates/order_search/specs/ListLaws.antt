-- Filters that agree and how many elements they leave; sign lists by their first sign, and by their fronts.
use Rattle.std.proofs.Common.{◌≡◌, ◌+◌, Bool, true, false, not, ◌&&◌, cond, List, [], ◌∷◌, ◌++◌, length, map, refl, sym, ◌∙◌, ap, subst, arith, inl, inr}
use Rattle.std.specs.List.{filter}
use Rattle.std.proofs.lemmas.Bool.{true≢false, cases_Bool}
use Rattle.sign_rules.specs.declared.sign.Sign.{Sign}
use Rattle.sign_rules.specs.declared.sign.Sign.TheVariants.{Over, Under}
use Rattle.sign_rules.specs.Rules.{RulesView, is_consistent}
use Rattle.sign_rules.specs.ConsistencyLaws.{consistent-front}
use Rattle.search_cursor.specs.Place.{begins_with}
use Rattle.search_cursor.specs.PlaceLaws.{begins_with-split}

-- a fact of each element, from the front
abbrev pub Each : {X : Type 0} → (X → Type 0) → List X → Type 0
Each P [] = Unit {0}
Each P (x ∷ xs) = P x × Each P xs

pub each_of : {X : Type 0} (P : X → Type 0) → ((x : X) → P x) → (xs : List X) → Each P xs
each_of P f [] = tt
each_of P f (x ∷ xs) = (f x, each_of P f xs)

pub each_map : {X : Type 0} (P Q : X → Type 0) → ((x : X) → P x → Q x) → (xs : List X) → Each P xs → Each Q xs
each_map P Q f [] h = tt
each_map P Q f (x ∷ xs) h = (f x h.0, each_map P Q f xs h.1)

pub each_append : {X : Type 0} (P : X → Type 0) (xs ys : List X) → Each P xs → Each P ys → Each P (xs ++ ys)
each_append P [] ys h k = k
each_append P (x ∷ xs) ys h k = (h.0, each_append P xs ys h.1 k)

pub each_mapped : {X Y : Type 0} (P : Y → Type 0) (f : X → Y) (xs : List X) → Each (λ x. P (f x)) xs
    → Each P (map f xs)
each_mapped P f [] h = tt
each_mapped P f (x ∷ xs) h = (h.0, each_mapped P f xs h.1)

-- what passes a test has passed it
pub each_filter : {X : Type 0} (P : X → Type 0) (c : X → Bool) (xs : List X) → Each P xs
    → Each (λ x. P x × (c x ≡ true)) (filter c xs)
each_filter {X} P c [] h = tt
each_filter {X} P c (x ∷ xs) h = go (each_filter P c xs h.1) (c x) refl
  where
    go : Each (λ y. P y × (c y ≡ true)) (filter c xs) → (b : Bool) → c x ≡ b
        → Each (λ y. P y × (c y ≡ true)) (cond b (x ∷ filter c xs) (filter c xs))
    go rest true e = ((h.0, e), rest)
    go rest false e = rest

-- filters by tests that agree on each element are the same
pub filter_same : {X : Type 0} (f g : X → Bool) (xs : List X) → Each (λ x. f x ≡ g x) xs
    → filter f xs ≡ filter g xs
filter_same f g [] h = refl
filter_same f g (x ∷ xs) h =
    ap (λ b. cond b (x ∷ filter f xs) (filter f xs)) h.0
    ∙ ap (λ l. cond (g x) (x ∷ l) l) (filter_same f g xs h.1)

pub filter_none : {X : Type 0} (f : X → Bool) (xs : List X) → Each (λ x. f x ≡ false) xs → filter f xs ≡ []
filter_none f [] h = refl
filter_none f (x ∷ xs) h = ap (λ b. cond b (x ∷ filter f xs) (filter f xs)) h.0 ∙ filter_none f xs h.1

pub filter_append : {X : Type 0} (f : X → Bool) (xs ys : List X)
    → filter f (xs ++ ys) ≡ filter f xs ++ filter f ys
filter_append f [] ys = refl
filter_append f (x ∷ xs) ys = go (f x) (filter_append f xs ys)
  where
    go : (b : Bool) → filter f (xs ++ ys) ≡ filter f xs ++ filter f ys
        → cond b (x ∷ filter f (xs ++ ys)) (filter f (xs ++ ys)) ≡ cond b (x ∷ filter f xs) (filter f xs)
        ++ filter f ys
    go true e = ap (λ l. x ∷ l) e
    go false e = e

pub filter_map : {X Y : Type 0} (f : Y → Bool) (h : X → Y) (xs : List X)
    → filter f (map h xs) ≡ map h (filter (λ x. f (h x)) xs)
filter_map f h [] = refl
filter_map f h (x ∷ xs) = go (f (h x)) (filter_map f h xs)
  where
    go : (b : Bool) → filter f (map h xs) ≡ map h (filter (λ x. f (h x)) xs)
        → cond b (h x ∷ filter f (map h xs)) (filter f (map h xs))
        ≡ map h (cond b (x ∷ filter (λ x. f (h x)) xs) (filter (λ x. f (h x)) xs))
    go true e = ap (λ l. h x ∷ l) e
    go false e = e

-- two filters, one after the other, are one
pub filter_filter : {X : Type 0} (f c : X → Bool) (xs : List X)
    → filter f (filter c xs) ≡ filter (λ x. c x && f x) xs
filter_filter f c [] = refl
filter_filter f c (x ∷ xs) = go (c x) (filter_filter f c xs)
  where
    go : (b : Bool) → filter f (filter c xs) ≡ filter (λ x. c x && f x) xs
        → filter f (cond b (x ∷ filter c xs) (filter c xs))
        ≡ cond (b && f x) (x ∷ filter (λ x. c x && f x) xs) (filter (λ x. c x && f x) xs)
    go true e = ap (λ l. cond (f x) (x ∷ l) l) e
    go false e = e

-- a count from one place to a later one and from there to a still later one
pub between_add : {X : Type 0} (b p q r : X → Bool) → ((x : X) → p x ≡ true → q x ≡ true)
    → ((x : X) → q x ≡ true → r x ≡ true) → (xs : List X)
    → length (filter (λ x. b x && not (p x) && r x) xs)
    ≡ length (filter (λ x. b x && not (p x) && q x) xs) + length (filter (λ x. b x && not (q x) && r x) xs)
between_add b p q r onward further [] = refl
between_add {X} b p q r onward further (x ∷ xs) =
    go (b x) (p x) (q x) (r x) (onward x) (further x) (between_add b p q r onward further xs)
  where
    go : (b' p' q' r' : Bool) → (p' ≡ true → q' ≡ true) → (q' ≡ true → r' ≡ true)
        → length (filter (λ x. b x && not (p x) && r x) xs)
        ≡ length (filter (λ x. b x && not (p x) && q x) xs) + length
        (filter (λ x. b x && not (q x) && r x) xs)
        → length (cond (b' && not p' && r') (x ∷ filter (λ x. b x && not (p x) && r x) xs)
        (filter (λ x. b x && not (p x) && r x) xs))
        ≡ length (cond (b' && not p' && q') (x ∷ filter (λ x. b x && not (p x) && q x) xs)
        (filter (λ x. b x && not (p x) && q x) xs))
        + length (cond (b' && not q' && r') (x ∷ filter (λ x. b x && not (q x) && r x) xs)
        (filter (λ x. b x && not (q x) && r x) xs))
    go false p' q' r' h k e = e
    go true true true r' h k e = e
    go true true false r' h k e = absurd (true≢false (sym (h refl)))
    go true false true true h k e = omega (arith, e)
    go true false true false h k e = absurd (true≢false (sym (k refl)))
    go true false false true h k e = omega (arith, e)
    go true false false false h k e = e

-- ---- sign lists

abbrev pub over : List Sign → List Sign
over signs = Over ∷ signs

abbrev pub under : List Sign → List Sign
under signs = Under ∷ signs

-- a filter of the lists of the next length, by the first sign
pub by_first : (f : List Sign → Bool) (lists : List (List Sign))
    → filter f (map over lists ++ map under lists)
    ≡ map over (filter (λ q. f (Over ∷ q)) lists) ++ map under (filter (λ q. f (Under ∷ q)) lists)
by_first f lists =
    filter_append f (map over lists) (map under lists)
    ∙ ap (λ l. l ++ filter f (map under lists)) (filter_map f over lists)
    ∙ ap (λ l. map over (filter (λ q. f (Over ∷ q)) lists) ++ l) (filter_map f under lists)

-- no consistent list begins with one that is not
pub none_begins : (r : RulesView) (s q : List Sign) → is_consistent r s ≡ false → is_consistent r q ≡ true
    → begins_with s q ≡ false
none_begins r s q broken consistent = elim (cases_Bool (begins_with s q)) [
  | inl begins ↦
      let split = begins_with-split s q begins in
      absurd (true≢false (
      sym (consistent-front r s split.0 (subst (λ l. is_consistent r l ≡ true) split.1 consistent)) ∙ broken
      ))
  | inr other ↦ other
]
