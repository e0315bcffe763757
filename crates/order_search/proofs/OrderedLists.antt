-- All sign lists of a length stand in lexicographic order, each before all later ones.
use Rattle.std.proofs.Common.{◌≡◌, ◌⊎◌, ℕ, zero, suc, ◌+◌, ◌<◌, Bool, true, false, cond, List, [], ◌∷◌, ◌++◌, length, map, refl, sym, ◌∙◌, ap, subst, inl, inr, arith}
use Rattle.std.specs.List.{All, AllPairs, Contains, filter}
use Rattle.std.proofs.lemmas.List.Elements.{All-cons, All-nil, All-contains}
use Rattle.std.proofs.lemmas.List.Kept.{AllPairs-cons}
use Rattle.sign_rules.specs.declared.sign.Sign.{Sign}
use Rattle.sign_rules.specs.declared.sign.Sign.TheVariants.{Over, Under}
use Rattle.sign_rules.specs.Rules.{is_consistent}
use Rattle.search_cursor.specs.Place.{list_before}
use Rattle.order_search.specs.Lists.{all_lists, orders}
use Rattle.order_search.specs.ListLaws.{Each, each_of, each_map, each_append, each_mapped, each_filter, over, under}
use Rattle.order_search.specs.OrderedLists.{AreInOrder, OrdersAreInOrder}
use Rattle.order_search.proofs.AllLists.{orders-all}

-- ---- members

abbrev IsIn : {X : Type 0} → X → List X → Type 0
IsIn x [] = ⊥
IsIn x (y ∷ ys) = (y ≡ x) ⊎ IsIn x ys

in_append_left : {X : Type 0} (x : X) (xs ys : List X) → IsIn x xs → IsIn x (xs ++ ys)
in_append_left x [] ys h = absurd h
in_append_left x (y ∷ xs) ys (inl e) = inl e
in_append_left x (y ∷ xs) ys (inr h) = inr (in_append_left x xs ys h)

in_append_right : {X : Type 0} (x : X) (xs ys : List X) → IsIn x ys → IsIn x (xs ++ ys)
in_append_right x [] ys h = h
in_append_right x (y ∷ xs) ys h = inr (in_append_right x xs ys h)

in_map : {X Y : Type 0} (f : X → Y) (x : X) (xs : List X) → IsIn x xs → IsIn (f x) (map f xs)
in_map f x [] h = absurd h
in_map f x (y ∷ xs) (inl e) = inl (ap f e)
in_map f x (y ∷ xs) (inr h) = inr (in_map f x xs h)

in_filter : {X : Type 0} (p : X → Bool) (x : X) (xs : List X) → p x ≡ true → IsIn x xs → IsIn x (filter p xs)
in_filter p x [] e h = absurd h
in_filter {X} p x (y ∷ xs) e (inl same) =
    subst (λ b. IsIn x (cond b (y ∷ filter p xs) (filter p xs))) (sym (ap p same ∙ e)) (inl same)
in_filter {X} p x (y ∷ xs) e (inr h) = go (p y) (in_filter p x xs e h)
  where
    go : (b : Bool) → IsIn x (filter p xs) → IsIn x (cond b (y ∷ filter p xs) (filter p xs))
    go true k = inr k
    go false k = k

in_all : (s : List Sign) → IsIn s (all_lists (length s))
unfolding all_lists
in_all [] = inl refl
in_all (Over ∷ s) =
    in_append_left (Over ∷ s) (map over (all_lists (length s))) (map under (all_lists (length s)))
    (in_map over s (all_lists (length s)) (in_all s))
in_all (Under ∷ s) =
    in_append_right (Under ∷ s) (map over (all_lists (length s))) (map under (all_lists (length s)))
    (in_map under s (all_lists (length s)) (in_all s))

contains_in : {X : Type 0} (x : X) (xs : List X) → IsIn x xs → Contains xs x
contains_in x [] h = absurd h
contains_in x (y ∷ ys) (inl e) = (0, omega arith, e)
contains_in x (y ∷ ys) (inr h) =
    let rest = contains_in x ys h in (suc rest.0, omega (arith, rest.1), rest.2)

all_each : {X : Type 0} (P : X → Type 0) (xs : List X) → Each P xs → All P xs
all_each P [] h = All-nil P
all_each P (x ∷ xs) h = All-cons P x xs h.0 (all_each P xs h.1)

-- ---- ascending

abbrev Before : List Sign → List Sign → Type 0
Before a b = list_before a b ≡ true

abbrev Ascend : List (List Sign) → Type 0
Ascend [] = Unit {0}
Ascend (x ∷ xs) = Each (Before x) xs × Ascend xs

ascend_over : (xs : List (List Sign)) → Ascend xs → Ascend (map over xs)
ascend_over [] h = tt
ascend_over (x ∷ xs) h = (each_mapped (Before (over x)) over xs h.0, ascend_over xs h.1)

ascend_under : (xs : List (List Sign)) → Ascend xs → Ascend (map under xs)
ascend_under [] h = tt
ascend_under (x ∷ xs) h = (each_mapped (Before (under x)) under xs h.0, ascend_under xs h.1)

ascend_append : (xs ys : List (List Sign)) → Ascend xs → Ascend ys → Each (λ x. Each (Before x) ys) xs
    → Ascend (xs ++ ys)
ascend_append [] ys h k apart = k
ascend_append (x ∷ xs) ys h k apart =
    (each_append (Before x) xs ys h.0 apart.0, ascend_append xs ys h.1 k apart.1)

ascend_all : (n : ℕ) → Ascend (all_lists n)
unfolding all_lists
ascend_all zero = (tt, tt)
ascend_all (suc n) =
    let lists = all_lists n in
    let apart : Each (λ x. Each (Before x) (map under lists)) (map over lists) =
    each_mapped (λ x. Each (Before x) (map under lists)) over lists
    (each_of (λ x. Each (Before (over x)) (map under lists))
    (λ x. each_mapped (Before (over x)) under lists (each_of (λ y. Before (over x) (under y)) (λ y. refl) lists))
    lists) in
    ascend_append (map over lists) (map under lists) (ascend_over lists (ascend_all n))
    (ascend_under lists (ascend_all n)) apart

each_left : (x : List Sign) (p : List Sign → Bool) (xs : List (List Sign)) → Each (Before x) xs
    → Each (Before x) (filter p xs)
each_left x p xs h =
    each_map (λ y. Before x y × (p y ≡ true)) (Before x) (λ y k. k.0) (filter p xs)
    (each_filter (Before x) p xs h)

ascend_filter : (p : List Sign → Bool) (xs : List (List Sign)) → Ascend xs → Ascend (filter p xs)
ascend_filter p [] h = tt
ascend_filter p (x ∷ xs) h = go (p x) (each_left x p xs h.0) (ascend_filter p xs h.1)
  where
    go : (b : Bool) → Each (Before x) (filter p xs) → Ascend (filter p xs)
        → Ascend (cond b (x ∷ filter p xs) (filter p xs))
    go true first rest = (first, rest)
    go false first rest = rest

pairs_ascend : (xs : List (List Sign)) → Ascend xs → AllPairs Before xs
pairs_ascend [] h = λ i j d below inside. absurd (omega (arith, inside))
pairs_ascend (x ∷ xs) h = AllPairs-cons Before x xs (all_each (Before x) xs h.0) (pairs_ascend xs h.1)

pub orders_in_order : OrdersAreInOrder
unfolding orders
orders_in_order r = record {
  members = λ signs. (
    λ inside. All-contains (λ q. (length q ≡ r.pairs) × (is_consistent r q ≡ true)) (orders r) signs
        (all_each (λ q. (length q ≡ r.pairs) × (is_consistent r q ≡ true)) (orders r) (orders-all r)) inside,
    λ is. contains_in signs (orders r)
        (in_filter (is_consistent r) signs (all_lists r.pairs) is.1
        (subst (λ n. IsIn signs (all_lists n)) is.0 (in_all signs))),
  );
  ascend = pairs_ascend (orders r) (ascend_filter (is_consistent r) (all_lists r.pairs) (ascend_all r.pairs));
}
