-- Lists that stand before a place and those that do not, and how many pass a test.
use Rattle.std.proofs.Common.{◌≡◌, ℕ, ◌+◌, ◌≤◌, Bool, true, false, not, ◌&&◌, cond, List, [], ◌∷◌, length, Option, None, Some, slice_get, refl, sym, ◌∙◌, subst, arith, inl, inr}
use Rattle.std.specs.List.{filter}
use Rattle.std.proofs.lemmas.Bool.{true≢false, cases_Bool, and_from, and_parts, not-true, not_from_false}
use Rattle.sign_rules.specs.declared.sign.Sign.{Sign}
use Rattle.sign_rules.specs.declared.sign.Sign.TheVariants.{Over, Under}
use Rattle.sign_rules.specs.Rules.{RulesView}
use Rattle.search_cursor.specs.Place.{SearchPlace, is_passed, list_before, begins_with}
use Rattle.order_search.specs.Lists.{orders, remaining, lists_between}
use Rattle.job_enumeration.specs.Enumeration.{precedes}

-- ---- counts

-- two tests that pass different elements, all of which a third one passes
pub both_within : {X : Type 0} (f g h : X → Bool) → ((x : X) → f x ≡ true → h x ≡ true)
    → ((x : X) → g x ≡ true → h x ≡ true) → ((x : X) → f x ≡ true → g x ≡ true → ⊥) → (xs : List X)
    → length (filter f xs) + length (filter g xs) ≤ length (filter h xs)
both_within f g h first second apart [] = omega arith
both_within {X} f g h first second apart (x ∷ xs) =
    go (f x) (g x) (h x) refl refl refl (both_within f g h first second apart xs)
  where
    go : (a b c : Bool) → f x ≡ a → g x ≡ b → h x ≡ c
        → length (filter f xs) + length (filter g xs) ≤ length (filter h xs)
        → length (cond a (x ∷ filter f xs) (filter f xs)) + length (cond b (x ∷ filter g xs) (filter g xs))
        ≤ length (cond c (x ∷ filter h xs) (filter h xs))
    go true true c k l m rest = absurd (apart x k l)
    go true false true k l m rest = omega (arith, rest)
    go true false false k l m rest = absurd (true≢false (sym (first x k) ∙ m))
    go false true true k l m rest = omega (arith, rest)
    go false true false k l m rest = absurd (true≢false (sym (second x l) ∙ m))
    go false false true k l m rest = omega (arith, rest)
    go false false false k l m rest = rest

pub fewer_pass : {X : Type 0} (f h : X → Bool) → ((x : X) → f x ≡ true → h x ≡ true) → (xs : List X)
    → length (filter f xs) ≤ length (filter h xs)
fewer_pass {X} f h first xs =
    let both = both_within f (λ (x : X). false) h first (λ x e. absurd (true≢false (sym e)))
    (λ x e k. absurd (true≢false (sym k))) xs in
    omega (arith, both)

some_passes : {X : Type 0} (f : X → Bool) (xs : List X) → 1 ≤ length (filter f xs) → (x : X) × (f x ≡ true)
some_passes f [] below = absurd (omega (arith, below))
some_passes {X} f (x ∷ xs) below = go (f x) refl below (λ k. some_passes f xs k)
  where
    go : (b : Bool) → f x ≡ b → 1 ≤ length (cond b (x ∷ filter f xs) (filter f xs))
        → (1 ≤ length (filter f xs) → (x : X) × (f x ≡ true)) → (x : X) × (f x ≡ true)
    go true e below rest = (x, e)
    go false e below rest = rest below

pub head_passes : {X : Type 0} (f : X → Bool) (xs : List X) (x : X) → slice_get (filter f xs) 0 ≡ Some x
    → f x ≡ true
head_passes f [] x e = absurd (cc)
head_passes {X} f (y ∷ xs) x e = go (f y) refl e (λ k. head_passes f xs x k)
  where
    go : (b : Bool) → f y ≡ b → slice_get (cond b (y ∷ filter f xs) (filter f xs)) 0 ≡ Some x
        → (slice_get (filter f xs) 0 ≡ Some x → f x ≡ true) → f x ≡ true
    go true k e rest = let same : y ≡ x = (cc) in subst (λ z. f z ≡ true) same k
    go false k e rest = rest e

pub three : (x y z : Bool) → (x && y && z) ≡ true → (x ≡ true) × (y ≡ true) × (z ≡ true)
three x y z e =
    let both = and_parts (x && y) z e in
    let first = and_parts x y both.0 in
    (first.0, first.1, both.1)

pub all_three : (x y z : Bool) → x ≡ true → y ≡ true → z ≡ true → (x && y && z) ≡ true
all_three x y z e f g = and_from (x && y) z (and_from x y e f) g

-- ---- before a place

-- a list that stands before a place stands before each list that does not
pub passed_apart : (o q s : List Sign) (x : Bool) → is_passed o s x ≡ true → is_passed q s x ≡ false
    → list_before o q ≡ true
passed_apart [] [] [] x h k = absurd (true≢false (sym h ∙ k))
passed_apart [] (_ ∷ q) [] x h k = refl
passed_apart (_ ∷ o) [] [] x h k = absurd (true≢false (sym h ∙ k))
passed_apart (_ ∷ o) (_ ∷ q) [] x h k = absurd (true≢false (sym h ∙ k))
passed_apart [] [] (_ ∷ s) x h k = absurd (true≢false k)
passed_apart [] (_ ∷ q) (_ ∷ s) x h k = refl
passed_apart (_ ∷ o) [] (_ ∷ s) x h k = absurd (true≢false k)
passed_apart (Over ∷ o) (Over ∷ q) (Over ∷ s) x h k = passed_apart o q s x h k
passed_apart (Over ∷ o) (Under ∷ q) (_ ∷ s) x h k = refl
passed_apart (Under ∷ o) (_ ∷ q) (Over ∷ s) x h k = absurd (true≢false (sym h))
passed_apart (Under ∷ o) (Under ∷ q) (Under ∷ s) x h k = passed_apart o q s x h k
passed_apart (_ ∷ o) (Over ∷ q) (Under ∷ s) x h k = absurd (true≢false k)

not_both_before : (q o : List Sign) → list_before q o ≡ true → list_before o q ≡ true → ⊥
not_both_before [] [] h k = absurd (true≢false (sym h))
not_both_before [] (_ ∷ o) h k = absurd (true≢false (sym k))
not_both_before (_ ∷ q) [] h k = absurd (true≢false (sym h))
not_both_before (Over ∷ q) (Over ∷ o) h k = not_both_before q o h k
not_both_before (Under ∷ q) (Under ∷ o) h k = not_both_before q o h k
not_both_before (Over ∷ q) (Under ∷ o) h k = absurd (true≢false (sym k))
not_both_before (Under ∷ q) (Over ∷ o) h k = absurd (true≢false (sym h))

-- what stands before a list that stands before a place stands before that place
passed_earlier : (q o s : List Sign) (x : Bool) → list_before q o ≡ true → is_passed o s x ≡ true
    → is_passed q s x ≡ true
passed_earlier q o s x h k = elim (cases_Bool (is_passed q s x)) [
  | inl passed ↦ passed
  | inr other ↦ absurd (not_both_before q o h (passed_apart o q s x k other))
]

-- ---- pauses

-- the lists that begin with a prefix, do not stand before a place, and stand before the next order, if there is one
abbrev pub lists_ahead : List (List Sign) → List Sign → SearchPlace → Option (List Sign) → List (List Sign)
lists_ahead lists prefix place next =
    filter (λ q. begins_with prefix q && not (is_passed q place.signs place.past) && precedes next q) lists

-- a list between two places says that the second comes later
pub onward : (from to : SearchPlace) (between : List Sign) → is_passed between from.signs from.past ≡ false
    → is_passed between to.signs to.past ≡ true → (q : List Sign) → is_passed q from.signs from.past ≡ true
    → is_passed q to.signs to.past ≡ true
onward from to between h k q passed =
    passed_earlier q between to.signs to.past (passed_apart q between from.signs from.past passed h) k

-- what a pause passed is ahead no more
pub pause-ahead : (lists : List (List Sign)) (prefix : List Sign) (from to : SearchPlace)
    (next : Option (List Sign)) (budget : ℕ) → 1 ≤ budget
    → budget ≤ length (lists_between lists prefix from to)
    → ((o : List Sign) → next ≡ Some o → is_passed o to.signs to.past ≡ false)
    → budget + length (lists_ahead lists prefix to next) ≤ length (lists_ahead lists prefix from next)
unfolding lists_between
pause-ahead lists prefix from to next budget some enough unpassed =
    let f = λ (q : List Sign). begins_with prefix q && not (is_passed q from.signs from.past)
    && is_passed q to.signs to.past in
    let g = λ (q : List Sign). begins_with prefix q && not (is_passed q to.signs to.past)
    && precedes next q in
    let h = λ (q : List Sign). begins_with prefix q && not (is_passed q from.signs from.past)
    && precedes next q in
    let one = some_passes f lists (omega (arith, some, enough)) in
    let own = three (begins_with prefix one.0) (not (is_passed one.0 from.signs from.past))
    (is_passed one.0 to.signs to.past) one.1 in
    let later = onward from to one.0 (not-true (is_passed one.0 from.signs from.past) own.1) own.2 in
    let both = both_within f g h
    (λ q e. let p = three (begins_with prefix q) (not (is_passed q from.signs from.past))
    (is_passed q to.signs to.past) e in
    all_three (begins_with prefix q) (not (is_passed q from.signs from.past)) (precedes next q) p.0 p.1
    (before_next next unpassed q p.2))
    (λ q e. let p = three (begins_with prefix q) (not (is_passed q to.signs to.past)) (precedes next q) e in
    all_three (begins_with prefix q) (not (is_passed q from.signs from.past)) (precedes next q) p.0
    (still q (not-true (is_passed q to.signs to.past) p.1) later) p.2)
    (λ q e k. let p = three (begins_with prefix q) (not (is_passed q from.signs from.past))
    (is_passed q to.signs to.past) e in
    let o = three (begins_with prefix q) (not (is_passed q to.signs to.past)) (precedes next q) k in
    true≢false (sym p.2 ∙ not-true (is_passed q to.signs to.past) o.1))
    lists in
    omega (arith, both, enough)
  where
    before_next : (next : Option (List Sign))
        → ((o : List Sign) → next ≡ Some o → is_passed o to.signs to.past ≡ false) → (q : List Sign)
        → is_passed q to.signs to.past ≡ true → precedes next q ≡ true
    before_next None unpassed q passed = refl
    before_next (Some o) unpassed q passed = passed_apart q o to.signs to.past passed (unpassed o refl)

    still : (q : List Sign) → is_passed q to.signs to.past ≡ false
        → ((q : List Sign) → is_passed q from.signs from.past ≡ true → is_passed q to.signs to.past ≡ true)
        → not (is_passed q from.signs from.past) ≡ true
    still q other later = elim (cases_Bool (is_passed q from.signs from.past)) [
      | inl passed ↦ absurd (true≢false (sym (later q passed) ∙ other))
      | inr unpassed ↦ not_from_false (is_passed q from.signs from.past) unpassed
    ]

-- the first order that is left at a place begins with the prefix and does not stand before the place
pub first-left : (r : RulesView) (prefix : List Sign) (place : SearchPlace) (o : List Sign)
    → slice_get (remaining r prefix place) 0 ≡ Some o
    → (begins_with prefix o ≡ true) × (is_passed o place.signs place.past ≡ false)
unfolding remaining
first-left r prefix place o e =
    let passes = head_passes (λ q. begins_with prefix q && not (is_passed q place.signs place.past))
    (orders r) o e in
    let parts = and_parts (begins_with prefix o) (not (is_passed o place.signs place.past)) passes in
    (parts.0, not-true (is_passed o place.signs place.past) parts.1)
