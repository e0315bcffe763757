-- Lists of prefixes in lexicographic order, and how they part the orders.
use Rattle.std.proofs.Common.{◌≡◌, ℕ, zero, suc, ◌≤◌, Bool, true, false, not, ◌&&◌, cond, List, [], ◌∷◌, ◌++◌, map, refl, sym, ◌∙◌, ap, subst, arith, inl, inr}
use Rattle.std.specs.List.{filter, flat_map}
use Rattle.std.proofs.Math.Bool.{and-true}
use Rattle.std.proofs.lemmas.Bool.{true≢false, cases_Bool, and_left, and_right, and_parts, and_cases, not-false}
use Rattle.std.proofs.lemmas.List.{append-nil, map-append}
use Rattle.std.proofs.lemmas.List.Concat.{flat_map-append}
use Rattle.sign_rules.specs.declared.sign.Sign.{Sign}
use Rattle.sign_rules.specs.declared.sign.Sign.TheVariants.{Over, Under}
use Rattle.sign_rules.specs.Rules.{RulesView, is_consistent}
use Rattle.search_cursor.specs.Place.{SearchPlace, is_passed, list_before, begins_with}
use Rattle.order_search.specs.Lists.{all_lists, orders, remaining}
use Rattle.order_search.specs.Walking.{before}
use Rattle.order_search.specs.ListLaws.{Each, each_of, each_map, each_append, each_mapped, each_filter, filter_same, filter_none, filter_filter, over, under, by_first, none_begins}
use Rattle.worker_split.specs.Pieces.{consistent_lists, is_allowed, allowed_length, pieces_of}

-- what begins with the first prefix stands before what begins with the second
abbrev pub IsAhead : List Sign → List Sign → Type 0
IsAhead p s = (q o : List Sign) → begins_with p q ≡ true → begins_with s o ≡ true → list_before q o ≡ true

-- each prefix is ahead of the later ones
abbrev pub IsParted : List (List Sign) → Type 0
IsParted [] = Unit {0}
IsParted (p ∷ ps) = Each (IsAhead p) ps × IsParted ps

ahead-over : (p s : List Sign) → IsAhead p s → IsAhead (Over ∷ p) (Over ∷ s)
ahead-over p s h [] o e f = absurd (true≢false (sym e))
ahead-over p s h (_ ∷ q) [] e f = absurd (true≢false (sym f))
ahead-over p s h (Under ∷ q) (_ ∷ o) e f = absurd (true≢false (sym e))
ahead-over p s h (Over ∷ q) (Under ∷ o) e f = absurd (true≢false (sym f))
ahead-over p s h (Over ∷ q) (Over ∷ o) e f = h q o e f

ahead-under : (p s : List Sign) → IsAhead p s → IsAhead (Under ∷ p) (Under ∷ s)
ahead-under p s h [] o e f = absurd (true≢false (sym e))
ahead-under p s h (_ ∷ q) [] e f = absurd (true≢false (sym f))
ahead-under p s h (Over ∷ q) (_ ∷ o) e f = absurd (true≢false (sym e))
ahead-under p s h (Under ∷ q) (Over ∷ o) e f = absurd (true≢false (sym f))
ahead-under p s h (Under ∷ q) (Under ∷ o) e f = h q o e f

ahead_turn : (p s : List Sign) → IsAhead (Over ∷ p) (Under ∷ s)
ahead_turn p s [] o e f = absurd (true≢false (sym e))
ahead_turn p s (_ ∷ q) [] e f = absurd (true≢false (sym f))
ahead_turn p s (Under ∷ q) (_ ∷ o) e f = absurd (true≢false (sym e))
ahead_turn p s (Over ∷ q) (Over ∷ o) e f = absurd (true≢false (sym f))
ahead_turn p s (Over ∷ q) (Under ∷ o) e f = refl

parted-append : (xs ys : List (List Sign)) → IsParted xs → IsParted ys → Each (λ x. Each (IsAhead x) ys) xs
    → IsParted (xs ++ ys)
parted-append [] ys h k across = k
parted-append (x ∷ xs) ys h k across =
    (each_append (IsAhead x) xs ys h.0 across.0, parted-append xs ys h.1 k across.1)

parted-map : (f : List Sign → List Sign) → ((p s : List Sign) → IsAhead p s → IsAhead (f p) (f s))
    → (xs : List (List Sign)) → IsParted xs → IsParted (map f xs)
parted-map f keeps [] h = tt
parted-map f keeps (x ∷ xs) h = (
  each_mapped (IsAhead (f x)) f xs (each_map (IsAhead x) (λ s. IsAhead (f x) (f s))
      (λ s k. keeps x s k) xs h.0),
  parted-map f keeps xs h.1,
)

parted-all : (n : ℕ) → IsParted (all_lists n)
unfolding all_lists
parted-all zero = (tt, tt)
parted-all (suc n) =
    let own = parted-all n in
    let turns : Each (λ x. Each (IsAhead x) (map under (all_lists n))) (map over (all_lists n)) =
    each_mapped (λ x. Each (IsAhead x) (map under (all_lists n))) over (all_lists n)
    (each_of (λ x. Each (IsAhead (over x)) (map under (all_lists n)))
    (λ x. each_mapped (IsAhead (over x)) under (all_lists n)
    (each_of (λ s. IsAhead (over x) (under s)) (λ s. ahead_turn x s) (all_lists n))) (all_lists n)) in
    parted-append (map over (all_lists n)) (map under (all_lists n))
    (parted-map over ahead-over (all_lists n) own) (parted-map under ahead-under (all_lists n) own) turns

pub each-filtered : (P : List Sign → Type 0) (c : List Sign → Bool) (xs : List (List Sign)) → Each P xs
    → Each P (filter c xs)
each-filtered P c xs h =
    each_map (λ s. P s × (c s ≡ true)) P (λ s k. k.0) (filter c xs) (each_filter P c xs h)

parted-filter : (c : List Sign → Bool) (xs : List (List Sign)) → IsParted xs → IsParted (filter c xs)
parted-filter c [] h = tt
parted-filter c (x ∷ xs) h = by_head (c x) (parted-filter c xs h.1)
  where
    by_head : (b : Bool) → IsParted (filter c xs) → IsParted (cond b (x ∷ filter c xs) (filter c xs))
    by_head true rest = (each-filtered (IsAhead x) c xs h.0, rest)
    by_head false rest = rest

pub parted-pieces : (r : RulesView) (most : ℕ) → IsParted (pieces_of r most)
unfolding pieces_of consistent_lists
parted-pieces r most = parted-filter (is_consistent r) (all_lists (allowed_length r most r.pairs))
    (parted-all (allowed_length r most r.pairs))

pub parted-orders : (r : RulesView) → IsParted (orders r)
unfolding orders
parted-orders r = parted-filter (is_consistent r) (all_lists r.pairs) (parted-all r.pairs)

begins-itself : (s : List Sign) → begins_with s s ≡ true
begins-itself [] = refl
begins-itself (Over ∷ s) = begins-itself s
begins-itself (Under ∷ s) = begins-itself s

pub not_before-itself : (s : List Sign) → list_before s s ≡ false
not_before-itself [] = refl
not_before-itself (Over ∷ s) = not_before-itself s
not_before-itself (Under ∷ s) = not_before-itself s

pub not_ahead-itself : (s : List Sign) → IsAhead s s → ⊥
not_ahead-itself s h =
    true≢false (sym (h s s (begins-itself s) (begins-itself s)) ∙ not_before-itself s)

-- what a filter gives before all that another one gives does not pass the other one
pub first_out : (f g : List Sign → Bool) (xs : List (List Sign)) (o : List Sign) → IsParted xs
    → filter f xs ≡ o ∷ filter g xs → (f o ≡ true) × (g o ≡ false)
first_out f g [] o h e = absurd (cc)
first_out f g (x ∷ xs) o h e = by_tests (f x) (g x) refl refl (λ k. first_out f g xs o h.1 k) e
  where
    by_tests : (a b : Bool) → f x ≡ a → g x ≡ b
        → (filter f xs ≡ o ∷ filter g xs → (f o ≡ true) × (g o ≡ false))
        → cond a (x ∷ filter f xs) (filter f xs) ≡ o ∷ cond b (x ∷ filter g xs) (filter g xs)
        → (f o ≡ true) × (g o ≡ false)
    by_tests true true m n rest e =
        let next : filter f xs ≡ x ∷ filter g xs = (cc) in
        let still = subst (Each (IsAhead x)) next (each-filtered (IsAhead x) f xs h.0) in
        absurd (not_ahead-itself x still.0)
    by_tests true false m n rest e =
        let same : x ≡ o = (cc) in
        (ap f (sym same) ∙ m, ap g (sym same) ∙ n)
    by_tests false true m n rest e =
        let still = subst (Each (IsAhead x)) e (each-filtered (IsAhead x) f xs h.0) in
        absurd (not_ahead-itself x still.1.0)
    by_tests false false m n rest e = rest e

-- the first order that is left at a place, where the others are left at a second one, stands before the second
pub passed-first : (r : RulesView) (prefix : List Sign) (from to : SearchPlace) (order : List Sign)
    → remaining r prefix from ≡ order ∷ remaining r prefix to
    → (begins_with prefix order ≡ true) × (is_passed order to.signs to.past ≡ true)
unfolding remaining
passed-first r prefix from to order e =
    let out = first_out (λ q. begins_with prefix q && not (is_passed q from.signs from.past))
    (λ q. begins_with prefix q && not (is_passed q to.signs to.past)) (orders r) order (parted-orders r) e in
    let passes = and_parts (begins_with prefix order) (not (is_passed order from.signs from.past)) out.0 in
    let begins = passes.0 in (
      begins,
      elim (and_cases (begins_with prefix order) (not (is_passed order to.signs to.past)) out.1) [
        | inl other ↦ absurd (true≢false (sym begins ∙ other))
        | inr passed ↦ not-false (is_passed order to.signs to.past) passed
      ],
    )

-- ---- the orders, piece by piece

flat_map-map : (f : List Sign → List Sign) (whole : List Sign → List (List Sign)) (part : List Sign → List
    (List Sign))
    → ((p : List Sign) → whole (f p) ≡ map f (part p)) → (ps : List (List Sign))
    → flat_map whole (map f ps) ≡ map f (flat_map part ps)
flat_map-map f whole part same [] = refl
flat_map-map f whole part same (p ∷ ps) =
    ap (λ l. l ++ flat_map whole (map f ps)) (same p)
    ∙ ap (λ l. map f (part p) ++ l) (flat_map-map f whole part same ps)
    ∙ sym (map-append f (part p) (flat_map part ps))

-- those of the lists that pass a test and begin with a prefix
abbrev behind : (List Sign → Bool) → List (List Sign) → List Sign → List (List Sign)
behind f lists p = filter (λ q. f q && begins_with p q) lists

nothing_passes : (g : List Sign → Bool) (lists : List (List Sign)) → filter (λ q. g q && false) lists ≡ []
nothing_passes g lists = filter_none (λ q. g q && false) lists
    (each_of (λ q. (g q && false) ≡ false) (λ q. and_right (g q) false refl) lists)

over_part : (f : List Sign → Bool) (lists : List (List Sign)) (p : List Sign)
    → behind f (map over lists ++ map under lists) (Over ∷ p) ≡ map over (behind (λ q. f (Over ∷ q)) lists p)
over_part f lists p =
    by_first (λ q. f q && begins_with (Over ∷ p) q) lists
    ∙ ap (λ l. map over (behind (λ q. f (Over ∷ q)) lists p) ++ map under l)
    (nothing_passes (λ q. f (Under ∷ q)) lists)
    ∙ append-nil (map over (behind (λ q. f (Over ∷ q)) lists p))

under_part : (f : List Sign → Bool) (lists : List (List Sign)) (p : List Sign)
    → behind f (map over lists ++ map under lists) (Under ∷ p)
    ≡ map under (behind (λ q. f (Under ∷ q)) lists p)
under_part f lists p =
    by_first (λ q. f q && begins_with (Under ∷ p) q) lists
    ∙ ap (λ l. map over l ++ map under (behind (λ q. f (Under ∷ q)) lists p))
    (nothing_passes (λ q. f (Over ∷ q)) lists)

-- the lists that begin with a prefix of a smaller length, one prefix after the other
by_prefix : (n pairs : ℕ) (f : List Sign → Bool) → n ≤ pairs
    → filter f (all_lists pairs) ≡ flat_map (behind f (all_lists pairs)) (all_lists n)
unfolding all_lists
by_prefix zero pairs f below =
    sym (append-nil (filter (λ q. f q && true) (all_lists pairs))
    ∙ filter_same (λ q. f q && true) f (all_lists pairs)
    (each_of (λ q. (f q && true) ≡ f q) (λ q. and-true (f q)) (all_lists pairs)))
by_prefix (suc n) zero f below = absurd (omega arith)
by_prefix (suc n) (suc m) f below =
    let whole = behind f (map over (all_lists m) ++ map under (all_lists m)) in
    let overs = behind (λ q. f (Over ∷ q)) (all_lists m) in
    let unders = behind (λ q. f (Under ∷ q)) (all_lists m) in
    by_first f (all_lists m)
    ∙ ap (λ l. map over l ++ map under (filter (λ q. f (Under ∷ q)) (all_lists m)))
    (by_prefix n m (λ q. f (Over ∷ q)) (omega arith))
    ∙ ap (λ l. map over (flat_map overs (all_lists n)) ++ map under l)
    (by_prefix n m (λ q. f (Under ∷ q)) (omega arith))
    ∙ ap (λ l. l ++ map under (flat_map unders (all_lists n)))
    (sym (flat_map-map over whole overs (over_part f (all_lists m)) (all_lists n)))
    ∙ ap (λ l. flat_map whole (map over (all_lists n)) ++ l)
    (sym (flat_map-map under whole unders (under_part f (all_lists m)) (all_lists n)))
    ∙ sym (flat_map-append whole (map over (all_lists n)) (map under (all_lists n)))

allowed_length-le : (r : RulesView) (most n : ℕ) → allowed_length r most n ≤ n
unfolding allowed_length
allowed_length-le r most zero = omega arith
allowed_length-le r most (suc n) = by_test (is_allowed r most (suc n)) (allowed_length-le r most n)
  where
    by_test : (b : Bool) → allowed_length r most n ≤ n → cond b (suc n) (allowed_length r most n) ≤ suc n
    by_test true rest = omega arith
    by_test false rest = omega (arith, rest)

not_passed-begins : (p q : List Sign) → begins_with p q ≡ true → is_passed q p false ≡ false
not_passed-begins [] [] e = refl
not_passed-begins [] (_ ∷ q) e = refl
not_passed-begins (_ ∷ p) [] e = absurd (true≢false (sym e))
not_passed-begins (Over ∷ p) (Over ∷ q) e = not_passed-begins p q e
not_passed-begins (Under ∷ p) (Under ∷ q) e = not_passed-begins p q e
not_passed-begins (Over ∷ p) (Under ∷ q) e = absurd (true≢false (sym e))
not_passed-begins (Under ∷ p) (Over ∷ q) e = absurd (true≢false (sym e))

-- from before a prefix on, all that begins with it is left
remaining-start : (r : RulesView) (p : List Sign)
    → remaining r p (before p) ≡ filter (λ q. is_consistent r q && begins_with p q) (all_lists r.pairs)
unfolding remaining orders
remaining-start r p =
    filter_same (λ q. begins_with p q && not (is_passed q p false)) (begins_with p)
    (filter (is_consistent r) (all_lists r.pairs))
    (each_of (λ q. (begins_with p q && not (is_passed q p false)) ≡ begins_with p q)
    (λ q. own q (begins_with p q) refl) (filter (is_consistent r) (all_lists r.pairs)))
    ∙ filter_filter (begins_with p) (is_consistent r) (all_lists r.pairs)
  where
    own : (q : List Sign) (b : Bool) → begins_with p q ≡ b → (b && not (is_passed q p false)) ≡ b
    own q true e = ap not (not_passed-begins p q e)
    own q false e = refl

behind_broken : (r : RulesView) (lists : List (List Sign)) (p : List Sign) → is_consistent r p ≡ false
    → behind (is_consistent r) lists p ≡ []
behind_broken r lists p broken = filter_none (λ q. is_consistent r q && begins_with p q) lists
    (each_of (λ q. (is_consistent r q && begins_with p q) ≡ false)
    (λ q. elim (cases_Bool (is_consistent r q)) [
      | inl fits ↦ and_right (is_consistent r q) (begins_with p q) (none_begins r p q broken fits)
      | inr fails ↦ and_left (is_consistent r q) (begins_with p q) fails
    ])
    lists)

left_at_start : (r : RulesView) (ps : List (List Sign))
    → flat_map (λ p. remaining r p (before p)) (filter (is_consistent r) ps)
    ≡ flat_map (behind (is_consistent r) (all_lists r.pairs)) ps
left_at_start r [] = refl
left_at_start r (p ∷ ps) = by_head (is_consistent r p) refl (left_at_start r ps)
  where
    by_head : (b : Bool) → is_consistent r p ≡ b
        → flat_map (λ p. remaining r p (before p)) (filter (is_consistent r) ps)
        ≡ flat_map (behind (is_consistent r) (all_lists r.pairs)) ps
        → flat_map (λ p. remaining r p (before p))
        (cond b (p ∷ filter (is_consistent r) ps) (filter (is_consistent r) ps))
        ≡ behind (is_consistent r) (all_lists r.pairs) p
        ++ flat_map (behind (is_consistent r) (all_lists r.pairs)) ps
    by_head true fits rest =
        ap (λ l. l ++ flat_map (λ p. remaining r p (before p)) (filter (is_consistent r) ps))
        (remaining-start r p)
        ∙ ap (λ l. behind (is_consistent r) (all_lists r.pairs) p ++ l) rest
    by_head false broken rest =
        rest
        ∙ ap (λ l. l ++ flat_map (behind (is_consistent r) (all_lists r.pairs)) ps)
        (sym (behind_broken r (all_lists r.pairs) p broken))

-- what is left of all pieces at the start
pub orders-by_piece : (r : RulesView) (most : ℕ)
    → flat_map (λ p. remaining r p (before p)) (pieces_of r most) ≡ orders r
unfolding pieces_of consistent_lists orders
orders-by_piece r most =
    left_at_start r (all_lists (allowed_length r most r.pairs))
    ∙ sym (by_prefix (allowed_length r most r.pairs) r.pairs (is_consistent r)
    (allowed_length-le r most r.pairs))
