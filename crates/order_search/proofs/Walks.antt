-- A walk from one place to another: what is left stays the same, and the open lists on the way are counted.
use Rattle.std.proofs.Common.{◌≡◌, ◌⊎◌, ℕ, ◌+◌, ◌<◌, Bool, true, false, not, ◌&&◌, ◌||◌, List, [], ◌∷◌, ◌++◌, length, refl, sym, ◌∙◌, ap, subst, arith, inl, inr, length-append}
use Rattle.std.specs.List.{filter}
use Rattle.std.proofs.lemmas.Bool.{cases_Bool, and_from, and_right}
use Rattle.sign_rules.specs.declared.sign.Sign.{Sign}
use Rattle.sign_rules.specs.Rules.{RulesView, is_consistent}
use Rattle.search_cursor.specs.Place.{SearchPlace, is_passed, begins_with}
use Rattle.search_cursor.specs.PlaceLaws.{is_list, is_list-same, not_itself, passed-past, begins_with-split}
use Rattle.order_search.specs.Lists.{all_lists, orders, open_lists, remaining, lists_between}
use Rattle.order_search.specs.Search.{right_after}
use Rattle.order_search.specs.Walking.{before, descended, climbed}
use Rattle.order_search.specs.ListLaws.{each_of, each_map, filter_same, filter_none, filter_filter, between_add}
use Rattle.order_search.proofs.AllLists.{orders-all, open_lists-all, one_open, first_left}
use Rattle.order_search.proofs.Moves.{IsMove, descended-move, climbed-move}

pub record Walked (r : RulesView) (prefix : List Sign) (from to : SearchPlace) (units : ℕ) : Type 0 where
  pub onward : (q : List Sign) → is_passed q from.signs from.past ≡ true → is_passed q to.signs to.past ≡ true
  pub same : remaining r prefix to ≡ remaining r prefix from
  pub count : length (lists_between (open_lists r) prefix from to) ≡ units

none : (b p : Bool) → (b && not p && p) ≡ false
none true true = refl
none true false = refl
none false p = refl

pub walked-none : (r : RulesView) (prefix : List Sign) (place : SearchPlace) → Walked r prefix place place 0
unfolding lists_between
walked-none r prefix place = record {
  onward = λ q e. e;
  same = refl;
  count = ap length (filter_none
      (λ q. begins_with prefix q && not (is_passed q place.signs place.past)
      && is_passed q place.signs place.past) (open_lists r)
      (each_of (λ q. (begins_with prefix q && not (is_passed q place.signs place.past)
      && is_passed q place.signs place.past) ≡ false)
      (λ q. none (begins_with prefix q) (is_passed q place.signs place.past)) (open_lists r)));
}

or-false : (b : Bool) → (b || false) ≡ b
or-false true = refl
or-false false = refl

-- a move that passes no order leaves the same orders
same_left : (r : RulesView) (prefix : List Sign) (b c : SearchPlace) (own : List Sign → Bool) → IsMove r b c own
    → ((q : List Sign) → length q ≡ r.pairs → own q ≡ false) → remaining r prefix c ≡ remaining r prefix b
unfolding remaining
same_left r prefix b c own move no_order =
    filter_same (λ q. begins_with prefix q && not (is_passed q c.signs c.past))
    (λ q. begins_with prefix q && not (is_passed q b.signs b.past)) (orders r)
    (each_map (λ (q : List Sign). (length q ≡ r.pairs) × (is_consistent r q ≡ true))
    (λ q. (begins_with prefix q && not (is_passed q c.signs c.past))
    ≡ (begins_with prefix q && not (is_passed q b.signs b.past)))
    (λ q h. ap (λ x. begins_with prefix q && not x)
    (move.exact q h.1 ∙ ap (λ x. is_passed q b.signs b.past || x) (no_order q h.0)
    ∙ or-false (is_passed q b.signs b.past)))
    (orders r) (orders-all r))

-- a move behind a walk
walked-move : (r : RulesView) (prefix : List Sign) (a b c : SearchPlace) (own : List Sign → Bool) (n k : ℕ)
    → Walked r prefix a b n → IsMove r b c own
    → ((q : List Sign) → length q ≡ r.pairs → own q ≡ false)
    → length (lists_between (open_lists r) prefix b c) ≡ k
    → Walked r prefix a c (n + k)
unfolding lists_between
walked-move r prefix a b c own n k walked move no_order count = record {
  onward = λ q e. move.onward q (walked.onward q e);
  same = same_left r prefix b c own move no_order ∙ walked.same;
  count =
      between_add (begins_with prefix) (λ q. is_passed q a.signs a.past) (λ q. is_passed q b.signs b.past)
      (λ q. is_passed q c.signs c.past)
      walked.onward move.onward (open_lists r)
      ∙ ap (λ m. m + length
      (filter (λ q. begins_with prefix q && not (is_passed q b.signs b.past)
      && is_passed q c.signs c.past) (open_lists r))) walked.count
      ∙ ap (λ m. n + m) count;
}

nothing_new : (b p c : Bool) → c ≡ (p || false) → (b && not p && c) ≡ false
nothing_new b p c e = ap (λ x. b && not p && x) (e ∙ or-false p) ∙ none b p

pub walked-climbed : (r : RulesView) (prefix : List Sign) (a : SearchPlace) (front : List Sign) (sign : Sign)
    (n : ℕ)
    → Walked r prefix a (right_after (front ++ sign ∷ [])) n → Walked r prefix a (climbed r front sign) n
unfolding lists_between
walked-climbed r prefix a front sign n walked =
    let b = right_after (front ++ sign ∷ []) in
    let c = climbed r front sign in
    let move = climbed-move r front sign in
    let count : length (lists_between (open_lists r) prefix b c) ≡ 0 = ap length
    (filter_none (λ q. begins_with prefix q && not (is_passed q b.signs b.past) && is_passed q c.signs c.past)
    (open_lists r)
    (each_map (λ (q : List Sign). (length q < r.pairs) × (is_consistent r q ≡ true))
    (λ q. (begins_with prefix q && not (is_passed q b.signs b.past) && is_passed q c.signs c.past) ≡ false)
    (λ q h. nothing_new (begins_with prefix q) (is_passed q b.signs b.past) (is_passed q c.signs c.past)
    (move.exact q h.1))
    (open_lists r) (open_lists-all r))) in
    subst (Walked r prefix a c) (omega arith)
    (walked-move r prefix a b c (λ q. false) n 0 walked move (λ q e. refl) count)

one_new : (b p c l : Bool) → c ≡ (p || l) → (l ≡ true → (b ≡ true) × (p ≡ false)) → (b && not p && c) ≡ l
one_new b p c false e own = nothing_new b p c e
one_new b p c true e own =
    let h = own refl in
    and_from _ _ (and_from _ _ h.0 (ap not h.1)) (e ∙ ap (λ x. x || true) h.1)

pub walked-descended : (r : RulesView) (prefix : List Sign) (a : SearchPlace) (s : List Sign) (n : ℕ)
    → begins_with prefix s ≡ true → is_consistent r s ≡ true → length s < r.pairs
    → Walked r prefix a (before s) n → Walked r prefix a (descended r s) (n + 1)
unfolding lists_between
walked-descended r prefix a s n begins consistent shorter walked =
    let b = before s in
    let c = descended r s in
    let move = descended-move r s in
    let count : length (lists_between (open_lists r) prefix b c) ≡ 1 = ap length
    (filter_same (λ q. begins_with prefix q && not (is_passed q b.signs b.past) && is_passed q c.signs c.past)
    (λ q. is_list q s) (open_lists r)
    (each_map (λ (q : List Sign). (length q < r.pairs) × (is_consistent r q ≡ true))
    (λ q. (begins_with prefix q && not (is_passed q b.signs b.past) && is_passed q c.signs c.past)
    ≡ is_list q s)
    (λ q h. one_new (begins_with prefix q) (is_passed q b.signs b.past) (is_passed q c.signs c.past)
    (is_list q s) (move.exact q h.1)
    (λ e. let own = is_list-same q s e in
    (ap (begins_with prefix) own ∙ begins, ap (λ l. is_passed l s false) own ∙ not_itself s false)))
    (open_lists r) (open_lists-all r)))
    ∙ one_open r s consistent shorter in
    walked-move r prefix a b c (λ q. is_list q s) n 1 walked move
    (λ q e. other q e (cases_Bool (is_list q s))) count
  where
    other : (q : List Sign) → length q ≡ r.pairs → (is_list q s ≡ true) ⊎ (is_list q s ≡ false)
        → is_list q s ≡ false
    other q e (inl same) = absurd (omega (arith, e, ap length (is_list-same q s same)))
    other q e (inr apart) = apart

-- ---- where a walk ends

-- before an order, that order is the first that is left
pub found_first : (r : RulesView) (prefix s : List Sign) → begins_with prefix s ≡ true
    → is_consistent r s ≡ true → length s ≡ r.pairs
    → remaining r prefix (before s) ≡ s ∷ remaining r prefix (right_after s)
unfolding remaining orders
found_first r prefix s begins consistent whole =
    combined false
    ∙ first_left r.pairs s (λ q. is_consistent r q && begins_with prefix q) whole
    (and_from _ _ consistent begins)
    ∙ ap (λ l. s ∷ l) (sym (combined true))
  where
    and_assoc : (x y z : Bool) → (x && (y && z)) ≡ (x && y && z)
    and_assoc true y z = refl
    and_assoc false y z = refl

    combined : (x : Bool)
        → filter (λ q. begins_with prefix q && not (is_passed q s x))
        (filter (is_consistent r) (all_lists r.pairs))
        ≡ filter (λ q. is_consistent r q && begins_with prefix q && not (is_passed q s x)) (all_lists r.pairs)
    combined x =
        filter_filter (λ q. begins_with prefix q && not (is_passed q s x)) (is_consistent r)
        (all_lists r.pairs)
        ∙ filter_same (λ q. is_consistent r q && (begins_with prefix q && not (is_passed q s x)))
        (λ q. is_consistent r q && begins_with prefix q && not (is_passed q s x)) (all_lists r.pairs)
        (each_of (λ q. (is_consistent r q && (begins_with prefix q && not (is_passed q s x)))
        ≡ (is_consistent r q && begins_with prefix q && not (is_passed q s x)))
        (λ q. and_assoc (is_consistent r q) (begins_with prefix q) (not (is_passed q s x)))
        (all_lists r.pairs))

-- passing an order counts no open list
pub found_counts_none : (r : RulesView) (prefix : List Sign) (a : SearchPlace) (s : List Sign) (n : ℕ)
    → length s ≡ r.pairs
    → Walked r prefix a (before s) n → length (lists_between (open_lists r) prefix a (right_after s)) ≡ n
unfolding lists_between
found_counts_none r prefix a s n whole walked =
    between_add (begins_with prefix) (λ q. is_passed q a.signs a.past) (λ q. is_passed q s false)
    (λ q. is_passed q s true)
    walked.onward (λ q e. passed-past q s ∙ ap (λ b. b || begins_with s q) e) (open_lists r)
    ∙ omega (arith, walked.count, ap length nothing)
  where
    too_short : (q : List Sign) → length q < r.pairs → begins_with s q ≡ false
    too_short q short = elim (cases_Bool (begins_with s q)) [
      | inl begins ↦ let split = begins_with-split s q begins in
          absurd (omega (arith, short, whole, ap length split.1, length-append s split.0))
      | inr other ↦ other
    ]

    nothing : filter (λ q. begins_with prefix q && not (is_passed q s false) && is_passed q s true)
        (open_lists r) ≡ []
    nothing = filter_none (λ q. begins_with prefix q && not (is_passed q s false) && is_passed q s true)
        (open_lists r)
        (each_map (λ (q : List Sign). (length q < r.pairs) × (is_consistent r q ≡ true))
        (λ q. (begins_with prefix q && not (is_passed q s false) && is_passed q s true) ≡ false)
        (λ q h. nothing_new (begins_with prefix q) (is_passed q s false) (is_passed q s true)
        (passed-past q s ∙ ap (λ b. is_passed q s false || b) (too_short q h.0)))
        (open_lists r) (open_lists-all r))

-- after all that begins with the prefix nothing is left
pub nothing_left : (r : RulesView) (prefix : List Sign) → remaining r prefix (right_after prefix) ≡ []
unfolding remaining
nothing_left r prefix =
    filter_none (λ q. begins_with prefix q && not (is_passed q prefix true)) (orders r)
    (each_of (λ q. (begins_with prefix q && not (is_passed q prefix true)) ≡ false)
    (λ q. gone q (cases_Bool (begins_with prefix q))) (orders r))
  where
    gone : (q : List Sign) → (begins_with prefix q ≡ true) ⊎ (begins_with prefix q ≡ false)
        → (begins_with prefix q && not (is_passed q prefix true)) ≡ false
    gone q (inl begins) =
        and_right (begins_with prefix q) _
        (ap not (passed-past q prefix ∙ last (is_passed q prefix false) begins))
      where
        last : (b : Bool) → begins_with prefix q ≡ true → (b || begins_with prefix q) ≡ true
        last true e = refl
        last false e = e
    gone q (inr other) = ap (λ b. b && not (is_passed q prefix true)) other
