-- All sign lists of a length: each is there once, and the first that is left at a place is the place's own.
use Rattle.std.proofs.Common.{◌≡◌, ◌≢◌, ◌⊎◌, ℕ, zero, suc, ◌+◌, ◌<◌, ◌≤◌, Bool, true, false, not, ◌&&◌, cond, List, [], ◌∷◌, ◌++◌, length, map, refl, sym, ◌∙◌, ap, arith, inl, inr, length-append}
use Rattle.std.specs.List.{filter}
use Rattle.std.proofs.lemmas.Bool.{true≢false, cases_Bool, cases_lt, and_from, and_right}
use Rattle.std.proofs.lemmas.List.{length-map}
use Rattle.sign_rules.specs.declared.sign.Sign.{Sign}
use Rattle.sign_rules.specs.declared.sign.Sign.TheVariants.{Over, Under}
use Rattle.sign_rules.specs.Rules.{RulesView, is_consistent}
use Rattle.search_cursor.specs.Place.{is_passed}
use Rattle.search_cursor.specs.PlaceLaws.{is_list, is_list-same}
use Rattle.order_search.specs.Lists.{all_lists, shorter_lists, orders, open_lists}
use Rattle.order_search.specs.ListLaws.{Each, each_of, each_map, each_append, each_mapped, each_filter, filter_same, filter_none, filter_append, filter_filter, over, under, by_first}

pub all_lists-length : (n : ℕ) → Each (λ q. length q ≡ n) (all_lists n)
unfolding all_lists
all_lists-length zero = (refl, tt)
all_lists-length (suc n) =
    let overs = each_map (λ (q : List Sign). length q ≡ n) (λ q. length (over q) ≡ suc n)
    (λ q e. omega (arith, e)) (all_lists n) (all_lists-length n) in
    let unders = each_map (λ (q : List Sign). length q ≡ n) (λ q. length (under q) ≡ suc n)
    (λ q e. omega (arith, e)) (all_lists n) (all_lists-length n) in
    each_append (λ q. length q ≡ suc n) (map over (all_lists n)) (map under (all_lists n))
    (each_mapped (λ q. length q ≡ suc n) over (all_lists n) overs)
    (each_mapped (λ q. length q ≡ suc n) under (all_lists n) unders)

shorter_lists-length : (n : ℕ) → Each (λ q. length q < n) (shorter_lists n)
unfolding shorter_lists
shorter_lists-length zero = tt
shorter_lists-length (suc n) =
    each_append (λ q. length q < suc n) (shorter_lists n) (all_lists n)
    (each_map (λ (q : List Sign). length q < n) (λ q. length q < suc n) (λ q e. omega (arith, e))
    (shorter_lists n) (shorter_lists-length n))
    (each_map (λ (q : List Sign). length q ≡ n) (λ q. length q < suc n) (λ q e. omega (arith, e))
    (all_lists n) (all_lists-length n))

pub orders-all : (r : RulesView) → Each (λ q. (length q ≡ r.pairs) × (is_consistent r q ≡ true)) (orders r)
unfolding orders
orders-all r = each_filter (λ q. length q ≡ r.pairs) (is_consistent r) (all_lists r.pairs)
    (all_lists-length r.pairs)

pub open_lists-all : (r : RulesView)
    → Each (λ q. (length q < r.pairs) × (is_consistent r q ≡ true)) (open_lists r)
unfolding open_lists
open_lists-all r = each_filter (λ q. length q < r.pairs) (is_consistent r) (shorter_lists r.pairs)
    (shorter_lists-length r.pairs)

-- ---- each list once

other_length : (q s : List Sign) → length q ≢ length s → is_list q s ≡ false
other_length q s apart = elim (cases_Bool (is_list q s)) [
  | inl same ↦ absurd (apart (ap length (is_list-same q s same)))
  | inr other ↦ other
]

none_of_length : (n : ℕ) (s : List Sign) → length s ≢ n → filter (λ q. is_list q s) (all_lists n) ≡ []
none_of_length n s apart =
    filter_none (λ q. is_list q s) (all_lists n)
    (each_map (λ (q : List Sign). length q ≡ n) (λ q. is_list q s ≡ false)
    (λ q e. other_length q s (λ f. apart (sym f ∙ e))) (all_lists n) (all_lists-length n))

one_of_length : (n : ℕ) (s : List Sign) → length s ≡ n → length (filter (λ q. is_list q s) (all_lists n)) ≡ 1
unfolding all_lists
one_of_length zero [] e = refl
one_of_length zero (_ ∷ s) e = absurd (omega (arith, e))
one_of_length (suc n) [] e = absurd (omega (arith, e))
one_of_length (suc n) (Over ∷ s) e =
    let own = filter (λ q. is_list q s) (all_lists n) in
    let none : filter (λ (q : List Sign). false) (all_lists n)
    ≡ [] = filter_none (λ q. false) (all_lists n) (each_of (λ q. false ≡ false) (λ q. refl) (all_lists n))
    in
    ap length (by_first (λ q. is_list q (Over ∷ s)) (all_lists n)
    ∙ ap (λ l. map over own ++ map under l) none)
    ∙ omega (
      arith,
      length-append (map over own) [],
      length-map own over,
      one_of_length n s (omega (arith, e)),
    )
one_of_length (suc n) (Under ∷ s) e =
    let own = filter (λ q. is_list q s) (all_lists n) in
    let none : filter (λ (q : List Sign). false) (all_lists n)
    ≡ [] = filter_none (λ q. false) (all_lists n) (each_of (λ q. false ≡ false) (λ q. refl) (all_lists n))
    in
    ap length (by_first (λ q. is_list q (Under ∷ s)) (all_lists n)
    ∙ ap (λ l. map over l ++ map under own) none)
    ∙ omega (arith, length-map own under, one_of_length n s (omega (arith, e)))

pub one_of_shorter : (n : ℕ) (s : List Sign) → length s < n
    → length (filter (λ q. is_list q s) (shorter_lists n)) ≡ 1
unfolding shorter_lists
one_of_shorter zero s shorter = absurd (omega arith)
one_of_shorter (suc n) s shorter =
    ap length (filter_append (λ q. is_list q s) (shorter_lists n) (all_lists n))
    ∙ length-append (filter (λ q. is_list q s) (shorter_lists n)) (filter (λ q. is_list q s) (all_lists n))
    ∙ go (λ less. one_of_shorter n s less) (cases_lt (length s) n)
  where
    go : (length s < n → length (filter (λ q. is_list q s) (shorter_lists n)) ≡ 1)
        → (length s < n) ⊎ (n ≤ length s)
        → length (filter (λ q. is_list q s) (shorter_lists n)) + length
        (filter (λ q. is_list q s) (all_lists n)) ≡ 1
    go own (inl less) =
        omega (arith, own less, ap length (none_of_length n s (λ e. absurd (omega (arith, e)))))
    go own (inr same) =
        let none = filter_none (λ q. is_list q s) (shorter_lists n)
        (each_map (λ (q : List Sign). length q < n) (λ q. is_list q s ≡ false)
        (λ q less. other_length q s (λ e. absurd (omega (arith, less, e)))) (shorter_lists n)
        (shorter_lists-length n)) in
        omega (arith, ap length none, one_of_length n s (omega arith))

-- a consistent list is among the open lists once
pub one_open : (r : RulesView) (s : List Sign) → is_consistent r s ≡ true → length s < r.pairs
    → length (filter (λ q. is_list q s) (open_lists r)) ≡ 1
unfolding open_lists
one_open r s consistent shorter =
    ap length (
    filter_filter (λ q. is_list q s) (is_consistent r) (shorter_lists r.pairs)
    ∙ filter_same (λ q. is_consistent r q && is_list q s) (λ q. is_list q s) (shorter_lists r.pairs)
    (each_of (λ q. (is_consistent r q && is_list q s) ≡ is_list q s) (λ q. own q (cases_Bool (is_list q s)))
    (shorter_lists r.pairs))
    )
    ∙ one_of_shorter r.pairs s shorter
  where
    own : (q : List Sign) → (is_list q s ≡ true) ⊎ (is_list q s ≡ false)
        → (is_consistent r q && is_list q s) ≡ is_list q s
    own q (inl same) = and_from _ _ (ap (is_consistent r) (is_list-same q s same) ∙ consistent) same
        ∙ sym same
    own q (inr other) = and_right _ _ other ∙ sym other

-- ---- the first that is left

pub first_left : (n : ℕ) (s : List Sign) (p : List Sign → Bool) → length s ≡ n → p s ≡ true
    → filter (λ q. p q && not (is_passed q s false)) (all_lists n)
    ≡ s ∷ filter (λ q. p q && not (is_passed q s true)) (all_lists n)
unfolding all_lists
first_left zero [] p e own = alone (p []) own
  where
    alone : (b : Bool) → b ≡ true
        → cond {A = List (List Sign)} (b && true) ([] ∷ []) []
        ≡ [] ∷ cond {A = List (List Sign)} (b && false) ([] ∷ []) []
    alone true e = refl
    alone false e = absurd (true≢false (sym e))
first_left zero (_ ∷ s) p e own = absurd (omega (arith, e))
first_left (suc n) [] p e own = absurd (omega (arith, e))
first_left (suc n) (Over ∷ s) p e own =
    let unders = map under (filter (λ q. p (Under ∷ q) && true) (all_lists n)) in
    by_first (λ q. p q && not (is_passed q (Over ∷ s) false)) (all_lists n)
    ∙ ap (λ l. map over l ++ unders) (first_left n s (λ q. p (Over ∷ q)) (omega (arith, e)) own)
    ∙ ap (λ l. (Over ∷ s) ∷ l) (sym (by_first (λ q. p q && not (is_passed q (Over ∷ s) true)) (all_lists n)))
first_left (suc n) (Under ∷ s) p e own =
    let none : filter (λ q. p (Over ∷ q) && false) (all_lists n) ≡ [] =
    filter_none (λ q. p (Over ∷ q) && false) (all_lists n)
    (each_of (λ q. (p (Over ∷ q) && false) ≡ false) (λ q. and_right (p (Over ∷ q)) false refl) (all_lists n))
    in
    let unders = λ (x : Bool). filter (λ q. p (Under ∷ q) && not (is_passed q s x)) (all_lists n) in
    by_first (λ q. p q && not (is_passed q (Under ∷ s) false)) (all_lists n)
    ∙ ap (λ l. map over l ++ map under (unders false)) none
    ∙ ap (map under) (first_left n s (λ q. p (Under ∷ q)) (omega (arith, e)) own)
    ∙ ap (λ l. (Under ∷ s) ∷ (map over l ++ map under (unders true))) (sym none)
    ∙ ap (λ l. (Under ∷ s) ∷ l)
    (sym (by_first (λ q. p q && not (is_passed q (Under ∷ s) true)) (all_lists n)))
