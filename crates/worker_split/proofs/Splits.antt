-- Consistent lists of one more sign, and the piece of a search where only one piece is allowed.
use Rattle.std.proofs.Common.{◌≡◌, ℕ, zero, suc, ◌<◌, ◌≤◌, Bool, true, false, not, ◌||◌, cond, List, [], ◌∷◌, ◌++◌, length, map, refl, sym, ◌∙◌, ap, arith, inl, inr, nat_le, length-append, slice_index_or}
use Rattle.std.specs.List.{filter, list_any}
use Rattle.std.proofs.Math.Bool.{beq}
use Rattle.std.proofs.lemmas.Bool.{true≢false, cases_Bool, cases_lt, and_from, and_left, and_right, and_parts, le-leb, leb-true}
use Rattle.sign_rules.specs.declared.sign.Sign.{Sign}
use Rattle.sign_rules.specs.declared.sign.Sign.TheVariants.{Over, Under}
use Rattle.sign_rules.specs.declared.rule.Rule.{Rule}
use Rattle.sign_rules.specs.Rules.{RulesView, is_broken, is_consistent}
use Rattle.sign_rules.specs.ConsistencyLaws.{consistent-front, not_decided-from_last}
use Rattle.order_search.specs.Lists.{all_lists}
use Rattle.worker_split.specs.Pieces.{consistent_lists, is_allowed, allowed_length, pieces_of}

-- each list with each sign behind it
extended : List (List Sign) → List (List Sign)
extended [] = []
extended (s ∷ ss) = (s ++ Over ∷ []) ∷ (s ++ Under ∷ []) ∷ extended ss

extended-append : (xs ys : List (List Sign)) → extended (xs ++ ys) ≡ extended xs ++ extended ys
unfolding extended
extended-append [] ys = refl
extended-append (s ∷ xs) ys = ap (λ l. (s ++ Over ∷ []) ∷ (s ++ Under ∷ []) ∷ l) (extended-append xs ys)

extended-map : (sign : Sign) (xs : List (List Sign)) → extended (map (λ s. sign ∷ s) xs) ≡ map (λ s. sign ∷ s) (extended xs)
unfolding extended
extended-map sign [] = refl
extended-map sign (s ∷ xs) = ap (λ l. (sign ∷ (s ++ Over ∷ [])) ∷ (sign ∷ (s ++ Under ∷ [])) ∷ l) (extended-map sign xs)

all_lists-suc : (n : ℕ) → all_lists (suc n) ≡ extended (all_lists n)
unfolding all_lists extended
all_lists-suc zero = refl
all_lists-suc (suc n) =
    ap (λ l. map (λ s. Over ∷ s) l ++ map (λ s. Under ∷ s) l) (all_lists-suc n)
    ∙ sym (
    extended-append (map (λ s. Over ∷ s) (all_lists n)) (map (λ s. Under ∷ s) (all_lists n))
    ∙ ap (λ l. l ++ extended (map (λ s. Under ∷ s) (all_lists n))) (extended-map Over (all_lists n))
    ∙ ap (λ l. map (λ s. Over ∷ s) (extended (all_lists n)) ++ l) (extended-map Under (all_lists n))
    )

-- lists that are not consistent have no consistent ones behind them
filter-extended : (r : RulesView) (xs : List (List Sign))
    → filter (is_consistent r) (extended xs) ≡ filter (is_consistent r) (extended (filter (is_consistent r) xs))
unfolding extended
filter-extended r [] = refl
filter-extended r (s ∷ xs) = by_head (is_consistent r s) refl (filter-extended r xs)
  where
    broken : is_consistent r s ≡ false → (sign : Sign) → is_consistent r (s ++ sign ∷ []) ≡ false
    broken unfit sign = elim (cases_Bool (is_consistent r (s ++ sign ∷ []))) [
      | inl holds ↦ absurd (true≢false (sym (consistent-front r s (sign ∷ []) holds) ∙ unfit))
      | inr fails ↦ fails
    ]

    neither : is_consistent r s ≡ false → (rest : List (List Sign))
        → cond (is_consistent r (s ++ Over ∷ []))
        ((s ++ Over ∷ []) ∷ cond (is_consistent r (s ++ Under ∷ [])) ((s ++ Under ∷ []) ∷ rest) rest)
        (cond (is_consistent r (s ++ Under ∷ [])) ((s ++ Under ∷ []) ∷ rest) rest) ≡ rest
    neither unfit rest =
        ap (λ b. cond b ((s ++ Over ∷ []) ∷ cond (is_consistent r (s ++ Under ∷ [])) ((s ++ Under ∷ []) ∷ rest) rest)
        (cond (is_consistent r (s ++ Under ∷ [])) ((s ++ Under ∷ []) ∷ rest) rest)) (broken unfit Over)
        ∙ ap (λ b. cond b ((s ++ Under ∷ []) ∷ rest) rest) (broken unfit Under)

    by_head : (b : Bool) → is_consistent r s ≡ b
        → filter (is_consistent r) (extended xs) ≡ filter (is_consistent r) (extended (filter (is_consistent r) xs))
        → filter (is_consistent r) (extended (s ∷ xs))
        ≡ filter (is_consistent r) (extended (cond b (s ∷ filter (is_consistent r) xs) (filter (is_consistent r) xs)))
    by_head true fit rest = ap (λ l. cond (is_consistent r (s ++ Over ∷ []))
        ((s ++ Over ∷ []) ∷ cond (is_consistent r (s ++ Under ∷ [])) ((s ++ Under ∷ []) ∷ l) l)
        (cond (is_consistent r (s ++ Under ∷ [])) ((s ++ Under ∷ []) ∷ l) l)) rest
    by_head false unfit rest = neither unfit (filter (is_consistent r) (extended xs)) ∙ rest

consistent_lists-suc : (r : RulesView) (n : ℕ)
    → consistent_lists r (suc n) ≡ filter (is_consistent r) (extended (consistent_lists r n))
unfolding consistent_lists
consistent_lists-suc r n = ap (filter (is_consistent r)) (all_lists-suc n) ∙ filter-extended r (all_lists n)

-- the empty list breaks no rule
none_broken : (rules : List Rule) → list_any (is_broken []) rules ≡ false
none_broken [] = refl
none_broken (rule ∷ rules) =
    ap (λ b. b || list_any (is_broken []) rules) (and_left _ _ (not_decided-from_last 0 rule (omega arith))) ∙ none_broken rules

empty_consistent : (r : RulesView) → is_consistent r [] ≡ true
empty_consistent r = and_from _ _ (le-leb 0 r.pairs (omega arith)) (ap not (none_broken r.rules))

-- the list is the only consistent one of its length, and no smaller length has more than one
pub record IsOnly (r : RulesView) (s : List Sign) : Type 0 where
  pub only : consistent_lists r (length s) ≡ s ∷ []
  pub allowed : is_allowed r 1 (length s) ≡ true
  pub consistent : is_consistent r s ≡ true

pub only_empty : (r : RulesView) → IsOnly r []
unfolding consistent_lists all_lists is_allowed
only_empty r = record {
  only = ap (λ b. cond b ([] ∷ []) []) (empty_consistent r);
  allowed = ap (λ b. nat_le (length (cond {A = List (List Sign)} b ([] ∷ []) [])) 1) (empty_consistent r);
  consistent = empty_consistent r;
}

-- the lists of one more sign behind the only one
next_lists : (r : RulesView) (s : List Sign) (o u : Bool) → IsOnly r s
    → is_consistent r (s ++ Over ∷ []) ≡ o → is_consistent r (s ++ Under ∷ []) ≡ u
    → consistent_lists r (suc (length s)) ≡ cond o ((s ++ Over ∷ []) ∷ cond u ((s ++ Under ∷ []) ∷ []) []) (cond u ((s ++ Under ∷ []) ∷ []) [])
unfolding extended
next_lists r s o u only over under =
    consistent_lists-suc r (length s)
    ∙ ap (λ l. filter (is_consistent r) (extended l)) only.only
    ∙ ap (λ b. cond b ((s ++ Over ∷ []) ∷ cond (is_consistent r (s ++ Under ∷ [])) ((s ++ Under ∷ []) ∷ []) [])
    (cond (is_consistent r (s ++ Under ∷ [])) ((s ++ Under ∷ []) ∷ []) [])) over
    ∙ ap (λ b. cond o ((s ++ Over ∷ []) ∷ cond b ((s ++ Under ∷ []) ∷ []) []) (cond b ((s ++ Under ∷ []) ∷ []) [])) under

-- one sign more, where just one list of that length is consistent
only_more : (r : RulesView) (s : List Sign) (sign : Sign) → IsOnly r s → is_consistent r (s ++ sign ∷ []) ≡ true
    → consistent_lists r (suc (length s)) ≡ (s ++ sign ∷ []) ∷ [] → IsOnly r (s ++ sign ∷ [])
unfolding is_allowed
only_more r s sign only consistent next =
    let longer : length (s ++ sign ∷ []) ≡ suc (length s) = omega (arith, length-append s (sign ∷ [])) in
    record {
      only = ap (consistent_lists r) longer ∙ next;
      allowed = ap (is_allowed r 1) longer ∙ and_from _ _ only.allowed (ap (λ l. nat_le (length l) 1) next);
      consistent = consistent;
    }

pub only_over : (r : RulesView) (s : List Sign) → IsOnly r s → is_consistent r (s ++ Over ∷ []) ≡ true
    → is_consistent r (s ++ Under ∷ []) ≡ false → IsOnly r (s ++ Over ∷ [])
only_over r s only over under = only_more r s Over only over (next_lists r s true false only over under)

pub only_under : (r : RulesView) (s : List Sign) → IsOnly r s → is_consistent r (s ++ Over ∷ []) ≡ false
    → is_consistent r (s ++ Under ∷ []) ≡ true → IsOnly r (s ++ Under ∷ [])
only_under r s only over under = only_more r s Under only under (next_lists r s false true only over under)

pub only_next : (r : RulesView) (s : List Sign) (o u : Bool) → IsOnly r s → is_consistent r (s ++ Over ∷ []) ≡ o
    → is_consistent r (s ++ Under ∷ []) ≡ u → beq o u ≡ false → IsOnly r (s ++ cond o Over Under ∷ [])
only_next r s true true only over under apart = absurd (true≢false apart)
only_next r s true false only over under apart = only_over r s only over under
only_next r s false true only over under apart = only_under r s only over under
only_next r s false false only over under apart = absurd (true≢false apart)

-- ---- where the piece ends

allowed_length-own : (r : RulesView) (most n : ℕ) → is_allowed r most n ≡ true → allowed_length r most n ≡ n
unfolding allowed_length
allowed_length-own r most zero e = refl
allowed_length-own r most (suc n) e = ap (λ b. cond b (suc n) (allowed_length r most n)) e

not_allowed-more : (r : RulesView) (most n m : ℕ) → is_allowed r most n ≡ false → n ≤ m → is_allowed r most m ≡ false
unfolding is_allowed
not_allowed-more r most n zero unfit below = let same : 0 ≡ n = omega arith in ap (is_allowed r most) same ∙ unfit
not_allowed-more r most n (suc m) unfit below = elim (cases_lt m n) [
  | inl last ↦ let same : suc m ≡ n = omega arith in ap (is_allowed r most) same ∙ unfit
  | inr more ↦ and_left _ _ (not_allowed-more r most n m unfit more)
]

allowed_length-stop : (r : RulesView) (most n k : ℕ) → is_allowed r most n ≡ true → is_allowed r most (suc n) ≡ false → n < k
    → allowed_length r most k ≡ n
unfolding allowed_length
allowed_length-stop r most n zero fit unfit below = absurd (omega arith)
allowed_length-stop r most n (suc k) fit unfit below =
    ap (λ b. cond b (suc k) (allowed_length r most k)) (not_allowed-more r most (suc n) (suc k) unfit (omega arith))
    ∙ elim (cases_lt n k) [
      | inl more ↦ allowed_length-stop r most n k fit unfit more
      | inr last ↦
          let same : k ≡ n = omega arith in
          ap (allowed_length r most) same ∙ allowed_length-own r most n fit
    ]

-- the whole list, or the list before two that are consistent
pub piece_whole : (r : RulesView) (s : List Sign) → IsOnly r s → length s ≡ r.pairs → pieces_of r 1 ≡ s ∷ []
unfolding pieces_of
piece_whole r s only whole =
    ap (consistent_lists r) (ap (allowed_length r 1) (sym whole) ∙ allowed_length-own r 1 (length s) only.allowed) ∙ only.only

pub piece_fork : (r : RulesView) (s : List Sign) → IsOnly r s → length s < r.pairs → is_consistent r (s ++ Over ∷ []) ≡ true
    → is_consistent r (s ++ Under ∷ []) ≡ true → pieces_of r 1 ≡ s ∷ []
unfolding pieces_of is_allowed
piece_fork r s only shorter over under =
    let two = next_lists r s true true only over under in
    let unfit : is_allowed r 1 (suc (length s)) ≡ false = and_right _ _ (ap (λ l. nat_le (length l) 1) two) in
    ap (consistent_lists r) (allowed_length-stop r 1 (length s) r.pairs only.allowed unfit shorter) ∙ only.only

-- where a length has no consistent list, no greater one has any
none_more : (r : RulesView) (n m : ℕ) → consistent_lists r n ≡ [] → n ≤ m → consistent_lists r m ≡ []
unfolding extended
none_more r n zero none below = let same : 0 ≡ n = omega arith in ap (consistent_lists r) same ∙ none
none_more r n (suc m) none below = elim (cases_lt m n) [
  | inl last ↦ let same : suc m ≡ n = omega arith in ap (consistent_lists r) same ∙ none
  | inr more ↦ consistent_lists-suc r m ∙ ap (λ l. filter (is_consistent r) (extended l)) (none_more r n m none more)
]

allowed_more : (r : RulesView) (n m : ℕ) → is_allowed r 1 n ≡ true → consistent_lists r (suc n) ≡ [] → n ≤ m → is_allowed r 1 m ≡ true
unfolding is_allowed
allowed_more r n zero fit none below = let same : 0 ≡ n = omega arith in ap (is_allowed r 1) same ∙ fit
allowed_more r n (suc m) fit none below = elim (cases_lt m n) [
  | inl last ↦ let same : suc m ≡ n = omega arith in ap (is_allowed r 1) same ∙ fit
  | inr more ↦
      let gone = none_more r (suc n) (suc m) none (omega arith) in
      and_from _ _ (allowed_more r n m fit none more) (ap (λ l. nat_le (length l) 1) gone)
]

pub piece_none : (r : RulesView) (s : List Sign) → IsOnly r s → length s < r.pairs → is_consistent r (s ++ Over ∷ []) ≡ false
    → is_consistent r (s ++ Under ∷ []) ≡ false → pieces_of r 1 ≡ []
unfolding pieces_of
piece_none r s only shorter over under =
    let none = next_lists r s false false only over under in
    let all = allowed_more r (length s) r.pairs only.allowed none (omega arith) in
    ap (consistent_lists r) (allowed_length-own r 1 r.pairs all) ∙ none_more r (suc (length s)) r.pairs none (omega arith)

pub piece_same : (r : RulesView) (s : List Sign) (o u : Bool) → IsOnly r s → length s < r.pairs → is_consistent r (s ++ Over ∷ []) ≡ o
    → is_consistent r (s ++ Under ∷ []) ≡ u → beq o u ≡ true → pieces_of r 1 ≡ cond o (s ∷ []) []
piece_same r s true true only shorter over under e = piece_fork r s only shorter over under
piece_same r s true false only shorter over under e = absurd (true≢false (sym e))
piece_same r s false true only shorter over under e = absurd (true≢false (sym e))
piece_same r s false false only shorter over under e = piece_none r s only shorter over under

-- ---- what pieces there are

pub passed-filter : (c : List Sign → Bool) (xs : List (List Sign)) (k : ℕ) (d : List Sign) → k < length (filter c xs)
    → c (slice_index_or (filter c xs) k d) ≡ true
passed-filter c [] k d below = absurd (omega arith)
passed-filter c (x ∷ xs) k d below = by_head (c x) refl (λ i. passed-filter c xs i d) k below
  where
    by_head : (b : Bool) → c x ≡ b → ((i : ℕ) → i < length (filter c xs) → c (slice_index_or (filter c xs) i d) ≡ true)
        → (i : ℕ) → i < length (cond b (x ∷ filter c xs) (filter c xs)) → c (slice_index_or (cond b (x ∷ filter c xs) (filter c xs)) i d) ≡ true
    by_head true e rest zero below = e
    by_head true e rest (suc i) below = rest i (omega (arith, below))
    by_head false e rest i below = rest i below

pub pieces-consistent : (r : RulesView) (most k : ℕ) (d : List Sign) → k < length (pieces_of r most)
    → is_consistent r (slice_index_or (pieces_of r most) k d) ≡ true
unfolding pieces_of consistent_lists
pieces-consistent r most k d below = passed-filter (is_consistent r) (all_lists (allowed_length r most r.pairs)) k d below

allowed_count : (r : RulesView) (most n : ℕ) → is_allowed r most n ≡ true → length (consistent_lists r n) ≤ most
unfolding is_allowed
allowed_count r most zero fit = leb-true (length (consistent_lists r zero)) most fit
allowed_count r most (suc n) fit =
    leb-true (length (consistent_lists r (suc n))) most (and_parts (is_allowed r most n) (nat_le (length (consistent_lists r (suc n))) most) fit).1

allowed_length-is : (r : RulesView) (most n : ℕ) → is_allowed r most zero ≡ true → is_allowed r most (allowed_length r most n) ≡ true
unfolding allowed_length
allowed_length-is r most zero fit = fit
allowed_length-is r most (suc n) fit = by_test (is_allowed r most (suc n)) refl (allowed_length-is r most n fit)
  where
    by_test : (b : Bool) → is_allowed r most (suc n) ≡ b → is_allowed r most (allowed_length r most n) ≡ true
        → is_allowed r most (cond b (suc n) (allowed_length r most n)) ≡ true
    by_test true e rest = e
    by_test false e rest = rest

pub one_piece : (r : RulesView) → length (pieces_of r 1) ≤ 1
unfolding pieces_of
one_piece r = allowed_count r 1 (allowed_length r 1 r.pairs) (allowed_length-is r 1 r.pairs (only_empty r).allowed)
