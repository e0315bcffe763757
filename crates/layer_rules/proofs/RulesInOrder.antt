-- Rules in order, each once, and what such a list says.
use Rattle.std.proofs.Common.{◌≡◌, ◌↔◌, ◌&&◌, ◌∙◌, ℕ, Bool, true, false, not, List, [], ◌∷◌, inl, inr, length, refl, sym, ap, subst}
use denote.Param.Members.{Mut}
use denote.Ref.{Bor}
use Rattle.std.specs.Prelude.{nat_le, nat_eq}
use Rattle.std.specs.Bool.{IsTrue}
use Rattle.std.specs.List.{Contains, dedup, list_any, list_all}
use Rattle.std.specs.List.Retain.{IsFiltered, DiffersFromLast}
use Rattle.std.specs.List.Sorted.{IsSorted, IsSortedBy, IsPermutation, IsStrictlySortedBy}
use Rattle.std.specs.Cmp.{IsEquivalence, IsTotalOrder, both_tied, unsigned_ties, bool_cmp_total}
use Rattle.std.specs.Fn.{Called, ComputesKey}
use Rattle.std.specs.Ordering.{is_eq, is_lt, nat_cmp, bool_cmp, ordering_then}
use Rattle.std.specs.declared.cmp.Ordering.{Ordering}
use Rattle.std.specs.declared.cmp.Ordering.TheVariants as order
use Rattle.std.proofs.lemmas.Fn.{always_returns_same}
use Rattle.std.proofs.Math.Bool.{beq}
use Rattle.std.proofs.lemmas.Bool.{and_parts, and_from, cases_Bool, eqb-true, true≢false, not-true}
use Rattle.std.proofs.lemmas.Cmp.{eq_by_cmp_equiv, on_total, then_total, nat_cmp_total}
use Rattle.std.proofs.lemmas.List.Filters.{dedup_is}
use Rattle.std.proofs.lemmas.List.Folds.{list_all_at}
use Rattle.std.proofs.lemmas.List.Kept.{Contains-dedup, Contains-from_dedup, IsStrictlySortedBy-dedup}
use Rattle.std.proofs.lemmas.List.Sorted.{Contains-permutation, IsPermutation-sym}
use Rattle.sign_rules.specs.declared.sign.Sign.{Sign}
use Rattle.sign_rules.specs.declared.sign.Sign.TheVariants.{Over, Under}
use Rattle.sign_rules.specs.declared.rule.Rule.{Rule}
use Rattle.sign_rules.specs.declared.rule.Rule.TheVariants.{Fixed, Equal, Even, NotCyclic}
use Rattle.sign_rules.specs.contracts.rule.RulePartialEq.TheImpl as rule
use Rattle.sign_rules.specs.contracts.sign.SignPartialEq.TheImpl as sign
use Rattle.sign_rules.specs.Rule.{is_rule_on}
use Rattle.sign_rules.specs.Rules.{are_rules_on, is_broken, is_consistent}
use Rattle.sign_rules.specs.Signs.{is_over}
use Rattle.layer_rules.specs.declared.rule_order.RuleKey.{RuleKey}
use Rattle.layer_rules.specs.RuleOrder.{key_of, compare_keys, compare_rules}
use Rattle.layer_rules.proofs.FixedRuleLists.{any_passes, passes_any}
use Rattle.layer_rules.proofs.OrderRules.{false_when}
use Rattle.layer_rules.proofs.Ordered.{here, there}

keys_total : IsTotalOrder compare_keys
keys_total =
    then_total (on_total (λ (k : RuleKey). k.form) nat_cmp_total)
    (then_total (on_total (λ (k : RuleKey). k.p) nat_cmp_total)
    (then_total (on_total (λ (k : RuleKey). k.q) nat_cmp_total)
    (then_total (on_total (λ (k : RuleKey). k.r) nat_cmp_total)
    (then_total (on_total (λ (k : RuleKey). k.s) nat_cmp_total) (on_total (λ (k : RuleKey). k.last) bool_cmp_total)))))

rules_total : IsTotalOrder compare_rules
rules_total = on_total key_of keys_total

-- ---- equal rules are those that tie

signs_tie : (a b : Sign) → sign.eq-value.it a b ≡ is_eq (bool_cmp (not (is_over a)) (not (is_over b)))
signs_tie Over Over = refl
signs_tie Over Under = refl
signs_tie Under Over = refl
signs_tie Under Under = refl

bools_tie : (a b : Bool) → beq a b ≡ is_eq (bool_cmp a b)
bools_tie true true = refl
bools_tie true false = refl
bools_tie false true = refl
bools_tie false false = refl

rules_tie : (x y : Rule) → rule.eq-value.it x y ≡ is_eq (compare_rules x y)
rules_tie (Fixed p s) (Fixed t x) =
    both_tied (nat_eq p t) (sign.eq-value.it s x) (nat_cmp p t) (bool_cmp (not (is_over s)) (not (is_over x)))
    (unsigned_ties p t) (signs_tie s x)
rules_tie (Equal p q x) (Equal t u y) =
    both_tied (nat_eq p t) (nat_eq q u && beq x y) (nat_cmp p t) _ (unsigned_ties p t)
    (both_tied (nat_eq q u) (beq x y) (nat_cmp q u) (bool_cmp x y) (unsigned_ties q u) (bools_tie x y))
rules_tie (Even p q r s x) (Even t u v w y) =
    both_tied (nat_eq p t) (nat_eq q u && (nat_eq r v && (nat_eq s w && beq x y))) (nat_cmp p t) _ (unsigned_ties p t)
    (both_tied (nat_eq q u) (nat_eq r v && (nat_eq s w && beq x y)) (nat_cmp q u) _ (unsigned_ties q u)
    (both_tied (nat_eq r v) (nat_eq s w && beq x y) (nat_cmp r v) _ (unsigned_ties r v)
    (both_tied (nat_eq s w) (beq x y) (nat_cmp s w) (bool_cmp x y) (unsigned_ties s w) (bools_tie x y))))
rules_tie (NotCyclic p q r) (NotCyclic t u v) =
    both_tied (nat_eq p t) (nat_eq q u && nat_eq r v) (nat_cmp p t) _ (unsigned_ties p t)
    (both_tied (nat_eq q u) (nat_eq r v) (nat_cmp q u) _ (unsigned_ties q u) (third (nat_cmp r v) (unsigned_ties r v)))
  where
    third : (o : Ordering) → nat_eq r v ≡ is_eq o → nat_eq r v ≡ is_eq (ordering_then o order.Equal)
    third order.Less e = e
    third order.Equal e = e
    third order.Greater e = e
rules_tie x y = refl

rules_equiv : IsEquivalence rule.eq-value.it
rules_equiv =
    subst (λ (E : Rule → Rule → Bool). IsEquivalence E) (λ i x y. sym (rules_tie x y) i)
    (eq_by_cmp_equiv rules_total)

sign_is : (a b : Sign) → sign.eq-value.it a b ≡ true → a ≡ b
sign_is Over Over e = refl
sign_is Over Under e = absurd (true≢false (sym e))
sign_is Under Over e = absurd (true≢false (sym e))
sign_is Under Under e = refl

bool_is : (a b : Bool) → beq a b ≡ true → a ≡ b
bool_is true true e = refl
bool_is true false e = absurd (true≢false (sym e))
bool_is false true e = absurd (true≢false (sym e))
bool_is false false e = refl

rule_is : (a b : Rule) → rule.eq-value.it a b ≡ true → a ≡ b
rule_is (Fixed p s) (Fixed q t) e =
    let h = and_parts _ _ e in
    let i = eqb-true p q h.0 in let j = sign_is s t h.1 in (cc)
rule_is (Equal p q x) (Equal r s y) e =
    let h = and_parts _ _ e in let k = and_parts _ _ h.1 in
    let i = eqb-true p r h.0 in let j = eqb-true q s k.0 in let l = bool_is x y k.1 in (cc)
rule_is (Even p q r s x) (Even t u v w y) e =
    let h = and_parts _ _ e in let k = and_parts _ _ h.1 in let m = and_parts _ _ k.1
    in let n = and_parts _ _ m.1 in
    let a = eqb-true p t h.0 in let b = eqb-true q u k.0 in let c = eqb-true r v m.0
    in let d = eqb-true s w n.0 in
    let l = bool_is x y n.1 in (cc)
rule_is (NotCyclic p q r) (NotCyclic t u v) e =
    let h = and_parts _ _ e in let k = and_parts _ _ h.1 in
    let a = eqb-true p t h.0 in let b = eqb-true q u k.0 in let c = eqb-true r v k.1 in (cc)
rule_is a b e = absurd (true≢false (sym e))

-- ---- sorted, each once

pub sorted_by_key : {F : Type 0} {g : Mut F (Bor Rule × Unit {0}) RuleKey} {f : F} (xs : List Rule)
    → ((key : Rule → RuleKey) → ComputesKey g key f → IsSortedBy (λ x y. is_lt (compare_keys (key x) (key y))) xs)
    → ((a : Bor Rule × Unit {0}) (r : RuleKey) (f' : F) → Called g f a r f' → (r ≡ key_of a.0.now) × (f' ≡ f))
    → IsSorted compare_rules xs
sorted_by_key {g = g} {f = f} xs sorted h = sorted key_of (always_returns_same g (λ a r. r ≡ key_of a.0.now) f h)

module _ (xs sorted final : List Rule)
    (kept : IsFiltered (DiffersFromLast rule.eq-value.it) [] sorted final) where
  final_is : final ≡ dedup rule.eq-value.it sorted
  final_is = dedup_is rule.eq-value.it sorted final kept

  pub once : IsSorted compare_rules sorted → IsStrictlySortedBy compare_rules final
  once up =
      let P : List Rule → Type 0 = λ ds. IsStrictlySortedBy compare_rules ds in
      subst P (sym final_is) (IsStrictlySortedBy-dedup rules_total rules_tie sorted up)

  pub same_rules : IsPermutation xs sorted → (r : Rule) → Contains final r ↔ Contains xs r
  same_rules moved r =
      let Q : List Rule → Type 0 = λ ds. Contains ds r in (
        (λ h. Contains-permutation sorted xs r (IsPermutation-sym xs sorted moved)
            (Contains-from_dedup rule.eq-value.it sorted r (subst Q final_is h))),
        λ h. subst Q (sym final_is)
            (Contains-dedup rules_equiv rule_is sorted r (Contains-permutation xs sorted r moved h)),
      )

-- ---- what holds of a list holds of one with no other rules

module _ (xs ys : List Rule) (among : (r : Rule) → Contains ys r → Contains xs r) where
  none_among : (test : Rule → Bool) → list_any test xs ≡ false → list_any test ys ≡ false
  none_among test none =
      false_when (list_any test ys)
      (λ any.
      let found = any_passes test ys any in
      true≢false (sym (passes_any test xs found.0 (among found.0 found.1) found.2) ∙ none))

  pub consistent_among : (n : ℕ) (signs : List Sign)
      → IsTrue (is_consistent (record { pairs = n; rules = xs }) signs)
      → IsTrue (is_consistent (record { pairs = n; rules = ys }) signs)
  consistent_among n signs h =
      let parts = and_parts (nat_le (length signs) n) (not (list_any (is_broken signs) xs)) h in
      and_from (nat_le (length signs) n) (not (list_any (is_broken signs) ys)) parts.0
      (ap not (none_among (is_broken signs) (not-true (list_any (is_broken signs) xs) parts.1)))

module _ {X : Type 0} (test : X → Bool) where
  all_at : (xs : List X) (x : X) → list_all test xs ≡ true → Contains xs x → test x ≡ true
  all_at xs x all found =
      elim (cases_Bool (test x)) [
        | inl passes ↦ passes
        | inr fails ↦
            absurd (true≢false (sym all ∙ list_all_at test xs found.0 x found.1 (ap test found.2 ∙ fails)))
      ]

  all_from : (xs : List X) → ((x : X) → Contains xs x → test x ≡ true) → list_all test xs ≡ true
  all_from [] each = refl
  all_from (x ∷ xs) each =
      and_from (test x) (list_all test xs) (each x (here x xs)) (all_from xs (λ y m. each y (there x xs y m)))

pub rules_among : (n : ℕ) (xs ys : List Rule) → ((r : Rule) → Contains ys r → Contains xs r)
    → IsTrue (are_rules_on n xs) → IsTrue (are_rules_on n ys)
rules_among n xs ys among all =
    all_from (is_rule_on n) ys (λ r m. all_at (is_rule_on n) xs r all (among r m))
