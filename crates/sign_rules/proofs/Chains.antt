-- Walking along the rules that the last sign of a list decides.
use Rattle.std.proofs.Common.{◌≡◌, ◌<◌, ◌≤◌, ◌-◌, ◌+◌, ◌≢◌, length, ℕ, Bool, true, false, not, List, sym, ◌∙◌, ap, subst, arith, inl, inr, slice_index_or, ◌⊎◌, [], ◌∷◌, ◌++◌, replicate, set, refl, length-append}
use Rattle.std.specs.Prelude.{IsTrue}
use Rattle.std.specs.List.{list_any}
use Rattle.std.proofs.Math.ListN.{get_or-append}
use Rattle.std.proofs.lemmas.List.{get_or_default, get_or_push, get_or-replicate, get_or-set_same, get_or-set_other, length-replicate, length-set}
use Rattle.std.proofs.lemmas.List.Folds.{list_any_none, list_all_at}
use Rattle.std.proofs.lemmas.List.Elements.{All-from_get_or}
use Rattle.std.proofs.lemmas.Bool.{cases_Bool, cases_order, cases_eq, cases_lt, and_from, and_left, and_right, and_parts, true≢false}
use Rattle.sign_rules.specs.declared.sign.Sign.{Sign}
use Rattle.sign_rules.specs.declared.sign.Sign.TheVariants.{Over}
use Rattle.sign_rules.specs.declared.rule.Rule.{Rule}
use Rattle.sign_rules.specs.declared.rule.Rule.TheVariants.{Fixed}
use Rattle.sign_rules.specs.Rule.{is_met, is_rule_on, last_pair}
use Rattle.sign_rules.specs.RuleIndex.{IsLatest, IsIndex}
use Rattle.sign_rules.specs.Rules.{RulesView, is_consistent, is_broken, is_broken_at_last, is_decided, are_rules_on}
use Rattle.sign_rules.specs.ConsistencyLaws.{decided-last, decided-from_last, not_decided-from_last, consistent-step}

-- the rules from place `next` on that the last sign decides are met, and the one before that place is such a rule
pub record HasFit (rules : List Rule) (signs : List Sign) (next : ℕ) : Type 0 where
  pub within : next ≤ length rules
  pub found : (d : Rule) → 0 < next → last_pair (slice_index_or rules (next - 1) d) ≡ length signs - 1
  pub met : (d : Rule) (n : ℕ) → next ≤ n → n < length rules
      → last_pair (slice_index_or rules n d) ≡ length signs - 1
      → is_met signs (slice_index_or rules n d) ≡ true

pub HasFit-start : (rules : List Rule) (signs : List Sign) (next : ℕ)
    → IsLatest rules (length signs - 1) (length rules) next
    → HasFit rules signs next
HasFit-start rules signs next latest = record {
  within = latest.within;
  found = latest.found;
  met = λ d n from below same. absurd (latest.others d n from below same);
}

pub HasFit-next : (rules : List Rule) (signs : List Sign) (next following : ℕ) (rule : Rule)
    → HasFit rules signs next → 0 < next
    → rule ≡ slice_index_or rules (next - 1) rule
    → is_met signs rule ≡ true
    → IsLatest rules (last_pair (slice_index_or rules (next - 1) rule)) (next - 1) following
    → HasFit rules signs following
HasFit-next rules signs next following rule fit some is met latest = record {
  within = omega (arith, latest.within, fit.within);
  found = λ d more. latest.found d more ∙ fit.found rule some;
  met = λ d n from below same. later_met d n from below same (cases_order n (next - 1));
}
  where
    later_met : (d : Rule) (n : ℕ) → following ≤ n → n < length rules
        → last_pair (slice_index_or rules n d) ≡ length signs - 1
        → (n ≡ next - 1) ⊎ ((n < next - 1) ⊎ (next - 1 < n)) → is_met signs (slice_index_or rules n d) ≡ true
    later_met d n from below same (inl here) =
        let own : slice_index_or rules n d ≡ rule =
        get_or_default rules n d rule below ∙ ap (λ k. slice_index_or rules k rule) here ∙ sym is in
        ap (is_met signs) own ∙ met
    later_met d n from below same (inr (inl earlier)) =
        absurd (latest.others d n from earlier (same ∙ sym (fit.found rule some)))
    later_met d n from below same (inr (inr later)) = fit.met d n (omega arith) below same

pub at_last-met : (signs : List Sign) (rule : Rule) → 0 < length signs
    → (last_pair rule ≡ length signs - 1 → is_met signs rule ≡ true) → is_broken_at_last signs rule ≡ false
at_last-met signs rule some met =
    elim (cases_order (last_pair rule) (length signs - 1)) [
      | inl same ↦ and_left _ _ (and_right (is_decided (length signs) rule) _ (ap not (met same)))
      | inr apart ↦
          elim apart [
            | inl below ↦ and_right (is_broken signs rule) _
                (ap not (decided-from_last (length signs - 1) rule below))
            | inr above ↦ and_left _ _
                (and_left _ _ (not_decided-from_last (length signs) rule (omega arith)))
          ]
    ]

pub at_last-broken : (signs : List Sign) (rule : Rule) → 0 < length signs → last_pair rule ≡ length signs - 1
    → is_met signs rule ≡ false → is_broken_at_last signs rule ≡ true
at_last-broken signs rule some same broken =
    and_from _ _
    (and_from _ _ (decided-from_last (length signs) rule (omega arith)) (ap not broken))
    (ap not (not_decided-from_last (length signs - 1) rule (omega arith)))

pub none_broken : (rules : List Rule) (signs : List Sign) → 0 < length signs → HasFit rules signs 0
    → list_any (is_broken_at_last signs) rules ≡ false
none_broken rules signs some fit =
    list_any_none (is_broken_at_last signs) rules
    (All-from_get_or (λ x. is_broken_at_last signs x ≡ false) rules (Fixed 0 Over)
    (λ n below. at_last-met signs (slice_index_or rules n (Fixed 0 Over)) some
    (λ same. fit.met (Fixed 0 Over) n (omega arith) below same)))

-- each rule of a list on a number of pairs is decided within them
pub last_pair-below : (pairs : ℕ) (rules : List Rule) (last n : ℕ) (d : Rule)
    → are_rules_on pairs rules ≡ true → n < length rules
    → last ≡ last_pair (slice_index_or rules n d) → last < pairs
last_pair-below pairs rules last n d all below is =
    elim (cases_Bool (is_rule_on pairs (slice_index_or rules n d))) [
      | inl holds ↦ subst (λ p. p < pairs) (sym is)
          (decided-last pairs (slice_index_or rules n d) (and_parts _ _ holds).0)
      | inr fails ↦ absurd (true≢false (sym all ∙ list_all_at (is_rule_on pairs) rules n d below fails))
    ]

-- no rule yet
pub IsIndex-none : (pairs : ℕ) (rules : List Rule) → IsIndex pairs 0 rules (replicate pairs 0) []
IsIndex-none pairs rules = record {
  starts = length-replicate pairs 0;
  steps = refl;
  begins = λ p below. subst (IsLatest rules p 0) (sym (get_or-replicate pairs p 0 0 below)) (record {
    within = omega arith;
    found = λ d some. absurd (omega arith);
    others = λ d n from below. absurd (omega arith);
  });
  goes_on = λ d n below. absurd (omega arith);
}

-- one more rule: it is where the chain of its greatest pair begins, and goes on to where that chain began
pub IsIndex-more : (pairs end : ℕ) (rules : List Rule) (latest earlier : List ℕ) (last : ℕ) (e : Rule)
    → IsIndex pairs end rules latest earlier
    → end < length rules → last ≡ last_pair (slice_index_or rules end e) → last < pairs
    → IsIndex pairs (end + 1) rules (set latest last (end + 1)) (earlier ++ slice_index_or latest last 0 ∷ [])
IsIndex-more pairs end rules latest earlier last e index below is within = record {
  starts = length-set latest last (end + 1) ∙ index.starts;
  steps = omega (arith, index.steps, length-append earlier (slice_index_or latest last 0 ∷ []));
  begins = λ p inside. begins_at p inside (cases_eq p last);
  goes_on = λ d n inside. goes_on_at d n (cases_lt n end) inside;
}
  where
    own : (d : Rule) (n : ℕ) → n ≡ end → last_pair (slice_index_or rules n d) ≡ last
    own d n here = ap last_pair (ap (λ k. slice_index_or rules k d) here ∙ get_or_default rules end d e below)
        ∙ sym is

    begins_at : (p : ℕ) → p < pairs → (p ≡ last) ⊎ (p ≡ last → ⊥)
        → IsLatest rules p (end + 1) (slice_index_or (set latest last (end + 1)) p 0)
    begins_at p inside (inl here) =
        let read : slice_index_or (set latest last (end + 1)) p 0 ≡ end + 1 =
        ap (λ k. slice_index_or (set latest last (end + 1)) k 0) here
        ∙ get_or-set_same latest last (end + 1) 0 (omega (arith, index.starts)) in
        subst (IsLatest rules p (end + 1)) (sym read) (record {
          within = omega arith;
          found = λ d some. own d (end + 1 - 1) (omega arith) ∙ sym here;
          others = λ d n from before. absurd (omega arith);
        })
    begins_at p inside (inr apart) =
        let old = index.begins p inside in
        subst (IsLatest rules p (end + 1)) (sym (get_or-set_other latest last p (end + 1) 0 apart)) (record {
          within = omega (arith, old.within);
          found = old.found;
          others = λ d n from before. others_at d n from before (cases_lt n end) old apart;
        })
      where
        others_at : (d : Rule) (n : ℕ) → slice_index_or latest p 0 ≤ n → n < end + 1 → (n < end) ⊎ (end ≤ n)
            → IsLatest rules p end (slice_index_or latest p 0) → (p ≡ last → ⊥)
            → last_pair (slice_index_or rules n d) ≢ p
        others_at d n from before (inl earlier) old apart = old.others d n from earlier
        others_at d n from before (inr final) old apart = λ same. apart (sym same ∙ own d n (omega arith))

    goes_on_at : (d : Rule) (n : ℕ) → (n < end) ⊎ (end ≤ n) → n < end + 1
        → IsLatest rules (last_pair (slice_index_or rules n d)) n
        (slice_index_or (earlier ++ slice_index_or latest last 0 ∷ []) n 0)
    goes_on_at d n (inl before) inside =
        subst (IsLatest rules (last_pair (slice_index_or rules n d)) n)
        (sym (get_or-append earlier (slice_index_or latest last 0 ∷ []) 0 n (omega (arith, index.steps))))
        (index.goes_on d n before)
    goes_on_at d n (inr after) inside =
        let here : n ≡ end = omega arith in
        let read : slice_index_or (earlier ++ slice_index_or latest last 0 ∷ []) n 0
        ≡ slice_index_or latest last 0 =
        get_or_push earlier (slice_index_or latest last 0) 0 n (omega (arith, index.steps)) in
        subst (IsLatest rules (last_pair (slice_index_or rules n d)) n) (sym read)
        (subst (λ p. IsLatest rules p n (slice_index_or latest last 0)) (sym (own d n here))
        (subst (λ k. IsLatest rules last k (slice_index_or latest last 0)) (sym here)
        (index.begins last within)))

-- what the rules that the last sign decides say of the longer list
pub step_from_value : (r : RulesView) (signs : List Sign) (fits : Bool) → length signs ≤ r.pairs
    → fits ≡ not (list_any (is_broken_at_last signs) r.rules)
    → (front : List Sign) (sign : Sign) → signs ≡ front ++ sign ∷ [] → IsTrue (is_consistent r front)
    → fits ≡ is_consistent r signs
step_from_value r signs fits within value front sign split holds =
    value
    ∙ ap (λ (l : List Sign). not (list_any (is_broken_at_last l) r.rules)) split
    ∙ consistent-step r front sign (subst (λ (l : List Sign). length l ≤ r.pairs) split within) holds
    ∙ ap (is_consistent r) (sym split)
