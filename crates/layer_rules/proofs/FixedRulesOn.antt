-- The rules of creases are rules on the pairs, and no rule is there twice.
use Rattle.std.proofs.Common.{◌≡◌, ◌≢◌, ℕ, ◌+◌, ◌*◌, ◌<◌, ◌≤◌, inl, inr, Bool, true, false, List, [], ◌∷◌, ◌++◌, length, refl, sym, ap, subst, ◌∙◌, arith}
use Rattle.std.specs.Prelude.{◌&&◌}
use Rattle.std.specs.Bool.{IsTrue}
use Rattle.std.specs.List.{All, AllPairs, Contains}
use Rattle.std.proofs.lemmas.Bool.{and_from, lt-ltb}
use Rattle.std.proofs.lemmas.List.{length-append}
use Rattle.std.proofs.lemmas.List.Elements.{Contains-get_or, Contains-append_cases}
use Rattle.std.proofs.lemmas.List.Folds.{list_all-append}
use Rattle.std.proofs.lemmas.List.Kept.{AllPairs-cons}
use Rattle.crease_model.specs.declared.Kind.{Kind}
use Rattle.isometry_map.specs.Folded.{FoldedView}
use Rattle.sign_rules.specs.declared.sign.Sign.{Sign}
use Rattle.sign_rules.specs.declared.sign.Sign.TheVariants.{Over, Under}
use Rattle.sign_rules.specs.declared.rule.Rule.{Rule}
use Rattle.sign_rules.specs.declared.rule.Rule.TheVariants.{Fixed}
use Rattle.sign_rules.specs.Rule.{is_rule_on}
use Rattle.sign_rules.specs.Rules.{are_rules_on}
use Rattle.layer_rules.specs.declared.face_pairs.FacePair.{FacePair}
use Rattle.layer_rules.specs.RuleLists.{AreDifferent}
use Rattle.layer_rules.specs.FixedRules.{is_wanted, fixed_rule, fixed_rules, fixed_rules_from}
use Rattle.layer_rules.proofs.Ordered.{here, there, either, none, before_rest, rest_ascends}
use Rattle.layer_rules.proofs.FixedRuleLists.{rules_of_pair, rule_is_fixed}

module _ {X : Type 0} (R : X → X → Type 0) where
  all_of_members : (P : X → Type 0) (xs : List X) → ((z : X) → Contains xs z → P z) → All P xs
  all_of_members P xs h = λ k d below. h _ (Contains-get_or xs k d below)

  pub pairs_joined : (xs ys : List X) → AllPairs R xs → AllPairs R ys
      → ((x y : X) → Contains xs x → Contains ys y → R x y) → AllPairs R (xs ++ ys)
  pairs_joined [] ys up up' between = up'
  pairs_joined (x ∷ xs) ys up up' between =
      AllPairs-cons R x (xs ++ ys)
      (all_of_members (R x) (xs ++ ys)
      (λ z m. elim (Contains-append_cases xs ys z m) [
        | inl n ↦ all_at z n
        | inr n ↦ between x z (here x xs) n
      ]))
      (pairs_joined xs ys (rest_ascends R x xs up) up' (λ y z m n. between y z (there x xs y m) n))
    where
      all_at : (z : X) → Contains xs z → R x z
      all_at z n = subst (λ (t : X). R x t) n.2 (before_rest R x xs up n.0 z n.1)

one_on : (n : ℕ) (b : Bool) (p : ℕ) (s : Sign) → p < n → are_rules_on n (fixed_rule b p s) ≡ true
one_on n true p s below = ap (λ (b : Bool). ((b && true) && true) && true) (lt-ltb p n below)
one_on n false p s below = refl

module _ (shape : FoldedView) (kinds : List Kind) where
  pair_on : (n p : ℕ) (pair : FacePair) → p < n → are_rules_on n (fixed_rules shape kinds p pair) ≡ true
  unfolding fixed_rules
  pair_on n p pair below =
      list_all-append (is_rule_on n) (fixed_rule (is_wanted shape kinds pair Over) p Over)
      (fixed_rule (is_wanted shape kinds pair Under) p Under)
      ∙ and_from _ _ (one_on n (is_wanted shape kinds pair Over) p Over below)
      (one_on n (is_wanted shape kinds pair Under) p Under below)

  pub rules_on : (n p : ℕ) (pairs : List FacePair) → p + length pairs ≤ n
      → IsTrue (are_rules_on n (fixed_rules_from shape kinds p pairs))
  rules_on n p [] few = refl
  rules_on n p (pair ∷ pairs) few =
      list_all-append (is_rule_on n) (fixed_rules shape kinds p pair) (fixed_rules_from shape kinds (p + 1) pairs)
      ∙ and_from _ _ (pair_on n p pair (omega arith)) (rules_on n (p + 1) pairs (omega arith))

  one_different : (b : Bool) (p : ℕ) (s : Sign) → AreDifferent (fixed_rule b p s)
  one_different true p s = λ i j d less below. absurd (omega arith)
  one_different false p s = λ i j d less below. absurd (omega arith)

  of_one : (b : Bool) (p : ℕ) (s : Sign) (rule : Rule) → Contains (fixed_rule b p s) rule → rule ≡ Fixed p s
  of_one true p s rule m =
      elim (either (Fixed p s) [] rule m) [ inl e ↦ sym e | inr later ↦ absurd (none rule later) ]
  of_one false p s rule m = absurd (none rule m)

  over_not_under : (p : ℕ) → Fixed p Over ≡ Fixed p Under → ⊥
  over_not_under p e = cc

  pair_different : (p : ℕ) (pair : FacePair) → AreDifferent (fixed_rules shape kinds p pair)
  unfolding fixed_rules
  pair_different p pair =
      pairs_joined (λ r s. r ≢ s) (fixed_rule (is_wanted shape kinds pair Over) p Over)
      (fixed_rule (is_wanted shape kinds pair Under) p Under)
      (one_different (is_wanted shape kinds pair Over) p Over)
      (one_different (is_wanted shape kinds pair Under) p Under)
      (λ r s m n same.
      over_not_under p
      (sym (of_one (is_wanted shape kinds pair Over) p Over r m) ∙ same
      ∙ of_one (is_wanted shape kinds pair Under) p Under s n))

  place_is : (p q : ℕ) (s t : Sign) → Fixed p s ≡ Fixed q t → p ≡ q
  place_is p q s t e = cc

  pub all_different : (p : ℕ) (pairs : List FacePair) → AreDifferent (fixed_rules_from shape kinds p pairs)
  all_different p [] = λ i j d less below. absurd (omega arith)
  all_different p (pair ∷ pairs) =
      pairs_joined (λ r s. r ≢ s) (fixed_rules shape kinds p pair) (fixed_rules_from shape kinds (p + 1) pairs)
      (pair_different p pair) (all_different (p + 1) pairs)
      (λ r s m n same.
      let first = rules_of_pair shape kinds p pair r m in
      let later = rule_is_fixed shape kinds (p + 1) pairs s n in
      let one = place_is p ((p + 1) + later.place) first.0 later.sign (sym first.2 ∙ same ∙ later.is) in
      omega (arith, one))

-- ---- at most two for each pair

fixed_few : (wanted : Bool) (p : ℕ) (sign : Sign) → length (fixed_rule wanted p sign) ≤ 1
fixed_few true p sign = omega arith
fixed_few false p sign = omega arith

pub few_rules : (shape : FoldedView) (kinds : List Kind) (p : ℕ) (pairs : List FacePair)
    → length (fixed_rules_from shape kinds p pairs) ≤ 2 * length pairs
unfolding fixed_rules
few_rules shape kinds p [] = omega arith
few_rules shape kinds p (pair ∷ pairs) =
    let over = fixed_rule (is_wanted shape kinds pair Over) p Over in
    let under = fixed_rule (is_wanted shape kinds pair Under) p Under in
    omega (
      arith,
      length-append (over ++ under) (fixed_rules_from shape kinds (p + 1) pairs),
      length-append over under,
      fixed_few (is_wanted shape kinds pair Over) p Over,
      fixed_few (is_wanted shape kinds pair Under) p Under,
      few_rules shape kinds (p + 1) pairs,
    )
