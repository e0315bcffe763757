-- Which rules a list and its fronts break.
use Rattle.std.specs.Prelude.{◌≡◌, ℕ, ◌-◌, ◌<◌, ◌≤◌, Bool, true, false, not, ◌&&◌, ◌||◌, List, [], ◌∷◌, ◌++◌, length, nat_le, IsTrue}
use Rattle.std.specs.List.{list_any}
use Rattle.std.proofs.Common.{zero, suc, ◌⊎◌, sym, ◌∙◌, ap, ltb, arith, inl, inr, refl, length-append}
use Rattle.std.proofs.Math.Bool.{and-true}
use Rattle.std.proofs.lemmas.Bool.{cases_Bool, and_parts, and_from, and_left, and_right, and_cases, ltb-true, lt-ltb, le-ltb, le-leb, leb-true, true≢false, not-true}
use Rattle.std.proofs.lemmas.Bool.Decides.{nat_tests}
use Rattle.sign_rules.specs.declared.sign.Sign.{Sign}
use Rattle.sign_rules.specs.declared.rule.Rule.{Rule}
use Rattle.sign_rules.specs.declared.rule.Rule.TheVariants.{Fixed, Equal, Even, NotCyclic}
use Rattle.sign_rules.specs.Signs.{over_at}
use Rattle.sign_rules.specs.Rule.{is_met, last_pair}
use Rattle.sign_rules.specs.Rules.{RulesView, is_decided, is_broken, is_broken_at_last, is_consistent}

-- a list decides a rule where it has a sign for its greatest pair
pub decided_is : (count : ℕ) (rule : Rule) → is_decided count rule ≡ ltb (last_pair rule) count
decided_is n (Fixed p _) = grind (arith, nat_tests)
decided_is n (Equal p q _) = grind (arith, nat_tests)
decided_is n (Even p q r s _) = grind (arith, nat_tests)
decided_is n (NotCyclic ij jk ik) = grind (arith, nat_tests)

pub decided-last : (count : ℕ) (rule : Rule) → is_decided count rule ≡ true → last_pair rule < count
decided-last n rule d = ltb-true (last_pair rule) n (sym (decided_is n rule) ∙ d)

pub decided-from_last : (count : ℕ) (rule : Rule) → last_pair rule < count → is_decided count rule ≡ true
decided-from_last n rule below = decided_is n rule ∙ lt-ltb (last_pair rule) n below

pub not_decided-from_last : (count : ℕ) (rule : Rule) → count ≤ last_pair rule → is_decided count rule ≡ false
not_decided-from_last n rule above = decided_is n rule ∙ le-ltb (last_pair rule) n above

over_at-front : (front rest : List Sign) (p : ℕ) → p < length front
    → over_at (front ++ rest) p ≡ over_at front p
over_at-front [] rest p below = absurd (omega arith)
over_at-front (s ∷ front) rest zero below = refl
over_at-front (s ∷ front) rest (suc p) below = over_at-front front rest p (omega arith)

-- whether a rule is met lies in the signs of its pairs alone
pub met-front : (front rest : List Sign) (rule : Rule) → is_decided (length front) rule ≡ true
    → is_met (front ++ rest) rule ≡ is_met front rule
met-front front rest rule decided = by_rule rule (decided-last (length front) rule decided)
  where
    at : (p : ℕ) → p < length front → over_at (front ++ rest) p ≡ over_at front p
    at p below = over_at-front front rest p below

    by_rule : (rule : Rule) → last_pair rule < length front → is_met (front ++ rest) rule ≡ is_met front rule
    by_rule (Fixed p sign) below = simp (at p (omega arith))
    by_rule (Equal p q same) below = simp (at p (omega arith), at q (omega arith))
    by_rule (Even p q r s odd) below =
        simp (at p (omega arith), at q (omega arith), at r (omega arith), at s (omega arith))
    by_rule (NotCyclic ij jk ik) below = simp (at ij (omega arith), at jk (omega arith), at ik (omega arith))

broken-front : (front rest : List Sign) (rule : Rule) → is_broken (front ++ rest) rule ≡ false
    → is_broken front rule ≡ false
broken-front front rest rule fits =
    elim (cases_Bool (is_decided (length front) rule)) [
      | inl decided ↦
          let below = decided-last (length front) rule decided in
          let more : is_decided (length (front ++ rest)) rule ≡ true =
          decided-from_last (length (front ++ rest)) rule (omega (arith, length-append front rest)) in
          elim (and_cases _ _ fits) [
            | inl undecided ↦ absurd (true≢false (sym more ∙ undecided))
            | inr met ↦ and_right _ _ (ap not (sym (met-front front rest rule decided)) ∙ met)
          ]
      | inr undecided ↦ and_left _ _ undecided
    ]

neither : (x y : Bool) → (x || y) ≡ false → (x ≡ false) × (y ≡ false)
neither true y e = absurd (true≢false e)
neither false y e = (refl, e)

none : (x y : Bool) → x ≡ false → y ≡ false → (x || y) ≡ false
none true y e f = absurd (true≢false e)
none false y e f = f

any_broken-front : (front rest : List Sign) (rs : List Rule) → list_any (is_broken (front ++ rest)) rs ≡ false
    → list_any (is_broken front) rs ≡ false
any_broken-front front rest [] fits = refl
any_broken-front front rest (rule ∷ rs) fits =
    let parts = neither (is_broken (front ++ rest) rule) (list_any (is_broken (front ++ rest)) rs) fits in
    none (is_broken front rule) (list_any (is_broken front) rs) (broken-front front rest rule parts.0)
    (any_broken-front front rest rs parts.1)

-- a front of a consistent list is consistent
pub consistent-front : (r : RulesView) (front rest : List Sign) → IsTrue (is_consistent r (front ++ rest))
    → IsTrue (is_consistent r front)
consistent-front r front rest holds =
    let parts = and_parts (nat_le (length (front ++ rest)) r.pairs)
    (not (list_any (is_broken (front ++ rest)) r.rules)) holds in
    let shorter : length front ≤ r.pairs = omega
    (arith, leb-true (length (front ++ rest)) r.pairs parts.0, length-append front rest) in
    and_from _ _ (le-leb (length front) r.pairs shorter)
    (ap not (any_broken-front front rest r.rules (not-true _ parts.1)))

-- behind a list that breaks no rule, only the rules that the last sign decides can be broken
broken_at_last-is : (front : List Sign) (sign : Sign) (rule : Rule) → is_broken front rule ≡ false
    → is_broken (front ++ sign ∷ []) rule ≡ is_broken_at_last (front ++ sign ∷ []) rule
broken_at_last-is front sign rule fits =
    elim (cases_Bool (is_decided (length front) rule)) [
      | inl decided ↦
          let met : not (is_met front rule) ≡ false = fits_met decided (and_cases _ _ fits) in
          let kept : is_broken (front ++ sign ∷ []) rule ≡ false =
          and_right _ _ (ap not (met-front front (sign ∷ []) rule decided) ∙ met) in
          kept ∙ sym (and_left (is_broken (front ++ sign ∷ []) rule) _ kept)
      | inr undecided ↦
          let one_less : length (front ++ sign ∷ []) - 1
          ≡ length front = omega (arith, length-append front (sign ∷ [])) in
          let before : is_decided (length (front ++ sign ∷ []) - 1) rule
          ≡ false = ap (λ n. is_decided n rule) one_less ∙ undecided in
          sym (ap (λ b. is_broken (front ++ sign ∷ []) rule && not b) before ∙ and-true _)
    ]
  where
    fits_met : is_decided (length front) rule ≡ true
        → (is_decided (length front) rule ≡ false) ⊎ (not (is_met front rule) ≡ false)
        → not (is_met front rule) ≡ false
    fits_met decided (inl undecided) = absurd (true≢false (sym decided ∙ undecided))
    fits_met decided (inr met) = met

any_broken_at_last-is : (front : List Sign) (sign : Sign) (rs : List Rule)
    → list_any (is_broken front) rs ≡ false
    → list_any (is_broken (front ++ sign ∷ [])) rs ≡ list_any (is_broken_at_last (front ++ sign ∷ [])) rs
any_broken_at_last-is front sign [] fits = refl
any_broken_at_last-is front sign (rule ∷ rs) fits =
    let parts = neither (is_broken front rule) (list_any (is_broken front) rs) fits in
    let head = broken_at_last-is front sign rule parts.0 in
    let tail = any_broken_at_last-is front sign rs parts.1 in
    ap (λ b. b || list_any (is_broken (front ++ sign ∷ [])) rs) head
    ∙ ap (λ b. is_broken_at_last (front ++ sign ∷ []) rule || b) tail

pub consistent-step : (r : RulesView) (front : List Sign) (sign : Sign)
    → length (front ++ sign ∷ []) ≤ r.pairs
    → IsTrue (is_consistent r front)
    → not (list_any (is_broken_at_last (front ++ sign ∷ [])) r.rules) ≡ is_consistent r (front ++ sign ∷ [])
consistent-step r front sign within holds =
    let parts = and_parts (nat_le (length front) r.pairs) (not (list_any (is_broken front) r.rules)) holds in
    ap not (sym (any_broken_at_last-is front sign r.rules (not-true _ parts.1)))
    ∙ sym (ap (λ b. b && not (list_any (is_broken (front ++ sign ∷ [])) r.rules)) (le-leb _ _ within))
