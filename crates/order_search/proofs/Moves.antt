-- What a step of the walk passes.
use Rattle.std.proofs.Common.{◌≡◌, Bool, true, false, ◌||◌, cond, List, [], ◌∷◌, ◌++◌, refl, sym, ◌∙◌, ap}
use Rattle.std.proofs.Math.Bool.{or_assoc}
use Rattle.sign_rules.specs.declared.sign.Sign.{Sign}
use Rattle.sign_rules.specs.declared.sign.Sign.TheVariants.{Over, Under}
use Rattle.sign_rules.specs.Rules.{RulesView, is_consistent}
use Rattle.search_cursor.specs.Place.{SearchPlace, is_passed, begins_with}
use Rattle.search_cursor.specs.PlaceLaws.{is_list, passed-turn, passed-climb, passed-down, passed-past}
use Rattle.order_search.specs.ListLaws.{none_begins}
use Rattle.order_search.specs.Search.{right_after}
use Rattle.order_search.specs.Walking.{before, descended, climbed}

-- what was passed stays passed, and of the consistent lists exactly those of `own` come to it
pub record IsMove (r : RulesView) (from to : SearchPlace) (own : List Sign → Bool) : Type 0 where
  pub onward : (q : List Sign) → is_passed q from.signs from.past ≡ true → is_passed q to.signs to.past ≡ true
  pub exact : (q : List Sign) → is_consistent r q ≡ true
      → is_passed q to.signs to.past ≡ (is_passed q from.signs from.past || own q)

move_by : (r : RulesView) (from to : SearchPlace) (own more : List Sign → Bool)
    → ((q : List Sign) → is_passed q to.signs to.past ≡ (is_passed q from.signs from.past || more q))
    → ((q : List Sign) → is_consistent r q ≡ true → more q ≡ own q) → IsMove r from to own
move_by r from to own more adds same = record {
  onward = λ q passed. adds q ∙ ap (λ b. b || more q) passed;
  exact = λ q consistent. adds q ∙ ap (λ b. is_passed q from.signs from.past || b) (same q consistent);
}

or-false : (b : Bool) → b ≡ (b || false)
or-false true = refl
or-false false = refl

-- right after all with Over behind the signs
past_over : (s q : List Sign)
    → is_passed q (s ++ Over ∷ []) true
    ≡ ((is_passed q s false || is_list q s) || begins_with (s ++ Over ∷ []) q)
past_over s q = passed-past q (s ++ Over ∷ [])
    ∙ ap (λ b. b || begins_with (s ++ Over ∷ []) q) (passed-down q s)

-- right after all with the signs
past_both : (s q : List Sign)
    → is_passed q s true ≡ (is_passed q (s ++ Over ∷ []) true || begins_with (s ++ Under ∷ []) q)
past_both s q =
    sym (passed-climb q s) ∙ passed-past q (s ++ Under ∷ [])
    ∙ ap (λ b. b || begins_with (s ++ Under ∷ []) q) (passed-turn q s)

to_over : (r : RulesView) (s : List Sign) → IsMove r (before s) (before (s ++ Over ∷ [])) (λ q. is_list q s)
to_over r s = move_by r (before s) (before (s ++ Over ∷ [])) (λ q. is_list q s) (λ q. is_list q s)
    (λ q. passed-down q s) (λ q _. refl)

to_under : (r : RulesView) (s : List Sign) → is_consistent r (s ++ Over ∷ []) ≡ false
    → IsMove r (before s) (before (s ++ Under ∷ [])) (λ q. is_list q s)
to_under r s no_over =
    move_by r (before s) (before (s ++ Under ∷ [])) (λ q. is_list q s)
    (λ q. is_list q s || begins_with (s ++ Over ∷ []) q)
    (λ q. passed-turn q s ∙ past_over s q
    ∙ or_assoc (is_passed q s false) (is_list q s) (begins_with (s ++ Over ∷ []) q))
    (λ q consistent. ap (λ b. is_list q s || b) (none_begins r (s ++ Over ∷ []) q no_over consistent)
    ∙ sym (or-false (is_list q s)))

to_past : (r : RulesView) (s : List Sign) → is_consistent r (s ++ Over ∷ []) ≡ false
    → is_consistent r (s ++ Under ∷ []) ≡ false
    → IsMove r (before s) (right_after s) (λ q. is_list q s)
to_past r s no_over no_under =
    move_by r (before s) (right_after s) (λ q. is_list q s)
    (λ q. (is_list q s || begins_with (s ++ Over ∷ []) q) || begins_with (s ++ Under ∷ []) q)
    (λ q.
    past_both s q
    ∙ ap (λ b. b || begins_with (s ++ Under ∷ []) q)
    (past_over s q ∙ or_assoc (is_passed q s false) (is_list q s) (begins_with (s ++ Over ∷ []) q))
    ∙ or_assoc (is_passed q s false) (is_list q s || begins_with (s ++ Over ∷ []) q)
    (begins_with (s ++ Under ∷ []) q))
    (λ q consistent.
    ap (λ b. (is_list q s || begins_with (s ++ Over ∷ []) q) || b)
    (none_begins r (s ++ Under ∷ []) q no_under consistent)
    ∙ sym (or-false (is_list q s || begins_with (s ++ Over ∷ []) q))
    ∙ ap (λ b. is_list q s || b) (none_begins r (s ++ Over ∷ []) q no_over consistent)
    ∙ sym (or-false (is_list q s)))

pub descended-move : (r : RulesView) (s : List Sign) → IsMove r (before s) (descended r s) (λ q. is_list q s)
descended-move r s = first (is_consistent r (s ++ Over ∷ [])) refl
  where
    second : is_consistent r (s ++ Over ∷ []) ≡ false → (u : Bool) → is_consistent r (s ++ Under ∷ []) ≡ u
        → IsMove r (before s) (cond u (before (s ++ Under ∷ [])) (right_after s)) (λ q. is_list q s)
    second no_over true fits = to_under r s no_over
    second no_over false no_under = to_past r s no_over no_under

    first : (o : Bool) → is_consistent r (s ++ Over ∷ []) ≡ o
        → IsMove r (before s)
        (cond o (before (s ++ Over ∷ []))
        (cond (is_consistent r (s ++ Under ∷ [])) (before (s ++ Under ∷ [])) (right_after s)))
        (λ q. is_list q s)
    first true fits = to_over r s
    first false no_over = second no_over (is_consistent r (s ++ Under ∷ [])) refl

pub climbed-move : (r : RulesView) (front : List Sign) (sign : Sign)
    → IsMove r (right_after (front ++ sign ∷ [])) (climbed r front sign) (λ q. false)
climbed-move r front Under =
    move_by r (right_after (front ++ Under ∷ [])) (right_after front) (λ q. false) (λ q. false)
    (λ q. sym (passed-climb q front) ∙ or-false (is_passed q (front ++ Under ∷ []) true)) (λ q _. refl)
climbed-move r front Over = turn (is_consistent r (front ++ Under ∷ [])) refl
  where
    turn : (u : Bool) → is_consistent r (front ++ Under ∷ []) ≡ u
        → IsMove r (right_after (front ++ Over ∷ [])) (cond u (before (front ++ Under ∷ [])) (right_after front))
        (λ q. false)
    turn true fits =
        move_by r (right_after (front ++ Over ∷ [])) (before (front ++ Under ∷ [])) (λ q. false) (λ q. false)
        (λ q. passed-turn q front ∙ or-false (is_passed q (front ++ Over ∷ []) true)) (λ q _. refl)
    turn false no_under =
        move_by r (right_after (front ++ Over ∷ [])) (right_after front) (λ q. false)
        (λ q. begins_with (front ++ Under ∷ []) q)
        (λ q. past_both front q)
        (λ q consistent. none_begins r (front ++ Under ∷ []) q no_under consistent)
