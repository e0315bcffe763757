-- Rules on the signs of two, three or four pairs, or of one.
use Rattle.std.specs.Prelude.{ℕ, ◌%◌, ◌==◌, Bool, true, false, not, ◌&&◌, List, [], ◌∷◌, nat_lt, max, count_by}
use Rattle.std.specs.List.{list_all, list_any}
use Rattle.sign_rules.specs.declared.sign.Sign.{Sign}
use Rattle.sign_rules.specs.declared.rule.Rule.{Rule}
use Rattle.sign_rules.specs.declared.rule.Rule.TheVariants.{Fixed, Equal, Even, NotCyclic}
use Rattle.sign_rules.specs.Signs.{is_over, over_at}

-- the pairs that a rule names
abbrev pub pairs_of : Rule → List ℕ
pairs_of (Fixed p _) = p ∷ []
pairs_of (Equal p q _) = p ∷ q ∷ []
pairs_of (Even p q r s _) = p ∷ q ∷ r ∷ s ∷ []
pairs_of (NotCyclic ij jk ik) = ij ∷ jk ∷ ik ∷ []

-- the greatest pair that a rule names, whose sign decides it
abbrev pub last_pair : Rule → ℕ
last_pair (Fixed p _) = p
last_pair (Equal p q _) = max p q
last_pair (Even p q r s _) = max (max p q) (max r s)
last_pair (NotCyclic ij jk ik) = max (max ij jk) ik

-- whether two tests have one answer
abbrev pub is_same : Bool → Bool → Bool
is_same true b = b
is_same false b = not b

abbrev pub are_different : List ℕ → Bool
are_different [] = true
are_different (p ∷ ps) = not (list_any (λ q. p == q) ps) && are_different ps

-- whether the rule names different pairs, all of them below the number of pairs
abbrev pub is_rule_on : ℕ → Rule → Bool
is_rule_on pairs rule = list_all (λ p. nat_lt p pairs) (pairs_of rule) && are_different (pairs_of rule)

-- whether signs meet the rule, given by which pairs have Over
abbrev pub is_met_by : (ℕ → Bool) → Rule → Bool
is_met_by over (Fixed p sign) = is_same (over p) (is_over sign)
is_met_by over (Equal p q same) = is_same (is_same (over p) (over q)) same
is_met_by over (Even p q r s odd) = is_same (count_by over (p ∷ q ∷ r ∷ s ∷ []) % 2 == 1) odd
is_met_by over (NotCyclic ij jk ik) =
    not (over ij && over jk && not (over ik)) && not (not (over ij) && not (over jk) && over ik)

-- whether a list with a sign for each pair that the rule names meets it
abbrev pub is_met : List Sign → Rule → Bool
is_met signs rule = is_met_by (over_at signs) rule
