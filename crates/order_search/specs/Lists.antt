-- All sign lists, the orders among them, and what is left of them for a search.
use Rattle.std.specs.Prelude.{ℕ, not, ◌&&◌, List, [], ◌∷◌, ◌++◌, map, filter}
use Rattle.std.proofs.Common.{zero, suc}
use Rattle.sign_rules.specs.declared.sign.Sign.{Sign}
use Rattle.sign_rules.specs.declared.sign.Sign.TheVariants.{Over, Under}
use Rattle.sign_rules.specs.Rules.{RulesView, is_consistent}
use Rattle.search_cursor.specs.Place.{SearchPlace, is_passed, begins_with}

-- the sign lists of a length, in lexicographic order
unfoldable pub all_lists : ℕ → List (List Sign)
all_lists zero = [] ∷ []
all_lists (suc n) = map (λ signs. Over ∷ signs) (all_lists n) ++ map (λ signs. Under ∷ signs) (all_lists n)

-- the sign lists of all smaller lengths
unfoldable pub shorter_lists : ℕ → List (List Sign)
shorter_lists zero = []
shorter_lists (suc n) = shorter_lists n ++ all_lists n

-- the lists with a sign for each pair that break no rule, in lexicographic order
unfoldable pub orders : RulesView → List (List Sign)
orders r = filter (is_consistent r) (all_lists r.pairs)

-- the lists with fewer signs than there are pairs that break no rule
unfoldable pub open_lists : RulesView → List (List Sign)
open_lists r = filter (is_consistent r) (shorter_lists r.pairs)

-- the orders that begin with the prefix and do not stand before the place
unfoldable pub remaining : RulesView → List Sign → SearchPlace → List (List Sign)
remaining r prefix place =
    filter (λ order. begins_with prefix order && not (is_passed order place.signs place.past)) (orders r)

-- which of the lists begin with the prefix, do not stand before the first place, and stand before the second
unfoldable pub lists_between : List (List Sign) → List Sign → SearchPlace → SearchPlace → List (List Sign)
lists_between lists prefix from to =
    filter (λ q. begins_with prefix q && not (is_passed q from.signs from.past)
    && is_passed q to.signs to.past) lists
