-- The orders of rules: which sign lists they are, and how they follow one another.
use Rattle.std.specs.Prelude.{◌≡◌, ◌↔◌, List, length, IsTrue}
use Rattle.std.specs.List.{AllPairs, Contains}
use Rattle.sign_rules.specs.declared.sign.Sign.{Sign}
use Rattle.sign_rules.specs.Rules.{RulesView, is_consistent}
use Rattle.search_cursor.specs.Place.{list_before}
use Rattle.order_search.specs.Lists.{orders}

-- just these sign lists, each before all later ones in lexicographic order, so each once
pub record AreInOrder (IsOne : List Sign → Type 0) (list : List (List Sign)) : Type 0 where
  pub members : (signs : List Sign) → Contains list signs ↔ IsOne signs
  pub ascend : AllPairs (λ a b. IsTrue (list_before a b)) list

-- the orders of rules are the lists with a sign for each pair that break none of them
abbrev pub OrdersAreInOrder : Type 0
OrdersAreInOrder =
    (r : RulesView)
    → AreInOrder (λ signs. (length signs ≡ r.pairs) × IsTrue (is_consistent r signs)) (orders r)
