-- What a search shows, and when its answers are right.
use Rattle.std.specs.Prelude.{◌≡◌, ℕ, ◌<◌, ◌≤◌, true, false, List, [], ◌∷◌, length, Option, None, IsSomeAnd}
use Rattle.sign_rules.specs.declared.sign.Sign.{Sign}
use Rattle.sign_rules.specs.Rules.{RulesView}
use Rattle.search_cursor.specs.Place.{SearchPlace}
use Rattle.order_search.specs.declared.step.Step.{Step}
use Rattle.order_search.specs.declared.step.Step.TheVariants.{Found, Done, Paused}
use Rattle.order_search.specs.Lists.{remaining, open_lists, lists_between}

-- the rules, the prefix that all orders begin with, where the search stands, and the order that its last answer found
pub record SearchView : Type 0 where
  pub rules : RulesView
  pub prefix : List Sign
  pub place : SearchPlace
  pub order : Option (List Sign)

-- the orders that the search has still to find
abbrev pub left : SearchView → List (List Sign)
left s = remaining s.rules s.prefix s.place

-- how many open lists the search passed
abbrev pub open_passed : SearchView → SearchView → ℕ
open_passed old new = length (lists_between (open_lists old.rules) old.prefix old.place new.place)

-- Found: the order is the first that was left, and the rest is left now. Done: nothing was left, and nothing is. Paused:
-- the same orders are left, and at least `budget` open lists were passed.
abbrev pub IsRight : SearchView → ℕ → Step → SearchView → Type 0
IsRight old budget Found new = IsSomeAnd new.order (λ order. left old ≡ order ∷ left new)
IsRight old budget Done new = (new.order ≡ None) × (left old ≡ []) × (left new ≡ [])
IsRight old budget Paused new = (new.order ≡ None) × (left new ≡ left old) × (budget ≤ open_passed old new)

-- each open list at which a sign is chosen costs a unit: a pause comes after exactly `budget` of them, any other answer
-- after at most so many
abbrev pub IsCounted : SearchView → ℕ → Step → SearchView → Type 0
IsCounted old budget Paused new = open_passed old new ≡ budget
IsCounted old budget Found new = open_passed old new ≤ budget
IsCounted old budget Done new = open_passed old new ≤ budget

-- right after all that begins with the signs
abbrev pub right_after : List Sign → SearchPlace
right_after signs = record { signs = signs; past = true }

-- a pause stands right before an open list
pub record IsBeforeOpen (r : RulesView) (place : SearchPlace) : Type 0 where
  pub before : place.past ≡ false
  pub shorter : length place.signs < r.pairs

-- where the search stands after its answer
abbrev pub IsPlaced : SearchView → Step → SearchView → Type 0
IsPlaced old Found new = IsSomeAnd new.order (λ order. new.place ≡ right_after order)
IsPlaced old Done new = new.place ≡ right_after old.prefix
IsPlaced old Paused new = IsBeforeOpen old.rules new.place
