-- One step of the walk over consistent lists, downwards and upwards.
use Rattle.std.specs.Prelude.{◌≡◌, ℕ, ◌≤◌, false, if◌then◌else◌, List, [], ◌∷◌, ◌++◌, length}
use Rattle.sign_rules.specs.declared.sign.Sign.{Sign}
use Rattle.sign_rules.specs.declared.sign.Sign.TheVariants.{Over, Under}
use Rattle.sign_rules.specs.Rules.{RulesView, is_consistent}
use Rattle.search_cursor.specs.Place.{SearchPlace}
use Rattle.order_search.specs.declared.step.Step.{Step}
use Rattle.order_search.specs.declared.step.Step.TheVariants.{Found, Done, Paused}
use Rattle.order_search.specs.Lists.{remaining, open_lists, lists_between}
use Rattle.order_search.specs.Search.{right_after, IsBeforeOpen}

abbrev pub before : List Sign → SearchPlace
before signs = record { signs = signs; past = false }

-- from before an open list: to the first longer list that is consistent, or past the list where there is none
abbrev pub descended : RulesView → List Sign → SearchPlace
descended r signs =
    if is_consistent r (signs ++ Over ∷ []) then before (signs ++ Over ∷ [])
    else if is_consistent r (signs ++ Under ∷ []) then before (signs ++ Under ∷ [])
    else right_after signs

-- from after all with this last sign: to the list with the other sign, where that comes later and is consistent, or past
-- the shorter list
abbrev pub climbed : RulesView → List Sign → Sign → SearchPlace
climbed r front Over =
    if is_consistent r (front ++ Under ∷ []) then before (front ++ Under ∷ []) else right_after front
climbed r front Under = right_after front

-- what a walk answers, by where it began and where it stands
abbrev pub IsSearchWalk : RulesView → List Sign → ℕ → SearchPlace → Step → SearchPlace → Type 0
IsSearchWalk r prefix budget from Found to =
    (to ≡ right_after to.signs) × (remaining r prefix from ≡ to.signs ∷ remaining r prefix to)
    × (length (lists_between (open_lists r) prefix from to) ≤ budget)
IsSearchWalk r prefix budget from Done to =
    (to ≡ right_after prefix) × (remaining r prefix from ≡ []) × (remaining r prefix to ≡ [])
    × (length (lists_between (open_lists r) prefix from to) ≤ budget)
IsSearchWalk r prefix budget from Paused to =
    IsBeforeOpen r to × (remaining r prefix to ≡ remaining r prefix from)
    × (length (lists_between (open_lists r) prefix from to) ≡ budget)
