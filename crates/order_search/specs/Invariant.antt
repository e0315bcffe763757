-- What every search keeps.
use Rattle.std.specs.Prelude.{◌≤◌, List, IsTrue}
use Rattle.sign_rules.specs.declared.sign.Sign.{Sign}
use Rattle.sign_rules.specs.Signs.{OrderView}
use Rattle.sign_rules.specs.Rules.{RulesView, is_consistent}
use Rattle.search_cursor.specs.Place.{begins_with}

-- the signs begin with the prefix and are consistent
pub record IsConsistentWithin (r : RulesView) (prefix signs : List Sign) : Type 0 where
  pub begins : IsTrue (begins_with prefix signs)
  pub consistent : IsTrue (is_consistent r signs)

-- the signs of the place can grow to one for each pair without taking memory
pub record IsSearch (r : RulesView) (prefix : List Sign) (signs : OrderView) : Type 0 where
  pub within : IsConsistentWithin r prefix signs.list
  pub room : r.pairs ≤ signs.room
