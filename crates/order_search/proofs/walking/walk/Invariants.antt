use Rattle.std.proofs.Common.{◌≤◌}
use Rattle.search_cursor.specs.Place.{search_place}
use Rattle.order_search.specs.Invariant.{IsSearch}
use Rattle.order_search.proofs.Walks.{Walked}
use Rattle.order_search.proofs.Measure.{place_steps}
use Rattle.order_search.proofs.walking.walk.Given as goal

abbrev pub invariant-loop-position : goal.invariant-loop-position
invariant-loop-position l = record {
  search : IsSearch l.rules l.prefix l.position.signs;
  walked : Walked l.rules l.prefix (search_place l.initial.position) (search_place l.position) l.units;
  within : l.units ≤ l.budget;
}

abbrev pub decreases-loop-position : goal.decreases-loop-position
decreases-loop-position l = place_steps (search_place l.position) l.rules.pairs
