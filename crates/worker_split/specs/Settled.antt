-- Outcomes whose lists have no room to grow.
use Rattle.sign_rules.specs.Signs.{bare_order}
use Rattle.search_cursor.specs.declared.position.Position.{Position}
use Rattle.worker_split.specs.declared.outcome.Outcome.{Outcome}
use Rattle.worker_split.specs.declared.outcome.End.{End}
use Rattle.worker_split.specs.declared.outcome.End.TheVariants.{Found, Done, Paused}

abbrev pub settled_position : Position → Position
settled_position p = record { signs = bare_order p.signs.list; past = p.past }

abbrev pub settled_end : End → End
settled_end (Found order position) = Found (bare_order order.list) (settled_position position)
settled_end Done = Done
settled_end (Paused position) = Paused (settled_position position)

-- the same numbers and lists, with no room behind the lists
abbrev pub settled : Outcome → Outcome
settled x = record x { from = settled_position x.from; end = settled_end x.end }
