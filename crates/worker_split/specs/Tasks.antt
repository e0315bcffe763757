-- What a task asks for, and which outcomes are right for it.
use Rattle.std.specs.Prelude.{◌≡◌, ℕ, ◌≤◌, List, [], ◌∷◌, length}
use Rattle.std.specs.Arc.{arc_value}
use Rattle.sign_rules.specs.declared.sign.Sign.{Sign}
use Rattle.sign_rules.specs.Rules.{RulesView}
use Rattle.search_cursor.specs.Place.{SearchPlace, search_place}
use Rattle.order_search.specs.Lists.{remaining, open_lists, lists_between}
use Rattle.order_search.specs.Invariant.{IsConsistentWithin}
use Rattle.worker_split.specs.declared.task.Task.{Task}
use Rattle.worker_split.specs.declared.outcome.Outcome.{Outcome}
use Rattle.worker_split.specs.declared.outcome.End.{End}
use Rattle.worker_split.specs.declared.outcome.End.TheVariants.{Found, Done, Paused}

-- the plain numbers and lists of a task
pub record TaskView : Type 0 where
  pub job : ℕ
  pub version : ℕ
  pub piece : ℕ
  pub rules : RulesView
  pub prefix : List Sign
  pub from : SearchPlace
  pub budget : ℕ

abbrev pub task_of : Task → TaskView
task_of t = record {
  job = t.job;
  version = t.version;
  piece = t.piece;
  rules = arc_value t.rules;
  prefix = t.prefix.list;
  from = search_place t.position;
  budget = t.budget;
}

abbrev pub left_at : TaskView → SearchPlace → List (List Sign)
left_at t place = remaining t.rules t.prefix place

-- Found: the order is the first that is left, and the rest is left at the position. Done: nothing is left. Paused: the
-- same orders are left at the position, and at least `budget` open lists lie before it. Positions keep to consistent
-- lists that begin with the prefix.
abbrev pub IsRightEnd : TaskView → End → Type 0
IsRightEnd t (Found order position) =
    (left_at t t.from ≡ order.list ∷ left_at t (search_place position))
    × IsConsistentWithin t.rules t.prefix position.signs.list
IsRightEnd t Done = left_at t t.from ≡ []
IsRightEnd t (Paused position) =
    (left_at t (search_place position) ≡ left_at t t.from)
    × (t.budget ≤ length (lists_between (open_lists t.rules) t.prefix t.from (search_place position)))
    × IsConsistentWithin t.rules t.prefix position.signs.list

-- the outcome names the task, and its end is right
pub record IsRightOutcome (t : TaskView) (x : Outcome) : Type 0 where
  pub job : x.job ≡ t.job
  pub version : x.version ≡ t.version
  pub piece : x.piece ≡ t.piece
  pub from : search_place x.from ≡ t.from
  pub budget : x.budget ≡ t.budget
  pub end : IsRightEnd t x.end
