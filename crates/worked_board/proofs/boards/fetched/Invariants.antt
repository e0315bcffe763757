use Rattle.std.specs.Prelude.{IsSome, option_map}
use Rattle.std.specs.Arc.{arc_value}
use Rattle.task_board.specs.Numbers.{kept_at}
use Rattle.worked_board.proofs.boards.fetched.Given as goal

abbrev pub invariant-loop-turn : goal.invariant-loop-turn
invariant-loop-turn _ l = IsSome (option_map (λ k. arc_value k.task) (kept_at l.helpers.kept.places.items l.ticket))
