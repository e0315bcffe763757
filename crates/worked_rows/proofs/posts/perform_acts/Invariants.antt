use Rattle.std.specs.List.{All}
use Rattle.fold_jobs.specs.Machine.{IsRightIn}
use Rattle.worked_rows.proofs.posts.perform_acts.Given as goal

abbrev pub invariant-loop-act : goal.invariant-loop-act
invariant-loop-act g l = All (λ x. IsRightIn l.session.state.jobs x) l.kept.items
