use Rattle.std.proofs.Common.{◌≡◌, refl}
use Rattle.task_board.proofs.over_board.outcome_for.Goals as goal

pub returns-then-same : goal.returns-then-same
returns-then-same g c =
    let right = c.requires _ c.in_ok-task.was in
    let same = c.same.ensures.0 c.if-same.true in
    let says = rw (c.deref.ensures, c.deref-2.ensures) at same in
    rw says right
