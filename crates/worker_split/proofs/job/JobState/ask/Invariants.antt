use Rattle.std.proofs.Common.{◌≡◌, ◌++◌, map, take, drop}
use Rattle.worker_split.specs.Job.{asked_piece}
use Rattle.worker_split.proofs.job.JobState.ask.Given as goal

abbrev pub invariant-loop-piece : goal.invariant-loop-piece
invariant-loop-piece l =
    l.piece-items ≡ map (asked_piece l.budget) (take l.piece-index l.initial.piece-items) ++ drop l.piece-index l.initial.piece-items
