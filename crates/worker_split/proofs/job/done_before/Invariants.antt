use Rattle.std.proofs.Common.{◌≡◌, ◌+◌, drop}
use Rattle.worker_split.specs.Job.{done_before}
use Rattle.worker_split.proofs.job.done_before.Given as goal

abbrev pub invariant-loop-place : goal.invariant-loop-place
invariant-loop-place l = l.place + done_before (drop l.place l.pieces) ≡ done_before l.pieces
