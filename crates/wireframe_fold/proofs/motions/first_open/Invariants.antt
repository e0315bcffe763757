use Rattle.std.proofs.Common.{take}
use Rattle.std.specs.List.{All}
use Rattle.wireframe_fold.specs.Folding.{motions_of, IsClosedAt}
use Rattle.wireframe_fold.proofs.motions.first_open.Given as goal

abbrev pub invariant-loop-piece : goal.invariant-loop-piece
invariant-loop-piece l = All (IsClosedAt (motions_of l.motions)) (take l.piece-index l.shared)
