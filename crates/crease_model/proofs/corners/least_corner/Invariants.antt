use Rattle.std.specs.List.{IsFirstBest}
use Rattle.crease_model.proofs.LeastCorners.{comes_before}
use Rattle.crease_model.proofs.corners.least_corner.Given as goal

abbrev pub invariant-loop-i : goal.invariant-loop-i
invariant-loop-i l = IsFirstBest comes_before l.corners l.i l.least
