use Rattle.std.proofs.Common.{length}
use Rattle.oriedita_cli.proofs.Cutting.{IsPassed}
use Rattle.oriedita_cli.proofs.lines.whole_lines.Given as goal

abbrev pub invariant-loop-last : goal.invariant-loop-last
invariant-loop-last l = IsPassed l.fn.bytes l.lines

abbrev pub decreases-loop-last : goal.decreases-loop-last
decreases-loop-last l = length l.lines
