use Rattle.std.proofs.Common.{take}
use Rattle.std.specs.List.{AllZip}
use Rattle.layer_rules.specs.CreaseLines.{IsWithLine}
use Rattle.layer_rules.proofs.crease_lines.with_lines.Given as goal

abbrev pub invariant-loop-crease : goal.invariant-loop-crease
invariant-loop-crease l = AllZip IsWithLine (take l.crease-index l.creases) l.lined.items
