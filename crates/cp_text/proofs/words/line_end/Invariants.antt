use Rattle.std.proofs.Common.{◌≡◌, take, drop}
use Rattle.cp_text.specs.Words.{lines_of, lines_from}
use Rattle.cp_text.proofs.words.line_end.Given as goal

abbrev pub invariant-loop-i : goal.invariant-loop-i
invariant-loop-i l = lines_from (take l.i l.text) (drop l.i l.text) ≡ lines_of l.text
