use Rattle.std.proofs.Common.{◌≡◌, take, drop}
use Rattle.cp_text.specs.Words.{words_of, words_from}
use Rattle.cp_text.proofs.words.word_end.Given as goal

abbrev pub invariant-loop-i : goal.invariant-loop-i
invariant-loop-i l = words_from (take l.i l.line) (drop l.i l.line) ≡ words_of l.line
