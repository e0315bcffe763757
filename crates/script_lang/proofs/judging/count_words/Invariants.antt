use Rattle.std.proofs.Common.{◌≡◌, ◌+◌, ◌≤◌, length}
use Rattle.cp_text.specs.Words.{words_of}
use Rattle.script_lang.proofs.judging.count_words.Given as goal

abbrev pub invariant-loop-after : goal.invariant-loop-after
invariant-loop-after l = record {
  counted : l.count + length (words_of l.rest) ≡ length (words_of l.words);
  most : l.count ≤ 32;
}

abbrev pub decreases-loop-after : goal.decreases-loop-after
decreases-loop-after l = length (words_of l.rest)
