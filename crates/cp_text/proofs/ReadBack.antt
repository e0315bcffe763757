-- The laws of the text, each proved.
use Rattle.cp_text.specs.Laws.{NumbersReadBack, LinesReadBack, PatternsReadBack, PatternsArePartedByLines}
use Rattle.cp_text.proofs.PrintedNumbers.{number_text-reads}
use Rattle.cp_text.proofs.PrintedLines.{line_body-reads, pattern_text-reads, pattern_text-parted}

pub numbers_read_back : NumbersReadBack
numbers_read_back = number_text-reads

pub lines_read_back : LinesReadBack
lines_read_back = line_body-reads

pub patterns_read_back : PatternsReadBack
patterns_read_back = pattern_text-reads

pub patterns_are_parted_by_lines : PatternsArePartedByLines
patterns_are_parted_by_lines = pattern_text-parted
