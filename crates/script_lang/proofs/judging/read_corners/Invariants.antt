use Rattle.std.proofs.Common.{◌≡◌, ◌+◌, ◌*◌, IsTrue, length}
use Rattle.cp_text.specs.Words.{words_of}
use Rattle.script_lang.specs.Judged.{points_read, is_sheet_count}
use Rattle.script_lang.proofs.Points.{points_after}
use Rattle.script_lang.proofs.judging.read_corners.Given as goal

abbrev pub invariant-loop-x : goal.invariant-loop-x
invariant-loop-x l = record {
  points : points_after l.points.items (points_read l.place (words_of l.rest))
      ≡ points_read 1 (words_of l.words);
  counted : 2 * length l.points.items + length (words_of l.rest) ≡ length (words_of l.words);
  placed : l.place ≡ 2 * length l.points.items + 1;
  is_count : IsTrue (is_sheet_count (length (words_of l.words)));
}

abbrev pub decreases-loop-x : goal.decreases-loop-x
decreases-loop-x l = length (words_of l.rest)
