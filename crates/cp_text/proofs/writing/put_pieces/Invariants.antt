use Rattle.std.proofs.Common.{◌≡◌, ◌++◌, map, drop}
use Rattle.crease_model.specs.OwnLines.{piece_line}
use Rattle.cp_text.specs.LineText.{crease_line, lines_text}
use Rattle.cp_text.specs.Growth.{KeepsFront}
use Rattle.cp_text.proofs.writing.put_pieces.Given as goal

abbrev pub invariant-loop-piece : goal.invariant-loop-piece
invariant-loop-piece l = record {
  written : l.out.items ++ lines_text (map crease_line (map piece_line (drop l.piece-index l.pieces))) ≡ l.initial.out.items
      ++ lines_text (map crease_line (map piece_line l.pieces));
  kept : KeepsFront l.initial.out.items l.out.items;
}
