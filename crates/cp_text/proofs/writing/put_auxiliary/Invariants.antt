use Rattle.std.proofs.Common.{◌≡◌, ◌++◌, map, drop}
use Rattle.crease_model.specs.OwnLines.{auxiliary_line}
use Rattle.cp_text.specs.LineText.{crease_line, lines_text}
use Rattle.cp_text.specs.Growth.{KeepsFront}
use Rattle.cp_text.proofs.writing.put_auxiliary.Given as goal

abbrev pub invariant-loop-line : goal.invariant-loop-line
invariant-loop-line l = record {
  written : l.out.items
      ++ lines_text (map crease_line (map auxiliary_line (drop l.line-index l.lines))) ≡ l.initial.out.items
      ++ lines_text (map crease_line (map auxiliary_line l.lines));
  kept : KeepsFront l.initial.out.items l.out.items;
}
