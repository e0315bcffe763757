-- The lines of a pattern load as that pattern again.
use Rattle.std.specs.Prelude.{◌≡◌, List, map, Ok, IsTrue}
use Rattle.crease_model.specs.Sheet.{is_sheet}
use Rattle.crease_model.specs.View.{PatternView}
use Rattle.crease_model.specs.Rules.{IsPattern}
use Rattle.crease_model.specs.OwnLines.{PlainLine, own_lines}
use Rattle.crease_store.specs.declared.loading.LoadLine.{LoadLine}
use Rattle.crease_store.specs.Loading.{load_of}

-- a line to load without its number
abbrev pub plain_line : LoadLine → PlainLine
plain_line line = record { kind = line.kind; from = line.from; to = line.to }

-- whatever stood on its sheet, a pattern's own lines, with any numbers, load as that pattern
abbrev pub OwnLinesAreLoaded : Type 0
OwnLinesAreLoaded =
    (pattern other : PatternView) (lines : List LoadLine)
    → IsPattern pattern
    → IsTrue (is_sheet pattern.corners)
    → other.corners ≡ pattern.corners
    → map plain_line lines ≡ own_lines pattern
    → load_of other lines ≡ Ok pattern
