-- The lines of a printed pattern are its own, so they load as that pattern.
use Rattle.std.proofs.Common.{◌≡◌, ℕ, ◌+◌, List, [], ◌∷◌, ◌++◌, map, append_assoc, refl, ap, ap₂, ◌∙◌}
use Rattle.std.proofs.lemmas.List.{map-append}
use Rattle.plane_geometry.specs.declared.Segment.{Segment}
use Rattle.crease_model.specs.declared.Piece.{Piece}
use Rattle.plane_geometry.specs.Polygon.{Side, sides_of}
use Rattle.crease_model.specs.View.{PatternView}
use Rattle.crease_model.specs.OwnLines.{PlainLine, own_lines}
use Rattle.crease_store.specs.OwnLines.{plain_line, OwnLinesAreLoaded}
use Rattle.cp_text.specs.declared.line.CpLine.{CpLine}
use Rattle.cp_text.specs.LineText.{crease_line, pattern_lines}
use Rattle.script_lang.specs.Laws.{numbered_lines, PrintedPatternsAreLoaded, PrintedPatternsComeBack}

-- the line to load that a crease line is
abbrev line_loaded : CpLine → PlainLine
line_loaded line = record { kind = line.kind; from = line.from; to = line.to }

pub without_numbers : (n : ℕ) (lines : List CpLine)
    → map plain_line (numbered_lines n lines) ≡ map line_loaded lines
without_numbers n [] = refl
without_numbers n (line ∷ lines) = ap (λ ls. line_loaded line ∷ ls) (without_numbers (n + 1) lines)

pub loaded_back : (lines : List PlainLine) → map line_loaded (map crease_line lines) ≡ lines
loaded_back [] = refl
loaded_back (line ∷ lines) = ap (λ ls. line ∷ ls) (loaded_back lines)

pub printed_patterns_come_back : PrintedPatternsAreLoaded → OwnLinesAreLoaded → PrintedPatternsComeBack
printed_patterns_come_back printed own p other rest rules sheet same =
    record {
      lines = numbered_lines 1 (pattern_lines p);
      command = printed p rest;
      loaded = own p other (numbered_lines 1 (pattern_lines p)) rules sheet same
          (without_numbers 1 (pattern_lines p) ∙ loaded_back (own_lines p));
    }
