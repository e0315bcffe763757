-- The commands of a script, in the words of its lines and blocks.
use Rattle.std.specs.Prelude.{◌≡◌, ℕ, ◌+◌, Bool, true, false, not, List, [], ◌∷◌, ◌++◌, map, length, Option, None, Some, Ok, Err, IsTrue, codes, option_to_list}
use Rattle.std.specs.List.{filter_map, list_all}
use Rattle.std.specs.declared.result.Result.{Result}
use Rattle.crease_model.specs.View.{PatternView}
use Rattle.crease_model.specs.Rules.{IsPattern}
use Rattle.crease_model.specs.Sheet.{is_sheet}
use Rattle.crease_store.specs.Loading.{load_of}
use Rattle.crease_store.specs.declared.loading.LoadLine.{LoadLine}
use Rattle.cp_text.specs.declared.line.CpLine.{CpLine}
use Rattle.cp_text.specs.declared.line.LineFault.{LineFault}
use Rattle.cp_text.specs.declared.line.LineFault.TheVariants.{UnknownWord}
use Rattle.cp_text.specs.Words.{bare_lines}
use Rattle.cp_text.specs.LineText.{pattern_lines, pattern_text}
use Rattle.script_lang.specs.declared.block.LoadStop.{LoadStop}
use Rattle.script_lang.specs.declared.block.LoadStop.TheVariants.{Ended, Bad, Unended}
use Rattle.script_lang.specs.declared.command.Command.TheVariants.{Load}
use Rattle.script_lang.specs.Judged.{command_of}
use Rattle.script_lang.specs.Script.{is_load_line, is_end_line, block_read, line_to_load, lines_before, block_command, commands_from, commands_of, file_command}

-- no line begins a block
abbrev pub has_no_load : List (List ℕ) → Bool
has_no_load lines = list_all (λ line. not (is_load_line line)) lines

-- no line ends a block
abbrev pub has_no_end : List (List ℕ) → Bool
has_no_end lines = list_all (λ line. not (is_end_line line)) lines

-- the commands of a script without a line `load` are its judged lines in order, blank ones left out
abbrev pub PlainLinesAreJudged : Type 0
PlainLinesAreJudged =
    (bytes : List ℕ) → IsTrue (has_no_load (bare_lines bytes))
    → commands_of bytes ≡ filter_map command_of (bare_lines bytes)

-- what stands between `load` and the first `end` is one command, after those of the lines before, and before those of
-- the lines behind
abbrev pub BlocksAreOneCommand : Type 0
BlocksAreOneCommand =
    (before inside behind : List (List ℕ)) (load end : List ℕ)
    → IsTrue (has_no_load before) → IsTrue (is_load_line load) → IsTrue (has_no_end inside)
    → IsTrue (is_end_line end)
    → commands_from false (before ++ load ∷ (inside ++ end ∷ behind))
    ≡ filter_map command_of before ++ block_command inside Ended ∷ commands_from false behind

-- without an `end` the block is all that follows `load`
abbrev pub OpenBlocksAreOneCommand : Type 0
OpenBlocksAreOneCommand =
    (before inside : List (List ℕ)) (load : List ℕ)
    → IsTrue (has_no_load before) → IsTrue (is_load_line load) → IsTrue (has_no_end inside)
    → commands_from false (before ++ load ∷ inside) ≡ filter_map command_of before
    ++ block_command inside Unended ∷ []

abbrev pub is_good : Option (Result CpLine LineFault) → Bool
is_good None = true
is_good (Some (Ok line)) = true
is_good (Some (Err fault)) = false

-- each line is blank or a crease line
abbrev pub are_good : List (List ℕ) → Bool
are_good lines = list_all (λ line. is_good (block_read line)) lines

-- the first bad line stops a block, with its number, and what follows it counts for nothing
abbrev pub FirstBadLineStops : Type 0
FirstBadLineStops =
    (good rest : List (List ℕ)) (line : List ℕ) (fault : LineFault) (ending : LoadStop)
    → IsTrue (are_good good) → block_read line ≡ Some (Err fault)
    → block_command (good ++ line ∷ rest) ending
    ≡ Load (lines_before 1 (map block_read good)) (Bad (length good + 1) fault)

-- without a bad line a block stops as it ends
abbrev pub GoodLinesAreLoaded : Type 0
GoodLinesAreLoaded =
    (lines : List (List ℕ)) (ending : LoadStop) → IsTrue (are_good lines)
    → block_command lines ending ≡ Load (lines_before 1 (map block_read lines)) ending

-- a script of one line is that line judged by itself, `load` among them
abbrev pub SingleLinesAreJudged : Type 0
SingleLinesAreJudged = (line : List ℕ) → commands_from false (line ∷ []) ≡ option_to_list (command_of line)

-- lines with their numbers, the first of them with this one
abbrev pub numbered_lines : ℕ → List CpLine → List LoadLine
numbered_lines n [] = []
numbered_lines n (line ∷ lines) = line_to_load n line ∷ numbered_lines (n + 1) lines

-- the text of a pattern, put between `load` and `end`, is one command with the lines of the pattern
abbrev pub PrintedPatternsAreLoaded : Type 0
PrintedPatternsAreLoaded =
    (p : PatternView) (rest : List ℕ)
    → commands_of (codes "load\n" ++ (pattern_text p ++ (codes "end\n" ++ rest)))
    ≡ Load (numbered_lines 1 (pattern_lines p)) Ended ∷ commands_of rest

-- the text of the pattern, put between `load` and `end`, is one command, whose lines load as that pattern
pub record ComesBack (p other : PatternView) (rest : List ℕ) : Type 0 where
  pub lines : List LoadLine
  pub command : commands_of (codes "load\n" ++ (pattern_text p ++ (codes "end\n" ++ rest)))
      ≡ Load lines Ended ∷ commands_of rest
  pub loaded : load_of other lines ≡ Ok p

-- each pattern's text does so where its sheet is in force, whatever stands on it
abbrev pub PrintedPatternsComeBack : Type 0
PrintedPatternsComeBack =
    (p other : PatternView) (rest : List ℕ)
    → IsPattern p → IsTrue (is_sheet p.corners) → other.corners ≡ p.corners
    → ComesBack p other rest

-- ---- files

-- a file in which no line is `end` is the block of its lines
abbrev pub FilesAreBlocks : Type 0
FilesAreBlocks =
    (bytes : List ℕ) → (load end : List ℕ) → IsTrue (has_no_end (bare_lines bytes))
    → IsTrue (is_load_line load) → IsTrue (is_end_line end)
    → commands_from false (load ∷ (bare_lines bytes ++ end ∷ [])) ≡ file_command bytes ∷ []

-- a line `end` in a file is bad, as any other line that is not one of a kind
abbrev pub EndIsNoLineOfAFile : Type 0
EndIsNoLineOfAFile =
    (line : List ℕ) → IsTrue (is_end_line line) → block_read line ≡ Some (Err UnknownWord)

-- the text of the pattern, as a file, is a command whose lines load as that pattern
pub record ComesBackFromFile (p other : PatternView) : Type 0 where
  pub lines : List LoadLine
  pub command : file_command (pattern_text p) ≡ Load lines Ended
  pub loaded : load_of other lines ≡ Ok p

-- each pattern's text does so where its sheet is in force, whatever stands on it
abbrev pub PatternFilesComeBack : Type 0
PatternFilesComeBack =
    (p other : PatternView)
    → IsPattern p → IsTrue (is_sheet p.corners) → other.corners ≡ p.corners
    → ComesBackFromFile p other
