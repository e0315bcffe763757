-- What is written reads as what it was written from, and is as short as can be; words and lines.
use Rattle.std.specs.Prelude.{◌≡◌, ◌≢◌, ◌↔◌, ℕ, ◌^◌, ◌<◌, ◌≤◌, List, [], ◌∷◌, ◌++◌, map, Ok, Some, decimal}
use Rattle.surd_number.specs.declared.Surd.{Surd}
use Rattle.surd_number.specs.Value.{number_of}
use Rattle.crease_model.specs.View.{PatternView}
use Rattle.cp_text.specs.declared.line.CpLine.{CpLine}
use Rattle.cp_text.specs.Words.{words_of, lines_of, without_return, bare_lines}
use Rattle.cp_text.specs.PartedText.{IsLineOf, IsTextOf}
use Rattle.cp_text.specs.NumberText.{number_text}
use Rattle.cp_text.specs.NumberReading.{number_read}
use Rattle.cp_text.specs.WholeNumber.{whole_read}
use Rattle.cp_text.specs.ShortestText.{IsShortestText}
use Rattle.cp_text.specs.LineText.{line_body, pattern_lines, pattern_text}
use Rattle.cp_text.specs.LineReading.{line_read}

abbrev pub NumbersReadBack : Type 0
NumbersReadBack = (n : Surd) → number_read (number_text (number_of n)) ≡ Ok n

-- the digits of a whole number within the limits read as it
abbrev pub WholeNumbersReadBack : Type 0
WholeNumbersReadBack =
    (least most n : ℕ) → least ≤ n → n ≤ most → n < 10 ^ 10 → whole_read least most (decimal n) ≡ Some n

-- a number's text is the shortest of all that read as it
abbrev pub NumbersAreShortest : Type 0
NumbersAreShortest = (n : Surd) → IsShortestText n (number_text (number_of n))

-- a line without its line feed
abbrev pub LinesReadBack : Type 0
LinesReadBack = (line : CpLine) → line_read (line_body line) ≡ Ok line

-- line by line, a pattern's text gives the sides of its sheet, its pieces and its auxiliary lines
abbrev pub PatternsReadBack : Type 0
PatternsReadBack = (p : PatternView) → map line_read (lines_of (pattern_text p)) ≡ map Ok (pattern_lines p)

-- the lines of a pattern's text are the texts of its lines, whatever follows it
abbrev pub PatternsArePartedByLines : Type 0
PatternsArePartedByLines =
    (p : PatternView) (rest : List ℕ)
    → bare_lines (pattern_text p ++ rest) ≡ map line_body (pattern_lines p) ++ bare_lines rest

-- the words of a line are those of which it is put together with runs of spaces and tabs
abbrev pub WordsArePartedByBlanks : Type 0
WordsArePartedByBlanks =
    (line : List ℕ) (words : List (List ℕ)) → (words_of line ≡ words) ↔ IsLineOf line words

-- the lines of a text are those of which it is put together with line feeds; one carriage return at the end of a line
-- goes, and nothing else does
pub record LinesEndAtFeeds : Type 0 where
  pub lines : (bytes : List ℕ) (lines : List (List ℕ)) → (lines_of bytes ≡ lines) ↔ IsTextOf bytes lines
  pub bare : (bytes : List ℕ) → bare_lines bytes ≡ map without_return (lines_of bytes)
  pub returns : (line : List ℕ) → without_return (line ++ 13 ∷ []) ≡ line
  pub others : (line : List ℕ) → ((front : List ℕ) → line ≢ front ++ 13 ∷ []) → without_return line ≡ line
