-- The command of a crease pattern file.
use Rattle.std.proofs.Common.{◌≡◌, ℕ, Bool, false, cond, List, [], ◌∷◌, ◌++◌, map, length, Option, Some, Err, IsTrue, codes, nat_lt, nat_le, refl, ap, sym, subst, ◌∙◌}
use Rattle.std.specs.declared.result.Result.{Result}
use Rattle.std.specs.Str.{bytes_eq}
use Rattle.std.proofs.lemmas.Bool.{and_parts, leb-true, le-ltb, false≢true}
use Rattle.std.proofs.lemmas.List.{append-nil}
use Rattle.std.proofs.lemmas.Slice.Eq.{bytes_eq-Decides}
use Rattle.crease_model.specs.OwnLines.{own_lines}
use Rattle.crease_store.specs.OwnLines.{OwnLinesAreLoaded}
use Rattle.crease_store.specs.declared.loading.LoadLine.{LoadLine}
use Rattle.cp_text.specs.declared.line.CpLine.{CpLine}
use Rattle.cp_text.specs.declared.line.LineFault.{LineFault}
use Rattle.cp_text.specs.declared.line.LineFault.TheVariants.{LongLine, UnknownWord}
use Rattle.cp_text.specs.Words.{longest_line, words_of, bare_lines}
use Rattle.cp_text.specs.LineReading.{words_line, line_read}
use Rattle.cp_text.specs.LineText.{line_body, pattern_lines, pattern_text}
use Rattle.cp_text.specs.Laws.{LinesReadBack, PatternsArePartedByLines}
use Rattle.script_lang.specs.declared.block.LoadStop.TheVariants.{Ended}
use Rattle.script_lang.specs.declared.command.Command.{Command}
use Rattle.script_lang.specs.declared.command.Command.TheVariants.{Load}
use Rattle.script_lang.specs.Script.{is_only, unless_blank, block_read, lines_before, stop_at, block_command}
use Rattle.script_lang.specs.Laws.{numbered_lines, FilesAreBlocks, EndIsNoLineOfAFile, PatternFilesComeBack}
use Rattle.script_lang.proofs.Printed.{loaded}
use Rattle.script_lang.proofs.Returning.{without_numbers, loaded_back}
use Rattle.script_lang.proofs.Scripts.{blocks_are_one_command}

-- the command of the crease lines so far, and of the lines from this number on
abbrev pub file_after : List LoadLine → ℕ → List (List ℕ) → Command
file_after done n lines =
    Load (done ++ lines_before n (map block_read lines)) (stop_at n (map block_read lines) Ended)

pub files_are_blocks : FilesAreBlocks
files_are_blocks bytes load end inside begins ends =
    blocks_are_one_command [] (bare_lines bytes) [] load end refl begins inside ends

-- ---- a line `end`

-- what a line of more than 1,000 bytes, or of these words, is in a block
abbrev block_words : Bool → List (List ℕ) → Option (Result CpLine LineFault)
block_words long words = unless_blank words (cond long (Err LongLine) (words_line words))

short_word : (word : List ℕ) → IsTrue (bytes_eq word (codes "end"))
    → block_words false (word ∷ []) ≡ Some (Err UnknownWord)
short_word word is =
    subst (λ w. block_words false (w ∷ []) ≡ Some (Err UnknownWord))
    (sym ((bytes_eq-Decides word (codes "end")).0 is)) refl

lone_word : (words : List (List ℕ)) → IsTrue (is_only (codes "end") words)
    → block_words false words ≡ Some (Err UnknownWord)
lone_word [] is = absurd (false≢true is)
lone_word (word ∷ []) is = short_word word is
lone_word (word ∷ other ∷ words) is = absurd (false≢true is)

pub end_is_no_line_of_a_file : EndIsNoLineOfAFile
unfolding line_read
end_is_no_line_of_a_file line is =
    let parts = and_parts (nat_le (length line) longest_line) (is_only (codes "end") (words_of line)) is in
    let short : nat_lt longest_line (length line) ≡ false = le-ltb longest_line (length line) (leb-true (length line) longest_line parts.0) in
    ap (λ long. block_words long (words_of line)) short ∙ lone_word (words_of line) parts.1

-- ---- printed patterns

pub pattern_files_come_back : LinesReadBack → PatternsArePartedByLines → OwnLinesAreLoaded → PatternFilesComeBack
pattern_files_come_back read parted own p other rules sheet same =
    let lines = pattern_lines p in
    record {
      lines = numbered_lines 1 lines;
      command = ap (λ ls. block_command ls Ended)
          (ap bare_lines (sym (append-nil (pattern_text p))) ∙ parted p [] ∙ append-nil (map line_body lines))
          ∙ loaded read lines;
      loaded = own p other (numbered_lines 1 lines) rules sheet same
          (without_numbers 1 lines ∙ loaded_back (own_lines p));
    }
