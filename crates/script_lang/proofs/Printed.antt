-- A printed pattern is read as a block.
use Rattle.std.proofs.Common.{◌≡◌, ℕ, ◌+◌, Bool, true, false, not, ◌&&◌, cond, List, [], ◌∷◌, ◌++◌, map, length, Option, None, Some, Ok, Err, IsTrue, codes, nat_lt, nat_le, refl, ap, ap₂, ◌∙◌}
use Rattle.std.specs.declared.result.Result.{Result}
use Rattle.crease_model.specs.declared.Kind.{Kind}
use Rattle.crease_model.specs.View.{PatternView}
use Rattle.cp_text.specs.declared.line.CpLine.{CpLine}
use Rattle.cp_text.specs.declared.line.LineFault.{LineFault}
use Rattle.cp_text.specs.declared.line.LineFault.TheVariants.{LongLine, UnknownWord}
use Rattle.cp_text.specs.Digits.{is_digits}
use Rattle.cp_text.specs.Words.{longest_line, words_of, bare_lines}
use Rattle.cp_text.specs.LineText.{line_body, pattern_lines, pattern_text}
use Rattle.cp_text.specs.LineReading.{kind_of, kind_line, words_line, line_read}
use Rattle.cp_text.specs.Laws.{LinesReadBack, PatternsArePartedByLines}
use Rattle.script_lang.specs.declared.block.LoadStop.TheVariants.{Ended}
use Rattle.script_lang.specs.declared.command.Command.TheVariants.{Load}
use Rattle.script_lang.specs.Script.{is_only, is_end_line, unless_blank, block_read, line_to_load, lines_before, block_command, commands_from, commands_of}
use Rattle.script_lang.specs.Laws.{has_no_end, is_good, are_good, numbered_lines, PrintedPatternsAreLoaded}
use Rattle.script_lang.proofs.Scripts.{blocks_are_one_command, good_lines_are_loaded}

-- ---- a crease line is not blank, and no `end`

-- what a line of more than 1,000 bytes, or of these words, is
abbrev read_as : Bool → List (List ℕ) → Result CpLine LineFault
read_as long words = cond long (Err LongLine) (words_line words)

with_words : (long : Bool) (words : List (List ℕ)) (line : CpLine) (answer : Result CpLine LineFault)
    → read_as long words ≡ Ok line → unless_blank words answer ≡ Some answer
with_words true [] line answer h = absurd (cc h)
with_words false [] line answer h = absurd (cc h)
with_words long (word ∷ words) line answer h = refl

one_word : (long digits : Bool) (kind : Option Kind) (line : CpLine)
    → cond long (Err LongLine) (cond digits (kind_line kind []) (Err UnknownWord)) ≡ Ok line → ⊥
one_word true digits kind line h = cc h
one_word false true None line h = cc h
one_word false true (Some kind) line h = cc h
one_word false false kind line h = cc h

not_only : (long : Bool) (word : List ℕ) (words : List (List ℕ)) (line : CpLine)
    → read_as long words ≡ Ok line → is_only word words ≡ false
not_only long word [] line h = refl
not_only long word (w ∷ []) line h = absurd (one_word long (is_digits w) (kind_of w) line h)
not_only long word (w ∷ v ∷ words) line h = refl

and_false : (b c : Bool) → c ≡ false → (b && c) ≡ false
and_false true c h = h
and_false false c h = refl

read_some : (bytes : List ℕ) (line : CpLine) → line_read bytes ≡ Ok line → block_read bytes ≡ Some (Ok line)
unfolding line_read
read_some bytes line h =
    with_words (nat_lt longest_line (length bytes)) (words_of bytes) line (line_read bytes) h ∙ ap Some h

no_end : (bytes : List ℕ) (line : CpLine) → line_read bytes ≡ Ok line → is_end_line bytes ≡ false
unfolding line_read
no_end bytes line h =
    and_false (nat_le (length bytes) longest_line) (is_only (codes "end") (words_of bytes))
    (not_only (nat_lt longest_line (length bytes)) (codes "end") (words_of bytes) line h)

-- ---- printed lines

no_ends : LinesReadBack → (lines : List CpLine) → IsTrue (has_no_end (map line_body lines))
no_ends r [] = refl
no_ends r (line ∷ lines) = ap₂ (λ b c. not b && c) (no_end (line_body line) line (r line)) (no_ends r lines)

all_good : LinesReadBack → (lines : List CpLine) → IsTrue (are_good (map line_body lines))
all_good r [] = refl
all_good r (line ∷ lines) =
    ap₂ (λ answer c. is_good answer && c) (read_some (line_body line) line (r line)) (all_good r lines)

numbers : LinesReadBack → (lines : List CpLine) (n : ℕ)
    → lines_before n (map block_read (map line_body lines)) ≡ numbered_lines n lines
numbers r [] n = refl
numbers r (line ∷ lines) n =
    ap (λ answer. lines_before n (answer ∷ map block_read (map line_body lines)))
    (read_some (line_body line) line (r line))
    ∙ ap (λ ls. line_to_load n line ∷ ls) (numbers r lines (n + 1))

-- ---- printed patterns

load_line : (bytes : List ℕ) → bare_lines (codes "load\n" ++ bytes) ≡ codes "load" ∷ bare_lines bytes
load_line bytes = refl

end_line : (bytes : List ℕ) → bare_lines (codes "end\n" ++ bytes) ≡ codes "end" ∷ bare_lines bytes
end_line bytes = refl

block_lines : PatternsArePartedByLines → (p : PatternView) (rest : List ℕ)
    → bare_lines (codes "load\n" ++ (pattern_text p ++ (codes "end\n" ++ rest)))
    ≡ codes "load" ∷ (map line_body (pattern_lines p) ++ codes "end" ∷ bare_lines rest)
block_lines parted p rest =
    load_line (pattern_text p ++ (codes "end\n" ++ rest))
    ∙ ap (λ ls. codes "load" ∷ ls)
    (parted p (codes "end\n" ++ rest) ∙ ap (λ ls. map line_body (pattern_lines p) ++ ls) (end_line rest))

pub loaded : LinesReadBack → (lines : List CpLine)
    → block_command (map line_body lines) Ended ≡ Load (numbered_lines 1 lines) Ended
loaded r lines = good_lines_are_loaded (map line_body lines) Ended (all_good r lines)
    ∙ ap (λ ls. Load ls Ended) (numbers r lines 1)

pub printed_patterns_are_loaded : LinesReadBack → PatternsArePartedByLines → PrintedPatternsAreLoaded
printed_patterns_are_loaded r parted p rest =
    ap (commands_from false) (block_lines parted p rest)
    ∙ blocks_are_one_command [] (map line_body (pattern_lines p)) (bare_lines rest) (codes "load")
    (codes "end") refl refl (no_ends r (pattern_lines p)) refl
    ∙ ap (λ command. command ∷ commands_of rest) (loaded r (pattern_lines p))
