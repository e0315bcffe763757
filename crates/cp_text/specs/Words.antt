-- Words of a line, and lines of a text.
use Rattle.std.specs.Prelude.{ℕ, ◌-◌, Bool, true, not, ◌||◌, ◌==◌, List, [], ◌∷◌, ◌++◌, map, length, take, slice_index, if◌then◌else◌}

-- the most bytes of a line without its end
abbrev pub longest_line : ℕ
longest_line = 1000

-- a space or a tab
abbrev pub is_blank : ℕ → Bool
is_blank b = (b == 32) || (b == 9)

-- the word where it has bytes, and then the words
abbrev pub after_word : List ℕ → List (List ℕ) → List (List ℕ)
after_word [] words = words
after_word (b ∷ bs) words = (b ∷ bs) ∷ words

-- the words of a line whose first word has begun with these bytes
abbrev pub words_from : List ℕ → List ℕ → List (List ℕ)
words_from word [] = after_word word []
words_from word (b ∷ bs) =
    if is_blank b then after_word word (words_from [] bs) else words_from (word ++ b ∷ []) bs

-- words are parted by runs of spaces and tabs
abbrev pub words_of : List ℕ → List (List ℕ)
words_of line = words_from [] line

-- nothing, or a byte of a word first
abbrev pub starts_word : List ℕ → Bool
starts_word [] = true
starts_word (b ∷ bs) = not (is_blank b)

-- a line without the carriage return at its end
abbrev pub without_return : List ℕ → List ℕ
without_return line = if slice_index line (length line - 1) == 13 then take (length line - 1) line else line

-- the lines of a text whose first line has begun with these bytes
abbrev pub lines_from : List ℕ → List ℕ → List (List ℕ)
lines_from line [] = after_word line []
lines_from line (b ∷ bs) = if b == 10 then line ∷ lines_from [] bs else lines_from (line ++ b ∷ []) bs

-- a line ends with a line feed; the bytes after the last one are a line where there are any
abbrev pub lines_of : List ℕ → List (List ℕ)
lines_of bytes = lines_from [] bytes

-- the lines of a text without their ends
abbrev pub bare_lines : List ℕ → List (List ℕ)
bare_lines bytes = map without_return (lines_of bytes)
