-- Lines put together of words, and texts put together of lines.
use Rattle.std.specs.Prelude.{◌≡◌, ◌≢◌, ℕ, Bool, not, ◌==◌, List, [], ◌∷◌, ◌++◌, map, IsTrue, ⊤}
use Rattle.std.specs.List.{list_all}
use Rattle.cp_text.specs.Words.{is_blank}

-- ---- words

-- spaces and tabs alone
abbrev pub are_blanks : List ℕ → Bool
are_blanks bytes = list_all is_blank bytes

-- neither a space nor a tab
abbrev pub has_no_blank : List ℕ → Bool
has_no_blank bytes = list_all (λ b. not (is_blank b)) bytes

-- a word, and the blanks behind it
pub record Spaced : Type 0 where
  pub word : List ℕ
  pub blanks : List ℕ

-- the word has one or more bytes and no blank, and only behind the last word there may be no blank
pub record IsSpaced (s : Spaced) (next : List Spaced) : Type 0 where
  pub some : s.word ≢ []
  pub plain : IsTrue (has_no_blank s.word)
  pub blanks : IsTrue (are_blanks s.blanks)
  pub parted : s.blanks ≡ [] → next ≡ []

abbrev pub AreSpaced : List Spaced → Type 0
AreSpaced [] = ⊤
AreSpaced (s ∷ next) = IsSpaced s next × AreSpaced next

abbrev pub spaced_text : List Spaced → List ℕ
spaced_text [] = []
spaced_text (s ∷ next) = s.word ++ (s.blanks ++ spaced_text next)

-- the line is these words, parted by runs of spaces and tabs, with any such run in front of them and behind them
pub record IsLineOf (line : List ℕ) (words : List (List ℕ)) : Type 0 where
  pub front : List ℕ
  pub spaced : List Spaced
  pub blanks : IsTrue (are_blanks front)
  pub parted : AreSpaced spaced
  pub written : front ++ spaced_text spaced ≡ line
  pub words_are : map (λ (s : Spaced). s.word) spaced ≡ words

-- ---- lines

abbrev pub has_no_feed : List ℕ → Bool
has_no_feed bytes = list_all (λ b. not (b == 10)) bytes

-- each line with a line feed behind it
abbrev pub fed_text : List (List ℕ) → List ℕ
fed_text [] = []
fed_text (line ∷ lines) = line ++ (10 ∷ fed_text lines)

-- bytes are a line where there are any
abbrev pub line_if_any : List ℕ → List (List ℕ)
line_if_any [] = []
line_if_any (b ∷ bs) = (b ∷ bs) ∷ []

-- the text is these lines, each with a line feed behind it; behind the last one there may be none
pub record IsTextOf (bytes : List ℕ) (lines : List (List ℕ)) : Type 0 where
  pub fed : List (List ℕ)
  pub last : List ℕ
  pub fed_lines : IsTrue (list_all has_no_feed fed)
  pub last_line : IsTrue (has_no_feed last)
  pub written : fed_text fed ++ last ≡ bytes
  pub lines_are : fed ++ line_if_any last ≡ lines
