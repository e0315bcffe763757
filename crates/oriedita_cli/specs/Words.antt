-- The words of the command line.
use Rattle.std.specs.Prelude.{◌≡◌, ℕ, ◌⊎◌, List, [], ◌∷◌, Option, None, map, option_and_then, String, string_bytes}
use Rattle.std.specs.Vec.Iter.{into_iter_items}
use Rattle.std.specs.declared.vec.IntoIter.{IntoIter}
use Rattle.program_words.specs.ProgramWords.{said_of}

-- the file that the words name
abbrev pub file_named : List (List ℕ) → Option (List ℕ)
file_named words = option_and_then (λ said. said.cp) (said_of words)

-- the sample that the words name
abbrev pub sample_named : List (List ℕ) → Option ℕ
sample_named words = option_and_then (λ said. said.sample) (said_of words)

-- the list without its first element
abbrev pub behind_first : {X : Type 0} → List X → List X
behind_first [] = []
behind_first (x ∷ xs) = xs

-- the words behind the program's name, as the arguments of a process tell them
abbrev pub words_told : {Z : Type 0} → IntoIter (String Z) Z → List (List ℕ)
words_told arguments = map string_bytes (behind_first (into_iter_items arguments))

-- the words are refused exactly where they are not accepted, unless memory is refused
pub record AreJudged (words : List (List ℕ)) (status : ℕ) : Type 0 where
  pub refused : status ≡ 2 → said_of words ≡ None
  pub accepted : said_of words ≡ None → (status ≡ 2) ⊎ (status ≡ 6)
