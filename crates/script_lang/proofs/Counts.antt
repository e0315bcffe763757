-- A text has no more lines than bytes.
use Rattle.std.proofs.Common.{ℕ, ◌+◌, ◌≤◌, ◌==◌, Bool, true, false, List, [], ◌∷◌, ◌++◌, length, cond, arith, length-append}
use Rattle.std.proofs.lemmas.List.{length-map}
use Rattle.cp_text.specs.Words.{after_word, lines_from, lines_of, without_return, bare_lines}

last : (line : List ℕ) → length (after_word line []) ≤ length line
last [] = omega arith
last (b ∷ bs) = omega arith

either : (feed : Bool) (line : List ℕ) (ended longer : List (List ℕ)) (n : ℕ)
    → length ended + 1 ≤ n → length longer ≤ n → length (cond feed (line ∷ ended) longer) ≤ n
either true line ended longer n h k = omega arith
either false line ended longer n h k = k

counted : (line bytes : List ℕ) → length (lines_from line bytes) ≤ length bytes + length line
counted line [] = omega (arith, last line)
counted line (b ∷ bs) =
    either (b == 10) line (lines_from [] bs) (lines_from (line ++ b ∷ []) bs) (length (b ∷ bs) + length line)
    (omega (arith, counted [] bs))
    (omega (arith, counted (line ++ b ∷ []) bs, length-append line (b ∷ [])))

pub lines_fit : (bytes : List ℕ) → length (bare_lines bytes) ≤ length bytes
lines_fit bytes = omega (arith, counted [] bytes, length-map (lines_of bytes) without_return)
