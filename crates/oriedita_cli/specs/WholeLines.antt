-- The whole lines of bytes.
use Rattle.std.specs.Prelude.{◌≡◌, ℕ, ◌⊎◌, List, [], ◌∷◌, ◌++◌, IsTrue}
use Rattle.cp_text.specs.PartedText.{has_no_feed}

-- The bytes are cut after their last line feed; where there is none, nothing is left of them.
pub record AreWholeLines (lines bytes : List ℕ) : Type 0 where
  -- the bytes begin with the lines, and there is no line feed in the rest
  pub rest : List ℕ
  pub cut : bytes ≡ lines ++ rest
  pub unended : IsTrue (has_no_feed rest)
  -- the lines end with one, where there are any
  pub ended : (lines ≡ []) ⊎ ((front : List ℕ) × (lines ≡ front ++ 10 ∷ []))
