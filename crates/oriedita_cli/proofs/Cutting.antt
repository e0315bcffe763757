-- Bytes cut after their last line feed, which is searched from the end.
use Rattle.std.specs.Prelude.{◌≡◌, ℕ, List, ◌++◌, IsTrue}
use Rattle.cp_text.specs.PartedText.{has_no_feed}

-- what was passed behind these bytes has no line feed
pub record IsPassed (bytes lines : List ℕ) : Type 0 where
  pub rest : List ℕ
  pub cut : bytes ≡ lines ++ rest
  pub unended : IsTrue (has_no_feed rest)
