-- The shortest text of a number.
use Rattle.std.specs.Prelude.{◌≡◌, ◌≤◌, ℕ, List, length, Ok}
use Rattle.surd_number.specs.declared.Surd.{Surd}
use Rattle.cp_text.specs.NumberReading.{number_read}

-- the text reads as the number, and no text of fewer bytes does
pub record IsShortestText (n : Surd) (text : List ℕ) : Type 0 where
  pub reads : number_read text ≡ Ok n
  pub least : (other : List ℕ) → number_read other ≡ Ok n → length text ≤ length other
