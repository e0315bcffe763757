-- What tasks, pieces and jobs keep.
use Rattle.std.specs.Prelude.{◌≡◌, ℕ, ◌≤◌, ◌<◌, List, length, Option, Some, IsTrue}
use Rattle.std.specs.List.{All}
use Rattle.sign_rules.specs.Rules.{RulesView, is_consistent}
use Rattle.order_search.specs.Invariant.{IsConsistentWithin}
use Rattle.worker_split.specs.declared.piece.Piece.{Piece}
use Rattle.worker_split.specs.declared.piece.PieceEnd.TheVariants.{Open}
use Rattle.worker_split.specs.declared.piece.LastTask.{LastTask}
use Rattle.worker_split.specs.declared.piece.LastTask.TheVariants.{Never, Asked, Answered}

-- the kept position keeps to consistent lists that begin with the prefix, and tasks have a budget
pub record IsPiece (r : RulesView) (p : Piece) : Type 0 where
  pub within : IsConsistentWithin r p.prefix.list p.kept.signs.list
  pub consistent : IsTrue (is_consistent r p.prefix.list)
  pub budget : (budget : ℕ) → p.last ≡ Asked budget → 1 ≤ budget

-- there is a last task, and it has this budget
abbrev pub HasBudget : ℕ → LastTask → Type 0
HasBudget budget Never = ⊥
HasBudget budget (Asked own) = own ≡ budget
HasBudget budget (Answered own) = own ≡ budget

-- where an ask is open, a piece that is open had its last task of that ask
abbrev pub WasAsked : Option ℕ → Piece → Type 0
WasAsked ask p = (budget : ℕ) → ask ≡ Some budget → p.end ≡ Open → HasBudget budget p.last

pub record IsJob (r : RulesView) (pieces : List Piece) (ask : Option ℕ) : Type 0 where
  pub each : All (IsPiece r) pieces
  pub asked : All (WasAsked ask) pieces
  pub few : length pieces < 4294967295
