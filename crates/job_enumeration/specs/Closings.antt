-- What a job shows to whoever asks: the answers that close an ask.
use Rattle.std.specs.Prelude.{ℕ, ◌+◌, List, [], ◌∷◌}
use Rattle.std.proofs.Common.{zero, suc}
use Rattle.sign_rules.specs.declared.sign.Sign.{Sign}
use Rattle.worker_split.specs.declared.answers.JobAnswer.TheVariants.{Shown as Showing, NoMore as Ended, Paused as Waiting, NotReady}
use Rattle.job_enumeration.specs.Record.{JobEvent, Ask, Post, Answer}

-- an answer that closes an ask; a pause has the budget of its ask
pub data Closing : Type 0 where
  Shown : (order : List Sign) → Closing
  NoMore : Closing
  Paused : (budget : ℕ) → Closing

-- the same behind an ask with this budget
abbrev pub closings_from : ℕ → List JobEvent → List Closing
closings_from budget [] = []
closings_from budget (Ask next ∷ es) = closings_from next es
closings_from budget (Post x accepted ∷ es) = closings_from budget es
closings_from budget (Answer (NotReady piece) ∷ es) = closings_from budget es
closings_from budget (Answer (Showing order) ∷ es) = Shown order.list ∷ closings_from budget es
closings_from budget (Answer Ended ∷ es) = NoMore ∷ closings_from budget es
closings_from budget (Answer Waiting ∷ es) = Paused budget ∷ closings_from budget es

-- those of a record, in their order
abbrev pub closings : List JobEvent → List Closing
closings es = closings_from 0 es

abbrev pub shown_orders : List Closing → List (List Sign)
shown_orders [] = []
shown_orders (Shown order ∷ cs) = order ∷ shown_orders cs
shown_orders (NoMore ∷ cs) = shown_orders cs
shown_orders (Paused budget ∷ cs) = shown_orders cs

-- what comes after the k-th order shown: all of it where k is 0
abbrev pub after_shown : ℕ → List Closing → List Closing
after_shown zero cs = cs
after_shown (suc k) [] = []
after_shown (suc k) (Shown order ∷ cs) = after_shown k cs
after_shown (suc k) (NoMore ∷ cs) = after_shown (suc k) cs
after_shown (suc k) (Paused budget ∷ cs) = after_shown (suc k) cs

-- the sum of the budgets of the pauses before the next order or "no more"
abbrev pub paused_budgets : List Closing → ℕ
paused_budgets [] = 0
paused_budgets (Shown order ∷ cs) = 0
paused_budgets (NoMore ∷ cs) = 0
paused_budgets (Paused budget ∷ cs) = budget + paused_budgets cs
