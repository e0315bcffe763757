-- What a record of all jobs holds of one of them.
use Rattle.std.specs.Prelude.{ℕ, ◌==◌, true, false, if◌then◌else◌, List, [], ◌∷◌, ◌++◌}
use Rattle.std.specs.List.{flat_map}
use Rattle.std.specs.declared.result.Result.TheVariants.{Ok, Err}
use Rattle.sign_rules.specs.declared.sign.Sign.{Sign}
use Rattle.job_enumeration.specs.Record.{JobEvent, Ask as OwnAsk, Post as OwnPost, Answer as OwnAnswer}
use Rattle.fold_jobs.specs.declared.folding_job.FoldAnswer.TheVariants.{Shown, NoMore, Paused, NotReady}
use Rattle.fold_jobs.specs.Limits.{first_budget}
use Rattle.fold_jobs.specs.Machine.{answer_of}
use Rattle.fold_jobs.specs.Record.{JobsEvent, Open, TooMany, Ask, SetBudget, Answer, Cancel, Post}

-- the budget that is set after an event
abbrev pub budget_after : ℕ → JobsEvent → ℕ
budget_after budget (SetBudget next) = next
budget_after budget (Open number version rules) = budget
budget_after budget TooMany = budget
budget_after budget (Ask job answer) = budget
budget_after budget (Answer job answer) = budget
budget_after budget (Cancel job answer) = budget
budget_after budget (Post x accepted) = budget

-- what an event is to the job of a number, where this budget is set: an ask that was opened, an outcome that
-- was accepted, an answer; else nothing
abbrev pub own_event : ℕ → ℕ → JobsEvent → List JobEvent
own_event n budget (Ask job (Ok _)) = if job == n then OwnAsk budget ∷ [] else []
own_event n budget (Ask job (Err refusal)) = []
own_event n budget (Answer job (Ok answer)) = if job == n then OwnAnswer (answer_of answer) ∷ [] else []
own_event n budget (Answer job (Err refusal)) = []
own_event n budget (Post x true) = if x.job == n then OwnPost x true ∷ [] else []
own_event n budget (Post x false) = []
own_event n budget (Open number version rules) = []
own_event n budget TooMany = []
own_event n budget (SetBudget next) = []
own_event n budget (Cancel job answer) = []

abbrev pub own_events_from : ℕ → ℕ → List JobsEvent → List JobEvent
own_events_from n budget [] = []
own_events_from n budget (e ∷ es) = own_event n budget e ++ own_events_from n (budget_after budget e) es

-- the events of one job
abbrev pub own_events : ℕ → List JobsEvent → List JobEvent
own_events n es = own_events_from n first_budget es

-- an order as it was shown
pub record ShownOrder : Type 0 where
  pub number : ℕ
  pub version : ℕ
  pub order : List Sign

abbrev pub shown_by_event : ℕ → JobsEvent → List ShownOrder
shown_by_event n (Answer job (Ok (Shown version number order))) =
    if job == n then record { number = number; version = version; order = order.list } ∷ [] else []
shown_by_event n (Answer job (Ok (NoMore version))) = []
shown_by_event n (Answer job (Ok (Paused version))) = []
shown_by_event n (Answer job (Ok (NotReady version piece))) = []
shown_by_event n (Answer job (Err refusal)) = []
shown_by_event n (Open number version rules) = []
shown_by_event n TooMany = []
shown_by_event n (Ask job answer) = []
shown_by_event n (SetBudget budget) = []
shown_by_event n (Cancel job answer) = []
shown_by_event n (Post x accepted) = []

-- the orders of one job that were shown
abbrev pub shown_by : ℕ → List JobsEvent → List ShownOrder
shown_by n es = flat_map (shown_by_event n) es
