-- A record worked by hand: one pair without rules, whose two orders are Over and Under.
use Rattle.std.specs.Prelude.{◌≡◌, ℕ, Bool, true, false, List, [], ◌∷◌}
use Rattle.sign_rules.specs.declared.sign.Sign.{Sign}
use Rattle.sign_rules.specs.declared.sign.Sign.TheVariants.{Over, Under}
use Rattle.sign_rules.specs.Signs.{bare_order}
use Rattle.sign_rules.specs.Rules.{RulesView}
use Rattle.search_cursor.specs.declared.position.Position.{Position}
use Rattle.worker_split.specs.declared.outcome.Outcome.{Outcome}
use Rattle.worker_split.specs.declared.outcome.End.{End}
use Rattle.worker_split.specs.declared.outcome.End.TheVariants.{Found, Done, Paused as Stopped}
use Rattle.worker_split.specs.declared.answers.JobAnswer.TheVariants.{Shown as Showing, NoMore as Ended, Paused as Waiting, NotReady}
use Rattle.job_enumeration.specs.Record.{JobEvent, Ask, Post, Answer, IsJobRecord}
use Rattle.job_enumeration.specs.Closings.{Shown, NoMore, Paused, closings}

abbrev pub one_pair : RulesView
one_pair = record { pairs = 1; rules = [] }

abbrev pub position : List Sign → Bool → Position
position signs past = record { signs = bare_order signs; past = past }

abbrev pub outcome : Position → ℕ → End → Outcome
outcome from budget end =
    record { job = 1; version = 0; piece = 1; from = from; budget = budget; end = end }

abbrev pub stopped_first : Outcome
stopped_first = outcome (position [] false) 1 (Stopped (position (Over ∷ []) false))

abbrev pub found_over : Outcome
found_over =
    outcome (position (Over ∷ []) false) 3 (Found (bare_order (Over ∷ [])) (position (Over ∷ []) true))

abbrev pub found_under : Outcome
found_under =
    outcome (position (Over ∷ []) true) 2 (Found (bare_order (Under ∷ [])) (position (Under ∷ []) true))

abbrev pub done_last : Outcome
done_last = outcome (position (Under ∷ []) true) 2 Done

-- a wait, a pause after the one open list, an outcome that comes twice, both orders, and "no more" twice
abbrev pub worked_record : List JobEvent
worked_record =
    Ask 1 ∷ Answer (NotReady 1) ∷ Post stopped_first true ∷ Post stopped_first false ∷ Answer Waiting
    ∷ Ask 3 ∷ Post found_over true ∷ Answer (Showing (bare_order (Over ∷ [])))
    ∷ Ask 2 ∷ Post found_under true ∷ Answer (Showing (bare_order (Under ∷ [])))
    ∷ Ask 2 ∷ Post done_last true ∷ Answer Ended
    ∷ Ask 5 ∷ Answer Ended ∷ []

pub record WorkedRecord : Type 0 where
  pub legal : IsJobRecord 1 0 one_pair 1 worked_record
  pub shows : closings worked_record
      ≡ Paused 1 ∷ Shown (Over ∷ []) ∷ Shown (Under ∷ []) ∷ NoMore ∷ NoMore ∷ []
