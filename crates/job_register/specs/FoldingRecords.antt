-- What a record of a session shows of each folding job: the layer orders of the version that it names.
use Rattle.std.specs.Prelude.{◌≡◌, ℕ, ◌==◌, if◌then◌else◌, List, [], ◌∷◌, ◌++◌, Some}
use Rattle.std.specs.List.{flat_map}
use Rattle.crease_model.specs.View.{PatternView}
use Rattle.order_search.specs.Lists.{orders}
use Rattle.order_search.specs.OrderedLists.{AreInOrder}
use Rattle.job_enumeration.specs.Closings.{Closing, Shown, NoMore, Paused}
use Rattle.job_enumeration.specs.Enumeration.{IsEnumeration}
use Rattle.fold_jobs.specs.Limits.{first_budget}
use Rattle.fold_jobs.specs.OwnEvents.{ShownOrder}
use Rattle.fold_jobs.specs.Laws.{AreShown}
use Rattle.layer_rules.specs.LayerOrder.{IsLayerOrder}
use Rattle.layer_rules.specs.Layering.{LayeringView, kinds_of}
use Rattle.script_lang.specs.declared.command.Command.TheVariants.{Fold}
use Rattle.script_lang.specs.declared.reply.Reply.{Reply}
use Rattle.script_lang.specs.declared.reply.Reply.TheVariants as reply
use Rattle.job_register.specs.declared.session.Event.{Event}
use Rattle.job_register.specs.declared.session.Event.TheVariants.{Made, Posted}
use Rattle.job_register.specs.Layers.{IsLayersOf}
use Rattle.job_register.specs.Legal.{IsLegal}
use Rattle.job_register.specs.RecordVersions.{version_in}

-- ---- the replies that a job gave to its asks

abbrev pub shown_by_reply : ℕ → Reply → List ShownOrder
shown_by_reply n (reply.Shown job version number order) =
    if job == n then record { number = number; version = version; order = order.list } ∷ [] else []
shown_by_reply n r = []

abbrev pub shown_by_event : ℕ → Event → List ShownOrder
shown_by_event n (Made command r) = shown_by_reply n r
shown_by_event n (Posted x accepted) = []

-- the orders of job n that the record shows
abbrev pub shown_in : ℕ → List Event → List ShownOrder
shown_in n es = flat_map (shown_by_event n) es

-- the budget of the asks to come
abbrev pub budget_past : ℕ → Event → ℕ
budget_past budget (Made command (reply.Budget next)) = next
budget_past budget e = budget

-- the budget of the open ask of job n, where the asks to come have this budget
abbrev pub asked_past : ℕ → ℕ → ℕ → Event → ℕ
asked_past n budget asked (Made command (reply.Asked job)) = if job == n then budget else asked
asked_past n budget asked e = asked

-- what closes an ask of job n that has this budget
abbrev pub closing_by_reply : ℕ → ℕ → Reply → List Closing
closing_by_reply n asked (reply.Shown job version number order) =
    if job == n then Shown order.list ∷ [] else []
closing_by_reply n asked (reply.NoMore job version) = if job == n then NoMore ∷ [] else []
closing_by_reply n asked (reply.Paused job version) = if job == n then Paused asked ∷ [] else []
closing_by_reply n asked r = []

abbrev pub closing_by_event : ℕ → ℕ → Event → List Closing
closing_by_event n asked (Made command r) = closing_by_reply n asked r
closing_by_event n asked (Posted x accepted) = []

abbrev pub closings_past : ℕ → ℕ → ℕ → List Event → List Closing
closings_past n budget asked [] = []
closings_past n budget asked (e ∷ es) =
    closing_by_event n asked e ++ closings_past n (budget_past budget e) (asked_past n budget asked e) es

-- the orders, pauses and ends that job n showed, a pause with the budget of its ask
abbrev pub closings_in : ℕ → List Event → List Closing
closings_in n es = closings_past n first_budget 0 es

-- ---- the law

-- what a record shows of a job on a version, searched in at most so many pieces
pub record ShowsLayerOrders (most number version : ℕ) (es : List Event) : Type 0 where
  pub pattern : PatternView
  pub pattern_is : version_in es version ≡ Some pattern
  pub layers : LayeringView
  pub layers_are : IsLayersOf pattern layers
  -- the orders of its rules are the layer orders of that pattern, each once, in lexicographic order
  pub orders_are : AreInOrder (IsLayerOrder layers.shape (kinds_of pattern.pieces) layers.pairs)
      (orders layers.rules)
  -- the k-th order shown carries the number k and the version, and is the k-th of those orders
  pub shown : AreShown version layers.rules (shown_in number es)
  -- "no more" stands behind all of them, and pauses within the open lists between two orders
  pub enumeration : IsEnumeration layers.rules most (closings_in number es)

-- each job of a record shows the layer orders of the version that it names
pub record EnumeratesOrders (most : ℕ) (es : List Event) : Type 0 where
  pub of_each : (before after : List Event) (number version faces pairs : ℕ)
      → es ≡ before ++ Made Fold (reply.Job number version faces pairs) ∷ after
      → ShowsLayerOrders most number version es

abbrev pub LegalRecordsEnumerate : Type 0
LegalRecordsEnumerate = (most : ℕ) (es : List Event) → IsLegal most es → EnumeratesOrders most es
