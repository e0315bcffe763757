-- What it is to enumerate the orders of rules: each once, in lexicographic order, as far as asked.
use Rattle.std.specs.Prelude.{◌≡◌, ℕ, ◌≤◌, Bool, true, ◌&&◌, List, ◌∷◌, ◌++◌, length, take, filter, Option, None, Some, slice_get}
use Rattle.std.specs.List.{All, list_any}
use Rattle.std.proofs.Common.{zero, suc}
use Rattle.sign_rules.specs.declared.sign.Sign.{Sign}
use Rattle.sign_rules.specs.Rules.{RulesView}
use Rattle.search_cursor.specs.Place.{list_before, begins_with}
use Rattle.order_search.specs.Lists.{orders, open_lists}
use Rattle.worker_split.specs.Pieces.{pieces_of}
use Rattle.job_enumeration.specs.Closings.{Closing, NoMore, shown_orders, after_shown, paused_budgets}

-- the k-th order, counted from 1
abbrev pub order_at : RulesView → ℕ → Option (List Sign)
order_at r zero = None
order_at r (suc k) = slice_get (orders r) k

-- whether a list stands after an order, or before it, where there is that order
abbrev pub follows : Option (List Sign) → List Sign → Bool
follows None q = true
follows (Some order) q = list_before order q

abbrev pub precedes : Option (List Sign) → List Sign → Bool
precedes None q = true
precedes (Some order) q = list_before q order

-- whether the list begins with one of the prefixes
abbrev pub begins_with_any : List (List Sign) → List Sign → Bool
begins_with_any prefixes q = list_any (λ prefix. begins_with prefix q) prefixes

-- the open lists that begin with a piece's prefix and stand between order k and order k + 1
unfoldable pub open_between : RulesView → ℕ → ℕ → List (List Sign)
open_between r most k = filter
    (λ q. begins_with_any (pieces_of r most) q && follows (order_at r k) q
    && precedes (order_at r (suc k)) q)
    (open_lists r)

pub record IsEnumeration (r : RulesView) (most : ℕ) (cs : List Closing) : Type 0 where
  -- the k-th order shown is the k-th order
  pub first : shown_orders cs ≡ take (length (shown_orders cs)) (orders r)
  pub within : length (shown_orders cs) ≤ length (orders r)
  -- where "no more" stands, all orders were shown before it, and nothing but "no more" comes after it
  pub complete : (before after : List Closing) → cs ≡ before ++ NoMore ∷ after
      → shown_orders before ≡ orders r
  pub ended : (before after : List Closing) → cs ≡ before ++ NoMore ∷ after → All (λ c. c ≡ NoMore) after
  -- the budgets of the pauses between order k and order k + 1 add to at most the open lists between them
  pub pauses : (k : ℕ) → paused_budgets (after_shown k cs) ≤ length (open_between r most k)
