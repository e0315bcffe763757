-- The pieces of a search: the prefixes that part it.
use Rattle.std.specs.Prelude.{ℕ, Bool, ◌&&◌, if◌then◌else◌, List, length, filter, nat_le}
use Rattle.std.proofs.Common.{zero, suc}
use Rattle.sign_rules.specs.declared.sign.Sign.{Sign}
use Rattle.sign_rules.specs.Rules.{RulesView, is_consistent}
use Rattle.order_search.specs.Lists.{all_lists}

-- the sign lists of a length that break no rule, in lexicographic order
unfoldable pub consistent_lists : RulesView → ℕ → List (List Sign)
consistent_lists r count = filter (is_consistent r) (all_lists count)

-- whether neither this length nor a smaller one has more than `most` consistent lists
unfoldable pub is_allowed : RulesView → ℕ → ℕ → Bool
is_allowed r most zero = nat_le (length (consistent_lists r zero)) most
is_allowed r most (suc count) =
    is_allowed r most count && nat_le (length (consistent_lists r (suc count))) most

-- the greatest allowed length up to this one
unfoldable pub allowed_length : RulesView → ℕ → ℕ → ℕ
allowed_length r most zero = zero
allowed_length r most (suc count) =
    if is_allowed r most (suc count) then suc count else allowed_length r most count

-- the consistent lists of the greatest allowed length
unfoldable pub pieces_of : RulesView → ℕ → List (List Sign)
pieces_of r most = consistent_lists r (allowed_length r most r.pairs)
