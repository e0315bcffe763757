-- Which rules a pair decides, kept as chains of rules: from the last rule of a pair to the ones before it.
use Rattle.std.specs.Prelude.{◌≡◌, ◌≢◌, ℕ, ◌-◌, ◌<◌, ◌≤◌, List, length, slice_index}
use Rattle.std.specs.List.{slice_index_or}
use Rattle.sign_rules.specs.declared.rule.Rule.{Rule}
use Rattle.sign_rules.specs.Rule.{last_pair}

-- one more than the place of the last rule before place `end` whose greatest pair is this one, or 0 where there is none
pub record IsLatest (rules : List Rule) (pair end latest : ℕ) : Type 0 where
  pub within : latest ≤ end
  pub found : (d : Rule) → 0 < latest → last_pair (slice_index_or rules (latest - 1) d) ≡ pair
  pub others : (d : Rule) (n : ℕ) → latest ≤ n → n < end → last_pair (slice_index_or rules n d) ≢ pair

-- for each pair where its chain begins among the first rules, and for each of these rules how it goes on
pub record IsIndex (pairs end : ℕ) (rules : List Rule) (latest earlier : List ℕ) : Type 0 where
  pub starts : length latest ≡ pairs
  pub steps : length earlier ≡ end
  pub begins : (p : ℕ) → p < pairs → IsLatest rules p end (slice_index latest p)
  pub goes_on : (d : Rule) (n : ℕ) → n < end
      → IsLatest rules (last_pair (slice_index_or rules n d)) n (slice_index earlier n)
