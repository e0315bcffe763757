-- Signs of pairs of faces, and lists of them.
use Rattle.std.specs.Prelude.{ℕ, Bool, true, false, List}
use Rattle.std.specs.List.{slice_index_or}
use Rattle.sign_rules.specs.declared.sign.Sign.{Sign}
use Rattle.sign_rules.specs.declared.sign.Sign.TheVariants.{Over, Under}

abbrev pub is_over : Sign → Bool
is_over Over = true
is_over Under = false

-- whether the list gives the pair the sign Over
abbrev pub over_at : List Sign → ℕ → Bool
over_at signs p = is_over (slice_index_or signs p Under)

-- what an order shows: its list of signs, and how long the list can grow without taking memory (0: nothing is promised)
pub record OrderView : Type 0 where
  pub list : List Sign
  pub room : ℕ

-- these signs, with no room promised
abbrev pub bare_order : List Sign → OrderView
bare_order signs = record { list = signs; room = 0 }
