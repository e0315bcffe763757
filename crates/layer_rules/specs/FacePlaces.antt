-- The pair of two faces, and where it stands.
use Rattle.std.specs.Prelude.{◌≡◌, ℕ, List, Option, Some, MatchOption, nat_lt, if◌then◌else◌}
use Rattle.std.specs.List.{Contains, slice_get}
use Rattle.layer_rules.specs.declared.face_pairs.FacePair.{FacePair}

-- the two faces, the lesser one first
abbrev pub lesser_first : ℕ → ℕ → FacePair
lesser_first f g = if nat_lt f g then record { i = f; j = g } else record { i = g; j = f }

-- the place of their pair, or none where it isn't there
abbrev pub IsPlace : List FacePair → ℕ → ℕ → Option ℕ → Type 0
IsPlace pairs f g found =
    MatchOption found (¬ Contains pairs (lesser_first f g)) (λ p. slice_get pairs p ≡ Some (lesser_first f g))
