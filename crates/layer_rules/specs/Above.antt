-- Lists of signs, which give the first pairs theirs, and what they say of which face is above which.
use Rattle.std.specs.Prelude.{ℕ, Bool, not, ◌&&◌, ◌==◌, List, [], ◌∷◌, Option, None, Some, nat_lt, if◌then◌else◌}
use Rattle.std.specs.Option.{option_map}
use Rattle.sign_rules.specs.declared.sign.Sign.{Sign}
use Rattle.sign_rules.specs.Signs.{is_over}
use Rattle.layer_rules.specs.declared.face_pairs.FacePair.{FacePair}

abbrev pub is_pair_of : ℕ → ℕ → FacePair → Bool
is_pair_of i j pair = pair.i == i && pair.j == j

-- the sign of the pair (i, j), if the list decides it
abbrev pub sign_of_pair : List FacePair → List Sign → ℕ → ℕ → Option Sign
sign_of_pair [] signs i j = None
sign_of_pair (pair ∷ pairs) [] i j = None
sign_of_pair (pair ∷ pairs) (sign ∷ signs) i j =
    if is_pair_of i j pair then Some sign else sign_of_pair pairs signs i j

-- whether face f is above face g, if the list decides their pair
abbrev pub above : List FacePair → List Sign → ℕ → ℕ → Option Bool
above pairs signs f g =
    if nat_lt f g then option_map is_over (sign_of_pair pairs signs f g)
    else option_map (λ sign. not (is_over sign)) (sign_of_pair pairs signs g f)
