-- Exact numbers as text: the shortest exact decimals of the two parts, the second with `r2` for the square root of two.
use Rattle.std.specs.Prelude.{ℕ, zero, suc, ◌*◌, ◌/◌, ◌%◌, ◌^◌, ℤ, pos, negsuc, unsigned_abs, ◌==◌, List, [], ◌∷◌, ◌++◌, if◌then◌else◌, codes, decimal}
use Rattle.surd_number.specs.Number.{Number}
use Rattle.cp_text.specs.Digits.{padded_digits}

-- The digits of r / 2^k, a fraction below 1. In lowest terms it has exactly k of them: those of r * 5^k.
abbrev pub fraction_digits : ℕ → ℕ → List ℕ
fraction_digits zero r = []
fraction_digits (suc k) r =
    if r % 2 == 0 then fraction_digits k (r / 2) else padded_digits (suc k) (r * 5 ^ suc k)

-- digits behind a point, and no point where there are none
abbrev pub behind_point : List ℕ → List ℕ
behind_point [] = []
behind_point (d ∷ ds) = 46 ∷ d ∷ ds

-- m / 2^k
unfoldable pub magnitude_text : ℕ → ℕ → List ℕ
magnitude_text m k = decimal (m / 2 ^ k) ++ behind_point (fraction_digits k (m % 2 ^ k))

-- a minus sign where the number has one
abbrev pub minus_text : ℤ → List ℕ
minus_text (pos n) = []
minus_text (negsuc n) = 45 ∷ []

-- the sign between two parts
abbrev pub joining_text : ℤ → List ℕ
joining_text (pos n) = 43 ∷ []
joining_text (negsuc n) = 45 ∷ []

-- a / 2^k
abbrev pub part_text : ℤ → ℕ → List ℕ
part_text a k = minus_text a ++ magnitude_text (unsigned_abs a) k

-- both parts, or the one that is not zero, or `0`
abbrev pub parts_text : ℤ → ℤ → ℕ → List ℕ
parts_text a (pos zero) k = part_text a k
parts_text (pos zero) b k = part_text b k ++ codes "r2"
parts_text a b k = part_text a k ++ joining_text b ++ magnitude_text (unsigned_abs b) k ++ codes "r2"

unfoldable pub number_text : Number → List ℕ
number_text n = parts_text n.a n.b n.k
