-- Decimal digits and their value.
use Rattle.std.specs.Prelude.{ℕ, zero, suc, ◌+◌, ◌-◌, ◌*◌, ◌/◌, ◌%◌, ◌^◌, Bool, false, ◌&&◌, ◌==◌, nat_le, List, [], ◌∷◌, if◌then◌else◌}
use Rattle.std.specs.List.{list_all}

abbrev pub is_digit : ℕ → Bool
is_digit b = nat_le 48 b && nat_le b 57

-- one or more digits alone
abbrev pub is_digits : List ℕ → Bool
is_digits [] = false
is_digits (b ∷ bs) = list_all is_digit (b ∷ bs)

-- the value of decimal digits, behind those that have the value n
abbrev pub digits_value : ℕ → List ℕ → ℕ
digits_value n [] = n
digits_value n (b ∷ bs) = digits_value (10 * n + (b - 48)) bs

-- the last digits of n, so many, zeros in front among them
abbrev pub padded_digits : ℕ → ℕ → List ℕ
padded_digits zero n = []
padded_digits (suc places) n = (48 + n / 10 ^ places % 10) ∷ padded_digits places n

-- the digits that a text begins with
abbrev pub leading_digits : List ℕ → List ℕ
leading_digits [] = []
leading_digits (b ∷ bs) = if is_digit b then b ∷ leading_digits bs else []

-- what stands behind them
abbrev pub behind_digits : List ℕ → List ℕ
behind_digits [] = []
behind_digits (b ∷ bs) = if is_digit b then behind_digits bs else b ∷ bs

-- a byte in front, left out where it is a zero with nothing behind it
abbrev pub kept_digit : ℕ → List ℕ → List ℕ
kept_digit b [] = if b == 48 then [] else b ∷ []
kept_digit b (c ∷ cs) = b ∷ c ∷ cs

-- without the zeros at the end
abbrev pub without_zeros : List ℕ → List ℕ
without_zeros [] = []
without_zeros (b ∷ bs) = kept_digit b (without_zeros bs)
