-- Whole numbers as words.
use Rattle.std.specs.Prelude.{ℕ, ◌&&◌, List, length, Option, None, Some, nat_le, if◌then◌else◌}
use Rattle.cp_text.specs.Digits.{is_digits, digits_value}

-- a number within limits, the limits among them
abbrev pub number_between : ℕ → ℕ → ℕ → Option ℕ
number_between least most n = if nat_le least n && nat_le n most then Some n else None

-- the whole number of digits alone, leading zeros among them, where it is within the limits
abbrev pub digits_read : ℕ → ℕ → List ℕ → Option ℕ
digits_read least most word =
    if is_digits word then number_between least most (digits_value 0 word) else None

-- the same of one to ten digits
abbrev pub whole_read : ℕ → ℕ → List ℕ → Option ℕ
whole_read least most word =
    if is_digits word && nat_le (length word) 10 then number_between least most (digits_value 0 word)
    else None
