-- What the reading of a number word answers.
use Rattle.std.specs.Prelude.{ℕ, ◌+◌, ◌-◌, ◌*◌, ◌/◌, ◌%◌, ◌^◌, min, ℤ, pos, negsuc, neg_ℤ, Bool, true, false, ◌&&◌, ◌==◌, nat_le, List, length, Option, Some, None, option_map, Result, Ok, Err, if◌then◌else◌}
use Rattle.surd_number.specs.declared.Surd.{Surd}
use Rattle.surd_number.specs.Exact.{surd_of}
use Rattle.cp_text.specs.declared.number_reading.NumberFault.{NumberFault}
use Rattle.cp_text.specs.declared.number_reading.Part.{Part}
use Rattle.cp_text.specs.declared.number_reading.NumberFault.TheVariants.{Bad, NotExact, OutOfRange}
use Rattle.cp_text.specs.Digits.{digits_value, without_zeros}
use Rattle.cp_text.specs.NumberWord.{SignedDecimal, NumberWord, Rational, Root, Both, number_word, is_exponential}

-- d digits behind a point are so many parts of 2^16, where d is at most 16 and they are a multiple of 5^d
abbrev pub exact_parts : List ℕ → Option ℕ
exact_parts digits =
    if nat_le (length digits) 16 && (digits_value 0 digits % 5 ^ length digits == 0)
    then Some (digits_value 0 digits / 5 ^ length digits * 2 ^ (16 - length digits)) else None

-- zeros at the end do not count
abbrev pub fraction_parts : List ℕ → Option ℕ
fraction_parts digits = exact_parts (without_zeros digits)

-- the decimal that was scanned with its sign
abbrev pub decimal_of : Part → SignedDecimal
decimal_of part = record { negative = part.negative; whole = part.whole.now; fraction = part.fraction.now }

abbrev pub signed : Bool → ℕ → ℤ
signed true n = neg_ℤ (pos n)
signed false n = pos n

-- how many parts of 2^16 an exact decimal is, without its sign
abbrev pub magnitude_parts : SignedDecimal → Option ℕ
magnitude_parts d = option_map (λ parts. digits_value 0 d.whole * 2 ^ 16 + parts) (fraction_parts d.fraction)

abbrev pub decimal_parts : SignedDecimal → Option ℤ
decimal_parts d = option_map (signed d.negative) (magnitude_parts d)

-- a number of parts, or the nearest one of at most 2^53 in absolute value
abbrev pub bounded : ℤ → ℤ
bounded (pos n) = pos (min n (2 ^ 53))
bounded (negsuc n) = negsuc (min n (2 ^ 53 - 1))

abbrev pub surd_answer : Option Surd → Result Surd NumberFault
surd_answer None = Err OutOfRange
surd_answer (Some s) = Ok s

-- the Surd of both parts
abbrev pub parts_read : Option ℤ → Option ℤ → Result Surd NumberFault
parts_read (Some a) (Some b) = surd_answer (surd_of (record { a = a; b = b; k = 16 }))
parts_read (Some a) None = Err NotExact
parts_read None b = Err NotExact

-- a part that is not written is zero
abbrev pub word_value : NumberWord → Result Surd NumberFault
word_value (Rational part) = parts_read (decimal_parts part) (Some (pos 0))
word_value (Root part) = parts_read (Some (pos 0)) (decimal_parts part)
word_value (Both first second) = parts_read (decimal_parts first) (decimal_parts second)

abbrev pub word_read : Option NumberWord → Result Surd NumberFault
word_read None = Err Bad
word_read (Some word) = word_value word

unfoldable pub number_read : List ℕ → Result Surd NumberFault
number_read text = if is_exponential text then Err NotExact else word_read (number_word text)
