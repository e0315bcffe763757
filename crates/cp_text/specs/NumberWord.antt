-- The grammar of a number word.
use Rattle.std.specs.Prelude.{ℕ, Bool, true, false, ◌&&◌, ◌||◌, ◌==◌, List, [], ◌∷◌, Option, Some, None, if◌then◌else◌, codes}
use Rattle.std.specs.Str.{bytes_eq}
use Rattle.cp_text.specs.Digits.{is_digits, leading_digits, behind_digits}

-- a decimal that a text begins with: its digits, those behind its point, and the text behind it
pub record Scan : Type 0 where
  pub whole : List ℕ
  pub fraction : List ℕ
  pub rest : List ℕ

-- a point has at least one digit behind it
abbrev pub with_fraction : List ℕ → List ℕ → List ℕ → Option Scan
with_fraction whole [] rest = None
with_fraction whole (d ∷ ds) rest = Some (record { whole = whole; fraction = d ∷ ds; rest = rest })

abbrev pub behind_whole : List ℕ → List ℕ → Option Scan
behind_whole whole [] = Some (record { whole = whole; fraction = []; rest = [] })
behind_whole whole (b ∷ bs) =
    if b == 46 then with_fraction whole (leading_digits bs) (behind_digits bs)
    else Some (record { whole = whole; fraction = []; rest = b ∷ bs })

abbrev pub with_whole : List ℕ → List ℕ → Option Scan
with_whole [] rest = None
with_whole (d ∷ ds) rest = behind_whole (d ∷ ds) rest

-- one or more digits, and then a point and one or more digits or no point
abbrev pub decimal_at : List ℕ → Option Scan
decimal_at text = with_whole (leading_digits text) (behind_digits text)

-- a decimal with its sign
pub record SignedDecimal : Type 0 where
  pub negative : Bool
  pub whole : List ℕ
  pub fraction : List ℕ

abbrev pub signed_decimal : Bool → Scan → SignedDecimal
signed_decimal negative scan = record { negative = negative; whole = scan.whole; fraction = scan.fraction }

-- a number word: the rational part, the root's part before `r2`, or both
pub data NumberWord : Type 0 where
  Rational : (part : SignedDecimal) → NumberWord
  Root : (part : SignedDecimal) → NumberWord
  Both : (first second : SignedDecimal) → NumberWord

abbrev pub is_root_mark : List ℕ → Bool
is_root_mark text = bytes_eq text (codes "r2")

-- the second decimal, with `r2` behind it
abbrev pub second_part : SignedDecimal → Bool → Option Scan → Option NumberWord
second_part first negative None = None
second_part first negative (Some scan) =
    if is_root_mark scan.rest then Some (Both first (signed_decimal negative scan)) else None

-- what may stand behind the first decimal: nothing, `r2`, or a sign and the second part
abbrev pub behind_first : SignedDecimal → List ℕ → Option NumberWord
behind_first first [] = Some (Rational first)
behind_first first (b ∷ bs) =
    if is_root_mark (b ∷ bs) then Some (Root first)
    else if b == 43 then second_part first false (decimal_at bs)
    else if b == 45 then second_part first true (decimal_at bs)
    else None

abbrev pub first_part : Bool → Option Scan → Option NumberWord
first_part negative None = None
first_part negative (Some scan) = behind_first (signed_decimal negative scan) scan.rest

-- a minus sign in front
abbrev pub has_minus : List ℕ → Bool
has_minus [] = false
has_minus (b ∷ bs) = b == 45

abbrev pub behind_minus : List ℕ → List ℕ
behind_minus [] = []
behind_minus (b ∷ bs) = if b == 45 then bs else b ∷ bs

-- an optional minus sign and a decimal; the same and `r2`; or both, parted by the sign of the second
abbrev pub number_word : List ℕ → Option NumberWord
number_word text = first_part (has_minus text) (decimal_at (behind_minus text))

-- an optional sign, and one or more digits to the end
abbrev pub is_power : List ℕ → Bool
is_power [] = false
is_power (b ∷ bs) = if (b == 43) || (b == 45) then is_digits bs else is_digits (b ∷ bs)

abbrev pub is_power_mark : List ℕ → Bool
is_power_mark [] = false
is_power_mark (b ∷ bs) = ((b == 101) || (b == 69)) && is_power bs

abbrev pub has_power : Option Scan → Bool
has_power None = false
has_power (Some scan) = is_power_mark scan.rest

-- exponent notation, as `1e3`
abbrev pub is_exponential : List ℕ → Bool
is_exponential text = has_power (decimal_at (behind_minus text))
