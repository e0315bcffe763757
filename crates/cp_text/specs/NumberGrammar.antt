-- The grammar of a number word, as the texts of its forms.
use Rattle.std.specs.Prelude.{◌≡◌, ℕ, Bool, true, false, ◌⊎◌, List, [], ◌∷◌, ◌++◌, Err, IsTrue, codes}
use Rattle.std.specs.List.{list_all}
use Rattle.cp_text.specs.declared.number_reading.NumberFault.TheVariants.{Bad, NotExact}
use Rattle.cp_text.specs.Digits.{is_digit, is_digits}
use Rattle.cp_text.specs.NumberText.{behind_point}
use Rattle.cp_text.specs.NumberWord.{SignedDecimal, NumberWord, Rational, Root, Both}
use Rattle.cp_text.specs.NumberReading.{word_value, number_read}

-- one or more digits, and one or more behind the point where there is one
pub record IsDecimal (d : SignedDecimal) : Type 0 where
  pub whole : IsTrue (is_digits d.whole)
  pub fraction : IsTrue (list_all is_digit d.fraction)

abbrev pub IsWellFormed : NumberWord → Type 0
IsWellFormed (Rational part) = IsDecimal part
IsWellFormed (Root part) = IsDecimal part
IsWellFormed (Both first second) = IsDecimal first × IsDecimal second

-- in front of a word only a minus sign is written
abbrev pub front_sign : Bool → List ℕ
front_sign true = 45 ∷ []
front_sign false = []

-- between two parts a sign is always written
abbrev pub middle_sign : Bool → List ℕ
middle_sign true = 45 ∷ []
middle_sign false = 43 ∷ []

abbrev pub decimal_text : SignedDecimal → List ℕ
decimal_text d = d.whole ++ behind_point d.fraction

abbrev pub front_text : SignedDecimal → List ℕ
front_text d = front_sign d.negative ++ decimal_text d

abbrev pub root_mark : List ℕ
root_mark = codes "r2"

-- the three forms of a number word
abbrev pub word_text : NumberWord → List ℕ
word_text (Rational part) = front_text part
word_text (Root part) = front_text part ++ root_mark
word_text (Both first second) =
    front_text first ++ (middle_sign second.negative ++ (decimal_text second ++ root_mark))

-- this text is this number word
abbrev pub IsWordOf : List ℕ → NumberWord → Type 0
IsWordOf text word = IsWellFormed word × (word_text word ≡ text)

-- a decimal, `e` or `E`, an optional sign and one or more digits
pub record IsExponential (text : List ℕ) : Type 0 where
  pub part : SignedDecimal
  pub mark : ℕ
  pub sign : List ℕ
  pub digits : List ℕ
  pub decimal : IsDecimal part
  pub letter : (mark ≡ 101) ⊎ (mark ≡ 69)
  pub optional : (sign ≡ []) ⊎ (sign ≡ 43 ∷ []) ⊎ (sign ≡ 45 ∷ [])
  pub some : IsTrue (is_digits digits)
  pub written : front_text part ++ (mark ∷ (sign ++ digits)) ≡ text

-- what reading answers, by the form of the text
pub record ReadsByTheGrammar : Type 0 where
  pub exponents : (text : List ℕ) → IsExponential text → number_read text ≡ Err NotExact
  pub words : (text : List ℕ) (word : NumberWord) → IsWordOf text word → number_read text ≡ word_value word
  pub others : (text : List ℕ) → ¬ IsExponential text → ((word : NumberWord) → ¬ IsWordOf text word)
      → number_read text ≡ Err Bad
