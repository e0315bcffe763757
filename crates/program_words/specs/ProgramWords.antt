-- The words of the command line: which lists of words are accepted, and what they say.
use Rattle.std.specs.Prelude.{◌≡◌, ◌≤◌, ℕ, Bool, false, not, ◌&&◌, ◌==◌, List, [], ◌∷◌, Option, None, Some, is_some, codes, unwrap_or, option_map, option_and_then, string_bytes, if◌then◌else◌, IfSome}
use Rattle.std.specs.Str.{bytes_eq}
use Rattle.cp_text.specs.WholeNumber.{digits_read}
use Rattle.program_words.specs.declared.options.Options.{Options}

abbrev pub Text : Type 0
Text = List ℕ

-- ---- the form

-- the values that the words so far gave the options, as texts
pub record Values : Type 0 where
  pub cp : Option Text
  pub workers : Option Text
  pub sample : Option Text

abbrev pub no_values : Values
no_values = record { cp = None; workers = None; sample = None }

-- a word parted at its first `=` (61), where it has one
abbrev pub parted : Text → Option (Text × Text)
parted [] = None
parted (b ∷ bs) = if b == 61 then Some ([], bs) else option_map (λ p. (b ∷ p.0, p.1)) (parted bs)

-- a value is not empty and does not begin with `-` (45)
abbrev pub is_value : Text → Bool
is_value [] = false
is_value (b ∷ bs) = not (b == 45)

-- the value that an option has, where it is good and the option stands for the first time
abbrev pub value_once : Option Text → Text → Option Text
value_once None value = if is_value value then Some value else None
value_once (Some before) value = None

-- the values with that of the option of this name as well
abbrev pub with_option : Text → Text → Values → Option Values
with_option name value v =
    if bytes_eq name (codes "--cp") then option_map (λ t. record v { cp = Some t }) (value_once v.cp value)
    else if bytes_eq name (codes "--workers")
    then option_map (λ t. record v { workers = Some t }) (value_once v.workers value)
    else if bytes_eq name (codes "--sample")
    then option_map (λ t. record v { sample = Some t }) (value_once v.sample value)
    else None

-- a word that begins an option is its name, the value being the next word, or both parted by `=`
abbrev pub begun : Text → Values → Option (Text × Text) → Option (Option Text × Values)
begun word v None = Some (Some word, v)
begun word v (Some p) = option_map (λ t. (None, t)) (with_option p.0 p.1 v)

-- the values with one more word: before it the name of an option may wait for its value
abbrev pub with_word : Text → Option Text × Values → Option (Option Text × Values)
with_word word (Some name, v) = option_map (λ t. (None, t)) (with_option name word v)
with_word word (None, v) = begun word v (parted word)

abbrev pub values_in : List Text → Option Text × Values → Option (Option Text × Values)
values_in [] state = Some state
values_in (word ∷ words) state = option_and_then (values_in words) (with_word word state)

-- no option waits for its value
abbrev pub whole_values : Option Text × Values → Option Values
whole_values (Some name, v) = None
whole_values (None, v) = Some v

-- the values that the words give the options, where they are names with a value each
unfoldable pub values_of : List Text → Option Values
values_of words = option_and_then whole_values (values_in words (None, no_values))

-- ---- the meaning

-- what the words say
pub record Said : Type 0 where
  pub cp : Option Text
  pub workers : Option ℕ
  pub sample : Option ℕ

-- the number that a value says, where there is one, and it is within the limits
abbrev pub number_said : ℕ → ℕ → Option Text → Option (Option ℕ)
number_said least most None = Some None
number_said least most (Some value) = option_map (λ n. Some n) (digits_read least most value)

-- a sample and a file don't stand together
abbrev pub said_apart : Said → Option Said
said_apart s = if is_some s.sample && is_some s.cp then None else Some s

-- the same with the number of workers and of the sample, where these are said
abbrev pub said_with : Option Text → Option (Option ℕ) → Option (Option ℕ) → Option Said
said_with cp (Some workers) (Some sample) =
    said_apart (record { cp = cp; workers = workers; sample = sample })
said_with cp _ _ = None

-- what values say: 0 to 8 workers, and the samples 1 to 3
abbrev pub meaning_of : Values → Option Said
meaning_of v = said_with v.cp (number_said 0 8 v.workers) (number_said 1 3 v.sample)

-- what the words say, where they are accepted
unfoldable pub said_of : List Text → Option Said
said_of words = option_and_then meaning_of (values_of words)

-- ---- the options

-- the workers where no word tells their number
abbrev pub usual_workers : ℕ
usual_workers = 2

-- the options are those
abbrev pub Says : Options → Said → Type 0
Says o s = (option_map string_bytes o.cp ≡ s.cp) × (o.workers ≡ unwrap_or s.workers usual_workers)
    × (o.sample ≡ s.sample)

-- at most 8 workers, and one of the samples 1 to 3
abbrev pub IsWithinLimits : Options → Type 0
IsWithinLimits o = (o.workers ≤ 8) × IfSome o.sample (λ n. (1 ≤ n) × (n ≤ 3))
