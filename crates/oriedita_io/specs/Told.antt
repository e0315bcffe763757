-- What an object tells of itself: None, where it tells nothing, or Some of a value.
-- The words for bytes that are told are those of `Rattle.std.specs.Io.KnownBytes`.
use Rattle.std.specs.Prelude.{◌≡◌, ℕ, ◌<◌, List, length, take, Option, None, Some, Bool, false}
use Rattle.std.specs.Io.KnownBytes.{Appends}

-- what is told is this value
abbrev pub Tells : {A : Type 0} → Option A → A → Type 0
Tells None value = Unit {0}
Tells (Some told) value = told ≡ value

-- these are all bytes of a file, or its first ones, so many, where it has more
abbrev pub ReadsUpTo : Option (List ℕ) → ℕ → List ℕ → Type 0
ReadsUpTo None most bytes = Unit {0}
ReadsUpTo (Some whole) most bytes = bytes ≡ take most whole

-- what a sink tells of being finished, before and after it took so many bytes: the same after none, else that it is not
abbrev pub FinishedAfter : Option Bool → Option Bool → ℕ → Type 0
FinishedAfter before after count = (count ≡ 0 → after ≡ before) × (0 < count → Tells after false)

-- the sink took the first few of these bytes, and not all
pub record WritesPart (taken taken' : Option (List ℕ)) (finished finished' : Option Bool)
    (bytes : List ℕ) : Type 0 where
  pub count : ℕ
  pub short : count < length bytes
  pub appended : Appends taken taken' (take count bytes)
  pub finished_after : FinishedAfter finished finished' count
