-- Which triples the two types of stored numbers keep: canonical ones within fixed limits.
use Rattle.surd_number.specs.Number.{Number, IsCanonical, IsSame, IsWithin}

-- a triple of a Surd
abbrev pub IsStored : Number → Type 0
IsStored x = IsCanonical x × IsWithin 36 16 x

-- a triple of a Wide
abbrev pub IsStoredWide : Number → Type 0
IsStoredWide x = IsCanonical x × IsWithin 80 20 x

-- x is the value of some Surd: its canonical triple is within the limits
abbrev pub IsSurd : Number → Type 0
IsSurd x = (y : Number) × IsStored y × IsSame y x

-- x is the value of some Wide
abbrev pub IsWide : Number → Type 0
IsWide x = (y : Number) × IsStoredWide y × IsSame y x
