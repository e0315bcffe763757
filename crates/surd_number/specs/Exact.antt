-- What an exact result is: the stored number of that value, or a refusal where no stored number has it.
use Rattle.std.specs.Prelude.{Result, MatchResult, Option, Some, None}
use Rattle.std.proofs.Common.{◌⊎◌, inl, inr}
use Rattle.surd_number.specs.declared.Surd.{Surd}
use Rattle.surd_number.specs.declared.Wide.{Wide}
use Rattle.surd_number.specs.declared.OutOfRange.{OutOfRange}
use Rattle.surd_number.specs.Number.{Number, IsSame, IsWithin}
use Rattle.surd_number.specs.Stored.{IsSurd}
use Rattle.surd_number.specs.CanonicalLaws.{Reduction, reduction_of, within_or_not}
use Rattle.surd_number.specs.Value.{number_of, wide_number_of}

-- s has the value x
abbrev pub IsSurdOf : Surd → Number → Type 0
IsSurdOf s x = IsSame (number_of s) x

-- w has the value x
abbrev pub IsWideOf : Wide → Number → Type 0
IsWideOf w x = IsSame (wide_number_of w) x

-- the Surd of the value x, or a refusal exactly where there is none
abbrev pub IsExactly : Result Surd OutOfRange → Number → Type 0
IsExactly r x = MatchResult r (λ s. IsSurdOf s x) (λ _. ¬ IsSurd x)

-- the canonical triple of x as a Surd, where it is within the limits
unfoldable pub surd_within : (x : Number) (r : Reduction x) → IsWithin 36 16 r.form ⊎ ¬ IsWithin 36 16 r.form
    → Option Surd
surd_within x r (inl h) = Some (record { a = r.form.a; b = r.form.b; k = r.form.k; stored = (r.least, h) })
surd_within x r (inr h) = None

-- the Surd of the value x, where there is one
unfoldable pub surd_of : Number → Option Surd
surd_of x = surd_within x (reduction_of x) (within_or_not (reduction_of x).form)
