-- An answer is the one that the definition gives, or want of memory.
use Rattle.std.specs.Prelude.{◌≡◌, ℕ, Bool, true, false, ⊤, List, Option, None, Some, Err}
use Rattle.std.specs.declared.result.Result.{Result}
use Rattle.plane_geometry.specs.declared.Point.{Point}
use Rattle.line_split.specs.declared.cutting.SplitFault.{SplitFault}
use Rattle.line_split.specs.declared.cutting.SplitFault.TheVariants.{OutOfRange, Memory}

-- the definition's refusal, or want of memory
abbrev pub IsCutFault : SplitFault → Result (List Point) ℕ → Type 0
IsCutFault (OutOfRange n) answer = answer ≡ Err n
IsCutFault Memory answer = ⊤

-- the piece of this number has no common point of two Surds, or want of memory
abbrev pub IsFaultAt : SplitFault → ℕ → Option (List Point) → Type 0
IsFaultAt (OutOfRange m) n found = (m ≡ n) × (found ≡ None)
IsFaultAt Memory n found = ⊤

-- there is a list exactly where the flag is set
abbrev pub some_if : Bool → List Point → Option (List Point)
some_if true points = Some points
some_if false points = None
