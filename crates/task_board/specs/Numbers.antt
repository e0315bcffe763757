-- Lists whose elements are numbered from 1.
use Rattle.std.specs.Prelude.{ℕ, zero, suc, List, Option, None, Some, slice_get, slice_set}

-- the element of this number
abbrev pub at_number : {X : Type 0} → List X → ℕ → Option X
at_number xs zero = None
at_number xs (suc n) = slice_get xs n

-- the list with another element of this number
abbrev pub put_at : {X : Type 0} → List X → ℕ → X → List X
put_at xs zero x = xs
put_at xs (suc n) x = slice_set xs n x

-- what is kept under a number, where something still is
abbrev pub kept_at : {X : Type 0} → List (Option X) → ℕ → Option X
kept_at places n = kept (at_number places n)
  where
    kept : {X : Type 0} → Option (Option X) → Option X
    kept None = None
    kept (Some o) = o
