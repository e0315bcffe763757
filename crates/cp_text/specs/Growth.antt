-- What an output may become before a write failed.
use Rattle.std.specs.Prelude.{◌≡◌, ℕ, List, length, take}

-- the old items stand first among the new ones
abbrev pub KeepsFront : List ℕ → List ℕ → Type 0
KeepsFront old new = take (length old) new ≡ old
