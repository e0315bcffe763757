-- What a source over a reader and a sink over a writer are to a caller.
use Rattle.std.specs.Prelude.{ℕ}

-- a reader or a writer, and its faults so far
pub record WithFaults (Io : Type 0) : Type 0 where
  pub io : Io
  pub faults : ℕ
