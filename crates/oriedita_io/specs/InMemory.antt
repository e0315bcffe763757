-- What a source and a sink in memory are to a caller.
use Rattle.std.specs.Prelude.{ℕ, List, Bool}

-- a source in memory
pub record SourceState : Type 0 where
  -- the bytes still to come
  pub left : List ℕ
  -- how many a read gives at most
  pub most : ℕ
  -- the numbers of the reads that fail, counted from 1
  pub failing : List ℕ
  -- the reads so far
  pub calls : ℕ
  -- the faults so far
  pub faults : ℕ

-- a sink in memory
pub record SinkState : Type 0 where
  -- the bytes taken so far
  pub taken : List ℕ
  -- whether a finish went well and no byte was taken since
  pub finished : Bool
  -- how many bytes it takes in all
  pub room : ℕ
  -- how many a write takes at most
  pub most : ℕ
  -- the numbers of the calls that fail, writes and finishes counted together from 1
  pub failing : List ℕ
  -- the writes and finishes so far
  pub calls : ℕ
  -- the faults so far
  pub faults : ℕ
