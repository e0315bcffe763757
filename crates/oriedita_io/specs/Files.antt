-- What an opener of files in memory is to a caller.
use Rattle.std.specs.Prelude.{ℕ, List, [], ◌∷◌, Option, None, Some, if◌then◌else◌, string_bytes}
use Rattle.std.specs.Str.{bytes_eq}
use Rattle.oriedita_io.specs.declared.mem_opener.MemFile.{MemFile}

-- the bytes of the first file with this path
abbrev pub file_at : List MemFile → List ℕ → Option (List ℕ)
file_at [] path = None
file_at (file ∷ files) path =
    if bytes_eq (string_bytes file.path) path then Some file.bytes.items else file_at files path

-- an opener in memory
pub record OpenerState : Type 0 where
  pub files : List MemFile
  -- the numbers of the reads that fail, counted from 1
  pub failing : List ℕ
  -- the reads so far
  pub calls : ℕ
  -- the faults so far
  pub faults : ℕ
