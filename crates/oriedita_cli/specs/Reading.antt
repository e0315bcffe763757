-- What is read before the first command is answered.
use Rattle.std.specs.Prelude.{◌≡◌, ⊤, ℕ, ◌<◌, ◌≤◌, ◌⊎◌, List, [], ◌++◌, Option, None, Some, IsSome, length}
use Rattle.oriedita_io.specs.Faults.{Rose}
use Rattle.script_lang.specs.declared.command.Command.{Command}
use Rattle.script_lang.specs.Script.{commands_of}
use Rattle.oriedita_cli.specs.declared.reading.Reading.{Reading}
use Rattle.oriedita_cli.specs.declared.reading.Reading.TheVariants.{Whole, Cut, Nothing, NoFile, Sample}
use Rattle.oriedita_cli.specs.declared.opening.Unread.{Unread}
use Rattle.oriedita_cli.specs.declared.opening.Unread.TheVariants.{Failed, TooLong}
use Rattle.oriedita_cli.specs.Clauses.{ToldFiles, IsFirst, IsTooLong, script_limit}
use Rattle.oriedita_cli.specs.WholeLines.{AreWholeLines}

-- The first commands, and behind them those of these bytes; or, where a fault ended the bytes, those of their whole lines;
-- or none, where there are too many bytes or memory was refused. The faults are those of the source before and now.
abbrev pub IsReadBehind : List Command → Reading → List ℕ → ℕ → ℕ → Type 0
IsReadBehind first (Whole commands) bytes faults faults' =
    (length bytes ≤ script_limit) × (commands ≡ first ++ commands_of bytes)
IsReadBehind first (Cut commands) bytes faults faults' =
    (length bytes ≤ script_limit) × Rose faults faults'
    × (script : List ℕ) × AreWholeLines script bytes × (commands ≡ first ++ commands_of script)
IsReadBehind first (Nothing status) bytes faults faults' =
    ((status ≡ 5) × (script_limit < length bytes)) ⊎ (status ≡ 6)
IsReadBehind first (NoFile fault) bytes faults faults' = ⊥
IsReadBehind first (Sample n) bytes faults faults' = ⊥

-- the file that is named was read, where one is, and then the script
pub record IsScript (file : ToldFiles) (path : Option (List ℕ)) (reading : Reading) (bytes : List ℕ)
    (faults faults' : ℕ) : Type 0 where
  pub first : List Command
  pub of_file : IsFirst file path first
  pub behind : IsReadBehind first reading bytes faults faults'

-- The file gave no command, so nothing of the script was read; the faults are the opener's.
pub record IsNoFile (file : ToldFiles) (path : Option (List ℕ)) (fault : Unread) (bytes : List ℕ)
    (faults faults' : ℕ) : Type 0 where
  pub named : IsSome path
  pub unread : bytes ≡ []
  pub failed : fault ≡ Failed → Rose faults faults'
  pub long : fault ≡ TooLong → IsTooLong file path

-- what was read, by the faults of the opener and of the source, before and now; for a sample nothing
abbrev pub IsReading : ToldFiles → Option ℕ → Option (List ℕ) → Reading → List ℕ → ℕ → ℕ → ℕ → ℕ → Type 0
IsReading file sample path (Sample n) bytes openings openings' faults faults' =
    (sample ≡ Some n) × (bytes ≡ [])
IsReading file sample path (NoFile fault) bytes openings openings' faults faults' =
    (sample ≡ None) × IsNoFile file path fault bytes openings openings'
IsReading file sample path reading bytes openings openings' faults faults' =
    (sample ≡ None) × IsScript file path reading bytes faults faults'

-- the script was read to its end
abbrev pub IsWhole : Reading → Type 0
IsWhole (Whole commands) = ⊤
IsWhole (Cut commands) = ⊥
IsWhole (Nothing status) = ⊥
IsWhole (NoFile fault) = ⊥
IsWhole (Sample n) = ⊥

-- nothing of the script was read: the file that is named could not be, or a sample is to be folded
abbrev pub IsUntouched : Reading → Type 0
IsUntouched (Whole commands) = ⊥
IsUntouched (Cut commands) = ⊥
IsUntouched (Nothing status) = ⊥
IsUntouched (NoFile fault) = ⊤
IsUntouched (Sample n) = ⊤
