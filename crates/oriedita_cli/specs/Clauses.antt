-- The clauses of the top call, by its exit status.
use Rattle.std.specs.Prelude.{◌≡◌, ℕ, ◌+◌, ◌<◌, ◌≤◌, ◌⊎◌, Bool, true, List, [], ◌∷◌, ◌++◌, Option, None, Some, IsSome, length, if◌then◌else◌}
use Rattle.std.specs.Io.KnownBytes.{Appends, Consumes, IsAtEnd, Keeps}
use Rattle.oriedita_io.specs.Faults.{Rose}
use Rattle.oriedita_io.specs.Told.{ReadsUpTo, Tells}
use Rattle.script_lang.specs.declared.command.Command.{Command}
use Rattle.script_lang.specs.Script.{commands_of, file_command}
use Rattle.job_register.specs.declared.session.Event.{Event}
use Rattle.job_register.specs.Legal.{commands_in, has_refusal}
use Rattle.job_register.specs.Text.{text_of}
use Rattle.oriedita_cli.specs.WholeLines.{AreWholeLines}
use Rattle.oriedita_cli.specs.Samples.{IsSampled, sample_text}

-- the most bytes that a script has, and a file
abbrev pub script_limit : ℕ
script_limit = 4194304

-- one list begins with another
abbrev pub IsFront : {A : Type 0} → List A → List A → Type 0
IsFront {A} front whole = (rest : List A) × (whole ≡ front ++ rest)

-- A record of these commands: all of them at 0, 1 and 3, else the first few.
pub record AreAnswered (status : ℕ) (events : List Event) (commands : List Command) : Type 0 where
  pub all : (status < 2) ⊎ (status ≡ 3) → commands_in events ≡ commands
  pub front : IsFront (commands_in events) commands

-- The input clause for a script, for the commands that come first, the bytes that the source of the script lost, and its
-- faults before and now.
pub record IsInput (status : ℕ) (events : List Event) (first : List Command) (bytes : List ℕ)
    (faults faults' : ℕ) : Type 0 where
  -- the script that counts: all the bytes, or, where a read fault ended them, their whole lines
  pub script : List ℕ
  pub counts : (script ≡ bytes) ⊎ (Rose faults faults' × AreWholeLines script bytes)
  -- it is the former at 0 and 1, and the latter at 3
  pub whole : status < 2 → script ≡ bytes
  pub cut : status ≡ 3 → AreWholeLines script bytes
  -- the commands of the record are the first ones and those of the script, in order: all of them at 0, 1 and 3, else the
  -- first few
  pub commands : AreAnswered status events (first ++ commands_of script)
  -- none at 2 and 5
  pub none : (status ≡ 2) ⊎ (status ≡ 5) → events ≡ []
  -- 5 is answered only to too long a script, and to such a script nothing else is, unless memory is refused
  pub long : status ≡ 5 → script_limit < length bytes
  pub too_long : script_limit < length bytes → (status ≡ 5) ⊎ (status ≡ 6)

-- what an opener tells of files: the bytes of the one at a path
abbrev pub ToldFiles : Type 0
ToldFiles = List ℕ → Option (List ℕ)

-- the command of the file at a path, by what the opener tells of files; no more bytes were read of it than a file may have
pub record IsFileLoad (file : ToldFiles) (path : List ℕ) (first : List Command) : Type 0 where
  pub bytes : List ℕ
  pub read : ReadsUpTo (file path) (script_limit + 1) bytes
  pub fits : length bytes ≤ script_limit
  pub command : first ≡ file_command bytes ∷ []

-- what runs before the script: nothing, or the command of the file that is named
abbrev pub IsFirst : ToldFiles → Option (List ℕ) → List Command → Type 0
IsFirst file None first = first ≡ []
IsFirst file (Some path) first = IsFileLoad file path first

-- more bytes were read of the file that is named than a file may have
pub record IsTooLong (file : ToldFiles) (path : Option (List ℕ)) : Type 0 where
  pub named : List ℕ
  pub is_named : path ≡ Some named
  pub bytes : List ℕ
  pub read : ReadsUpTo (file named) (script_limit + 1) bytes
  pub long : script_limit < length bytes

-- No script was read, and nothing was run: the words are refused, or the file could not be read (and then perhaps the
-- output not be finished), or more bytes of it were read than a file may have, or memory was refused. The faults are those
-- of the opener, before and now.
pub record IsUnread (file : ToldFiles) (path : Option (List ℕ)) (status : ℕ) (events : List Event)
    (bytes : List ℕ) (faults faults' : ℕ) : Type 0 where
  pub none : events ≡ []
  pub unread : bytes ≡ []
  pub late : 2 ≤ status
  pub failed : status ≡ 3 → Rose faults faults'
  pub long : status ≡ 5 → IsTooLong file path

-- The script was read, behind the file where one is named.
pub record IsRead (file : ToldFiles) (path : Option (List ℕ)) (status : ℕ) (events : List Event)
    (bytes : List ℕ) (faults faults' : ℕ) : Type 0 where
  pub first : List Command
  pub of_file : IsFirst file path first
  pub input : IsInput status events first bytes faults faults'

-- The input clause, for what was read: for a sample nothing. The faults are those of the opener and of the script's source,
-- before and now.
abbrev pub IsRun : ToldFiles → Option ℕ → Option (List ℕ) → ℕ → List Event → List ℕ → ℕ → ℕ → ℕ → ℕ → Type 0
IsRun file (Some n) path status events bytes openings openings' faults faults' =
    (bytes ≡ []) × IsSampled status n events
IsRun file None path status events bytes openings openings' faults faults' =
    IsUnread file path status events bytes openings openings'
    ⊎ IsRead file path status events bytes faults faults'

-- what a run writes: the text of its record, or the line of a sample
abbrev pub written_text : Option ℕ → List Event → List ℕ
written_text None events = text_of events
written_text (Some n) events = sample_text n events

-- The output clause, for the text of a record and the bytes that the sink took.
pub record IsOutput (status : ℕ) (text : List ℕ) (taken taken' : Option (List ℕ))
    (finished' : Option Bool) : Type 0 where
  -- at 0, 1 and 3 the whole text is written, and the sink is finished
  pub whole : (status < 2) ⊎ (status ≡ 3) → Appends taken taken' text
  pub finished : (status < 2) ⊎ (status ≡ 3) → Tells finished' true
  -- the front of the text is written in any case
  pub front : (written : List ℕ) × IsFront written text × Appends taken taken' written
  -- and nothing at 2 and 5
  pub none : (status ≡ 2) ⊎ (status ≡ 5) → Keeps taken taken'

-- The statuses of a run that came to its end: 0 where no reply is a refusal, and 1 where one is.
abbrev pub ended_status : List Event → ℕ
ended_status events = if has_refusal events then 1 else 0

-- ---- what a run read, and how it ended

-- The input clause: what a run took from the source of the script and from the opener, and what it answered to it. Both are
-- before and after it, and so are their faults.
pub record AnswersInput {S O : Type 0} (file : ToldFiles) (sample : Option ℕ) (path : Option (List ℕ))
    (status : ℕ) (events : List Event) (script script' : S) (files files' : O) (left left' : Option (List ℕ))
    (openings openings' faults faults' : ℕ) : Type 0 where
  -- the source lost these bytes, and the commands are those of the input
  pub bytes : List ℕ
  pub lost : Consumes left left' bytes
  pub run : IsRun file sample path status events bytes openings openings' faults faults'
  -- a script that is answered to its end was read to its end
  pub to_its_end : sample ≡ None → status < 2 → IsAtEnd left'
  -- for a sample nothing is read, and where no file is named none is opened
  pub unread : IsSome sample → script' ≡ script
  pub unopened : (IsSome sample) ⊎ (path ≡ None) → files' ≡ files

-- the faults so far, of the source of the script, of the opener and of the sink
pub record Faults : Type 0 where
  pub script : ℕ
  pub files : ℕ
  pub out : ℕ

abbrev pub faults_of : ℕ → ℕ → ℕ → Faults
faults_of script files out = record { script = script; files = files; out = out }

-- The status clause: the exit status by its causes, which are the faults that came, and the file that is named.
pub record IsStatus (status : ℕ) (events : List Event) (path : Option (List ℕ)) (before now : Faults)
    : Type 0 where
  pub bound : status ≤ 6
  -- 0 and 1 come where no read failed: 1 where some reply is a refusal
  pub ended : status < 2 → status ≡ ended_status events
  pub read : status < 2 → (now.script ≡ before.script) × (now.files ≡ before.files)
  -- 3 comes only where a read of the script failed, or the file that is named could not be read
  pub unread : status ≡ 3 → Rose before.script now.script ⊎ (IsSome path × Rose before.files now.files)
  -- 4 comes exactly where a write failed, or the end of the output
  pub unwritten : status ≡ 4 → Rose before.out now.out
  pub written : (status ≡ 4 → ⊥) → now.out ≡ before.out
  -- no count falls
  pub rise : (before.script ≤ now.script) × (before.files ≤ now.files) × (before.out ≤ now.out)
