-- A run that answered nothing.
use Rattle.std.proofs.Common.{◌≡◌, ◌≢◌, ℕ, ◌<◌, ◌≤◌, ◌⊎◌, List, [], ◌++◌, length, inl, inr, ⊎_elim, refl, sym, subst, arith, Option, None, Some, IsSomeAnd, option_map, option_and_then, string_bytes}
use Rattle.script_lang.specs.declared.command.Command.{Command}
use Rattle.job_register.specs.declared.session.Event.{Event}
use Rattle.script_lang.specs.Script.{commands_of}
use Rattle.program_words.specs.declared.options.Options.{Options}
use Rattle.program_words.specs.ProgramWords.{Said, Says}
use Rattle.oriedita_cli.specs.Clauses.{AreAnswered, IsInput, IsUnread, script_limit}

pub none_answered : (status : ℕ) (events : List Event) (commands : List Command) → 2 ≤ status → status ≢ 3
    → events ≡ [] → AreAnswered status events commands
none_answered status events commands late unfailed none =
    subst (λ es. AreAnswered status es commands) (sym none) (record {
      all = λ when. absurd (⊎_elim (λ early. omega (arith, early, late)) unfailed when);
      front = (commands, refl);
    })

pub none_read : (status : ℕ) (events : List Event) (first : List Command) (bytes : List ℕ) (faults faults' : ℕ)
    → 2 ≤ status
    → status ≢ 3 → events ≡ [] → (status ≡ 5 → script_limit < length bytes)
    → (script_limit < length bytes → (status ≡ 5) ⊎ (status ≡ 6)) → IsInput status events first bytes faults faults'
none_read status events first bytes faults faults' late unfailed none long too_long = record {
  script = bytes;
  counts = inl refl;
  whole = λ _. refl;
  cut = λ failed. absurd (unfailed failed);
  commands = none_answered status events (first ++ commands_of bytes) late unfailed none;
  none = λ _. none;
  long = long;
  too_long = too_long;
}

pub nothing_read : (status told : ℕ) (events : List Event) (first : List Command) (bytes : List ℕ) (faults faults' : ℕ) → status ≡ told
    → events ≡ [] → ((told ≡ 5) × (script_limit < length bytes)) ⊎ (told ≡ 6)
    → IsInput status events first bytes faults faults'
nothing_read status told events first bytes faults faults' is none cause =
    none_read status events first bytes faults faults'
    (⊎_elim (λ five. omega (arith, five.0, is)) (λ six. omega (arith, six, is)) cause)
    (λ three. ⊎_elim (λ five. omega (arith, five.0, is, three)) (λ six. omega (arith, six, is, three)) cause)
    none
    (λ long. ⊎_elim (λ five. five.1) (λ six. absurd (omega (arith, six, is, long))) cause)
    (λ _. ⊎_elim (λ five. inl (omega (arith, five.0, is))) (λ six. inr (omega (arith, six, is))) cause)

-- the words are refused, the file was not read, or memory was refused before the script was read
pub ended_early : (file : List ℕ → Option (List ℕ)) (path : Option (List ℕ)) (status : ℕ) (events : List Event)
    (faults faults' : ℕ) → events ≡ [] → 2 ≤ status → status ≢ 3 → status ≢ 5
    → IsUnread file path status events [] faults faults'
ended_early file path status events faults faults' none late unfailed short = record {
  none = none;
  unread = refl;
  late = late;
  failed = λ failed. absurd (unfailed failed);
  long = λ long. absurd (short long);
}

-- the file that the words name is that of the options
pub named : (o : Options) (said : Option Said) → IsSomeAnd said (Says o)
    → option_map string_bytes o.cp ≡ option_and_then (λ s. s.cp) said
named o None says = absurd says
named o (Some s) says = says.0

-- and so is the sample
pub sampled : (o : Options) (said : Option Said) → IsSomeAnd said (Says o)
    → o.sample ≡ option_and_then (λ s. s.sample) said
sampled o None says = absurd says
sampled o (Some s) says = says.2
