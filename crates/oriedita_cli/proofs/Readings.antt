-- What was read is the input of a run that answered it.
use Rattle.std.proofs.Common.{◌≡◌, ◌≢◌, ℕ, ◌<◌, ◌≤◌, ◌⊎◌, ⊎_elim, ◌∙◌, Bool, true, false, List, [], Option, None, Some, inl, inr, refl, sym, subst, arith, rules, String, string_bytes, option_map}
use Rattle.std.specs.Prelude.{nat_lt, if◌then◌else◌, IsSome}
use Rattle.std.proofs.lemmas.Bool.{cases_Bool}
use Rattle.std.proofs.KnownBytes.{Consumes-nil}
use Rattle.oriedita_io.specs.Faults.{Rose}
use Rattle.script_lang.specs.declared.command.Command.{Command}
use Rattle.job_register.specs.declared.session.Event.{Event}
use Rattle.oriedita_cli.specs.declared.reading.Reading.TheVariants.{Whole, Cut, Nothing}
use Rattle.oriedita_cli.specs.declared.opening.Unread.{Unread}
use Rattle.oriedita_cli.specs.declared.opening.Unread.TheVariants.{Failed, TooLong}
use Rattle.oriedita_cli.specs.Clauses.{AnswersInput, AreAnswered, IsRead, IsRun, IsStatus, IsUnread, ended_status, faults_of}
use Rattle.oriedita_cli.specs.Samples.{EndsLast, IsSampled}
use Rattle.oriedita_cli.specs.declared.errands.Errand.{Errand}
use Rattle.oriedita_cli.specs.declared.errands.Errand.TheVariants.{Script, Sample}
use Rattle.oriedita_cli.specs.Errands.{IsDone}
use Rattle.oriedita_cli.specs.Reading.{IsScript, IsNoFile}
use Rattle.oriedita_cli.specs.Starting.{cut_status}
use Rattle.oriedita_cli.proofs.Inputs.{all_read, lines_read}
use Rattle.oriedita_cli.proofs.Outputs.{ended_below}
use Rattle.oriedita_cli.proofs.Sampling.{sampled_none}
use Rattle.oriedita_cli.proofs.Unanswered.{ended_early, none_answered, nothing_read}

pub whole_is_read : (file : List ℕ → Option (List ℕ)) (path : Option (List ℕ)) (commands : List Command)
    (status : ℕ) (events : List Event) (bytes : List ℕ) (faults faults' : ℕ)
    → IsScript file path (Whole commands) bytes faults faults' → AreAnswered status events commands
    → (status ≡ ended_status events) ⊎ ((status ≡ 4) ⊎ (status ≡ 6))
    → IsRead file path status events bytes faults faults'
whole_is_read file path commands status events bytes faults faults' read answered ended = record {
  first = read.first;
  of_file = read.of_file;
  input = all_read status events read.first bytes faults faults' (λ long. omega (arith, long, read.behind.0))
      (subst (λ (cs : List Command). AreAnswered status events cs) read.behind.1 answered) ended;
}

cut_answered : (b : Bool) (status : ℕ) (events : List Event) (commands : List Command)
    → nat_lt status 2 ≡ b → AreAnswered status events commands
    → AreAnswered (if b then 3 else status) events commands
cut_answered true status events commands below answered = record {
  all = λ _. answered.all (inl (search rules));
  front = answered.front;
}
cut_answered false status events commands below answered = answered

cut_ended : (b : Bool) (status : ℕ) (events : List Event) → nat_lt status 2 ≡ b
    → (status ≡ ended_status events) ⊎ ((status ≡ 4) ⊎ (status ≡ 6))
    → ((if b then 3 else status) ≡ 3) ⊎ (((if b then 3 else status) ≡ 4) ⊎ ((if b then 3 else status) ≡ 6))
cut_ended true status events below ended = inl refl
cut_ended false status events below (inr late) = inr late
cut_ended false status events below (inl is) =
    let low = ended_below events in absurd (search rules)

pub cut_is_read : (file : List ℕ → Option (List ℕ)) (path : Option (List ℕ)) (commands : List Command)
    (status status' : ℕ) (events events' : List Event) (bytes : List ℕ) (faults faults' : ℕ)
    → IsScript file path (Cut commands) bytes faults faults' → AreAnswered status events commands
    → (status ≡ ended_status events) ⊎ ((status ≡ 4) ⊎ (status ≡ 6))
    → events' ≡ events → status' ≡ cut_status status
    → IsRead file path status' events' bytes faults faults'
cut_is_read file path commands status status' events events' bytes faults faults' read answered ended same is =
    let whole = read.behind.0 in
    let script = read.behind.2 in
    subst (λ (es : List Event). IsRead file path status' es bytes faults faults') (sym same)
    (subst (λ (n : ℕ). IsRead file path n events bytes faults faults') (sym is) (record {
      first = read.first;
      of_file = read.of_file;
      input = lines_read (cut_status status) events read.first bytes script faults faults'
          (λ long. omega (arith, long, whole)) read.behind.1 read.behind.3
          (cut_answered (nat_lt status 2) status events _ refl
          (subst (λ (cs : List Command). AreAnswered status events cs) read.behind.4 answered))
          (cut_ended (nat_lt status 2) status events refl ended);
    }))

-- a script that was cut turns 0 and 1 into 3, and no other status
cut_cases : (status : ℕ) → ((cut_status status ≡ 3) × (status < 2)) ⊎ ((cut_status status ≡ status) × (2 ≤ status))
cut_cases status = elim (cases_Bool (nat_lt status 2)) [
  | inl below ↦ inl (rw below refl, search rules)
  | inr above ↦ inr (rw above refl, search rules)
]

pub cut_late : (status : ℕ) → cut_status status < 2 → ⊥
cut_late status low =
    ⊎_elim (λ three. omega (arith, low, three.0)) (λ same. omega (arith, low, same.0, same.1)) (cut_cases status)

end_bound : (status : ℕ) (events : List Event) → (status ≡ ended_status events) ⊎ ((status ≡ 4) ⊎ (status ≡ 6))
    → status ≤ 6
end_bound status events ended =
    let low = ended_below events in
    ⊎_elim (λ e. omega (arith, e, low)) (λ late. ⊎_elim (λ e. omega (arith, e)) (λ e. omega (arith, e)) late) ended

-- the status of a run whose script was cut, by that of the errand
pub cut_is_status : (told status : ℕ) (events events' : List Event) (path : Option (List ℕ))
    (script script' files files' out between out' : ℕ) → status ≡ cut_status told
    → (told ≡ ended_status events) ⊎ ((told ≡ 4) ⊎ (told ≡ 6))
    → (status < 2 → (script' ≡ script) × (files' ≡ files))
    → (status ≡ 3 → Rose script script' ⊎ (IsSome path × Rose files files'))
    → (script ≤ script') × (files ≤ files') → between ≡ out → (told ≡ 4 → Rose between out')
    → (told ≢ 4 → out' ≡ between) → between ≤ out'
    → IsStatus status events' path (faults_of script files out) (faults_of script' files' out')
cut_is_status told status events events' path script script' files files' out between out' is ended read unread rise untouched failed written rises =
    let rise' : out ≤ out' = subst (λ n. n ≤ out') untouched rises in
    ⊎_elim (λ three.
    let e : status ≡ 3 = is ∙ three.0 in
    record {
      bound = omega (arith, e);
      ended = λ low. absurd (omega (arith, low, e));
      read = read;
      unread = unread;
      unwritten = λ four. absurd (omega (arith, four, e));
      written = λ _. written (λ four. omega (arith, four, three.1)) ∙ untouched;
      rise = (rise.0, rise.1, rise');
    })
    (λ same.
    let e : status ≡ told = is ∙ same.0 in
    let most = end_bound told events ended in
    record {
      bound = omega (arith, e, most);
      ended = λ low. absurd (omega (arith, low, e, same.1));
      read = read;
      unread = unread;
      unwritten = λ four. subst (λ n. Rose n out') untouched (failed (sym e ∙ four));
      written = λ other. written (λ four. other (e ∙ four)) ∙ untouched;
      rise = (rise.0, rise.1, rise');
    }) (cut_cases told)

pub nothing_is_read : (file : List ℕ → Option (List ℕ)) (path : Option (List ℕ)) (told : ℕ)
    (status : ℕ) (events : List Event) (bytes : List ℕ) (faults faults' : ℕ)
    → IsScript file path (Nothing told) bytes faults faults' → status ≡ told → events ≡ []
    → IsRead file path status events bytes faults faults'
nothing_is_read file path told status events bytes faults faults' read is none = record {
  first = read.first;
  of_file = read.of_file;
  input = nothing_read status told events read.first bytes faults faults' is none read.behind;
}

pub no_file_is_unread : (file : List ℕ → Option (List ℕ)) (path : Option (List ℕ)) (fault : Unread)
    (status : ℕ) (events : List Event) (bytes : List ℕ) (faults faults' : ℕ)
    → IsNoFile file path fault bytes faults faults' → events ≡ [] → 3 ≤ status
    → (status ≡ 3 → fault ≡ Failed) → (status ≡ 5 → fault ≡ TooLong)
    → IsUnread file path status events bytes faults faults'
no_file_is_unread file path fault status events bytes faults faults' unread none late failed long = record {
  none = none;
  unread = unread.unread;
  late = omega (arith, late);
  failed = λ three. unread.failed (failed three);
  long = λ five. unread.long (long five);
}

-- without a sample the script was read, or nothing
pub script_is_run : (file : List ℕ → Option (List ℕ)) (sample : Option ℕ) (path : Option (List ℕ)) (status : ℕ)
    (events : List Event) (bytes : List ℕ) (openings openings' faults faults' : ℕ) → sample ≡ None
    → IsUnread file path status events bytes openings openings' ⊎ IsRead file path status events bytes faults faults'
    → IsRun file sample path status events bytes openings openings' faults faults'
script_is_run file sample path status events bytes openings openings' faults faults' none run =
    subst (λ s. IsRun file s path status events bytes openings openings' faults faults') (sym none) run

pub sample_is_run : (file : List ℕ → Option (List ℕ)) (sample : Option ℕ) (n : ℕ) (path : Option (List ℕ))
    (status : ℕ) (events : List Event) (bytes : List ℕ) (openings openings' faults faults' : ℕ) → sample ≡ Some n
    → bytes ≡ [] → IsSampled status n events
    → IsRun file sample path status events bytes openings openings' faults faults'
sample_is_run file sample n path status events bytes openings openings' faults faults' is none sampled =
    subst (λ s. IsRun file s path status events bytes openings openings' faults faults') (sym is) (none, sampled)

-- where memory was refused no command is answered
pub undone : (errand : Errand) (status : ℕ) (events : List Event) → events ≡ [] → status ≡ 6
    → IsDone errand status events
undone (Script commands) status events none six =
    none_answered status events commands (omega (arith, six)) (λ three. omega (arith, three, six)) none
undone (Sample n) status events none six = record {
  commands = sampled_none n events none;
  last = subst EndsLast (sym none) tt;
  ended = λ low. absurd (omega (arith, low, six));
  unread = inr (inr six);
}

-- and nothing is read
pub unrun : (file : List ℕ → Option (List ℕ)) (sample : Option ℕ) (path : Option (List ℕ)) (status : ℕ)
    (events : List Event) (openings openings' faults faults' : ℕ) → events ≡ [] → status ≡ 6
    → IsRun file sample path status events [] openings openings' faults faults'
unrun file None path status events openings openings' faults faults' none six =
    inl (ended_early file path status events openings openings' none (omega (arith, six))
    (λ three. omega (arith, three, six)) (λ five. omega (arith, five, six)))
unrun file (Some n) path status events openings openings' faults faults' none six =
    (refl, undone (Sample n) status events none six)

-- where no path is told there is none
pub unnamed : {Z : Type 0} (path : Option (String Z)) → option_map string_bytes path ≡ None → path ≡ None
unnamed None none = refl
unnamed (Some p) none = absurd (cc)

-- no sample is named
pub sampled_not : (sample : Option ℕ) → sample ≡ None → IsSome sample → ⊥
sampled_not None none some = cc
sampled_not (Some n) none some = absurd (cc)

-- and so nothing is taken of the source and the opener
pub nothing_answered : {S O : Type 0} (file : List ℕ → Option (List ℕ)) (sample : Option ℕ) (path : Option (List ℕ))
    (status : ℕ) (events : List Event) (script : S) (files : O) (left : Option (List ℕ)) (openings faults : ℕ)
    → 2 ≤ status → IsRun file sample path status events [] openings openings faults faults
    → AnswersInput file sample path status events script script files files left left openings openings faults faults
nothing_answered file sample path status events script files left openings faults late run = record {
  bytes = [];
  lost = Consumes-nil left;
  run = run;
  to_its_end = λ _ low. absurd (omega (arith, low, late));
  unread = λ _. refl;
  unopened = λ _. refl;
}
