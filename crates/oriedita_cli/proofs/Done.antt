-- What is written where commands are served in a session in which nothing has happened.
use Rattle.std.proofs.Common.{◌≡◌, ℕ, List, [], Option, length, take, sym, ap, subst, ◌∙◌}
use Rattle.std.proofs.Math.Seq.{take-append_seam}
use Rattle.std.specs.Prelude.{Result, Ok, Err, MatchResult}
use Rattle.std.specs.Io.KnownBytes.{Appends}
use Rattle.script_lang.specs.declared.command.Command.{Command}
use Rattle.job_register.specs.declared.session.Event.{Event}
use Rattle.job_register.specs.Text.{text_of}
use Rattle.oriedita_cli.specs.Serving.{Serves, StopsIn}

written_all : (old new : List Event) (t u : Option (List ℕ)) (commands : List Command) → old ≡ []
    → Serves old new t u commands → Appends t u (text_of new)
written_all old new t u commands fresh served =
    let first = subst (λ (es : List Event). Serves es new t u commands) fresh served in
    subst (λ xs. Appends t u xs) (sym first.text_is) first.written

written_front : (old new : List Event) (t u : Option (List ℕ)) (commands : List Command) → old ≡ []
    → StopsIn old new t u commands → (count : ℕ) × Appends t u (take count (text_of new))
written_front old new t u commands fresh stops =
    let first = subst (λ (es : List Event). StopsIn es new t u commands) fresh stops in (
      length first.text,
      subst (λ xs. Appends t u xs)
          (sym (ap (take (length first.text)) first.text_is ∙ take-append_seam first.text first.unwritten))
          first.written,
    )

-- all of the text, or its front
pub served_or_stopped : {A E : Type 0} (r : Result A E) (old new : List Event) (t u : Option (List ℕ))
    (commands : List Command) → old ≡ []
    → MatchResult r (λ _. Serves old new t u commands) (λ _. StopsIn old new t u commands)
    → MatchResult r (λ _. Appends t u (text_of new)) (λ _. (count : ℕ) × Appends t u (take count (text_of new)))
served_or_stopped (Ok x) old new t u commands fresh served = written_all old new t u commands fresh served
served_or_stopped (Err e) old new t u commands fresh stops = written_front old new t u commands fresh stops
