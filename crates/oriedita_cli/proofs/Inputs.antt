-- The input of a run that was not too long, by how the reading ended.
use Rattle.std.proofs.Common.{◌≡◌, ◌≢◌, ℕ, ◌<◌, ◌≤◌, ◌⊎◌, List, ◌++◌, length, inl, inr, ⊎_elim, refl, arith}
use Rattle.oriedita_io.specs.Faults.{Rose}
use Rattle.script_lang.specs.declared.command.Command.{Command}
use Rattle.script_lang.specs.Script.{commands_of}
use Rattle.job_register.specs.declared.session.Event.{Event}
use Rattle.oriedita_cli.specs.Clauses.{AreAnswered, IsInput, ended_status, script_limit}
use Rattle.oriedita_cli.specs.WholeLines.{AreWholeLines}
use Rattle.oriedita_cli.proofs.Outputs.{ended_below}

-- the end of the bytes was read
pub all_read : (status : ℕ) (events : List Event) (first : List Command) (bytes : List ℕ) (faults faults' : ℕ)
    → (script_limit < length bytes → ⊥) → AreAnswered status events (first ++ commands_of bytes)
    → (status ≡ ended_status events) ⊎ ((status ≡ 4) ⊎ (status ≡ 6)) → IsInput status events first bytes faults faults'
all_read status events first bytes faults faults' short answered ended =
    let low = ended_below events in
    let apart : (other : ℕ) → 2 ≤ other → other ≢ 4 → other ≢ 6 → status ≡ other → ⊥ =
    λ other late four six is. ⊎_elim (λ e. omega (arith, e, low, late, is))
    (λ more. ⊎_elim (λ e. four (omega (arith, e, is))) (λ e. six (omega (arith, e, is))) more) ended in
    let two : status ≢ 2 = apart 2 (omega arith) (λ e. omega (arith, e)) (λ e. omega (arith, e)) in
    let three : status ≢ 3 = apart 3 (omega arith) (λ e. omega (arith, e)) (λ e. omega (arith, e)) in
    let five : status ≢ 5 = apart 5 (omega arith) (λ e. omega (arith, e)) (λ e. omega (arith, e)) in
    record {
      script = bytes;
      counts = inl refl;
      whole = λ _. refl;
      cut = λ is. absurd (three is);
      commands = answered;
      none = λ when. absurd (⊎_elim two five when);
      long = λ is. absurd (five is);
      too_long = λ long. absurd (short long);
    }

-- a read failed before the end
pub lines_read : (status : ℕ) (events : List Event) (first : List Command) (bytes script : List ℕ)
    (faults faults' : ℕ)
    → (script_limit < length bytes → ⊥) → Rose faults faults' → AreWholeLines script bytes
    → AreAnswered status events (first ++ commands_of script) → (status ≡ 3) ⊎ ((status ≡ 4) ⊎ (status ≡ 6))
    → IsInput status events first bytes faults faults'
lines_read status events first bytes script faults faults' short rose lines answered ended =
    let late : 3 ≤ status = ⊎_elim (λ e. omega (arith, e))
    (λ more. ⊎_elim (λ e. omega (arith, e)) (λ e. omega (arith, e)) more) ended in
    let five : status ≢ 5 = λ is. ⊎_elim (λ e. omega (arith, e, is))
    (λ more. ⊎_elim (λ e. omega (arith, e, is)) (λ e. omega (arith, e, is)) more) ended in
    record {
      script = script;
      counts = inr (rose, lines);
      whole = λ early. absurd (omega (arith, early, late));
      cut = λ _. lines;
      commands = answered;
      none = λ when. absurd (⊎_elim (λ e. omega (arith, e, late)) five when);
      long = λ is. absurd (five is);
      too_long = λ long. absurd (short long);
    }
