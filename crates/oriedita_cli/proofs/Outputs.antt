-- The output of a run that came to its end.
use Rattle.std.proofs.Common.{◌≡◌, ℕ, ◌<◌, ◌⊎◌, Bool, true, List, [], Option, None, take, drop, inl, inr, ⊎_elim, refl, sym, ap, subst, arith}
use Rattle.std.proofs.lemmas.Bool.{cases_Bool}
use Rattle.std.proofs.lemmas.List.{append-nil, take-append-drop}
use Rattle.std.specs.Io.KnownBytes.{Appends, Keeps}
use Rattle.std.proofs.KnownBytes.{Appends-nil, Appends-kept, Keeps-refl}
use Rattle.oriedita_io.specs.Told.{Tells}
use Rattle.job_register.specs.declared.session.Event.{Event}
use Rattle.job_register.specs.Legal.{has_refusal}
use Rattle.job_register.specs.Text.{text_of}
use Rattle.oriedita_cli.specs.Clauses.{IsOutput, ended_status, written_text}

pub ended_below : (es : List Event) → ended_status es < 2
ended_below es = elim (cases_Bool (has_refusal es)) [
  | inl some ↦ rw some (omega arith)
  | inr none ↦ rw none (omega arith)
]

pub finished_output : (status : ℕ) (es : List Event) (text : List ℕ) (a t b : Option (List ℕ)) (ended_well : Option Bool)
    → Appends a t text → Keeps t b → (status ≡ ended_status es) ⊎ (status ≡ 4) → (status < 2 → Tells ended_well true)
    → IsOutput status text a b ended_well
finished_output status es text a t b ended_well written kept ended finished =
    let all : Appends a b text = Appends-kept a t b text written kept in
    let low = ended_below es in
    let early : (status ≡ 3) → ⊥ = λ three. ⊎_elim (λ e. omega (arith, e, low, three))
    (λ four. omega (arith, four, three)) ended in
    record {
      whole = λ _. all;
      finished = λ when. ⊎_elim (λ below. finished below) (λ three. absurd (early three)) when;
      front = (text, ([], sym (append-nil text)), all);
      none = λ when. absurd (⊎_elim
          (λ two. ⊎_elim (λ e. omega (arith, e, low, two)) (λ four. omega (arith, four, two)) ended)
          (λ five. ⊎_elim (λ e. omega (arith, e, low, five)) (λ four. omega (arith, four, five)) ended) when);
    }

-- a run that stopped wrote the front of its text
pub stopped_output : (status : ℕ) (text : List ℕ) (count : ℕ) (a b : Option (List ℕ)) (ended_well : Option Bool)
    → (status ≡ 4) ⊎ (status ≡ 6) → Appends a b (take count text) → IsOutput status text a b ended_well
stopped_output status text count a b ended_well ended written =
    let late : (status ≡ 4) ⊎ (status ≡ 6) → (status < 2) ⊎ (status ≡ 3) → ⊥ =
    λ is when. ⊎_elim (λ four. ⊎_elim (λ low. omega (arith, four, low)) (λ three. omega (arith, four, three)) when)
    (λ six. ⊎_elim (λ low. omega (arith, six, low)) (λ three. omega (arith, six, three)) when) is in
    record {
      whole = λ when. absurd (late ended when);
      finished = λ when. absurd (late ended when);
      front = (take count text, (drop count text, sym (take-append-drop count text)), written);
      none = λ when. absurd (⊎_elim
          (λ two. ⊎_elim (λ four. omega (arith, four, two)) (λ six. omega (arith, six, two)) ended)
          (λ five. ⊎_elim (λ four. omega (arith, four, five)) (λ six. omega (arith, six, five)) ended) when);
    }

-- nothing was run, and nothing written
pub nothing_written : (status : ℕ) (es : List Event) (a b : Option (List ℕ)) (ended_well : Option Bool) → es ≡ []
    → Keeps a b → ((status < 2) ⊎ (status ≡ 3) → Tells ended_well true) → IsOutput status (text_of es) a b ended_well
nothing_written status es a b ended_well none kept finished =
    let all : Appends a b (text_of es) =
    subst (λ (xs : List ℕ). Appends a b xs) (sym (ap text_of none)) (Appends-kept a a b [] (Appends-nil a) kept) in
    record {
      whole = λ _. all;
      finished = finished;
      front = (text_of es, ([], sym (append-nil (text_of es))), all);
      none = λ _. kept;
    }

-- a run that ended before anything was written, and was not to write all
pub unwritten_output : (status : ℕ) (text : List ℕ) (a : Option (List ℕ)) (ended_well : Option Bool)
    → ((status < 2) ⊎ (status ≡ 3) → ⊥) → IsOutput status text a a ended_well
unwritten_output status text a ended_well early = record {
  whole = λ when. absurd (early when);
  finished = λ when. absurd (early when);
  front = ([], (text, refl), Appends-nil a);
  none = λ _. Keeps-refl a;
}

-- a run that only read, and was refused memory or too long a script, writes nothing
pub unanswered_output : (status told : ℕ) (text : List ℕ) (a : Option (List ℕ)) (ended_well : Option Bool) {P : Type 0}
    → status ≡ told → ((told ≡ 5) × P) ⊎ (told ≡ 6) → IsOutput status text a a ended_well
unanswered_output status told text a ended_well is cause =
    unwritten_output status text a ended_well (λ when. ⊎_elim
    (λ low. ⊎_elim (λ five. omega (arith, low, is, five.0)) (λ six. omega (arith, low, is, six)) cause)
    (λ three. ⊎_elim (λ five. omega (arith, three, is, five.0)) (λ six. omega (arith, three, is, six)) cause) when)

-- a run that read nothing, for its words or for memory, writes nothing
pub refused_output : (status told : ℕ) (text : List ℕ) (a : Option (List ℕ)) (ended_well : Option Bool)
    → status ≡ told → (told ≡ 2) ⊎ (told ≡ 6) → IsOutput status text a a ended_well
refused_output status told text a ended_well is cause =
    unwritten_output status text a ended_well (λ when. ⊎_elim
    (λ low. ⊎_elim (λ two. omega (arith, low, is, two)) (λ six. omega (arith, low, is, six)) cause)
    (λ three. ⊎_elim (λ two. omega (arith, three, is, two)) (λ six. omega (arith, three, is, six)) cause) when)

-- without a sample the text of the record is written
pub script_output : (sample : Option ℕ) (status : ℕ) (es : List Event) (a b : Option (List ℕ)) (ended_well : Option Bool)
    → sample ≡ None → IsOutput status (text_of es) a b ended_well → IsOutput status (written_text sample es) a b ended_well
script_output sample status es a b ended_well none output =
    subst (λ s. IsOutput status (written_text s es) a b ended_well) (sym none) output
