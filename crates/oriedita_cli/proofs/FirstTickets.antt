-- The first ticket for a task.
use Rattle.std.proofs.Common.{◌≡◌, ◌==◌, ◌&&◌, ℕ, true, false, inl, inr, List, [], ◌∷◌, Option, None, Some, refl}
use Rattle.std.specs.Prelude.{◌↔◌, IfSome}
use Rattle.std.specs.List.{list_any}
use Rattle.std.proofs.lemmas.Bool.{cases_Bool, and_parts, eqb-true}
use Rattle.oriedita_cli.specs.declared.tickets.HeldTicket.{HeldTicket}
use Rattle.oriedita_cli.specs.Tickets.{IsListed, is_for, first_number}

job_of : (job piece budget : ℕ) (t : HeldTicket) → is_for job piece budget t ≡ true → t.job ≡ job
job_of job piece budget t own =
    eqb-true t.job job (and_parts (t.job == job) (t.piece == piece)
    (and_parts (t.job == job && t.piece == piece) (t.budget == budget) own).0).0

later : (o : Option ℕ) (job : ℕ) (t : HeldTicket) (ts : List HeldTicket) → IfSome o (λ number. IsListed number job ts)
    → IfSome o (λ number. IsListed number job (t ∷ ts))
later None job t ts listed = tt
later (Some number) job t ts listed = inr listed

pub first_listed : (job piece budget : ℕ) (ts : List HeldTicket)
    → IfSome (first_number job piece budget ts) (λ number. IsListed number job ts)
first_listed job piece budget [] = tt
first_listed job piece budget (t ∷ ts) = elim (cases_Bool (is_for job piece budget t)) [
  | inl own ↦ rw own (inl (refl, job_of job piece budget t own))
  | inr other ↦ rw other
      (later (first_number job piece budget ts) job t ts (first_listed job piece budget ts))
]

pub first_none : (job piece budget : ℕ) (ts : List HeldTicket)
    → (first_number job piece budget ts ≡ None) ↔ (list_any (is_for job piece budget) ts ≡ false)
first_none job piece budget [] = (λ _. refl, λ _. refl)
first_none job piece budget (t ∷ ts) = elim (cases_Bool (is_for job piece budget t)) [
  | inl own ↦ rw own (λ e. absurd (cc), λ e. absurd (cc))
  | inr other ↦ rw other (first_none job piece budget ts)
]
