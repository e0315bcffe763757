-- With each outcome that is posted less is waited for.
use Rattle.std.proofs.Common.{◌≡◌, ℕ, ◌+◌, ◌≤◌, ◌<◌, inl, inr, List, length, Option, Some, refl, ap, subst, arith}
use Rattle.std.specs.Prelude.{IfSome}
use Rattle.worker_split.specs.declared.task.Task.{Task}
use Rattle.worker_split.specs.declared.outcome.Outcome.{Outcome}
use Rattle.worker_split.specs.declared.answers.Taken.{Taken}
use Rattle.worker_split.specs.declared.answers.Taken.TheVariants.{Accepted, Stranger}
use Rattle.worker_split.specs.Tasks.{task_of, IsRightOutcome}
use Rattle.fold_jobs.specs.Machine.{JobsView, MatchesIn, IsPosted}
use Rattle.fold_jobs.specs.Waiting.{waiting_in}
use Rattle.oriedita_cli.specs.declared.tickets.HeldTicket.{HeldTicket}
use Rattle.oriedita_cli.specs.Tickets.{IsTicketFor}

pub fewer_waiting : (s s' : JobsView) (held : ℕ → Option Task) (job number : ℕ) (old new rest : List HeldTicket)
    (x y : Outcome) (task : Task) (taken : Taken) → IsTicketFor held s job number old new
    → held number ≡ Some task → IsRightOutcome (task_of task) x → x.job ≡ job → length rest + 1 ≤ length new
    → IsPosted s y taken s' → (MatchesIn s x → taken ≡ Accepted)
    → (taken ≡ Accepted → waiting_in s x.job ≡ waiting_in s' x.job + 1)
    → length rest + waiting_in s' job < length old + waiting_in s job
fewer_waiting s s' held job number old new rest x y task Accepted ticket was right own fewer posted accepted less =
    let here : waiting_in s job ≡ waiting_in s' job + 1 =
    subst (λ n. waiting_in s n ≡ waiting_in s' n + 1) own (less refl) in
    elim ticket.fits [
      | inl same ↦ omega (arith, same, fewer, here)
      | inr more ↦ let size = more.0 in omega (arith, size, fewer, here)
    ]
fewer_waiting s s' held job number old new rest x y task (Stranger kept came) ticket was right own fewer posted accepted less =
    let here : waiting_in s' job ≡ waiting_in s job = ap (λ (u : JobsView). waiting_in u job) posted.3 in
    elim ticket.fits [
      | inl same ↦ omega (arith, same, fewer, here)
      | inr more ↦
          let matches : MatchesIn s x =
          subst (λ o. IfSome o (λ t. (z : Outcome) → IsRightOutcome (task_of t) z → MatchesIn s z)) was more.1
          x right in
          let wrong : Stranger kept came ≡ Accepted = accepted matches in absurd (cc)
    ]
