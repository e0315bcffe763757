-- Tickets that are held, and how many are held no more.
use Rattle.std.proofs.Common.{◌≡◌, ℕ, zero, suc, ◌+◌, ◌≤◌, ◌==◌, true, false, cond, not, inl, inr, List, [], ◌∷◌, ◌++◌, length, filter, Option, None, Some, is_some, is_none, refl, sym, ap, ap₂, subst, ◌∙◌, arith}
use Rattle.std.specs.Prelude.{IsSome, IfSome}
use Rattle.std.proofs.lemmas.Bool.{cases_Bool, cases_eq, eq-eqb, ne_eqb}
use Rattle.std.proofs.lemmas.List.{length-append}
use Rattle.worker_split.specs.declared.task.Task.{Task}
use Rattle.worker_split.specs.declared.outcome.Outcome.{Outcome}
use Rattle.worker_split.specs.Tasks.{task_of, IsRightOutcome}
use Rattle.fold_jobs.specs.Machine.{JobsView, IsRightIn, MatchesIn}
use Rattle.job_register.specs.Counts.{accepted_outcomes}
use Rattle.job_register.specs.View.{SessionView}
use Rattle.oriedita_cli.specs.declared.tickets.HeldTicket.{HeldTicket}
use Rattle.oriedita_cli.specs.declared.tickets.Tickets.{Tickets}
use Rattle.oriedita_cli.specs.Tickets.{released, is_other, IsListed, IsHeldFor, AreHeld, MayBePosted, IsHelped, IsTicketFor}

-- the two hold the same tasks under all other numbers
abbrev pub SameBut : {T : Type 0} → (ℕ → Option T) → (ℕ → Option T) → ℕ → Type 0
SameBut held held' n = (k : ℕ) → (k ≡ n → ⊥) → held' k ≡ held k

pub same_all : {T : Type 0} (held held' : ℕ → Option T) (n : ℕ) → held' n ≡ held n → SameBut held held' n
    → (k : ℕ) → held' k ≡ held k
same_all held held' n own others k = elim (cases_eq k n) [
  | inl same ↦ subst (λ m. held' m ≡ held m) (sym same) own
  | inr apart ↦ others k apart
]

released_same : {T : Type 0} (held held' : ℕ → Option T) (given : ℕ)
    → ((k : ℕ) → k ≤ given → held' k ≡ held k) → released held' given ≡ released held given
released_same held held' zero same = refl
released_same held held' (suc n) same =
    ap₂ {C = ℕ} (λ a o. a + cond (is_none o) 1 0)
    (released_same held held' n (λ k below. same k (omega (arith, below)))) (same (suc n) (omega arith))

released_gone : {T : Type 0} (held held' : ℕ → Option T) (n given : ℕ) (task : T) → 1 ≤ n → n ≤ given
    → held n ≡ Some task → held' n ≡ None → SameBut held held' n
    → released held' given ≡ released held given + 1
released_gone held held' n zero task low below was gone others = absurd (omega (arith, low, below))
released_gone held held' n (suc m) task low below was gone others = elim (cases_eq (suc m) n) [
  | inl same ↦
      let rest = released_same held held' m (λ k within. others k (λ e. omega (arith, within, e, same))) in
      let new : cond (is_none (held' (suc m))) 1 0 ≡ 1 =
      ap {B = ℕ} (λ o. cond (is_none o) 1 0) (ap held' same ∙ gone) in
      let old : cond (is_none (held (suc m))) 1 0 ≡ 0 =
      ap {B = ℕ} (λ o. cond (is_none o) 1 0) (ap held same ∙ was) in
      omega (arith, rest, new, old)
  | inr apart ↦
      let rest = released_gone held held' n m task low (omega (arith, below, apart)) was gone others in
      let own = ap {B = ℕ} (λ o. cond (is_none o) 1 0) (others (suc m) apart) in
      omega (arith, rest, own)
]

released_put : {T : Type 0} (held held' : ℕ → Option T) (n given given' : ℕ) (task : T) → n ≡ given'
    → given' ≡ given + 1 → held' n ≡ Some task → SameBut held held' n
    → released held' given' ≡ released held given
released_put held held' n given given' task named next now others =
    let size : given' ≡ suc given = omega (arith, next) in
    let rest = released_same held held' given (λ k within. others k (λ e. omega (arith, within, e, named, next)))
    in
    let new : cond (is_none (held' (suc given))) 1 0 ≡ 0 =
    ap {B = ℕ} (λ o. cond (is_none o) 1 0) (ap held' (sym size ∙ sym named) ∙ now) in
    subst (λ m. released held' m ≡ released held given) (sym size) (omega (arith, rest, new))

-- ---- the list

eqb_same : (m : ℕ) → (m == m) ≡ true
eqb_same m = eq-eqb m m refl

pub held_at : (held : ℕ → Option Task) (number job : ℕ) (ts : List HeldTicket) → AreHeld held ts
    → IsListed number job ts → IsHeldFor held number job
held_at held number job [] all listed = absurd listed
held_at held number job (t ∷ ts) all (inl (same, own)) =
    (all.0.0, ap held (sym same) ∙ all.0.1, all.0.2 ∙ own)
held_at held number job (t ∷ ts) all (inr rest) = held_at held number job ts all.1 rest

held_as : (held held' : ℕ → Option Task) (number job : ℕ) → held' number ≡ held number
    → IsHeldFor held number job → IsHeldFor held' number job
held_as held held' number job same (task, was, own) = (task, same ∙ was, own)

all_as : (held held' : ℕ → Option Task) (ts : List HeldTicket)
    → ((k : ℕ) → IsSome (held k) → held' k ≡ held k) → AreHeld held ts → AreHeld held' ts
all_as held held' [] same all = tt
all_as held held' (t ∷ ts) same all = (
  held_as held held' t.number t.job (same t.number (ap is_some all.0.1)) all.0,
  all_as held held' ts same all.1,
)

all_others : (held held' : ℕ → Option Task) (n : ℕ) (ts : List HeldTicket) → SameBut held held' n → AreHeld held ts
    → AreHeld held' (filter (is_other n) ts)
all_others held held' n [] others all = tt
all_others held held' n (t ∷ ts) others all = elim (cases_eq t.number n) [
  | inl same ↦
      let drop : is_other n t ≡ false = ap (λ m. not (m == n)) same ∙ ap not (eqb_same n) in
      rw drop (all_others held held' n ts others all.1)
  | inr apart ↦
      let keep : is_other n t ≡ true = ap not (ne_eqb t.number n apart) in
      rw keep (held_as held held' t.number t.job (others t.number apart) all.0, all_others held held' n ts others all.1)
]

pub all_pushed : (held : ℕ → Option Task) (ts : List HeldTicket) (t : HeldTicket) → AreHeld held ts
    → IsHeldFor held t.number t.job → AreHeld held (ts ++ t ∷ [])
all_pushed held [] t all own = (own, tt)
all_pushed held (u ∷ ts) t all own = (all.0, all_pushed held ts t all.1 own)

pub listed_pushed : (ts : List HeldTicket) (t : HeldTicket) → IsListed t.number t.job (ts ++ t ∷ [])
listed_pushed [] t = inl (refl, refl)
listed_pushed (u ∷ ts) t = inr (listed_pushed ts t)

others_few : (n : ℕ) (ts : List HeldTicket) → length (filter (is_other n) ts) ≤ length ts
others_few n [] = omega arith
others_few n (t ∷ ts) =
    let rest = others_few n ts in
    elim (cases_Bool (is_other n t)) [
      | inl other ↦ rw other (omega (arith, rest))
      | inr own ↦ rw own (omega (arith, rest))
    ]

pub others_fewer : (n job : ℕ) (ts : List HeldTicket) → IsListed n job ts
    → length (filter (is_other n) ts) + 1 ≤ length ts
others_fewer n job [] listed = absurd listed
others_fewer n job (t ∷ ts) (inl (same, own)) =
    let few = others_few n ts in
    let drop : is_other n t ≡ false = ap (λ m. not (m == n)) same ∙ ap not (eqb_same n) in
    rw drop (omega (arith, few))
others_fewer n job (t ∷ ts) (inr rest) =
    let few = others_fewer n job ts rest in
    elim (cases_Bool (is_other n t)) [
      | inl other ↦ rw other (omega (arith, few))
      | inr own ↦ rw own (omega (arith, few))
    ]

-- ---- the ticket that is asked for next

-- a new one
pub new_ticket : (held : ℕ → Option Task) (s : JobsView) (job number : ℕ) (old new : List HeldTicket) (task : Task)
    (t : HeldTicket) → t.number ≡ number → t.job ≡ task.job → task.job ≡ job → new ≡ old ++ t ∷ []
    → held number ≡ Some task → ((x : Outcome) → IsRightOutcome (task_of task) x → MatchesIn s x)
    → IsTicketFor held s job number old new
new_ticket held s job number old new task t named own mine list was matches = record {
  listed = subst (λ ts. IsListed number job ts) (sym list)
      (subst (λ j. IsListed number j (old ++ t ∷ [])) (own ∙ mine)
      (subst (λ n. IsListed n t.job (old ++ t ∷ [])) named (listed_pushed old t)));
  fits = inr (
    ap length list ∙ length-append old (t ∷ []),
    subst (λ o. IfSome o (λ k. (x : Outcome) → IsRightOutcome (task_of k) x → MatchesIn s x)) (sym was) matches,
  );
}

pub ticket_held : (held : ℕ → Option Task) (given : ℕ) (s : SessionView) (ts : Tickets) (job number : ℕ)
    (old : List HeldTicket) → IsHelped held given s ts → IsTicketFor held s.state.jobs job number old ts.list.items
    → IsHeldFor held number job
ticket_held held given s ts job number old h ticket = held_at held number job ts.list.items h.listed ticket.listed

-- a right outcome of a task that is held may be posted
pub held_right : (held : ℕ → Option Task) (given : ℕ) (s : SessionView) (ts : Tickets) (number : ℕ) (task : Task)
    (x : Outcome) → IsHelped held given s ts → held number ≡ Some task → IsRightOutcome (task_of task) x
    → IsRightIn s.state.jobs x
held_right held given s ts number task x h was right =
    subst (λ o. IfSome o (MayBePosted s.state.jobs)) was (h.right number) x right

-- ---- what a session keeps

if_right : (s s' : JobsView) (o : Option Task) → ((x : Outcome) → IsRightIn s x → IsRightIn s' x)
    → IfSome o (MayBePosted s) → IfSome o (MayBePosted s')
if_right s s' None keeps h = h
if_right s s' (Some task) keeps h = λ x right. keeps x (h x right)

-- by a step, or by nothing
pub helped_step : (held held' : ℕ → Option Task) (given given' : ℕ) (s s' : SessionView) (ts ts' : Tickets)
    → ((k : ℕ) → held' k ≡ held k) → given' ≡ given → ts'.given ≡ ts.given → ts'.list.items ≡ ts.list.items
    → ((x : Outcome) → IsRightIn s.state.jobs x → IsRightIn s'.state.jobs x)
    → accepted_outcomes s'.events ≡ accepted_outcomes s.events
    → IsHelped held given s ts → IsHelped held' given' s' ts'
helped_step held held' given given' s s' ts ts' same size counted list keeps count h = record {
  counted = counted ∙ h.counted ∙ sym size;
  numbers = λ n some.
      let within = h.numbers n (subst IsSome (same n) some) in
      (within.0, omega (arith, within.1, size));
  right = λ n. subst (λ o. IfSome o (MayBePosted s'.state.jobs)) (sym (same n))
      (if_right s.state.jobs s'.state.jobs (held n) keeps (h.right n));
  listed = subst (λ xs. AreHeld held' xs) (sym list) (all_as held held' ts.list.items (λ k some. same k) h.listed);
  outcomes =
      let now = released_same held held' given (λ k within. same k) in
      let old = h.outcomes in
      let there = ap (λ m. released held' m) size in
      omega (arith, now, old, count, there);
}

-- by a ticket that is taken out, and by what is posted then
pub helped_taken : (held held' : ℕ → Option Task) (given given' : ℕ) (s s' : SessionView) (ts ts' : Tickets)
    (n : ℕ) (task : Task) → held n ≡ Some task → held' n ≡ None → SameBut held held' n → given' ≡ given
    → ts'.given ≡ ts.given → ts'.list.items ≡ filter (is_other n) ts.list.items
    → ((x : Outcome) → IsRightIn s.state.jobs x → IsRightIn s'.state.jobs x)
    → accepted_outcomes s'.events ≤ accepted_outcomes s.events + 1
    → IsHelped held given s ts → IsHelped held' given' s' ts'
helped_taken held held' given given' s s' ts ts' n task was gone others size counted list keeps count h =
    let within = h.numbers n (ap is_some was) in
    record {
      counted = counted ∙ h.counted ∙ sym size;
      numbers = λ k some. elim (cases_eq k n) [
        | inl same ↦ absurd (none_some k same some)
        | inr apart ↦
            let below = h.numbers k (subst IsSome (others k apart) some) in
            (below.0, omega (arith, below.1, size))
      ];
      right = λ k. elim (cases_eq k n) [
        | inl same ↦ subst (λ o. IfSome o (MayBePosted s'.state.jobs)) (sym (ap held' same ∙ gone)) tt
        | inr apart ↦ subst (λ o. IfSome o (MayBePosted s'.state.jobs)) (sym (others k apart))
            (if_right s.state.jobs s'.state.jobs (held k) keeps (h.right k))
      ];
      listed = subst (λ xs. AreHeld held' xs) (sym list) (all_others held held' n ts.list.items others h.listed);
      outcomes =
          let now = released_gone held held' n given task within.0 within.1 was gone others in
          let old = h.outcomes in
          let there = ap (λ m. released held' m) size in
          omega (arith, now, old, count, there);
    }
  where
    none_some : (k : ℕ) → k ≡ n → IsSome (held' k) → ⊥
    none_some k same some =
        let none : is_some (held' k) ≡ false = ap is_some (ap held' same ∙ gone) in cc

-- by a task that is put
pub helped_put : (held held' : ℕ → Option Task) (given given' : ℕ) (s : SessionView) (ts ts' : Tickets)
    (n : ℕ) (task : Task) → n ≡ given' → given' ≡ given + 1 → held n ≡ None → held' n ≡ Some task
    → SameBut held held' n → ts'.given ≡ ts.given + 1
    → (t : HeldTicket) → t.number ≡ n → t.job ≡ task.job → ts'.list.items ≡ ts.list.items ++ t ∷ []
    → MayBePosted s.state.jobs task → IsHelped held given s ts → IsHelped held' given' s ts'
helped_put held held' given given' s ts ts' n task named next was now others counted t number job list may h =
    record {
      counted =
          let old = h.counted in omega (arith, old, counted, next);
      numbers = λ k some. elim (cases_eq k n) [
        | inl same ↦ (omega (arith, same, named, next), omega (arith, same, named))
        | inr apart ↦
            let below = h.numbers k (subst IsSome (others k apart) some) in
            (below.0, omega (arith, below.1, next))
      ];
      right = λ k. elim (cases_eq k n) [
        | inl same ↦ subst (λ o. IfSome o (MayBePosted s.state.jobs)) (sym (ap held' same ∙ now)) may
        | inr apart ↦ subst (λ o. IfSome o (MayBePosted s.state.jobs)) (sym (others k apart)) (h.right k)
      ];
      listed = subst (λ xs. AreHeld held' xs) (sym list)
          (all_pushed held' ts.list.items t
          (all_as held held' ts.list.items (λ k some. others k (λ e. none_some k e some)) h.listed)
          (task, ap held' number ∙ now, sym job));
      outcomes =
          let same = released_put held held' n given given' task named next now others in
          let old = h.outcomes in
          omega (arith, same, old);
    }
  where
    none_some : (k : ℕ) → k ≡ n → IsSome (held k) → ⊥
    none_some k same some =
        let none : is_some (held k) ≡ false = ap is_some (ap held same ∙ was) in cc
