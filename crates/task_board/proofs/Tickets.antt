-- Tickets by their numbers, and one that is moved.
use Rattle.std.proofs.Common.{◌≡◌, ℕ, zero, suc, ◌+◌, ◌-◌, ◌<◌, ◌≤◌, Bool, true, false, List, [], ◌∷◌, ◌++◌, length, Option, None, Some, MatchOption, slice_get, get_or, set, refl, ap, arith, sub-one, lt-ltb, eq-eqb}
use Rattle.std.specs.List.{list_any, sum_by}
use Rattle.std.proofs.lemmas.List.Sums.{sum_by-set, get_or-le-sum_by}
use Rattle.std.proofs.lemmas.Option.{get_or_from_slice_get, slice_get_within}
use Rattle.task_board.specs.declared.event.Stand.{Stand}
use Rattle.task_board.specs.declared.event.Ticket.{Ticket}
use Rattle.task_board.specs.declared.event.BoardStep.TheVariants.{Put}
use Rattle.task_board.specs.History.{Replay, is_next_step, ticket_at, with_stand, is_ticket, is_waiting, flag_of}
use Rattle.task_board.specs.Room.{owed_at, owed_until}

-- a ticket that is there, owes more than the stand, and is moved to it; d stands for any ticket
pub record MovesTo (r : Replay) (place number : ℕ) (stand : Stand) (d : Ticket) : Type 0 where
  pub within : place < length r.tickets
  pub owes : owed_at stand < owed_at (get_or r.tickets place d).stand
  pub leaves : with_stand r number stand ≡ record r { tickets = set r.tickets place (record { owner = (get_or r.tickets place d).owner; stand = stand }) }

moves_at : (r : Replay) (m : ℕ) (stand : Stand) (d : Ticket) (o : Option Ticket) → slice_get r.tickets m ≡ o
    → MatchOption o ⊥ (λ t. owed_at stand < owed_at t.stand) → MovesTo r m (suc m) stand d
moves_at r m stand d None is owes = absurd owes
moves_at r m stand d (Some k) is owes =
    let at : get_or r.tickets m d ≡ k = get_or_from_slice_get r.tickets m k d is in
    record {
      within = slice_get_within r.tickets m k is;
      owes = rw at owes;
      leaves = rw (is, at) refl;
    }

pub moves : (r : Replay) (n : ℕ) (stand : Stand) (d : Ticket) → MatchOption (ticket_at r n) ⊥ (λ t. owed_at stand < owed_at t.stand)
    → MovesTo r (n - 1) n stand d
moves r zero stand d owes = absurd owes
moves r (suc m) stand d owes = rw sub-one (moves_at r m stand d (slice_get r.tickets m) refl owes)

-- an element of a list in which one was replaced is the new one or the old one
set_get : {A : Type 0} (P : Option A → Type 0) (xs : List A) (i k : ℕ) (y : A) → P (Some y) → P (slice_get xs k) → P (slice_get (set xs i y) k)
set_get P [] i k y new old = old
set_get P (x ∷ xs) zero zero y new old = new
set_get P (x ∷ xs) zero (suc k) y new old = old
set_get P (x ∷ xs) (suc i) zero y new old = old
set_get P (x ∷ xs) (suc i) (suc k) y new old = set_get P xs i k y new old

pub set_passed : (ts : List Ticket) (i : ℕ) (t : Ticket) (n : ℕ) → is_waiting t ≡ false
    → ((k : ℕ) → k < n → is_ticket is_waiting (slice_get ts k) ≡ false)
    → (k : ℕ) → k < n → is_ticket is_waiting (slice_get (set ts i t) k) ≡ false
set_passed ts i t n other passed k below = set_get (λ o. is_ticket is_waiting o ≡ false) ts i k t other (passed k below)

get_front : {A : Type 0} (xs ys : List A) (k : ℕ) → k < length xs → slice_get (xs ++ ys) k ≡ slice_get xs k
get_front [] ys k below = absurd (omega arith)
get_front (x ∷ xs) ys zero below = refl
get_front (x ∷ xs) ys (suc k) below = get_front xs ys k (omega arith)

pub more_passed : (ts : List Ticket) (t : Ticket) (n : ℕ) → n ≤ length ts
    → ((k : ℕ) → k < n → is_ticket is_waiting (slice_get ts k) ≡ false)
    → (k : ℕ) → k < n → is_ticket is_waiting (slice_get (ts ++ t ∷ []) k) ≡ false
more_passed ts t n within passed k below =
    let short : k < length ts = omega arith in rw (get_front ts (t ∷ []) k short) (passed k below)

-- where each ticket was passed, none is waiting
pub none_waits : (ts : List Ticket) → ((k : ℕ) → k < length ts → is_ticket is_waiting (slice_get ts k) ≡ false)
    → list_any is_waiting ts ≡ false
none_waits [] passed = refl
none_waits (t ∷ ts) passed =
    let first : is_waiting t ≡ false = passed zero (omega arith) in
    let rest : list_any is_waiting ts ≡ false = none_waits ts (λ k below. passed (suc k) (omega arith)) in
    rw (first, rest) refl

-- the room that a move sets free
pub move_owes : (ts : List Ticket) (i : ℕ) (t d : Ticket) → i < length ts
    → sum_by (λ k. owed_at k.stand) (set ts i t) + owed_at (get_or ts i d).stand ≡ sum_by (λ k. owed_at k.stand) ts + owed_at t.stand
move_owes ts i t d within = sum_by-set (λ (k : Ticket). owed_at k.stand) ts i t d within

pub owes_within : (ts : List Ticket) (i : ℕ) (d : Ticket) → i < length ts → owed_at (get_or ts i d).stand ≤ sum_by (λ k. owed_at k.stand) ts
owes_within ts i d within = get_or-le-sum_by (λ (k : Ticket). owed_at k.stand) ts i d within

-- a flag that is set for the first time
pub flag_set : (flags : List Bool) (seat : ℕ) → seat < length flags → flag_of flags seat ≡ false
    → sum_by owed_until (set flags seat true) + 1 ≡ sum_by owed_until flags
flag_set flags seat within unset =
    let s = sum_by-set owed_until flags seat true false within in
    let one : owed_until (get_or flags seat false) ≡ 1 = ap owed_until unset in omega (arith, s, one)

-- the number after the last one is the next ticket
pub put_next : (r : Replay) (seat n : ℕ) → r.is_closed ≡ false → length r.tickets < 4294967295 → n ≡ length r.tickets + 1
    → is_next_step r seat (Put (Some n)) ≡ true
put_next r seat n opened left is = rw (opened, lt-ltb (length r.tickets) 4294967295 left, eq-eqb n (length r.tickets + 1) is) refl
