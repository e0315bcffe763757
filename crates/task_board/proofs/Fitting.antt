-- What an event does to the numbers of things that stand beside the tickets.
use Rattle.std.proofs.Common.{◌≡◌, ℕ, zero, suc, ◌≤◌, Bool, true, false, ◌&&◌, List, [], ◌∷◌, ◌++◌, length, map, Option, None, Some, Result, Ok, Err, IsSome, refl, sym, ap, ◌∙◌, subst, not, if◌then◌else◌, arith, length-append}
use Rattle.std.specs.Option.{option_map}
use Rattle.std.proofs.lemmas.List.{map-append, map-set}
use Rattle.std.proofs.lemmas.Option.{slice_get-map}
use Rattle.task_board.specs.declared.event.BoardEvent.{BoardEvent}
use Rattle.task_board.specs.declared.event.Stand.{Stand}
use Rattle.task_board.specs.declared.event.Stand.TheVariants.{Waiting, Taken, Posted, Left, Gone}
use Rattle.task_board.specs.declared.event.Ticket.{Ticket}
use Rattle.task_board.specs.declared.event.BoardStep.TheVariants.{Put, Take, Post, GiveBack, Fetch, Obtain, Close}
use Rattle.task_board.specs.Numbers.{at_number, put_at}
use Rattle.task_board.specs.History.{Replay, Adds, with_event, after_event, is_next, is_ticket, is_waiting, is_taken_for, is_answered_for, is_idle_for, with_stand, replay_of, ticket_at}
use Rattle.task_board.specs.declared.fault.PutFault.{PutFault}
use Rattle.task_board.specs.declared.fault.PutFault.TheVariants.{Closed, Spent, Memory}
use Rattle.task_board.specs.declared.fault.Waits.{Waits}
use Rattle.task_board.specs.Answers.{event, IsPut, IsTake, TakesOut}
use Rattle.task_board.specs.Contents.{things_at}
use Rattle.task_board.proofs.Replays.{replay_more, and_right}

-- each number says how many things stand beside the ticket
abbrev pub Fits : List ℕ → List BoardEvent → Type 0
Fits ks es = ks ≡ map things_at (replay_of es).tickets

pub map-put_at : {A B : Type 0} (f : A → B) (xs : List A) (n : ℕ) (x : A) → map f (put_at xs n x) ≡ put_at (map f xs) n (f x)
map-put_at f xs zero x = refl
map-put_at f xs (suc n) x = map-set f xs n x

pub at_number-map : {A B : Type 0} (f : A → B) (xs : List A) (n : ℕ) → at_number (map f xs) n ≡ option_map f (at_number xs n)
at_number-map f xs zero = refl
at_number-map f xs (suc n) = slice_get-map f xs n

-- a ticket that passes a test is there
found_at : (test : Ticket → Bool) (o : Option Ticket) → is_ticket test o ≡ true → (t : Ticket) × (o ≡ Some t) × (test t ≡ true)
found_at test None h = absurd cc
found_at test (Some t) h = (t, refl, h)

-- what stands beside a ticket that passes a test
things_of : (ks : List ℕ) (r : Replay) (n k : ℕ) (test : Ticket → Bool) → ks ≡ map things_at r.tickets → is_ticket test (ticket_at r n) ≡ true
    → ((t : Ticket) → test t ≡ true → things_at t ≡ k) → at_number ks n ≡ Some k
things_of ks r n k test fits passes is =
    let f = found_at test (ticket_at r n) passes in
    rw (fits, at_number-map things_at r.tickets n, f.1, is f.0 f.2) refl

-- what stands beside the tickets after one was moved
things_moved : (ks : List ℕ) (r : Replay) (n k : ℕ) (stand : Stand) (test : Ticket → Bool) → ks ≡ map things_at r.tickets
    → is_ticket test (ticket_at r n) ≡ true → ((owner : ℕ) → things_at (record { owner = owner; stand = stand }) ≡ k)
    → put_at ks n k ≡ map things_at (with_stand r n stand).tickets
things_moved ks r n k stand test fits passes is =
    let f = found_at test (ticket_at r n) passes in
    rw (fits, f.1, map-put_at things_at r.tickets n (record { owner = f.0.owner; stand = stand }), is f.0.owner) refl

waiting_things : (t : Ticket) → is_waiting t ≡ true → things_at t ≡ 1
waiting_things t h = by_stand t.owner t.stand h
  where
    by_stand : (o : ℕ) (s : Stand) → is_waiting (record { owner = o; stand = s }) ≡ true → things_at (record { owner = o; stand = s }) ≡ 1
    by_stand o Waiting h = refl
    by_stand o (Taken by) h = absurd cc
    by_stand o Posted h = absurd cc
    by_stand o Left h = absurd cc
    by_stand o Gone h = absurd cc

taken_things : (seat : ℕ) (t : Ticket) → is_taken_for seat t ≡ true → things_at t ≡ 0
taken_things seat t h = by_stand seat t.owner t.stand h
  where
    by_stand : (seat o : ℕ) (s : Stand) → is_taken_for seat (record { owner = o; stand = s }) ≡ true → things_at (record { owner = o; stand = s }) ≡ 0
    by_stand seat o Waiting h = absurd cc
    by_stand seat o (Taken by) h = refl
    by_stand seat o Posted h = absurd cc
    by_stand seat o Left h = refl
    by_stand seat o Gone h = refl

and_false : (b : Bool) → (b && false) ≡ true → ⊥
and_false true h = cc
and_false false h = cc

answered_things : (seat : ℕ) (t : Ticket) → is_answered_for seat t ≡ true → things_at t ≡ 2
answered_things seat t h = by_stand seat t.owner t.stand h
  where
    by_stand : (seat o : ℕ) (s : Stand) → is_answered_for seat (record { owner = o; stand = s }) ≡ true → things_at (record { owner = o; stand = s }) ≡ 2
    by_stand seat o Waiting h = absurd (and_false _ h)
    by_stand seat o (Taken by) h = absurd (and_false _ h)
    by_stand seat o Posted h = refl
    by_stand seat o Left h = absurd (and_false _ h)
    by_stand seat o Gone h = absurd (and_false _ h)

pub adds_replay : (old new : List BoardEvent) (e : BoardEvent) → Adds old e new → replay_of new ≡ after_event (replay_of old) e
adds_replay old new e a = rw a.1 (replay_more old e)

pub adds_grows : (old new : List BoardEvent) (e : BoardEvent) → Adds old e new → length old ≤ length new
adds_grows old new e a = omega (arith, ap length a.1, length-append old (e ∷ []))

-- by whether the event was added
added_by : (P : List BoardEvent → Type 0) (old : List BoardEvent) (e : BoardEvent) (b : Bool) → is_next (replay_of old) e ≡ b
    → (Adds old e (old ++ e ∷ []) → P (old ++ e ∷ [])) → P old → P (if b then old ++ e ∷ [] else old)
added_by P old e true is made stays = made (is, refl)
added_by P old e false is made stays = stays

pub by_added : (P : List BoardEvent → Type 0) (old new : List BoardEvent) (e : BoardEvent) → new ≡ with_event old e
    → (Adds old e (old ++ e ∷ []) → P (old ++ e ∷ [])) → P old → P new
by_added P old new e is made stays = subst P (sym is) (added_by P old e (is_next (replay_of old) e) refl made stays)

pub added_grows : (old new : List BoardEvent) (e : BoardEvent) → new ≡ with_event old e → length old ≤ length new
added_grows old new e is = by_added (λ es. length old ≤ length es) old new e is (λ a. adds_grows old (old ++ e ∷ []) e a) (omega arith)

-- an event that moves no ticket
same_fits : (ks : List ℕ) (old new : List BoardEvent) (e : BoardEvent) → (after_event (replay_of old) e).tickets ≡ (replay_of old).tickets → Fits ks old → Adds old e new → Fits ks new
same_fits ks old new e same fits a = rw (adds_replay old new e a, same) fits

-- an event that moves a ticket
move_fits : (ks : List ℕ) (old new : List BoardEvent) (e : BoardEvent) (n k : ℕ) (stand : Stand) (test : Ticket → Bool)
    → after_event (replay_of old) e ≡ with_stand (replay_of old) n stand → is_ticket test (ticket_at (replay_of old) n) ≡ true
    → ((owner : ℕ) → things_at (record { owner = owner; stand = stand }) ≡ k) → Fits ks old → Adds old e new → Fits (put_at ks n k) new
move_fits ks old new e n k stand test leaves passes is fits a =
    rw (adds_replay old new e a, leaves) (things_moved ks (replay_of old) n k stand test fits passes is)

pub put_fits : (ks : List ℕ) (old new : List BoardEvent) (s n : ℕ) → Fits ks old → Adds old (event s (Put (Some n))) new → Fits (ks ++ 1 ∷ []) new
put_fits ks old new s n fits a =
    rw (adds_replay old new (event s (Put (Some n))) a, map-append things_at (replay_of old).tickets (record { owner = s; stand = Waiting } ∷ []), fits) refl

pub refuse_fits : {X : Type 0} (ks : List ℕ) (old new : List BoardEvent) (s : ℕ) (fault : PutFault X) → IsPut old s (Err fault) new → Fits ks old → Fits ks new
refuse_fits ks old new s (Closed x) put fits = same_fits ks old new (event s (Put None)) refl fits put
refuse_fits ks old new s (Spent x) put fits = rw put.2 fits
refuse_fits ks old new s (Memory x) put fits = rw put fits

pub put_grows : {X : Type 0} (old new : List BoardEvent) (s : ℕ) (r : Result ℕ (PutFault X)) → IsPut old s r new → length old ≤ length new
put_grows old new s (Ok n) put = adds_grows old new (event s (Put (Some n))) put
put_grows old new s (Err (Closed x)) put = adds_grows old new (event s (Put None)) put
put_grows old new s (Err (Spent x)) put = omega (arith, ap length put.2)
put_grows old new s (Err (Memory x)) put = omega (arith, ap length put)

pub take_fits : (ks : List ℕ) (old new : List BoardEvent) (s n : ℕ) → Fits ks old → Adds old (event s (Take (Some n))) new
    → (at_number ks n ≡ Some 1) × Fits (put_at ks n 0) new
take_fits ks old new s n fits a =
    let waits = and_right (not (replay_of old).is_closed) (is_ticket is_waiting (ticket_at (replay_of old) n)) a.0 in (
      things_of ks (replay_of old) n 1 is_waiting fits waits waiting_things,
      move_fits ks old new (event s (Take (Some n))) n 0 (Taken s) is_waiting refl waits (λ o. refl) fits a,
    )

pub told_fits : (ks : List ℕ) (old new : List BoardEvent) (s : ℕ) → Fits ks old → new ≡ with_event old (event s (Take None)) → Fits ks new
told_fits ks old new s fits is =
    by_added (Fits ks) old new (event s (Take None)) is (λ a. same_fits ks old _ (event s (Take None)) refl fits a) fits

pub close_fits : (ks : List ℕ) (old new : List BoardEvent) (s : ℕ) → Fits ks old → new ≡ with_event old (event s Close) → Fits ks new
close_fits ks old new s fits is =
    by_added (Fits ks) old new (event s Close) is (λ a. same_fits ks old _ (event s Close) refl fits a) fits

-- an event that may come next was added
pub added_next : (old new : List BoardEvent) (e : BoardEvent) → is_next (replay_of old) e ≡ true → new ≡ with_event old e → Adds old e new
added_next old new e next is = (next, is ∙ rw next refl)

pub post_fits : (ks : List ℕ) (old new : List BoardEvent) (s n : ℕ) → Fits ks old → Adds old (event s (Post n)) new
    → (at_number ks n ≡ Some 0) × Fits (put_at ks n 2) new
post_fits ks old new s n fits a = (
  things_of ks (replay_of old) n 0 (is_taken_for s) fits a.0 (taken_things s),
  move_fits ks old new (event s (Post n)) n 2 Posted (is_taken_for s) refl a.0 (λ o. refl) fits a,
)

put_same : (ks : List ℕ) (n k : ℕ) → at_number ks n ≡ Some k → put_at ks n k ≡ ks
put_same ks zero k is = refl
put_same [] (suc n) k is = refl
put_same (x ∷ ks) (suc zero) k is = cc
put_same (x ∷ ks) (suc (suc n)) k is = ap (λ ys. x ∷ ys) (put_same ks (suc n) k is)

give_back_fits' : (ks : List ℕ) (old new : List BoardEvent) (s n : ℕ) → Fits ks old → Adds old (event s (GiveBack n)) new → Fits ks new
give_back_fits' ks old new s n fits a =
    let nothing = things_of ks (replay_of old) n 0 (is_taken_for s) fits a.0 (taken_things s) in
    let with_stand : Fits (put_at ks n 0) new = move_fits ks old new (event s (GiveBack n)) n 0 Left (is_taken_for s) refl a.0 (λ o. refl) fits a in
    sym (put_same ks n 0 nothing) ∙ with_stand

pub give_back_fits : (ks : List ℕ) (old new : List BoardEvent) (s n : ℕ) → Fits ks old → new ≡ with_event old (event s (GiveBack n)) → Fits ks new
give_back_fits ks old new s n fits is =
    by_added (Fits ks) old new (event s (GiveBack n)) is (λ a. give_back_fits' ks old _ s n fits a) fits

pub missed_fits : (ks : List ℕ) (old new : List BoardEvent) (s n : ℕ) → Fits ks old → Adds old (event s (Fetch n false)) new → Fits ks new
missed_fits ks old new s n fits a = same_fits ks old new (event s (Fetch n false)) refl fits a

pub fetch_fits : (ks : List ℕ) (old new : List BoardEvent) (s n : ℕ) → Fits ks old → Adds old (event s (Fetch n true)) new
    → (at_number ks n ≡ Some 2) × Fits (put_at ks n 0) new
fetch_fits ks old new s n fits a = (
  things_of ks (replay_of old) n 2 (is_answered_for s) fits a.0 (answered_things s),
  move_fits ks old new (event s (Fetch n true)) n 0 Gone (is_answered_for s) refl a.0 (λ o. refl) fits a,
)

pub obtain_fits : (ks : List ℕ) (old new : List BoardEvent) (s n : ℕ) → Fits ks old → Adds old (event s (Obtain n true)) new
    → (at_number ks n ≡ Some 2) × Fits (put_at ks n 0) new
obtain_fits ks old new s n fits a = (
  things_of ks (replay_of old) n 2 (is_answered_for s) fits a.0 (answered_things s),
  move_fits ks old new (event s (Obtain n true)) n 0 Gone (is_answered_for s) refl a.0 (λ o. refl) fits a,
)

pub drop_fits : (ks : List ℕ) (old new : List BoardEvent) (s n : ℕ) → Fits ks old → Adds old (event s (Obtain n false)) new → Fits (put_at ks n 0) new
drop_fits ks old new s n fits a =
    move_fits ks old new (event s (Obtain n false)) n 0 Gone (is_idle_for s) refl a.0 (λ o. refl) fits a

pub take_out_grows : (old new : List BoardEvent) (s n : ℕ) (r : Result (Option Bool) Waits) → TakesOut old s n r new → length old ≤ length new
take_out_grows old new s n (Ok (Some found)) out = adds_grows old new (event s (Obtain n found)) out
take_out_grows old new s n (Ok None) out = omega (arith, ap length out.3)
take_out_grows old new s n (Err w) out = omega (arith, ap length out.1)

pub take_out_fits : (ks : List ℕ) (old new : List BoardEvent) (s n : ℕ) (found : Bool) → Fits ks old → Adds old (event s (Obtain n found)) new → Fits (put_at ks n 0) new
take_out_fits ks old new s n true fits a = (obtain_fits ks old new s n fits a).1
take_out_fits ks old new s n false fits a = drop_fits ks old new s n fits a

pub take_grows : {X : Type 0} (number : X → ℕ) (old new : List BoardEvent) (s : ℕ) (r : Result (Option X) Waits) → IsTake number old s r new → length old ≤ length new
take_grows number old new s (Ok (Some x)) take = adds_grows old new (event s (Take (Some (number x)))) take
take_grows number old new s (Ok None) take = added_grows old new (event s (Take None)) take.1
take_grows number old new s (Err w) take = omega (arith, ap length take.2)

there_by : {A : Type 0} (f : A → ℕ) (k : ℕ) (o : Option A) → option_map f o ≡ Some k → IsSome o
there_by f k None h = absurd cc
there_by f k (Some x) h = refl

-- where something is counted, something stands
pub there_at : {A : Type 0} (f : A → ℕ) (xs : List A) (n k : ℕ) → at_number (map f xs) n ≡ Some k → IsSome (at_number xs n)
there_at f xs n k is = there_by f k (at_number xs n) (sym (at_number-map f xs n) ∙ is)

pub things_there : {A : Type 0} (f : A → ℕ) (xs : List A) (n k : ℕ) (x : A) → at_number (map f xs) n ≡ Some k → at_number xs n ≡ Some x → f x ≡ k
things_there f xs n k x counts stands =
    let is : option_map f (Some x) ≡ Some k = ap (option_map f) (sym stands) ∙ (sym (at_number-map f xs n) ∙ counts) in cc

pub take_out_there : (ks : List ℕ) (old new : List BoardEvent) (s n : ℕ) (found : Bool) → Fits ks old → Adds old (event s (Obtain n found)) new → IsSome (at_number ks n)
take_out_there ks old new s n true fits a = rw (obtain_fits ks old new s n fits a).0 refl
take_out_there ks old new s n false fits a =
    let f = found_at (is_idle_for s) (ticket_at (replay_of old) n) a.0 in
    rw (fits, at_number-map things_at (replay_of old).tickets n, f.1) refl
