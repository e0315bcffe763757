-- The budgets of the pauses between two orders add to at most the open lists between them.
use Rattle.std.proofs.Common.{◌≡◌, ℕ, ◌+◌, ◌≤◌, true, false, not, ◌&&◌, ◌||◌, List, [], ◌∷◌, ◌++◌, length, Option, None, Some, slice_get, refl, sym, ◌∙◌, ap, subst, arith, inl, inr}
use Rattle.std.specs.Prelude.{IsSome}
use Rattle.std.specs.List.{filter}
use Rattle.std.proofs.lemmas.Bool.{true≢false, or_cases, or_left, or_right, not-true}
use Rattle.sign_rules.specs.declared.sign.Sign.{Sign}
use Rattle.sign_rules.specs.Rules.{RulesView}
use Rattle.search_cursor.specs.Place.{search_place, is_passed, list_before, begins_with}
use Rattle.order_search.specs.Lists.{open_lists, remaining}
use Rattle.order_search.specs.ListLaws.{Each}
use Rattle.worker_split.specs.declared.outcome.Outcome.{Outcome}
use Rattle.worker_split.specs.declared.piece.Piece.{Piece}
use Rattle.worker_split.specs.declared.piece.PieceEnd.{PieceEnd}
use Rattle.worker_split.specs.declared.piece.PieceEnd.TheVariants.{Open, Ready, Done as Finished}
use Rattle.worker_split.specs.declared.answers.JobAnswer.TheVariants.{Shown as Showing, NoMore as Ended, Paused as Waiting, NotReady}
use Rattle.worker_split.specs.Job.{JobView, answered_piece, task_with, done_before}
use Rattle.job_enumeration.specs.Record.{JobEvent, Ask, Post, Answer, after_event, IsLegalEvent, IsJobRecordFrom}
use Rattle.job_enumeration.specs.Closings.{closings_from, paused_budgets}
use Rattle.job_enumeration.specs.Enumeration.{follows, precedes, begins_with_any}
use Rattle.job_enumeration.proofs.Parted.{IsAhead, IsParted, not_before-itself}
use Rattle.job_enumeration.proofs.Steps.{end_left, piece_left, pieces_left, first_piece, waiting_for, left-answered}
use Rattle.job_enumeration.proofs.Kept.{IsKept, each-at, prefixes_of}
use Rattle.job_enumeration.proofs.Events.{IsReached, asked-is, IsPosting, posting, reached-after}
use Rattle.job_enumeration.proofs.Shown.{budget_after}
use Rattle.job_enumeration.proofs.Places.{fewer_pass, both_within, three, all_three, first-left, lists_ahead}
use Rattle.job_enumeration.proofs.Rooms.{end_room, room_behind, rooms, rooms-closed, rooms-replaced, rooms-asked, rooms-waiting, answered-room}

-- ---- the pauses up to the next order

-- the budget is that of the open ask
abbrev pub IsTold : Option ℕ → ℕ → Type 0
IsTold ask budget = (c : ℕ) → ask ≡ Some c → c ≡ budget

pub told-closed : (budget : ℕ) → IsTold None budget
told-closed budget c e = absurd (cc)

pub told-after : (j : JobView) (e : JobEvent) (budget : ℕ) → IsLegalEvent j e → IsTold j.ask budget
    → IsTold (after_event j e).ask (budget_after budget e)
told-after j (Ask next) budget legal told = λ c e.
    let own = ap (λ (k : JobView). k.ask) (asked-is j next legal.0) in
    let some : Some next ≡ Some c = sym own ∙ e in
    (cc)
told-after j (Post x true) budget legal told =
    let p = posting j x legal.0 legal.1 in
    subst (λ ask. (c : ℕ) → ask ≡ Some c → c ≡ budget) (sym (ap (λ (k : JobView). k.ask) p.is)) told
told-after j (Post x false) budget legal told = told
told-after j (Answer (NotReady piece)) budget legal told = told
told-after j (Answer (Showing order)) budget legal told = told-closed budget
told-after j (Answer Ended) budget legal told = told-closed budget
told-after j (Answer Waiting) budget legal told = told-closed budget

open_ask : (o : Option ℕ) → IsSome o → (c : ℕ) × (o ≡ Some c)
open_ask (Some c) h = (c, refl)
open_ask None h = absurd (true≢false (sym h))

rooms-posted : (r : RulesView) (lists : List (List Sign)) (j : JobView) (x : Outcome) (p : IsPosting j x)
    → IsReached r lists j
    → rooms r j.ask (p.at.front ++ answered_piece p.piece x.budget x.end ∷ p.at.back) ≤ rooms r j.ask j.pieces
rooms-posted r lists j x p reached =
    let at = p.at in
    let new = answered_piece p.piece x.budget x.end in
    let kept = each-at (IsKept j.ask) at.front at.back p.piece
    (subst (Each (IsKept j.ask)) at.parts reached.kept) in
    let is_open = kept.is_open x.budget p.task.unanswered in
    let task = task_with j x.piece p.piece x.budget in
    let left : piece_left r new ≡ piece_left r p.piece =
    subst (λ r. piece_left r new ≡ piece_left r p.piece) reached.rules
    (left-answered task p.piece x.budget x.end refl refl is_open p.right) in
    let room : end_room r j.ask new new.end ≤ end_room r j.ask p.piece p.piece.end =
    subst (λ r. end_room r j.ask new new.end ≤ end_room r j.ask p.piece p.piece.end) reached.rules
    (answered-room task j.ask p.piece x.end refl refl is_open (kept.some x.budget p.task.unanswered)
    (λ c e. kept.same x.budget c p.task.unanswered e) p.right) in
    let parts = ap (rooms r j.ask) at.parts in
    let replaced = rooms-replaced r j.ask at.front at.back p.piece new left room in
    omega (arith, parts, replaced)

rooms-answered : (r : RulesView) (j : JobView) (budget : ℕ) → IsLegalEvent j (Answer Waiting)
    → IsTold j.ask budget
    → budget + rooms r None j.pieces ≤ rooms r j.ask j.pieces
rooms-answered r j budget legal told =
    let ask = open_ask j.ask legal.0 in
    let same : ask.0 ≡ budget = told ask.0 ask.1 in
    let w = waiting_for j.pieces (done_before j.pieces + 1) legal.1 in
    let first = first_piece j.pieces w.0 w.2.found in
    let waiting = rooms-waiting r ask.0 first.at.front first.at.back w.0 w.1
    first.finished w.2.end w.2.last in
    let closed = ap (rooms r None) first.at.parts in
    let asked = ap (rooms r (Some ask.0)) first.at.parts in
    let now = ap (λ o. rooms r o j.pieces) ask.1 in
    omega (arith, same, waiting, closed, asked, now)

pub next-pauses : (r : RulesView) (lists : List (List Sign)) (es : List JobEvent) (j : JobView) (budget : ℕ)
    → IsReached r lists j → IsTold j.ask budget → IsJobRecordFrom j es
    → paused_budgets (closings_from budget es) ≤ rooms r j.ask j.pieces
next-pauses r lists [] j budget reached told legal = omega arith
next-pauses r lists (e ∷ es) j budget reached told legal =
    by_event e legal.0 (next-pauses r lists es (after_event j e) (budget_after budget e)
    (reached-after r lists j e legal.0 reached) (told-after j e budget legal.0 told) legal.1)
  where
    by_event : (e : JobEvent) → IsLegalEvent j e
        → paused_budgets (closings_from (budget_after budget e) es)
        ≤ rooms r (after_event j e).ask (after_event j e).pieces
        → paused_budgets (closings_from budget (e ∷ es)) ≤ rooms r j.ask j.pieces
    by_event (Ask next) legal later =
        let is = ap (λ (k : JobView). rooms r k.ask k.pieces) (asked-is j next legal.0) in
        let asked = rooms-asked r next j.pieces in
        let closed = rooms-closed r j.ask j.pieces in
        omega (arith, later, is, asked, closed)
    by_event (Post x true) legal later =
        let p = posting j x legal.0 legal.1 in
        let is = ap (λ (k : JobView). rooms r k.ask k.pieces) p.is in
        let posted = rooms-posted r lists j x p reached in
        omega (arith, later, is, posted)
    by_event (Post x false) legal later = later
    by_event (Answer (NotReady piece)) legal later = later
    by_event (Answer (Showing order)) legal later = omega arith
    by_event (Answer Ended) legal later = omega arith
    by_event (Answer Waiting) legal later =
        let waiting = rooms-answered r j budget legal told in
        omega (arith, later, waiting)

-- ---- the open lists between two orders

-- what is not passed of a piece stands after an order
abbrev pub StandsAfter : Option (List Sign) → Piece → Type 0
StandsAfter order p = (q : List Sign) → begins_with p.prefix.list q ≡ true
    → is_passed q p.kept.signs.list p.kept.past ≡ false → follows order q ≡ true

abbrev pub lists_between_orders : RulesView → List (List Sign) → Option (List Sign) → Option (List Sign) → ℕ
lists_between_orders r prefixes order next =
    length (filter (λ q. begins_with_any prefixes q && follows order q && precedes next q) (open_lists r))

-- one of the later prefixes
later-prefix : (p q : List Sign) (ps : List (List Sign)) → Each (IsAhead p) ps → begins_with_any ps q ≡ true
    → (o : List Sign) → begins_with p o ≡ true → list_before o q ≡ true
later-prefix p q [] ahead any o begins = absurd (true≢false (sym any))
later-prefix p q (s ∷ ps) ahead any o begins =
    elim (or_cases (begins_with s q) (begins_with_any ps q) any) [
      | inl own ↦ ahead.0 o q begins own
      | inr later ↦ later-prefix p q ps ahead.1 later o begins
    ]

first-begins : (r : RulesView) (ask : Option ℕ) (p : Piece) → IsKept ask p → (o : List Sign)
    → slice_get (piece_left r p) 0 ≡ Some o → begins_with p.prefix.list o ≡ true
first-begins r ask p kept o e = by_end p.end refl e
  where
    by_end : (end : PieceEnd) → p.end ≡ end → slice_get (end_left r p end) 0 ≡ Some o
        → begins_with p.prefix.list o ≡ true
    by_end Open is e = (first-left r p.prefix.list (search_place p.kept) o e).0
    by_end (Ready order) is e =
        let same : order.list ≡ o = (cc) in
        subst (λ l. begins_with p.prefix.list l ≡ true) same (kept.ready order is).0
    by_end Finished is e = absurd (cc)

-- the first order that is left begins with one of the prefixes
first-begins_any : (r : RulesView) (ask : Option ℕ) (ps : List Piece) → Each (IsKept ask) ps → (o : List Sign)
    → slice_get (pieces_left r ps) 0 ≡ Some o → begins_with_any (prefixes_of ps) o ≡ true
first-begins_any r ask [] kept o e = absurd (cc)
first-begins_any r ask (p ∷ ps) kept o e =
    by_left (piece_left r p) refl e (λ k. first-begins_any r ask ps kept.1 o k)
  where
    by_left : (left : List (List Sign)) → piece_left r p ≡ left
        → slice_get (left ++ pieces_left r ps) 0 ≡ Some o
        → (slice_get (pieces_left r ps) 0 ≡ Some o → begins_with_any (prefixes_of ps) o ≡ true)
        → (begins_with p.prefix.list o || begins_with_any (prefixes_of ps) o) ≡ true
    by_left [] is e later =
        or_right (begins_with p.prefix.list o) (begins_with_any (prefixes_of ps) o) (later e)
    by_left (x ∷ left) is e later =
        or_left (begins_with p.prefix.list o) (begins_with_any (prefixes_of ps) o)
        (first-begins r ask p kept.0 o (ap (λ l. slice_get l 0) is ∙ e))

-- with a first piece of which nothing is left
skip-piece : (r : RulesView) (ask : Option ℕ) (order : Option (List Sign)) (p : Piece) (ps : List Piece)
    → IsParted (prefixes_of (p ∷ ps)) → Each (IsKept ask) ps → StandsAfter order p
    → length (lists_ahead (open_lists r) p.prefix.list (search_place p.kept) None)
    + lists_between_orders r (prefixes_of ps) order (slice_get (pieces_left r ps) 0)
    ≤ lists_between_orders r (prefixes_of (p ∷ ps)) order (slice_get (pieces_left r ps) 0)
skip-piece r ask order p ps parted kept after =
    let next = slice_get (pieces_left r ps) 0 in
    let prefix = p.prefix.list in
    let any = begins_with_any (prefixes_of ps) in
    let unpassed = λ (q : List Sign). not (is_passed q p.kept.signs.list p.kept.past) in
    both_within (λ q. begins_with prefix q && unpassed q && true)
    (λ q. any q && follows order q && precedes next q)
    (λ q. (begins_with prefix q || any q) && follows order q && precedes next q)
    (λ q e. let parts = three (begins_with prefix q) (unpassed q) true e in
    all_three (begins_with prefix q || any q) (follows order q) (precedes next q)
    (or_left (begins_with prefix q) (any q) parts.0)
    (after q parts.0 (not-true (is_passed q p.kept.signs.list p.kept.past) parts.1))
    (before_next next q parts.0 (λ o e. first-begins_any r ask ps kept o e)))
    (λ q e. let parts = three (any q) (follows order q) (precedes next q) e in
    all_three (begins_with prefix q || any q) (follows order q) (precedes next q)
    (or_right (begins_with prefix q) (any q) parts.0) parts.1 parts.2)
    (λ q e k. let parts = three (begins_with prefix q) (unpassed q) true e in
    let others = three (any q) (follows order q) (precedes next q) k in
    true≢false (sym (later-prefix prefix q (prefixes_of ps) parted.0 others.0 q parts.0)
    ∙ not_before-itself q))
    (open_lists r)
  where
    before_next : (next : Option (List Sign)) (q : List Sign) → begins_with p.prefix.list q ≡ true
        → ((o : List Sign) → next ≡ Some o → begins_with_any (prefixes_of ps) o ≡ true)
        → precedes next q ≡ true
    before_next None q begins any = refl
    before_next (Some o) q begins any =
        later-prefix p.prefix.list o (prefixes_of ps) parted.0 (any o refl) q begins

-- with a first piece of which an order is left
own-piece : (r : RulesView) (order : Option (List Sign)) (p : Piece) (ps : List (List Sign))
    (next : List Sign)
    → StandsAfter order p
    → length (lists_ahead (open_lists r) p.prefix.list (search_place p.kept) (Some next))
    ≤ lists_between_orders r (p.prefix.list ∷ ps) order (Some next)
own-piece r order p ps next after =
    let prefix = p.prefix.list in
    let any = begins_with_any ps in
    let unpassed = λ (q : List Sign). not (is_passed q p.kept.signs.list p.kept.past) in
    fewer_pass (λ q. begins_with prefix q && unpassed q && list_before q next)
    (λ q. (begins_with prefix q || any q) && follows order q && list_before q next)
    (λ q e. let parts = three (begins_with prefix q) (unpassed q) (list_before q next) e in
    all_three (begins_with prefix q || any q) (follows order q) (list_before q next)
    (or_left (begins_with prefix q) (any q) parts.0)
    (after q parts.0 (not-true (is_passed q p.kept.signs.list p.kept.past) parts.1)) parts.2)
    (open_lists r)

pub rooms-between : (r : RulesView) (ask : Option ℕ) (order : Option (List Sign)) (ps : List Piece)
    → IsParted (prefixes_of ps) → Each (IsKept ask) ps → Each (StandsAfter order) ps
    → rooms r None ps ≤ lists_between_orders r (prefixes_of ps) order (slice_get (pieces_left r ps) 0)
rooms-between r ask order [] parted kept after = omega arith
rooms-between r ask order (p ∷ ps) parted kept after =
    by_end p.end (rooms-between r ask order ps parted.1 kept.1 after.1)
  where
    by_left : (left : List (List Sign))
        → rooms r None ps ≤ lists_between_orders r (prefixes_of ps) order (slice_get (pieces_left r ps) 0)
        → length (lists_ahead (open_lists r) p.prefix.list (search_place p.kept) (slice_get left 0))
        + room_behind left (rooms r None ps)
        ≤ lists_between_orders r (prefixes_of (p ∷ ps)) order (slice_get (left ++ pieces_left r ps) 0)
    by_left [] later =
        let skipped = skip-piece r ask order p ps parted kept.1 after.0 in
        omega (arith, later, skipped)
    by_left (o ∷ left) later =
        let own = own-piece r order p (prefixes_of ps) o after.0 in
        omega (arith, own)

    by_end : (end : PieceEnd)
        → rooms r None ps ≤ lists_between_orders r (prefixes_of ps) order (slice_get (pieces_left r ps) 0)
        → end_room r None p end + room_behind (end_left r p end) (rooms r None ps)
        ≤ lists_between_orders r (prefixes_of (p ∷ ps)) order
        (slice_get (end_left r p end ++ pieces_left r ps) 0)
    by_end Open later =
        let own = by_left (remaining r p.prefix.list (search_place p.kept)) later in
        omega (arith, own)
    by_end (Ready o) later = omega arith
    by_end Finished later =
        let skipped = skip-piece r ask order p ps parted kept.1 after.0 in
        omega (arith, later, skipped)
