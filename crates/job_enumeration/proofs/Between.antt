-- The pauses behind each order that a legal record shows.
use Rattle.std.proofs.Common.{◌≡◌, ℕ, zero, suc, ◌≤◌, true, ◌&&◌, List, [], ◌∷◌, ◌++◌, length, map, Option, None, Some, slice_get, refl, sym, ap, subst, arith}
use Rattle.std.proofs.lemmas.Bool.{or_right}
use Rattle.sign_rules.specs.declared.sign.Sign.{Sign}
use Rattle.sign_rules.specs.Signs.{OrderView}
use Rattle.sign_rules.specs.Rules.{RulesView}
use Rattle.search_cursor.specs.Place.{begins_with}
use Rattle.order_search.specs.Lists.{open_lists}
use Rattle.order_search.specs.ListLaws.{Each, each_of}
use Rattle.worker_split.specs.declared.piece.Piece.{Piece}
use Rattle.worker_split.specs.declared.answers.JobAnswer.TheVariants.{Shown as Showing, NoMore as Ended, Paused as Waiting, NotReady}
use Rattle.worker_split.specs.Pieces.{pieces_of}
use Rattle.worker_split.specs.Job.{JobView, opened_job, new_piece, reopened_end, after_answer}
use Rattle.job_enumeration.specs.Record.{JobEvent, Ask, Post, Answer, after_event, IsLegalEvent, IsJobRecordFrom, IsJobRecord}
use Rattle.job_enumeration.specs.Closings.{closings_from, closings, after_shown, paused_budgets}
use Rattle.job_enumeration.specs.Enumeration.{follows, precedes, begins_with_any, open_between}
use Rattle.job_enumeration.proofs.Parted.{IsAhead, IsParted, parted-pieces}
use Rattle.job_enumeration.proofs.Steps.{pieces_left, left-front}
use Rattle.job_enumeration.proofs.Kept.{IsKept, each-at, prefixes_of, prefixes-new}
use Rattle.job_enumeration.proofs.Events.{IsReached, reached-opened, left-opened, IsShowing, showing, reached-after, reached-shown, event_shows, left-after}
use Rattle.job_enumeration.proofs.Shown.{budget_after}
use Rattle.job_enumeration.proofs.Places.{fewer_pass, three, all_three, passed_apart}
use Rattle.job_enumeration.proofs.Rooms.{rooms, rooms-front}
use Rattle.job_enumeration.proofs.Pauses.{IsTold, told-closed, told-after, StandsAfter, lists_between_orders, next-pauses, rooms-between}

-- ---- right behind an order that is shown

parted-rest : (front rest : List Piece) → IsParted (prefixes_of (front ++ rest)) → IsParted (prefixes_of rest)
parted-rest [] rest h = h
parted-rest (d ∷ front) rest h = parted-rest front rest h.1

any-rest : (front rest : List Piece) (q : List Sign) → begins_with_any (prefixes_of rest) q ≡ true
    → begins_with_any (prefixes_of (front ++ rest)) q ≡ true
any-rest [] rest q e = e
any-rest (d ∷ front) rest q e =
    or_right (begins_with d.prefix.list q) (begins_with_any (prefixes_of (front ++ rest)) q)
    (any-rest front rest q e)

each-rest : (P : Piece → Type 0) (front rest : List Piece) → Each P (front ++ rest) → Each P rest
each-rest P [] rest h = h
each-rest P (d ∷ front) rest h = each-rest P front rest h.1

-- later pieces stand after each order of an earlier one
later-after : (prefix order : List Sign) (ps : List Piece) → Each (IsAhead prefix) (prefixes_of ps)
    → begins_with prefix order ≡ true → Each (StandsAfter (Some order)) ps
later-after prefix order [] ahead begins = tt
later-after prefix order (d ∷ ps) ahead begins =
    (λ q own unpassed. ahead.0 order q begins own, later-after prefix order ps ahead.1 begins)

between-wider : (r : RulesView) (front rest : List Piece) (order next : Option (List Sign))
    → lists_between_orders r (prefixes_of rest) order next
    ≤ lists_between_orders r (prefixes_of (front ++ rest)) order next
between-wider r front rest order next =
    let some = begins_with_any (prefixes_of rest) in
    let any = begins_with_any (prefixes_of (front ++ rest)) in
    fewer_pass (λ q. some q && follows order q && precedes next q)
    (λ q. any q && follows order q && precedes next q)
    (λ q e. let parts = three (some q) (follows order q) (precedes next q) e in
    all_three (any q) (follows order q) (precedes next q) (any-rest front rest q parts.0) parts.1 parts.2)
    (open_lists r)

rooms-shown : (r : RulesView) (lists : List (List Sign)) (j : JobView) (order : OrderView) → IsParted lists
    → IsReached r lists j → IsShowing j order
    → rooms r None (after_answer j (Showing order)).pieces
    ≤ lists_between_orders r lists (Some order.list)
    (slice_get (pieces_left r (after_answer j (Showing order)).pieces) 0)
rooms-shown r lists j order parted reached s =
    let front = s.first.at.front in
    let back = s.first.at.back in
    let new : Piece = record s.piece { end = reopened_end s.piece.end } in
    let rest : List Piece = new ∷ back in
    let next = slice_get (pieces_left r rest) 0 in
    let now = subst (IsReached r lists) s.is (reached-shown r lists j order s reached) in
    let own = parted-rest front rest (subst IsParted (sym now.prefixes) parted) in
    let old = each-at (IsKept j.ask) front back s.piece
    (subst (Each (IsKept j.ask)) s.first.at.parts reached.kept) in
    let passed = old.ready order s.ready in
    let after : Each (StandsAfter (Some order.list)) rest = (
      λ q begins unpassed. passed_apart order.list q s.piece.kept.signs.list s.piece.kept.past
          passed.1 unpassed,
      later-after s.piece.prefix.list order.list back own.0 passed.0,
    ) in
    let between = rooms-between r None (Some order.list) rest own
    (each-rest (IsKept None) front rest now.kept) after in
    let wider = between-wider r front rest (Some order.list) next in
    let skipped = rooms-front r None front rest s.first.finished in
    let all = ap (λ ls. lists_between_orders r ls (Some order.list) next) now.prefixes in
    let left = ap (λ l. lists_between_orders r lists (Some order.list) (slice_get l 0))
    (left-front r front rest s.first.finished) in
    subst (λ (k : JobView). rooms r None k.pieces
    ≤ lists_between_orders r lists (Some order.list) (slice_get (pieces_left r k.pieces) 0)) (sym s.is)
    (omega (arith, between, wider, skipped, all, left))

rooms-opened : (r : RulesView) (lists : List (List Sign)) → IsParted lists
    → Each (IsKept None) (map new_piece lists)
    → rooms r None (map new_piece lists)
    ≤ lists_between_orders r lists None (slice_get (pieces_left r (map new_piece lists)) 0)
rooms-opened r lists parted kept =
    let ps = map new_piece lists in
    let between = rooms-between r None None ps (subst IsParted (sym (prefixes-new lists)) parted) kept
    (each_of (StandsAfter None) (λ p q begins unpassed. refl) ps) in
    let all = ap (λ ls. lists_between_orders r ls None (slice_get (pieces_left r ps) 0))
    (prefixes-new lists) in
    omega (arith, between, all)

-- ---- behind the k-th order

abbrev between_at : RulesView → List (List Sign) → List (List Sign) → ℕ → ℕ
between_at r lists left k = lists_between_orders r lists (slice_get left k) (slice_get left (suc k))

later-pauses : (r : RulesView) (lists : List (List Sign)) → IsParted lists
    → (es : List JobEvent) (j : JobView)
    (budget k : ℕ) → IsReached r lists j → IsTold j.ask budget → IsJobRecordFrom j es
    → paused_budgets (after_shown (suc k) (closings_from budget es))
    ≤ between_at r lists (pieces_left r j.pieces) k
later-pauses r lists parted [] j budget k reached told legal = omega arith
later-pauses r lists parted (e ∷ es) j budget k reached told legal =
    by_event e legal.0 k
    (λ k. later-pauses r lists parted es (after_event j e) (budget_after budget e) k
    (reached-after r lists j e legal.0 reached) (told-after j e budget legal.0 told) legal.1)
    (next-pauses r lists es (after_event j e) (budget_after budget e)
    (reached-after r lists j e legal.0 reached)
    (told-after j e budget legal.0 told) legal.1)
    (left-after r lists j e legal.0 reached)
  where
    by_event : (e : JobEvent) → IsLegalEvent j e → (k : ℕ)
        → ((k : ℕ) → paused_budgets (after_shown (suc k) (closings_from (budget_after budget e) es))
        ≤ between_at r lists (pieces_left r (after_event j e).pieces) k)
        → paused_budgets (closings_from (budget_after budget e) es)
        ≤ rooms r (after_event j e).ask (after_event j e).pieces
        → pieces_left r j.pieces ≡ event_shows e ++ pieces_left r (after_event j e).pieces
        → paused_budgets (after_shown (suc k) (closings_from budget (e ∷ es)))
        ≤ between_at r lists (pieces_left r j.pieces) k
    by_event (Ask next) legal k later now left =
        let same = ap (λ l. between_at r lists l k) left in let own = later k in omega (arith, same, own)
    by_event (Post x accepted) legal k later now left =
        let same = ap (λ l. between_at r lists l k) left in let own = later k in omega (arith, same, own)
    by_event (Answer (NotReady piece)) legal k later now left = later k
    by_event (Answer Ended) legal k later now left = later k
    by_event (Answer Waiting) legal k later now left = later k
    by_event (Answer (Showing order)) legal zero later now left =
        let same = ap (λ l. between_at r lists l 0) left in
        let own = rooms-shown r lists j order parted reached (showing j order legal.1) in
        omega (arith, same, own, now)
    by_event (Answer (Showing order)) legal (suc k) later now left =
        let same = ap (λ l. between_at r lists l (suc k)) left in
        let own = later k in
        omega (arith, same, own)

pub pauses-between : (job version : ℕ) (r : RulesView) (most : ℕ) (es : List JobEvent)
    → IsJobRecord job version r most es
    → (k : ℕ) → paused_budgets (after_shown k (closings es)) ≤ length (open_between r most k)
unfolding open_between
pauses-between job version r most es legal zero =
    let reached = reached-opened job version r most in
    let pauses = next-pauses r (pieces_of r most) es (opened_job job version r most) 0 reached
    (told-closed 0) legal in
    let between = rooms-opened r (pieces_of r most) (parted-pieces r most) reached.kept in
    let left = ap (λ l. lists_between_orders r (pieces_of r most) None (slice_get l 0))
    (left-opened job version r most) in
    omega (arith, pauses, between, left)
pauses-between job version r most es legal (suc k) =
    let pauses = later-pauses r (pieces_of r most) (parted-pieces r most) es (opened_job job version r most) 0 k
    (reached-opened job version r most) (told-closed 0) legal in
    let left = ap (λ l. between_at r (pieces_of r most) l k) (left-opened job version r most) in
    omega (arith, pauses, left)
