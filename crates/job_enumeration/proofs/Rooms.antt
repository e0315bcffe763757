-- How many open lists a job can still pass before its next order, and what each event leaves of them.
use Rattle.std.proofs.Common.{◌≡◌, ℕ, ◌+◌, ◌≤◌, List, [], ◌∷◌, ◌++◌, length, map, Option, None, Some, slice_get, refl, ◌∙◌, ap, arith}
use Rattle.sign_rules.specs.declared.sign.Sign.{Sign}
use Rattle.sign_rules.specs.Rules.{RulesView}
use Rattle.search_cursor.specs.Place.{SearchPlace, search_place}
use Rattle.order_search.specs.Lists.{open_lists, remaining}
use Rattle.order_search.specs.ListLaws.{Each}
use Rattle.worker_split.specs.declared.outcome.End.{End}
use Rattle.worker_split.specs.declared.outcome.End.TheVariants.{Found, Done, Paused}
use Rattle.worker_split.specs.declared.piece.Piece.{Piece}
use Rattle.worker_split.specs.declared.piece.PieceEnd.{PieceEnd}
use Rattle.worker_split.specs.declared.piece.PieceEnd.TheVariants.{Open, Ready, Done as Finished}
use Rattle.worker_split.specs.declared.piece.LastTask.{LastTask}
use Rattle.worker_split.specs.declared.piece.LastTask.TheVariants.{Never, Asked, Answered}
use Rattle.worker_split.specs.Tasks.{TaskView, IsRightEnd}
use Rattle.worker_split.specs.Job.{asked_end, asked_piece, answered_piece}
use Rattle.job_enumeration.proofs.Steps.{end_left, piece_left}
use Rattle.job_enumeration.proofs.Places.{lists_ahead, pause-ahead, first-left}

-- a pause that was reported in the open ask, and not answered yet
abbrev pub credit : Option ℕ → LastTask → ℕ
credit None last = 0
credit (Some budget) Never = 0
credit (Some budget) (Asked b) = 0
credit (Some budget) (Answered b) = budget

-- the open lists from the kept position on that stand before the first order that is left
abbrev pub piece_ahead : RulesView → Piece → List (List Sign)
piece_ahead r p = lists_ahead (open_lists r) p.prefix.list (search_place p.kept)
    (slice_get (remaining r p.prefix.list (search_place p.kept)) 0)

abbrev pub end_room : RulesView → Option ℕ → Piece → PieceEnd → ℕ
end_room r ask p Open = credit ask p.last + length (piece_ahead r p)
end_room r ask p (Ready order) = 0
end_room r ask p Finished = 0

-- what comes behind a piece counts only where nothing is left of it
abbrev pub room_behind : List (List Sign) → ℕ → ℕ
room_behind [] n = n
room_behind (_ ∷ _) n = 0

abbrev pub rooms : RulesView → Option ℕ → List Piece → ℕ
rooms r ask [] = 0
rooms r ask (p ∷ ps) = end_room r ask p p.end + room_behind (piece_left r p) (rooms r ask ps)

behind-le : (left : List (List Sign)) (m n : ℕ) → m ≤ n → room_behind left m ≤ room_behind left n
behind-le [] m n le = le
behind-le (_ ∷ _) m n le = omega arith

closed-end : (r : RulesView) (ask : Option ℕ) (p : Piece) (end : PieceEnd)
    → end_room r None p end ≤ end_room r ask p end
closed-end r ask p Open = omega arith
closed-end r ask p (Ready order) = omega arith
closed-end r ask p Finished = omega arith

pub rooms-closed : (r : RulesView) (ask : Option ℕ) (ps : List Piece) → rooms r None ps ≤ rooms r ask ps
rooms-closed r ask [] = omega arith
rooms-closed r ask (p ∷ ps) =
    let own = closed-end r ask p p.end in
    let rest = behind-le (piece_left r p) (rooms r None ps) (rooms r ask ps) (rooms-closed r ask ps) in
    omega (arith, own, rest)

pub rooms-replaced : (r : RulesView) (ask : Option ℕ) (front back : List Piece) (p x : Piece)
    → piece_left r x ≡ piece_left r p → end_room r ask x x.end ≤ end_room r ask p p.end
    → rooms r ask (front ++ x ∷ back) ≤ rooms r ask (front ++ p ∷ back)
rooms-replaced r ask [] back p x same le =
    let rest : room_behind (piece_left r x) (rooms r ask back)
    ≡ room_behind (piece_left r p) (rooms r ask back) =
    ap (λ l. room_behind l (rooms r ask back)) same in
    omega (arith, le, rest)
rooms-replaced r ask (d ∷ front) back p x same le =
    let rest = behind-le (piece_left r d) (rooms r ask (front ++ x ∷ back)) (rooms r ask (front ++ p ∷ back))
    (rooms-replaced r ask front back p x same le) in
    omega (arith, rest)

asked-room : (r : RulesView) (budget : ℕ) (p : Piece) (end : PieceEnd) → p.end ≡ end
    → end_room r (Some budget) (asked_piece budget p) end ≤ end_room r None p end
asked-room r budget p Open e =
    let fresh : credit (Some budget) (asked_end budget p.end p.last) ≡ 0 =
    ap (λ end. credit (Some budget) (asked_end budget end p.last)) e in
    omega (arith, fresh)
asked-room r budget p (Ready order) e = omega arith
asked-room r budget p Finished e = omega arith

pub rooms-asked : (r : RulesView) (budget : ℕ) (ps : List Piece)
    → rooms r (Some budget) (map (asked_piece budget) ps) ≤ rooms r None ps
rooms-asked r budget [] = omega arith
rooms-asked r budget (p ∷ ps) =
    let own = asked-room r budget p p.end refl in
    let rest = behind-le (piece_left r p) (rooms r (Some budget) (map (asked_piece budget) ps))
    (rooms r None ps)
    (rooms-asked r budget ps) in
    omega (arith, own, rest)

pub rooms-front : (r : RulesView) (ask : Option ℕ) (front rest : List Piece)
    → Each (λ d. d.end ≡ Finished) front
    → rooms r ask (front ++ rest) ≡ rooms r ask rest
rooms-front r ask [] rest h = refl
rooms-front r ask (d ∷ front) rest h =
    let own : end_room r ask d d.end + room_behind (end_left r d d.end) (rooms r ask (front ++ rest))
    ≡ 0 + rooms r ask (front ++ rest) =
    ap (λ end. end_room r ask d end + room_behind (end_left r d end) (rooms r ask (front ++ rest))) h.0 in
    let later = rooms-front r ask front rest h.1 in
    omega (arith, own, later)

-- a pause is answered
pub rooms-waiting : (r : RulesView) (budget : ℕ) (front back : List Piece) (p : Piece) (b : ℕ)
    → Each (λ d. d.end ≡ Finished) front → p.end ≡ Open → p.last ≡ Answered b
    → budget + rooms r None (front ++ p ∷ back) ≤ rooms r (Some budget) (front ++ p ∷ back)
rooms-waiting r budget front back p b finished is_open answered =
    let closed = rooms-front r None front (p ∷ back) finished in
    let asked = rooms-front r (Some budget) front (p ∷ back) finished in
    let old = ap (end_room r None p) is_open in
    let now = ap (end_room r (Some budget) p) is_open in
    let own : credit (Some budget) p.last ≡ budget = ap (credit (Some budget)) answered in
    let rest = behind-le (piece_left r p) (rooms r None back) (rooms r (Some budget) back)
    (rooms-closed r (Some budget) back) in
    omega (arith, closed, asked, old, now, own, rest)

-- a right answer of a task leaves no more room than there was, with its budget
paused-credit : (ask : Option ℕ) (budget : ℕ) → ((c : ℕ) → ask ≡ Some c → budget ≡ c)
    → credit ask (Answered budget) ≤ budget
paused-credit None budget same = omega arith
paused-credit (Some c) budget same = let own = same c refl in omega (arith, own)

pub answered-room : (t : TaskView) (ask : Option ℕ) (p : Piece) (end : End) → t.prefix ≡ p.prefix.list
    → t.from ≡ search_place p.kept → p.end ≡ Open → 1 ≤ t.budget → ((c : ℕ) → ask ≡ Some c → t.budget ≡ c)
    → IsRightEnd t end
    → end_room t.rules ask (answered_piece p t.budget end) (answered_piece p t.budget end).end
    ≤ end_room t.rules ask p p.end
answered-room t ask p (Found order position) prefix from is_open some same right = omega arith
answered-room t ask p Done prefix from is_open some same right = omega arith
answered-room t ask p (Paused position) prefix from is_open some same right =
    let new = answered_piece p t.budget (Paused position) in
    let old = ap (end_room t.rules ask p) is_open in
    let now = ap (end_room t.rules ask new) is_open in
    let own = paused-credit ask t.budget same in
    let next = slice_get (remaining t.rules t.prefix (search_place position)) 0 in
    let pause = pause-ahead (open_lists t.rules) t.prefix t.from (search_place position) next t.budget
    some right.1
    (λ o e. (first-left t.rules t.prefix (search_place position) o e).1) in
    let ahead = λ (l : List Sign) (from : SearchPlace) (next : Option (List Sign)).
    length (lists_ahead (open_lists t.rules) l from next) in
    let after : ahead t.prefix (search_place position) next ≡ length (piece_ahead t.rules new) =
    ap (λ l. ahead l (search_place position) (slice_get (remaining t.rules l (search_place position)) 0)) prefix in
    let before : ahead t.prefix t.from next ≡ length (piece_ahead t.rules p) =
    ap (λ l. ahead t.prefix t.from (slice_get l 0)) right.0
    ∙ ap (λ l. ahead l t.from (slice_get (remaining t.rules l t.from) 0)) prefix
    ∙ ap (λ from. ahead p.prefix.list from (slice_get (remaining t.rules p.prefix.list from) 0)) from in
    omega (arith, old, now, own, pause, after, before)
