-- What is left of a job's pieces, and how an event of a legal record changes it.
use Rattle.std.proofs.Common.{◌≡◌, ◌⊎◌, inl, inr, ℕ, zero, suc, ◌+◌, ◌-◌, ◌<◌, ◌≤◌, Bool, true, false, cond, eqb, List, [], ◌∷◌, ◌++◌, length, map, take, drop, Option, Some, None, slice_get, slice_index_or, slice_set, refl, sym, ◌∙◌, ap, subst, arith, drop-cons}
use Rattle.std.specs.List.{flat_map}
use Rattle.std.proofs.lemmas.List.{take-append-drop, take_all, set_split}
use Rattle.std.proofs.lemmas.List.Sums.{prefix_len_stops}
use Rattle.std.proofs.lemmas.Bool.{true≢false}
use Rattle.std.proofs.lemmas.Option.{slice_get_within, get_or_from_slice_get, slice_get_cases}
use Rattle.sign_rules.specs.declared.sign.Sign.{Sign}
use Rattle.sign_rules.specs.Signs.{OrderView}
use Rattle.sign_rules.specs.Rules.{RulesView}
use Rattle.search_cursor.specs.Place.{search_place}
use Rattle.order_search.specs.Lists.{remaining}
use Rattle.order_search.specs.ListLaws.{Each}
use Rattle.worker_split.specs.declared.outcome.Outcome.{Outcome}
use Rattle.worker_split.specs.declared.outcome.End.{End}
use Rattle.worker_split.specs.declared.outcome.End.TheVariants.{Found, Done, Paused}
use Rattle.worker_split.specs.declared.piece.Piece.{Piece}
use Rattle.worker_split.specs.declared.piece.PieceEnd.{PieceEnd}
use Rattle.worker_split.specs.declared.piece.PieceEnd.TheVariants.{Open, Ready, Done as Finished}
use Rattle.worker_split.specs.declared.piece.LastTask.{LastTask}
use Rattle.worker_split.specs.declared.piece.LastTask.TheVariants.{Never, Asked, Answered}
use Rattle.worker_split.specs.declared.answers.JobAnswer.TheVariants.{Shown as Showing, NoMore as Ended, Paused as Waiting}
use Rattle.worker_split.specs.Tasks.{TaskView, IsRightEnd}
use Rattle.worker_split.specs.Job.{JobView, asked_piece, piece_at, NamesTask, NamesTaskOf, Matches, answered_piece, is_finished, done_before, end_answer, piece_answer, reopened_end}

-- the orders that are left of a piece: the one that is ready, and those from its kept position on
abbrev pub end_left : RulesView → Piece → PieceEnd → List (List Sign)
end_left r p Open = remaining r p.prefix.list (search_place p.kept)
end_left r p (Ready order) = order.list ∷ remaining r p.prefix.list (search_place p.kept)
end_left r p Finished = []

abbrev pub piece_left : RulesView → Piece → List (List Sign)
piece_left r p = end_left r p p.end

abbrev pub pieces_left : RulesView → List Piece → List (List Sign)
pieces_left r ps = flat_map (piece_left r) ps

-- ---- where a piece stands

-- the n-th piece, from 0, between the others
pub record IsPieceAt (ps : List Piece) (n : ℕ) (p : Piece) : Type 0 where
  pub front : List Piece
  pub back : List Piece
  pub parts : ps ≡ front ++ p ∷ back
  pub set : (x : Piece) → slice_set ps n x ≡ front ++ x ∷ back

pub piece_place : (ps : List Piece) (n : ℕ) (p : Piece) → slice_get ps n ≡ Some p → IsPieceAt ps n p
piece_place ps n p found =
    let below = slice_get_within ps n p found in
    record {
      front = take n ps;
      back = drop (suc n) ps;
      parts = sym (take-append-drop n ps) ∙ ap (λ l. take n ps ++ l)
          (drop-cons ps n p below ∙ ap (λ x. x ∷ drop (suc n) ps) (get_or_from_slice_get ps n p p found));
      set = λ x. set_split ps n x below;
    }

-- an outcome that matches names the task of a piece
pub record IsNamed (j : JobView) (x : Outcome) (p : Piece) : Type 0 where
  pub task : NamesTask j p x
  pub known : piece_at j x.piece ≡ Some p
  pub found : slice_get j.pieces (x.piece - 1) ≡ Some p

some_of : {A : Type 0} (b : Bool) (o : Option A) (p : A) → cond b None o ≡ Some p → o ≡ Some p
some_of true o p e = absurd (cc)
some_of false o p e = e

pub named_piece : (j : JobView) (x : Outcome) → Matches j x → (p : Piece) × IsNamed j x p
named_piece j x matches = by_piece (piece_at j x.piece) refl matches
  where
    by_piece : (o : Option Piece) → piece_at j x.piece ≡ o → NamesTaskOf j o x → (p : Piece) × IsNamed j x p
    by_piece None e names = absurd names
    by_piece (Some p) e names = (
      p,
      record {
        task = names;
        known = e;
        found = some_of (eqb x.piece 0) (slice_get j.pieces (x.piece - 1)) p e;
      },
    )

-- ---- the first piece that is not done

finished_end : (end : PieceEnd) → is_finished end ≡ true → end ≡ Finished
finished_end Finished e = refl
finished_end Open e = absurd (true≢false (sym e))
finished_end (Ready order) e = absurd (true≢false (sym e))

finished_front : (ps : List Piece) (n : ℕ) → n ≤ done_before ps → Each (λ p. p.end ≡ Finished) (take n ps)
finished_front ps zero below = tt
finished_front [] (suc n) below = tt
finished_front (p ∷ ps) (suc n) below = by_test (is_finished p.end) refl below (λ b. finished_front ps n b)
  where
    by_test : (b : Bool) → is_finished p.end ≡ b → suc n ≤ cond b (1 + done_before ps) 0
        → (n ≤ done_before ps → Each (λ p. p.end ≡ Finished) (take n ps))
        → (p.end ≡ Finished) × Each (λ p. p.end ≡ Finished) (take n ps)
    by_test true e less rest = (finished_end p.end e, rest (omega (arith, less)))
    by_test false e less rest = absurd (omega (arith, less))

pub finished_left : (r : RulesView) (ps : List Piece) → Each (λ p. p.end ≡ Finished) ps
    → pieces_left r ps ≡ []
finished_left r [] h = refl
finished_left r (p ∷ ps) h = ap (λ end. end_left r p end ++ pieces_left r ps) h.0 ∙ finished_left r ps h.1

-- the pieces where the first that is not done is p
pub record IsFirst (ps : List Piece) (p : Piece) : Type 0 where
  pub at : IsPieceAt ps (done_before ps) p
  pub finished : Each (λ d. d.end ≡ Finished) at.front
  pub unfinished : is_finished p.end ≡ false

pub first_piece : (ps : List Piece) (p : Piece) → slice_get ps (done_before ps) ≡ Some p → IsFirst ps p
unfolding piece_place
first_piece ps p found =
    let below = slice_get_within ps (done_before ps) p found in
    record {
      at = piece_place ps (done_before ps) p found;
      finished = finished_front ps (done_before ps) (omega arith);
      unfinished = ap (λ (x : Piece). is_finished x.end) (sym (get_or_from_slice_get ps
          (done_before ps) p p found))
          ∙ prefix_len_stops (λ (x : Piece). is_finished x.end) ps p below;
    }

-- ---- what a changed piece leaves

pub left-replaced : (r : RulesView) (front back : List Piece) (p x : Piece) → piece_left r x ≡ piece_left r p
    → pieces_left r (front ++ x ∷ back) ≡ pieces_left r (front ++ p ∷ back)
left-replaced r [] back p x same = ap (λ l. l ++ pieces_left r back) same
left-replaced r (d ∷ front) back p x same = ap (λ l. piece_left r d ++ l)
    (left-replaced r front back p x same)

pub left-front : (r : RulesView) (front rest : List Piece) → Each (λ d. d.end ≡ Finished) front
    → pieces_left r (front ++ rest) ≡ pieces_left r rest
left-front r [] rest h = refl
left-front r (d ∷ front) rest h =
    ap (λ end. end_left r d end ++ pieces_left r (front ++ rest)) h.0 ∙ left-front r front rest h.1

pub left-asked : (r : RulesView) (budget : ℕ) (ps : List Piece)
    → pieces_left r (map (asked_piece budget) ps) ≡ pieces_left r ps
left-asked r budget [] = refl
left-asked r budget (p ∷ ps) = ap (λ l. piece_left r p ++ l) (left-asked r budget ps)

-- a right answer leaves what was left
pub left-answered : (t : TaskView) (p : Piece) (budget : ℕ) (end : End) → t.prefix ≡ p.prefix.list
    → t.from ≡ search_place p.kept
    → p.end ≡ Open → IsRightEnd t end
    → piece_left t.rules (answered_piece p budget end) ≡ piece_left t.rules p
left-answered t p budget end prefix from is_open right = by_end end right
    ∙ sym (ap (end_left t.rules p) is_open)
  where
    own : remaining t.rules t.prefix t.from ≡ remaining t.rules p.prefix.list (search_place p.kept)
    own = ap (λ l. remaining t.rules l t.from) prefix ∙ ap (remaining t.rules p.prefix.list) from

    by_end : (end : End) → IsRightEnd t end
        → piece_left t.rules (answered_piece p budget end) ≡ remaining t.rules p.prefix.list (search_place p.kept)
    by_end (Found order position) right =
        ap (λ l. order.list ∷ remaining t.rules l (search_place position)) (sym prefix) ∙ sym right.0 ∙ own
    by_end Done right = sym right ∙ own
    by_end (Paused position) right =
        ap (end_left t.rules (answered_piece p budget (Paused position))) is_open
        ∙ ap (λ l. remaining t.rules l (search_place position)) (sym prefix) ∙ right.0 ∙ own

-- the order that is ready is given away
pub left-shown : (r : RulesView) (front back : List Piece) (p : Piece) (order : OrderView)
    → Each (λ d. d.end ≡ Finished) front → p.end ≡ Ready order
    → pieces_left r (front ++ p ∷ back)
    ≡ order.list ∷ pieces_left r (front ++ (record p { end = reopened_end p.end }) ∷ back)
left-shown r front back p order finished ready =
    let next : Piece = record p { end = reopened_end p.end } in
    left-front r front (p ∷ back) finished
    ∙ ap (λ end. end_left r p end ++ pieces_left r back) ready
    ∙ ap (λ end. order.list ∷ (end_left r next end ++ pieces_left r back)) (ap reopened_end (sym ready))
    ∙ ap (λ l. order.list ∷ l) (sym (left-front r front (next ∷ back) finished))

-- ---- which piece an answer comes from

shown_end : (number : ℕ) (end : PieceEnd) (last : LastTask) (order : OrderView)
    → Showing order ≡ end_answer number end last → end ≡ Ready order
shown_end number (Ready other) last order e = let same : order ≡ other = (cc) in ap Ready (sym same)
shown_end number Open Never order e = absurd (cc)
shown_end number Open (Asked b) order e = absurd (cc)
shown_end number Open (Answered b) order e = absurd (cc)
shown_end number Finished last order e = absurd (cc)

waiting_end : (number : ℕ) (end : PieceEnd) (last : LastTask) → Waiting ≡ end_answer number end last
    → (end ≡ Open) × ((budget : ℕ) × (last ≡ Answered budget))
waiting_end number (Ready other) last e = absurd (cc)
waiting_end number Open Never e = absurd (cc)
waiting_end number Open (Asked b) e = absurd (cc)
waiting_end number Open (Answered b) e = (refl, (b, refl))
waiting_end number Finished last e = absurd (cc)

ended_end : (number : ℕ) (end : PieceEnd) (last : LastTask) → Ended ≡ end_answer number end last
    → is_finished end ≡ true
ended_end number (Ready other) last e = absurd (cc)
ended_end number Open Never e = absurd (cc)
ended_end number Open (Asked b) e = absurd (cc)
ended_end number Open (Answered b) e = absurd (cc)
ended_end number Finished last e = refl

pub record IsShownBy (ps : List Piece) (order : OrderView) (p : Piece) : Type 0 where
  pub found : slice_get ps (done_before ps) ≡ Some p
  pub ready : p.end ≡ Ready order

pub shown_by : (ps : List Piece) (number : ℕ) (order : OrderView)
    → Showing order ≡ piece_answer number (slice_get ps (done_before ps)) → (p : Piece) × IsShownBy ps order p
shown_by ps number order e = by_piece (slice_get ps (done_before ps)) refl e
  where
    by_piece : (o : Option Piece) → slice_get ps (done_before ps) ≡ o → Showing order ≡ piece_answer number o
        → (p : Piece) × IsShownBy ps order p
    by_piece None found e = absurd (cc)
    by_piece (Some p) found e = (p, record { found = found; ready = shown_end number p.end p.last order e })

pub record IsWaitingFor (ps : List Piece) (budget : ℕ) (p : Piece) : Type 0 where
  pub found : slice_get ps (done_before ps) ≡ Some p
  pub end : p.end ≡ Open
  pub last : p.last ≡ Answered budget

pub waiting_for : (ps : List Piece) (number : ℕ)
    → Waiting ≡ piece_answer number (slice_get ps (done_before ps))
    → (p : Piece) × (budget : ℕ) × IsWaitingFor ps budget p
waiting_for ps number e = by_piece (slice_get ps (done_before ps)) refl e
  where
    by_piece : (o : Option Piece) → slice_get ps (done_before ps) ≡ o → Waiting ≡ piece_answer number o
        → (p : Piece) × (budget : ℕ) × IsWaitingFor ps budget p
    by_piece None found e = absurd (cc)
    by_piece (Some p) found e =
        let parts = waiting_end number p.end p.last e in
        (p, parts.1.0, record { found = found; end = parts.0; last = parts.1.1 })

-- "no more" comes only where all pieces are done
pub all_finished : (ps : List Piece) (number : ℕ) → Ended ≡ piece_answer number (slice_get ps (done_before ps))
    → Each (λ p. p.end ≡ Finished) ps
all_finished ps number e = by_place (slice_get_cases ps (done_before ps)).1
  where
    by_place : (((p : Piece) × (done_before ps < length ps) × (slice_get ps (done_before ps) ≡ Some p)
        × (slice_index_or ps (done_before ps) p ≡ p))
        ⊎ ((length ps ≤ done_before ps) × (slice_get ps (done_before ps) ≡ None)))
        → Each (λ p. p.end ≡ Finished) ps
    by_place (inl h) =
        let answer = ap (piece_answer number) h.2 in
        let first = first_piece ps h.0 h.2 in
        absurd (true≢false (sym (ended_end number h.0.end h.0.last (e ∙ answer)) ∙ first.unfinished))
    by_place (inr h) = subst (Each (λ p. p.end ≡ Finished)) (take_all (done_before ps) ps h.0)
        (finished_front ps (done_before ps) (omega arith))
