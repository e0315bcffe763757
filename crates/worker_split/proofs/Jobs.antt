-- What a job keeps, step by step.
use Rattle.std.proofs.Common.{◌≡◌, ℕ, ◌+◌, ◌-◌, ◌<◌, ◌≤◌, Bool, true, false, cond, eqb, List, [], ◌∷◌, ◌++◌, length, map, take, drop, Option, Some, None, is_some, slice_get, slice_index_or, slice_set, refl, sym, ◌∙◌, ap, subst, arith}
use Rattle.std.specs.List.{All}
use Rattle.std.proofs.lemmas.Bool.{eqb-false}
use Rattle.std.proofs.lemmas.List.{length-set, length-map, append-nil, at_drop_all, set-get_or, take_all}
use Rattle.std.proofs.lemmas.List.Elements.{All-set, All-map}
use Rattle.std.proofs.lemmas.Option.{get_or_from_slice_get, slice_get_within}
use Rattle.sign_rules.specs.Rules.{RulesView}
use Rattle.sign_rules.specs.declared.sign.Sign.{Sign}
use Rattle.sign_rules.specs.Signs.{OrderView, bare_order}
use Rattle.sign_rules.specs.Rules.{is_consistent}
use Rattle.search_cursor.specs.Place.{begins_with}
use Rattle.search_cursor.specs.PlaceLaws.{begins_with-append}
use Rattle.order_search.specs.Invariant.{IsConsistentWithin}
use Rattle.worker_split.specs.Pieces.{pieces_of}
use Rattle.worker_split.proofs.Splits.{pieces-consistent, one_piece}
use Rattle.worker_split.specs.declared.outcome.Outcome.{Outcome}
use Rattle.worker_split.specs.declared.outcome.End.{End}
use Rattle.worker_split.specs.declared.outcome.End.TheVariants.{Found, Done, Paused}
use Rattle.worker_split.specs.declared.piece.Piece.{Piece}
use Rattle.worker_split.specs.declared.piece.PieceEnd.{PieceEnd}
use Rattle.worker_split.specs.declared.piece.PieceEnd.TheVariants.{Open, Ready, Done as Finished}
use Rattle.worker_split.specs.declared.piece.LastTask.{LastTask}
use Rattle.worker_split.specs.declared.piece.LastTask.TheVariants.{Never, Asked, Answered}
use Rattle.worker_split.specs.declared.answers.JobAnswer.{JobAnswer}
use Rattle.worker_split.specs.declared.answers.JobAnswer.TheVariants.{Shown, NoMore, Paused as Waiting, NotReady}
use Rattle.worker_split.specs.Tasks.{TaskView, IsRightEnd, IsRightOutcome}
use Rattle.worker_split.specs.Job.{JobView, piece_at, task_with, NamesTask, NamesTaskOf, Matches, answered_piece, asked_end, asked_piece, reopened_end, new_piece, done_before, end_answer, reopened, after_answer}
use Rattle.worker_split.specs.Invariant.{IsPiece, HasBudget, WasAsked, IsJob}

asked_budget : (budget asked : ℕ) (end : PieceEnd) (last : LastTask) → 1 ≤ budget → ((b : ℕ) → last ≡ Asked b → 1 ≤ b)
    → asked_end budget end last ≡ Asked asked → 1 ≤ asked
asked_budget budget asked Open last some old e = let f : budget ≡ asked = (cc) in omega (arith, some, f)
asked_budget budget asked (Ready o) last some old e = old asked e
asked_budget budget asked Finished last some old e = old asked e

pub IsPiece-asked : (r : RulesView) (budget : ℕ) (p : Piece) → 1 ≤ budget → IsPiece r p → IsPiece r (asked_piece budget p)
IsPiece-asked r budget p some piece = record {
  within = piece.within;
  consistent = piece.consistent;
  budget = λ asked e. asked_budget budget asked p.end p.last some piece.budget e;
}

pub IsPiece-answered : (r : RulesView) (p : Piece) (budget : ℕ) (t : TaskView) (end : End) → IsPiece r p → t.rules ≡ r
    → t.prefix ≡ p.prefix.list → IsRightEnd t end → IsPiece r (answered_piece p budget end)
IsPiece-answered r p budget t (Found order position) piece rules prefix right = record {
  within = subst (λ l. IsConsistentWithin r l position.signs.list) prefix (subst (λ q. IsConsistentWithin q t.prefix position.signs.list) rules right.1);
  consistent = piece.consistent;
  budget = λ asked e. absurd (cc);
}
IsPiece-answered r p budget t Done piece rules prefix right = record {
  within = piece.within;
  consistent = piece.consistent;
  budget = λ asked e. absurd (cc);
}
IsPiece-answered r p budget t (Paused position) piece rules prefix right = record {
  within = subst (λ l. IsConsistentWithin r l position.signs.list) prefix (subst (λ q. IsConsistentWithin q t.prefix position.signs.list) rules right.2);
  consistent = piece.consistent;
  budget = λ asked e. absurd (cc);
}

-- a piece that there is stands in the list
pub record IsAt (j : JobView) (piece : ℕ) (p : Piece) : Type 0 where
  pub some : 0 < piece
  pub inside : piece - 1 < length j.pieces
  pub is : (d : Piece) → slice_index_or j.pieces (piece - 1) d ≡ p

pub at_place : (j : JobView) (piece : ℕ) (p : Piece) → piece_at j piece ≡ Some p → IsAt j piece p
at_place j piece p e = by_test (eqb piece 0) refl e
  where
    by_test : (b : Bool) → eqb piece 0 ≡ b → cond b None (slice_get j.pieces (piece - 1)) ≡ Some p → IsAt j piece p
    by_test true zero_piece none = absurd (cc)
    by_test false some found = record {
      some = let apart = eqb-false piece 0 some in omega (arith, apart);
      inside = slice_get_within j.pieces (piece - 1) p found;
      is = λ d. get_or_from_slice_get j.pieces (piece - 1) p d found;
    }

pub piece_known : (j : JobView) (piece : ℕ) (p : Piece) → All (IsPiece j.rules) j.pieces → piece_at j piece ≡ Some p → IsPiece j.rules p
piece_known j piece p each e =
    let here = at_place j piece p e in
    subst (IsPiece j.rules) (here.is p) (each (piece - 1) p here.inside)

-- an outcome that matches names the task of a piece that there is
pub match_of : (j : JobView) (x : Outcome) → Matches j x → (p : Piece) × (piece_at j x.piece ≡ Some p) × NamesTask j p x
match_of j x matches = by_piece (piece_at j x.piece) refl matches
  where
    by_piece : (o : Option Piece) → piece_at j x.piece ≡ o → NamesTaskOf j o x → (p : Piece) × (piece_at j x.piece ≡ Some p) × NamesTask j p x
    by_piece None e m = absurd m
    by_piece (Some p) e m = (p, e, m)

-- ---- tasks of an open ask

-- a task that is answered had the budget of the ask, and so has the answered one
WasAsked-answered : (ask : Option ℕ) (p : Piece) (budget : ℕ) (end : End) → p.last ≡ Asked budget → WasAsked ask p
    → WasAsked ask (answered_piece p budget end)
WasAsked-answered ask p budget (Found order position) last was = λ b e open_end. absurd (cc)
WasAsked-answered ask p budget Done last was = λ b e open_end. absurd (cc)
WasAsked-answered ask p budget (Paused position) last was = λ b e open_end. subst (HasBudget b) last (was b e open_end)

WasAsked-asked : (budget : ℕ) (p : Piece) → WasAsked (Some budget) (asked_piece budget p)
WasAsked-asked budget p b e open_end =
    let same : budget ≡ b = (cc) in
    subst (λ x. HasBudget b (asked_end budget x p.last)) (sym open_end) same

-- without an ask nothing is said of any piece
none_asked : (pieces : List Piece) → All (WasAsked None) pieces
none_asked pieces n d below budget e = absurd (cc)

pub piece_asked : (j : JobView) (piece : ℕ) (p : Piece) → All (WasAsked j.ask) j.pieces → piece_at j piece ≡ Some p → WasAsked j.ask p
piece_asked j piece p asked e =
    let here = at_place j piece p e in
    subst (WasAsked j.ask) (here.is p) (asked (piece - 1) p here.inside)

-- an unanswered task has the budget of the open ask
pub budget_of_ask : (ask : Option ℕ) (p : Piece) (budget : ℕ) → is_some ask ≡ true → WasAsked ask p → p.end ≡ Open → p.last ≡ Asked budget
    → ask ≡ Some budget
budget_of_ask None p budget some was open_end last = absurd (cc)
budget_of_ask (Some own) p budget some was open_end last = ap Some (sym (subst (HasBudget own) last (was own refl open_end)))

-- the job with the answer of a piece in its place
pub IsJob-answered : (j : JobView) (x : Outcome) (p : Piece) → IsJob j.rules j.pieces j.ask → piece_at j x.piece ≡ Some p
    → NamesTask j p x → IsRightOutcome (task_with j x.piece p x.budget) x
    → IsJob j.rules (slice_set j.pieces (x.piece - 1) (answered_piece p x.budget x.end)) j.ask
IsJob-answered j x p job known names right = record {
  each = All-set (IsPiece j.rules) j.pieces (x.piece - 1) (answered_piece p x.budget x.end)
      (IsPiece-answered j.rules p x.budget (task_with j x.piece p x.budget) x.end (piece_known j x.piece p job.each known) refl refl right.end)
      job.each;
  asked =
      All-set (WasAsked j.ask) j.pieces (x.piece - 1) (answered_piece p x.budget x.end)
      (WasAsked-answered j.ask p x.budget x.end names.unanswered
      (piece_asked j x.piece p job.asked known))
      job.asked;
  few = omega (arith, job.few, length-set j.pieces (x.piece - 1) (answered_piece p x.budget x.end));
}

pub IsJob-asked : (r : RulesView) (pieces : List Piece) (ask : Option ℕ) (budget : ℕ) → 1 ≤ budget → IsJob r pieces ask
    → IsJob r (map (asked_piece budget) pieces) (Some budget)
IsJob-asked r pieces ask budget some job = record {
  each = All-map (IsPiece r) (asked_piece budget) pieces (λ k d below. IsPiece-asked r budget (slice_index_or pieces k d) some (job.each k d below));
  asked = All-map (WasAsked (Some budget)) (asked_piece budget) pieces (λ k d below. WasAsked-asked budget (slice_index_or pieces k d));
  few = omega (arith, job.few, length-map pieces (asked_piece budget));
}

-- a loop that went over the whole list
pub whole_list : (f : Piece → Piece) (start items : List Piece) (n len : ℕ) → items ≡ map f (take n start) ++ drop n start → length start ≤ n
    → len ≡ length start → take len (items ++ drop (length items) start) ≡ map f start
whole_list f start items n len e below is =
    let all : items ≡ map f start =
    e ∙ ap (λ l. map f (take n start) ++ l) (at_drop_all (λ (l : List Piece). l) start n below)
    ∙ append-nil (map f (take n start)) ∙ ap (map f) (take_all n start below) in
    let size : length items ≡ length start = ap length all ∙ length-map start f in
    ap (λ l. take len (items ++ l)) (at_drop_all (λ (l : List Piece). l) start (length items) (omega (arith, size)))
    ∙ ap (take len) (append-nil items)
    ∙ take_all len items (omega (arith, size, is))
    ∙ all

-- ---- answers

abbrev pub closed : JobAnswer → Option ℕ → Option ℕ
closed (NotReady _) ask = ask
closed (Shown _) ask = None
closed NoMore ask = None
closed Waiting ask = None

same_pieces : (pieces : List Piece) (n : ℕ) (p : Piece) (end : PieceEnd) → slice_get pieces n ≡ Some p → p.end ≡ end
    → slice_set pieces n (record p { end = end }) ≡ pieces
same_pieces pieces n p end found e =
    let with : PieceEnd → Piece = λ x. record p { end = x } in
    let own : record p { end = end } ≡ slice_index_or pieces n p = ap with (sym e) ∙ sym (get_or_from_slice_get pieces n p p found) in
    ap (slice_set pieces n) own ∙ set-get_or pieces n p

pub after_is : (j : JobView) (p : Piece) (n : ℕ) (answer : JobAnswer) → n ≡ done_before j.pieces → slice_get j.pieces n ≡ Some p
    → answer ≡ end_answer (n + 1) p.end p.last
    → record j { pieces = slice_set j.pieces n (record p { end = reopened_end p.end }); ask = closed answer j.ask } ≡ after_answer j answer
after_is j p n answer here found e =
    subst (λ a. record j { pieces = slice_set j.pieces n (record p { end = reopened_end p.end }); ask = closed a j.ask } ≡ after_answer j a)
    (sym e) (by_end p.end p.last refl)
  where
    by_end : (end : PieceEnd) (last : LastTask) → p.end ≡ end
        → record j { pieces = slice_set j.pieces n (record p { end = reopened_end end }); ask = closed (end_answer (n + 1) end last) j.ask }
        ≡ after_answer j (end_answer (n + 1) end last)
    by_end Open Never f =
        let with : List Piece → JobView = λ ps. record j { pieces = ps } in ap with (same_pieces j.pieces n p Open found f)
    by_end Open (Asked b) f =
        let with : List Piece → JobView = λ ps. record j { pieces = ps } in ap with (same_pieces j.pieces n p Open found f)
    by_end Open (Answered b) f =
        let with : List Piece → JobView = λ ps. record j { pieces = ps; ask = None } in ap with (same_pieces j.pieces n p Open found f)
    by_end Finished last f =
        let with : List Piece → JobView = λ ps. record j { pieces = ps; ask = None } in ap with (same_pieces j.pieces n p Finished found f)
    by_end (Ready order) last f =
        let with : List Piece → JobView = λ ps. record j { pieces = ps; ask = None } in
        let ends : PieceEnd → List Piece = λ x. slice_set j.pieces n (record p { end = x }) in
        ap (λ x. with (ends (reopened_end x))) (sym f)
        ∙ ap (λ o. with (reopened j.pieces n o)) (sym found)
        ∙ ap (λ k. with (reopened j.pieces k (slice_get j.pieces k))) here

-- an answer that is not NotReady closes the ask
pub closed-none : (answer : JobAnswer) (ask : Option ℕ) → ((piece : ℕ) → answer ≡ NotReady piece → ⊥) → closed answer ask ≡ None
closed-none (NotReady piece) ask other = absurd (other piece refl)
closed-none (Shown order) ask other = refl
closed-none NoMore ask other = refl
closed-none Waiting ask other = refl

-- ---- new jobs

pub mapped_new : (lists : List (List Sign)) → map (λ (o : OrderView). new_piece o.list) (map bare_order lists) ≡ map new_piece lists
mapped_new [] = refl
mapped_new (l ∷ lists) = ap (λ ps. new_piece l ∷ ps) (mapped_new lists)

IsPiece-new : (r : RulesView) (prefix : List Sign) → is_consistent r prefix ≡ true → IsPiece r (new_piece prefix)
IsPiece-new r prefix consistent = record {
  within = record {
    begins = subst (λ l. begins_with prefix l ≡ true) (append-nil prefix) (begins_with-append prefix []);
    consistent = consistent;
  };
  consistent = consistent;
  budget = λ asked e. absurd (cc);
}

pub IsJob-opened : (r : RulesView) → IsJob r (map new_piece (pieces_of r 1)) None
IsJob-opened r = record {
  each = All-map (IsPiece r) new_piece (pieces_of r 1)
      (λ k d below. IsPiece-new r (slice_index_or (pieces_of r 1) k d) (pieces-consistent r 1 k d below));
  asked = none_asked (map new_piece (pieces_of r 1));
  few = omega (arith, length-map (pieces_of r 1) new_piece, one_piece r);
}

-- a loop that made a piece for each prefix
pub made_pieces : (made : List Piece) (prefixes : List OrderView) (n : ℕ) (lists : List (List Sign))
    → made ++ map (λ (o : OrderView). new_piece o.list) (drop n prefixes) ≡ map (λ (o : OrderView). new_piece o.list) prefixes
    → length prefixes ≤ n → prefixes ≡ map bare_order lists → made ≡ map new_piece lists
made_pieces made prefixes n lists invariant below is =
    sym (append-nil made)
    ∙ sym (at_drop_all (λ (l : List OrderView). made ++ map (λ (o : OrderView). new_piece o.list) l) prefixes n below)
    ∙ invariant
    ∙ ap (map (λ (o : OrderView). new_piece o.list)) is
    ∙ mapped_new lists
