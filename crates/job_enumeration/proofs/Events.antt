-- The states that legal records lead to, and what each event leaves of their pieces.
use Rattle.std.proofs.Common.{◌≡◌, ℕ, ◌≤◌, ◌+◌, ◌-◌, true, false, cond, List, [], ◌∷◌, ◌++◌, map, Option, Some, None, is_some, refl, sym, ◌∙◌, ap, subst}
use Rattle.std.specs.Prelude.{IsNone}
use Rattle.std.specs.List.{flat_map}
use Rattle.sign_rules.specs.declared.sign.Sign.{Sign}
use Rattle.sign_rules.specs.Signs.{OrderView}
use Rattle.sign_rules.specs.Rules.{RulesView}
use Rattle.order_search.specs.Lists.{orders, remaining}
use Rattle.order_search.specs.Walking.{before}
use Rattle.order_search.specs.ListLaws.{Each, each_of, each_map, each_mapped}
use Rattle.worker_split.specs.declared.outcome.Outcome.{Outcome}
use Rattle.worker_split.specs.declared.piece.Piece.{Piece}
use Rattle.worker_split.specs.declared.piece.PieceEnd.TheVariants.{Ready}
use Rattle.worker_split.specs.declared.answers.JobAnswer.TheVariants.{Shown as Showing, NoMore as Ended, Paused as Waiting, NotReady}
use Rattle.worker_split.specs.declared.outcome.End.{End}
use Rattle.worker_split.specs.declared.outcome.End.TheVariants.{Found, Done, Paused}
use Rattle.worker_split.specs.Tasks.{IsRightEnd}
use Rattle.worker_split.specs.Pieces.{pieces_of}
use Rattle.worker_split.specs.Job.{JobView, opened_job, new_piece, asked, asked_piece, task_with, NamesTask, Matches, answered_piece, posted, posted_to, done_before, next_answer, reopened_end, reopened, after_answer}
use Rattle.job_enumeration.specs.Record.{JobEvent, Ask, Post, Answer, after_event, IsRightPost, IsLegalEvent}
use Rattle.job_enumeration.proofs.Parted.{orders-by_piece}
use Rattle.job_enumeration.proofs.Steps.{piece_left, pieces_left, IsPieceAt, piece_place, named_piece, IsFirst, first_piece, left-replaced, left-asked, left-answered, left-shown, shown_by}
use Rattle.job_enumeration.proofs.Kept.{IsKept, kept-new, kept-asked, kept-closed, kept-reopened, kept-answered, each-replaced, each-at, prefixes_of, prefixes-replaced, prefixes-asked, prefixes-new}

-- the rules and the prefixes stay as they are
pub record IsReached (r : RulesView) (lists : List (List Sign)) (j : JobView) : Type 0 where
  pub rules : j.rules ≡ r
  pub prefixes : prefixes_of j.pieces ≡ lists
  pub kept : Each (IsKept j.ask) j.pieces

each-new : (lists : List (List Sign)) → Each (IsKept None) (map new_piece lists)
each-new lists = each_mapped (IsKept None) new_piece lists
    (each_of (λ l. IsKept None (new_piece l)) (λ l. kept-new None l) lists)

pub reached-opened : (job version : ℕ) (r : RulesView) (most : ℕ)
    → IsReached r (pieces_of r most) (opened_job job version r most)
reached-opened job version r most = record {
  rules = refl;
  prefixes = prefixes-new (pieces_of r most);
  kept = each-new (pieces_of r most);
}

left-new : (r : RulesView) (lists : List (List Sign))
    → pieces_left r (map new_piece lists) ≡ flat_map (λ p. remaining r p (before p)) lists
left-new r [] = refl
left-new r (l ∷ lists) = ap (λ ls. remaining r l (before l) ++ ls) (left-new r lists)

pub left-opened : (job version : ℕ) (r : RulesView) (most : ℕ)
    → pieces_left r (opened_job job version r most).pieces ≡ orders r
left-opened job version r most = left-new r (pieces_of r most) ∙ orders-by_piece r most

-- ---- asks

not_some : (o : Option ℕ) → IsNone o → is_some o ≡ false
not_some None h = refl
not_some (Some b) h = search (h)

pub asked-is : (j : JobView) (budget : ℕ) → IsNone j.ask
    → asked j budget ≡ record j { pieces = map (asked_piece budget) j.pieces; ask = Some budget }
asked-is j budget none =
    ap (λ b. cond b j (record j { pieces = map (asked_piece budget) j.pieces; ask = Some budget }))
    (not_some j.ask none)

each-asked : (ask : Option ℕ) (budget : ℕ) (ps : List Piece) → 1 ≤ budget → Each (IsKept ask) ps
    → Each (IsKept (Some budget)) (map (asked_piece budget) ps)
each-asked ask budget ps some kept = each_mapped (IsKept (Some budget)) (asked_piece budget) ps
    (each_map (IsKept ask) (λ p. IsKept (Some budget) (asked_piece budget p))
    (λ p k. kept-asked ask budget p some k) ps kept)

-- ---- outcomes that are accepted

pub record IsPosting (j : JobView) (x : Outcome) : Type 0 where
  pub piece : Piece
  pub task : NamesTask j piece x
  pub at : IsPieceAt j.pieces (x.piece - 1) piece
  pub is : posted j x ≡ record j { pieces = at.front ++ answered_piece piece x.budget x.end ∷ at.back }
  pub right : IsRightEnd (task_with j x.piece piece x.budget) x.end

pub posting : (j : JobView) (x : Outcome) → Matches j x → IsRightPost j x → IsPosting j x
posting j x matches right =
    let n = named_piece j x matches in
    let at = piece_place j.pieces (x.piece - 1) n.0 n.1.found in
    let with : List Piece → JobView = λ ps. record j { pieces = ps } in
    record {
      piece = n.0;
      task = n.1.task;
      at = at;
      is = ap (posted_to j x) n.1.known ∙ ap with (at.set (answered_piece n.0 x.budget x.end));
      right = (right n.0 n.1.known).end;
    }

posting_kept : (j : JobView) (x : Outcome) (p : IsPosting j x) → Each (IsKept j.ask) j.pieces
    → IsKept j.ask p.piece
posting_kept j x p kept =
    each-at (IsKept j.ask) p.at.front p.at.back p.piece (subst (Each (IsKept j.ask)) p.at.parts kept)

reached-posted : (r : RulesView) (lists : List (List Sign)) (j : JobView) (x : Outcome) → IsPosting j x
    → IsReached r lists j → IsReached r lists (posted j x)
reached-posted r lists j x p reached =
    let new = answered_piece p.piece x.budget x.end in
    let own = posting_kept j x p reached.kept in
    subst (IsReached r lists) (sym p.is) (record {
      rules = reached.rules;
      prefixes = prefixes-replaced p.at.front p.at.back p.piece new (same_prefix x.end)
          ∙ ap prefixes_of (sym p.at.parts) ∙ reached.prefixes;
      kept = each-replaced (IsKept j.ask) (IsKept j.ask) p.at.front p.at.back p.piece new (λ d k. k)
          (λ k. kept-answered (task_with j x.piece p.piece x.budget) j.ask p.piece x.budget x.end refl
          (own.is_open x.budget p.task.unanswered) p.right k)
          (subst (Each (IsKept j.ask)) p.at.parts reached.kept);
    })
  where
    same_prefix : (end : End) → (answered_piece p.piece x.budget end).prefix.list ≡ p.piece.prefix.list
    same_prefix (Found order position) = refl
    same_prefix Done = refl
    same_prefix (Paused position) = refl

left-posted : (r : RulesView) (lists : List (List Sign)) (j : JobView) (x : Outcome) → IsPosting j x
    → IsReached r lists j → pieces_left r j.pieces ≡ pieces_left r (posted j x).pieces
left-posted r lists j x p reached =
    let new = answered_piece p.piece x.budget x.end in
    let own = posting_kept j x p reached.kept in
    let same : piece_left j.rules new ≡ piece_left j.rules p.piece =
    left-answered (task_with j x.piece p.piece x.budget) p.piece x.budget x.end refl refl
    (own.is_open x.budget p.task.unanswered) p.right in
    ap (pieces_left r) p.at.parts
    ∙ sym (left-replaced r p.at.front p.at.back p.piece new
    (subst (λ r. piece_left r new ≡ piece_left r p.piece) reached.rules same))
    ∙ ap (λ (k : JobView). pieces_left r k.pieces) (sym p.is)

-- ---- orders that are shown

pub record IsShowing (j : JobView) (order : OrderView) : Type 0 where
  pub piece : Piece
  pub first : IsFirst j.pieces piece
  pub ready : piece.end ≡ Ready order
  pub is : after_answer j (Showing order) ≡ record j {
    pieces = first.at.front ++ (record piece { end = reopened_end piece.end }) ∷ first.at.back;
    ask = None;
  }

pub showing : (j : JobView) (order : OrderView) → Showing order ≡ next_answer j → IsShowing j order
showing j order e =
    let s = shown_by j.pieces (done_before j.pieces + 1) order e in
    let first = first_piece j.pieces s.0 s.1.found in
    let with : List Piece → JobView = λ ps. record j { pieces = ps; ask = None } in
    record {
      piece = s.0;
      first = first;
      ready = s.1.ready;
      is = ap (λ o. with (reopened j.pieces (done_before j.pieces) o)) s.1.found
          ∙ ap with (first.at.set (record s.0 { end = reopened_end s.0.end }));
    }

pub reached-shown : (r : RulesView) (lists : List (List Sign)) (j : JobView) (order : OrderView)
    → IsShowing j order
    → IsReached r lists j → IsReached r lists (after_answer j (Showing order))
reached-shown r lists j order s reached =
    let at = s.first.at in
    let new : Piece = record s.piece { end = reopened_end s.piece.end } in
    subst (IsReached r lists) (sym s.is) (record {
      rules = reached.rules;
      prefixes = prefixes-replaced at.front at.back s.piece new refl ∙ ap prefixes_of (sym at.parts)
          ∙ reached.prefixes;
      kept = each-replaced (IsKept j.ask) (IsKept None) at.front at.back s.piece new
          (λ d k. kept-closed j.ask d k)
          (λ k. kept-reopened j.ask s.piece k) (subst (Each (IsKept j.ask)) at.parts reached.kept);
    })

left-showing : (r : RulesView) (j : JobView) (order : OrderView) → IsShowing j order
    → pieces_left r j.pieces ≡ order.list ∷ pieces_left r (after_answer j (Showing order)).pieces
left-showing r j order s =
    let at = s.first.at in
    ap (pieces_left r) at.parts
    ∙ left-shown r at.front at.back s.piece order s.first.finished s.ready
    ∙ ap (λ (k : JobView). order.list ∷ pieces_left r k.pieces) (sym s.is)

-- ---- all events

reached-closed : (r : RulesView) (lists : List (List Sign)) (j : JobView) → IsReached r lists j
    → IsReached r lists (record j { ask = None })
reached-closed r lists j reached = record {
  rules = reached.rules;
  prefixes = reached.prefixes;
  kept = each_map (IsKept j.ask) (IsKept None) (λ d k. kept-closed j.ask d k) j.pieces reached.kept;
}

pub reached-after : (r : RulesView) (lists : List (List Sign)) (j : JobView) (e : JobEvent) → IsLegalEvent j e
    → IsReached r lists j → IsReached r lists (after_event j e)
reached-after r lists j (Ask budget) legal reached =
    subst (IsReached r lists) (sym (asked-is j budget legal.0)) (record {
      rules = reached.rules;
      prefixes = prefixes-asked budget j.pieces ∙ reached.prefixes;
      kept = each-asked j.ask budget j.pieces legal.1 reached.kept;
    })
reached-after r lists j (Post x true) legal reached = reached-posted r lists j x
    (posting j x legal.0 legal.1) reached
reached-after r lists j (Post x false) legal reached = reached
reached-after r lists j (Answer (NotReady piece)) legal reached = reached
reached-after r lists j (Answer (Showing order)) legal reached =
    reached-shown r lists j order (showing j order legal.1) reached
reached-after r lists j (Answer Ended) legal reached = reached-closed r lists j reached
reached-after r lists j (Answer Waiting) legal reached = reached-closed r lists j reached

abbrev pub event_shows : JobEvent → List (List Sign)
event_shows (Ask budget) = []
event_shows (Post x accepted) = []
event_shows (Answer (NotReady piece)) = []
event_shows (Answer (Showing order)) = order.list ∷ []
event_shows (Answer Ended) = []
event_shows (Answer Waiting) = []

-- what an event shows is the first that was left, and the rest is left after it
pub left-after : (r : RulesView) (lists : List (List Sign)) (j : JobView) (e : JobEvent) → IsLegalEvent j e
    → IsReached r lists j → pieces_left r j.pieces ≡ event_shows e ++ pieces_left r (after_event j e).pieces
left-after r lists j (Ask budget) legal reached =
    sym (left-asked r budget j.pieces)
    ∙ ap (λ (k : JobView). pieces_left r k.pieces) (sym (asked-is j budget legal.0))
left-after r lists j (Post x true) legal reached = left-posted r lists j x
    (posting j x legal.0 legal.1) reached
left-after r lists j (Post x false) legal reached = refl
left-after r lists j (Answer (NotReady piece)) legal reached = refl
left-after r lists j (Answer (Showing order)) legal reached = left-showing r j order (showing j order legal.1)
left-after r lists j (Answer Ended) legal reached = refl
left-after r lists j (Answer Waiting) legal reached = refl
