-- What each piece of a job keeps along a legal record.
use Rattle.std.proofs.Common.{◌≡◌, ℕ, ◌≤◌, true, List, [], ◌∷◌, ◌++◌, map, Option, Some, None, refl, ap, subst, arith}
use Rattle.sign_rules.specs.declared.sign.Sign.{Sign}
use Rattle.sign_rules.specs.Signs.{OrderView}
use Rattle.search_cursor.specs.Place.{search_place, is_passed, begins_with}
use Rattle.order_search.specs.ListLaws.{Each, each_map}
use Rattle.worker_split.specs.declared.outcome.End.{End}
use Rattle.worker_split.specs.declared.outcome.End.TheVariants.{Found, Done, Paused}
use Rattle.worker_split.specs.declared.piece.Piece.{Piece}
use Rattle.worker_split.specs.declared.piece.PieceEnd.{PieceEnd}
use Rattle.worker_split.specs.declared.piece.PieceEnd.TheVariants.{Open, Ready, Done as Finished}
use Rattle.worker_split.specs.declared.piece.LastTask.{LastTask}
use Rattle.worker_split.specs.declared.piece.LastTask.TheVariants.{Asked}
use Rattle.worker_split.specs.Tasks.{TaskView, IsRightEnd}
use Rattle.worker_split.specs.Job.{new_piece, asked_end, asked_piece, answered_piece, reopened_end}
use Rattle.job_enumeration.proofs.Parted.{passed-first}

pub record IsKept (ask : Option ℕ) (p : Piece) : Type 0 where
  -- an unanswered task is one of an open piece, and has the budget of the open ask: at least 1
  pub is_open : (b : ℕ) → p.last ≡ Asked b → p.end ≡ Open
  pub same : (b c : ℕ) → p.last ≡ Asked b → ask ≡ Some c → b ≡ c
  pub some : (b : ℕ) → p.last ≡ Asked b → 1 ≤ b
  -- an order that is ready begins with the prefix and stands before the kept position
  pub ready : (o : OrderView) → p.end ≡ Ready o
      → (begins_with p.prefix.list o.list ≡ true) × (is_passed o.list p.kept.signs.list p.kept.past ≡ true)

pub kept-new : (ask : Option ℕ) (prefix : List Sign) → IsKept ask (new_piece prefix)
kept-new ask prefix = record {
  is_open = λ b e. absurd (cc);
  same = λ b c e f. absurd (cc);
  some = λ b e. absurd (cc);
  ready = λ o e. absurd (cc);
}

asked_last : (budget b : ℕ) (end : PieceEnd) (last : LastTask) → ((b : ℕ) → last ≡ Asked b → end ≡ Open)
    → asked_end budget end last ≡ Asked b → (end ≡ Open) × (budget ≡ b)
asked_last budget b Open last old e = (refl, (cc))
asked_last budget b (Ready o) last old e = let other = old b e in absurd (cc)
asked_last budget b Finished last old e = let other = old b e in absurd (cc)

pub kept-asked : (ask : Option ℕ) (budget : ℕ) (p : Piece) → 1 ≤ budget → IsKept ask p
    → IsKept (Some budget) (asked_piece budget p)
kept-asked ask budget p some kept = record {
  is_open = λ b e. (asked_last budget b p.end p.last kept.is_open e).0;
  same = λ b c e f. let own = (asked_last budget b p.end p.last kept.is_open e).1 in (cc);
  some = λ b e. let own = (asked_last budget b p.end p.last kept.is_open e).1 in omega arith;
  ready = kept.ready;
}

pub kept-closed : (ask : Option ℕ) (p : Piece) → IsKept ask p → IsKept None p
kept-closed ask p kept = record {
  is_open = kept.is_open;
  same = λ b c e f. absurd (cc);
  some = kept.some;
  ready = kept.ready;
}

not_ready : (end : PieceEnd) (o : OrderView) → reopened_end end ≡ Ready o → ⊥
not_ready Open o e = absurd (cc)
not_ready (Ready other) o e = absurd (cc)
not_ready Finished o e = absurd (cc)

pub kept-reopened : (ask : Option ℕ) (p : Piece) → IsKept ask p
    → IsKept None (record p { end = reopened_end p.end })
kept-reopened ask p kept = record {
  is_open = λ b e. ap reopened_end (kept.is_open b e);
  same = λ b c e f. absurd (cc);
  some = kept.some;
  ready = λ o e. absurd (not_ready p.end o e);
}

pub kept-answered : (t : TaskView) (ask : Option ℕ) (p : Piece) (budget : ℕ) (end : End)
    → t.prefix ≡ p.prefix.list → p.end ≡ Open → IsRightEnd t end → IsKept ask p
    → IsKept ask (answered_piece p budget end)
kept-answered t ask p budget (Found order position) prefix is_open right kept = record {
  is_open = λ b e. absurd (cc);
  same = λ b c e f. absurd (cc);
  some = λ b e. absurd (cc);
  ready = λ o e.
      let own : order ≡ o = (cc) in
      subst (λ (o : OrderView). (begins_with p.prefix.list o.list ≡ true)
      × (is_passed o.list position.signs.list position.past ≡ true)) own
      (subst (λ l. (begins_with l order.list ≡ true)
      × (is_passed order.list position.signs.list position.past ≡ true)) prefix
      (passed-first t.rules t.prefix t.from (search_place position) order.list right.0));
}
kept-answered t ask p budget Done prefix is_open right kept = record {
  is_open = λ b e. absurd (cc);
  same = λ b c e f. absurd (cc);
  some = λ b e. absurd (cc);
  ready = λ o e. absurd (cc);
}
kept-answered t ask p budget (Paused position) prefix is_open right kept = record {
  is_open = λ b e. absurd (cc);
  same = λ b c e f. absurd (cc);
  some = λ b e. absurd (cc);
  ready = λ o e. absurd (cc);
}

-- ---- all pieces

pub each-replaced : (P Q : Piece → Type 0) (front back : List Piece) (p x : Piece)
    → ((d : Piece) → P d → Q d) → (P p → Q x)
    → Each P (front ++ p ∷ back) → Each Q (front ++ x ∷ back)
each-replaced P Q [] back p x others own h = (own h.0, each_map P Q others back h.1)
each-replaced P Q (d ∷ front) back p x others own h =
    (others d h.0, each-replaced P Q front back p x others own h.1)

pub each-at : (P : Piece → Type 0) (front back : List Piece) (p : Piece) → Each P (front ++ p ∷ back) → P p
each-at P [] back p h = h.0
each-at P (d ∷ front) back p h = each-at P front back p h.1

abbrev pub prefixes_of : List Piece → List (List Sign)
prefixes_of ps = map (λ (p : Piece). p.prefix.list) ps

pub prefixes-replaced : (front back : List Piece) (p x : Piece) → x.prefix.list ≡ p.prefix.list
    → prefixes_of (front ++ x ∷ back) ≡ prefixes_of (front ++ p ∷ back)
prefixes-replaced [] back p x same = ap (λ l. l ∷ prefixes_of back) same
prefixes-replaced (d ∷ front) back p x same = ap (λ l. d.prefix.list ∷ l)
    (prefixes-replaced front back p x same)

pub prefixes-asked : (budget : ℕ) (ps : List Piece)
    → prefixes_of (map (asked_piece budget) ps) ≡ prefixes_of ps
prefixes-asked budget [] = refl
prefixes-asked budget (p ∷ ps) = ap (λ l. p.prefix.list ∷ l) (prefixes-asked budget ps)

pub prefixes-new : (lists : List (List Sign)) → prefixes_of (map new_piece lists) ≡ lists
prefixes-new [] = refl
prefixes-new (l ∷ lists) = ap (λ ls. l ∷ ls) (prefixes-new lists)
