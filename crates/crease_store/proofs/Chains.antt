-- Chains of pieces that are joined at loose vertices: the next piece and the one before are determined, and each chain ends.
use Rattle.std.proofs.Common.{◌≡◌, ℕ, zero, suc, ◌<◌, ◌≤◌, Bool, true, false, cond, nat_eq, ◌⊎◌, inl, inr, List, [], ◌∷◌, length, refl, sym, ap, subst, ◌∙◌, arith}
use Rattle.std.specs.Prelude.{Option, None, Some, filter}
use Rattle.std.proofs.lemmas.Bool.{and_parts, false≢true, true≢false, eqb-true, false_from_ne_true}
use Rattle.std.proofs.lemmas.List.Sums.{length-filter, count_by-le-length}
use Rattle.plane_geometry.specs.declared.Point.{Point}
use Rattle.plane_geometry.specs.Position.{position_of, is_same_position}
use Rattle.plane_geometry.specs.Direction.{is_zero}
use Rattle.plane_geometry.specs.SideLaws.{order_of, order_self}
use Rattle.plane_geometry.specs.StretchLaws.{zero_is, same_is, ends_order}
use Rattle.plane_geometry.specs.SegmentLaws.{point_is}
use Rattle.plane_geometry.specs.SegmentView.{stretch_of, lesser_end, greater_end, direction_number}
use Rattle.crease_model.specs.declared.Piece.{Piece}
use Rattle.plane_geometry.specs.Order.{is_before}
use Rattle.crease_model.specs.Kind.{is_same_kind}
use Rattle.crease_model.specs.KindLaws.{same_kind_is}
use Rattle.crease_store.specs.Merged.{are_alike, ends_at, single, only_at, is_loose, next_piece, last_piece, IsJoined, IsChain, last_in_chain}
use Rattle.crease_store.specs.Rising.{beginning_of, arrival_of}
use Rattle.line_split.specs.MemberLaws.{Member, member, contained, filter_member, member_filter}
use Rattle.plane_geometry.specs.OrderLaws.{before_trans, before_irreflexive}
use Rattle.crease_store.proofs.Ascending.{before_by_from}
use Rattle.crease_store.proofs.Steps.{last_on, last_stays}

-- ---- points

pub same_point : (p q : Point) → is_same_position (position_of p) (position_of q) ≡ true → p ≡ q
same_point p q e = point_is p q (zero_is _ (sym (same_is (position_of p) (position_of q)) ∙ e))

pub point_self : (p q : Point) → p ≡ q → is_same_position (position_of p) (position_of q) ≡ true
point_self p q e = subst (λ (t : Point). is_same_position (position_of p) (position_of t) ≡ true) e (same_is (position_of p) (position_of p) ∙ ap is_zero (order_self (position_of p)))

-- ---- the only piece

-- the only piece of a list that passes a test
pub record IsOnly (test : Piece → Bool) (pieces : List Piece) (p : Piece) : Type 0 where
  pub there : Member pieces p
  pub passes : test p ≡ true
  pub alone : (z : Piece) → Member pieces z → test z ≡ true → z ≡ p

some_is : {X : Type 0} (x y : X) → Some x ≡ Some y → x ≡ y
some_is x y e = cc

some_or_none : {F X : Type 0} (x : X) → None ≡ Some x → F
some_or_none x e = absurd (cc)

single_is : (xs : List Piece) (p : Piece) → single xs ≡ Some p → xs ≡ p ∷ []
single_is [] p e = some_or_none p e
single_is (x ∷ []) p e = ap (λ (t : Piece). t ∷ []) (some_is x p e)
single_is (x ∷ y ∷ xs) p e = some_or_none p e

pub only_parts : (test : Piece → Bool) (pieces : List Piece) (p : Piece) → single (filter test pieces) ≡ Some p → IsOnly test pieces p
only_parts test pieces p e =
    let list = single_is (filter test pieces) p e in
    let found = filter_member test pieces p (subst (λ (xs : List Piece). Member xs p) (sym list) (inl refl)) in
    record {
      there = found.0;
      passes = found.1;
      alone = λ z m f. elim (subst (λ (xs : List Piece). Member xs z) list (member_filter test pieces z m f)) [ inl g ↦ sym g | inr n ↦ absurd n ];
    }

-- ---- loose vertices

pub record IsLooseAt (pieces : List Piece) (v : Point) (p q : Piece) : Type 0 where
  pub arrives : IsOnly (ends_at arrival_of v) pieces p
  pub leaves : IsOnly (ends_at beginning_of v) pieces q
  pub next : only_at beginning_of pieces v ≡ Some q
  pub kind : p.kind ≡ q.kind
  pub direction : direction_number p.segment ≡ direction_number q.segment

pub loose_parts : (pieces : List Piece) (v : Point) → is_loose pieces v ≡ true → (p : Piece) × (q : Piece) × IsLooseAt pieces v p q
unfolding is_loose
loose_parts pieces v e = go (only_at arrival_of pieces v) (only_at beginning_of pieces v) refl refl e
  where
    go : (o r : Option Piece) → only_at arrival_of pieces v ≡ o → only_at beginning_of pieces v ≡ r → are_alike o r ≡ true → (p : Piece) × (q : Piece) × IsLooseAt pieces v p q
    go None r f g h = absurd (false≢true h)
    go (Some p) None f g h = absurd (false≢true h)
    go (Some p) (Some q) f g h =
        let k = and_parts (is_same_kind p.kind q.kind) (nat_eq (direction_number p.segment) (direction_number q.segment)) h in (
          p,
          q,
          record {
            arrives = only_parts (ends_at arrival_of v) pieces p f;
            leaves = only_parts (ends_at beginning_of v) pieces q g;
            next = g;
            kind = same_kind_is p.kind q.kind k.0;
            direction = eqb-true (direction_number p.segment) (direction_number q.segment) k.1;
          },
        )

-- the two pieces there are joined
pub loose_joined : (pieces : List Piece) (v : Point) (p q : Piece) → is_loose pieces v ≡ true → IsLooseAt pieces v p q → IsJoined pieces p q
loose_joined pieces v p q e h =
    let p_at = same_point (greater_end p.segment) v h.arrives.passes in
    let q_at = same_point (lesser_end q.segment) v h.leaves.passes in
    record {
      first = contained pieces p h.arrives.there;
      second = contained pieces q h.leaves.there;
      vertex = p_at ∙ sym q_at;
      loose = ap (is_loose pieces) p_at ∙ e;
      kind = h.kind;
      direction = h.direction;
    }

-- ---- the next piece

pub next_joined : (pieces : List Piece) (p q : Piece) → Member pieces p → next_piece pieces p ≡ Some q → IsJoined pieces p q
unfolding next_piece
next_joined pieces p q m e = go (is_loose pieces v) refl e
  where
    v : Point
    v = greater_end p.segment

    go : (b : Bool) → is_loose pieces v ≡ b → cond b (only_at beginning_of pieces v) None ≡ Some q → IsJoined pieces p q
    go false f g = some_or_none q g
    go true f g =
        let w = loose_parts pieces v f in
        let first : p ≡ w.0 = (w.2).arrives.alone p m (point_self v v refl) in
        let second : w.1 ≡ q = some_is (w.1) q (sym (w.2).next ∙ g) in
        subst (λ (t : Piece). IsJoined pieces t q) (sym first) (subst (λ (t : Piece). IsJoined pieces (w.0) t) second (loose_joined pieces v (w.0) (w.1) f (w.2)))

pub none_next : (pieces : List Piece) (p : Piece) → next_piece pieces p ≡ None → is_loose pieces (greater_end p.segment) ≡ false
unfolding next_piece
none_next pieces p e = go (is_loose pieces v) refl e
  where
    v : Point
    v = greater_end p.segment

    go : (b : Bool) → is_loose pieces v ≡ b → cond b (only_at beginning_of pieces v) None ≡ None → is_loose pieces v ≡ false
    go false f g = f
    go true f g = let w = loose_parts pieces v f in some_or_none (w.1) (sym g ∙ (w.2).next)

-- ---- determined

module _ (pieces : List Piece) where
  one_next : (p q r : Piece) → IsJoined pieces p q → IsJoined pieces p r → q ≡ r
  one_next p q r h k =
      let v = greater_end p.segment in
      let only = ((loose_parts pieces v h.loose).2).leaves in
      only.alone q (member pieces q h.second) (point_self _ v (sym h.vertex)) ∙ sym (only.alone r (member pieces r k.second) (point_self _ v (sym k.vertex)))

  one_previous : (p q r : Piece) → IsJoined pieces p r → IsJoined pieces q r → p ≡ q
  one_previous p q r h k =
      let v = greater_end p.segment in
      let only = ((loose_parts pieces v h.loose).2).arrives in
      only.alone p (member pieces p h.first) (point_self v v refl) ∙ sym (only.alone q (member pieces q k.first) (point_self _ v (k.vertex ∙ sym h.vertex)))

  -- r is reached from p along a chain
  abbrev pub Reaches : Piece → Piece → Type 0
  Reaches p r = (rest : List Piece) × IsChain pieces p rest × (last_in_chain p rest ≡ r)

  pub reaches_itself : (p : Piece) → Reaches p p
  reaches_itself p = ([], tt, refl)

  pub reaches_on : (p q r : Piece) → IsJoined pieces p q → Reaches q r → Reaches p r
  reaches_on p q r h w = (q ∷ w.0, (h, w.1), w.2)

  -- one is at the end of a chain, or has come by a last step
  pub last_step : (p : Piece) (rest : List Piece) → IsChain pieces p rest → (p ≡ last_in_chain p rest) ⊎ ((x : Piece) × Reaches p x × IsJoined pieces x (last_in_chain p rest))
  last_step p [] c = inl refl
  last_step p (q ∷ qs) c =
      elim (last_step q qs c.1) [
        | inl e ↦ inr (p, reaches_itself p, subst (IsJoined pieces p) e c.0)
        | inr w ↦ inr (w.0, reaches_on p q w.0 c.0 w.1, w.2)
      ]

  -- of two pieces from which one piece is reached, one reaches the other
  one_way : (p q r : Piece) (rest : List Piece) → IsChain pieces p rest → last_in_chain p rest ≡ r → Reaches q r → Reaches p q ⊎ Reaches q p
  one_way p q r [] c e w = inr (w.0, w.1, w.2 ∙ sym e)
  one_way p q r (x ∷ xs) c e w =
      elim (one_way x q r xs c.1 e w) [
        | inl f ↦ inl (reaches_on p x q c.0 f)
        | inr g ↦ elim (last_step q g.0 g.1) [
          | inl h ↦ inl (x ∷ [], (c.0, tt), sym (h ∙ g.2))
          | inr h ↦ (let same : h.0 ≡ p = one_previous h.0 p x (subst (IsJoined pieces h.0) g.2 h.2) c.0 in inr (subst (Reaches q) same h.1))
        ]
      ]

  pub nothing_before : (p q : Piece) → is_loose pieces (lesser_end q.segment) ≡ false → Reaches p q → p ≡ q
  nothing_before p q begins w =
      elim (last_step p w.0 w.1) [
        | inl e ↦ e ∙ w.2
        | inr h ↦ (let j : IsJoined pieces h.0 q = subst (IsJoined pieces h.0) w.2 h.2 in
            absurd (true≢false (sym j.loose ∙ ap (is_loose pieces) j.vertex ∙ begins)))
      ]

  -- chains that reach one piece begin with one piece
  pub one_beginning : (p q r : Piece) → is_loose pieces (lesser_end p.segment) ≡ false → is_loose pieces (lesser_end q.segment) ≡ false → Reaches p r → Reaches q r → p ≡ q
  one_beginning p q r begins_p begins_q w u =
      elim (one_way p q r w.0 w.1 w.2 u) [ inl a ↦ nothing_before p q begins_q a | inr b ↦ sym (nothing_before q p begins_p b) ]

  -- chains that begin with one piece and end where nothing goes on end with one piece
  pub one_ending : (p : Piece) (rest other : List Piece) → IsChain pieces p rest → IsChain pieces p other → is_loose pieces (greater_end (last_in_chain p rest).segment) ≡ false → is_loose pieces (greater_end (last_in_chain p other).segment) ≡ false → last_in_chain p rest ≡ last_in_chain p other
  one_ending p [] [] c d e f = refl
  one_ending p [] (y ∷ ys) c d e f = absurd (true≢false (sym d.0.loose ∙ e))
  one_ending p (x ∷ xs) [] c d e f = absurd (true≢false (sym c.0.loose ∙ f))
  one_ending p (x ∷ xs) (y ∷ ys) c d e f =
      let same : y ≡ x = one_next p y x d.0 c.0 in
      one_ending x xs ys c.1 (subst (λ (t : Piece). IsChain pieces t ys) same d.1) e (subst (λ (t : Piece). is_loose pieces (greater_end (last_in_chain t ys).segment) ≡ false) same f)
      ∙ ap (λ (t : Piece). last_in_chain t ys) (sym same)

-- ---- each chain ends

pub joined_before : (pieces : List Piece) (p q : Piece) → IsJoined pieces p q → is_before p.segment q.segment ≡ true
joined_before pieces p q h =
    before_by_from p.segment q.segment (ap (λ (v : Point). order_of (position_of p.segment.from) (position_of v)) (sym h.vertex) ∙ ends_order (stretch_of p.segment) p.segment.stretch)

module _ {X : Type 0} (f g : X → Bool) (under : (x : X) → f x ≡ true → g x ≡ true) where
  kept-le : (xs : List X) → length (filter f xs) ≤ length (filter g xs)
  kept-le [] = omega arith
  kept-le (x ∷ xs) = go (f x) (g x) refl refl (kept-le xs)
    where
      go : (a b : Bool) → f x ≡ a → g x ≡ b → length (filter f xs) ≤ length (filter g xs) → length (cond a (x ∷ filter f xs) (filter f xs)) ≤ length (cond b (x ∷ filter g xs) (filter g xs))
      go true true e h rest = omega (arith, rest)
      go true false e h rest = absurd (true≢false (sym (under x e) ∙ h))
      go false true e h rest = omega (arith, rest)
      go false false e h rest = rest

  pub kept-lt : (xs : List X) (z : X) → Member xs z → f z ≡ false → g z ≡ true → length (filter f xs) < length (filter g xs)
  kept-lt [] z m e h = absurd m
  kept-lt (x ∷ xs) z m e h = go (f x) (g x) refl refl m (kept-le xs) (λ n. kept-lt xs z n e h)
    where
      go : (a b : Bool) → f x ≡ a → g x ≡ b → Member (x ∷ xs) z → length (filter f xs) ≤ length (filter g xs) → (Member xs z → length (filter f xs) < length (filter g xs)) → length (cond a (x ∷ filter f xs) (filter f xs)) < length (cond b (x ∷ filter g xs) (filter g xs))
      go true b k l (inl at) le lt = absurd (true≢false (sym k ∙ ap f at ∙ e))
      go false false k l (inl at) le lt = absurd (true≢false (sym (ap g at ∙ h) ∙ l))
      go false true k l (inl at) le lt = omega (arith, le)
      go true true k l (inr n) le lt = let less = lt n in omega (arith, less)
      go true false k l (inr n) le lt = absurd (true≢false (sym (under x k) ∙ l))
      go false true k l (inr n) le lt = omega (arith, le)
      go false false k l (inr n) le lt = lt n

-- how many pieces stand after p
later_count : List Piece → Piece → ℕ
later_count pieces p = length (filter (λ (z : Piece). is_before p.segment z.segment) pieces)

fewer_later : (pieces : List Piece) (p q : Piece) → IsJoined pieces p q → later_count pieces q < later_count pieces p
unfolding later_count
fewer_later pieces p q h =
    let before = joined_before pieces p q h in
    kept-lt (λ (z : Piece). is_before q.segment z.segment) (λ (z : Piece). is_before p.segment z.segment) (λ z e. before_trans p.segment q.segment z.segment before e)
    pieces q (member pieces q h.second) (false_from_ne_true (is_before q.segment q.segment) (before_irreflexive q.segment)) before

-- a chain from p that ends where nothing goes on
pub record IsWhole (pieces : List Piece) (p last : Piece) : Type 0 where
  pub chain : Reaches pieces p last
  pub ends : is_loose pieces (greater_end last.segment) ≡ false

whole_on : (pieces : List Piece) (p q last : Piece) → IsJoined pieces p q → IsWhole pieces q last → IsWhole pieces p last
whole_on pieces p q last h w = record { chain = reaches_on pieces p q last h w.chain; ends = w.ends }

whole_here : (pieces : List Piece) (p : Piece) → next_piece pieces p ≡ None → IsWhole pieces p p
whole_here pieces p e = record { chain = reaches_itself pieces p; ends = none_next pieces p e }

last_whole : (n : ℕ) (pieces : List Piece) (p : Piece) → Member pieces p → later_count pieces p ≤ n → IsWhole pieces p (last_piece n pieces p)
last_whole zero pieces p m few = go (next_piece pieces p) refl
  where
    go : (o : Option Piece) → next_piece pieces p ≡ o → IsWhole pieces p p
    go None e = whole_here pieces p e
    go (Some q) e = let less = fewer_later pieces p q (next_joined pieces p q m e) in absurd (omega (arith, less))
last_whole (suc n) pieces p m few = go (next_piece pieces p) refl (λ q h. last_whole n pieces q (member pieces q h.second) (let less = fewer_later pieces p q h in omega (arith, less)))
  where
    go : (o : Option Piece) → next_piece pieces p ≡ o → ((q : Piece) → IsJoined pieces p q → IsWhole pieces q (last_piece n pieces q)) → IsWhole pieces p (last_piece (suc n) pieces p)
    go None e rest = subst (IsWhole pieces p) (sym (last_stays (suc n) pieces p e)) (whole_here pieces p e)
    go (Some q) e rest =
        let h = next_joined pieces p q m e in
        subst (IsWhole pieces p) (sym (last_on (suc n) n pieces p q refl e)) (whole_on pieces p q (last_piece n pieces q) h (rest q h))

pub whole_chain : (pieces : List Piece) (p : Piece) → Member pieces p → IsWhole pieces p (last_piece (length pieces) pieces p)
unfolding later_count
whole_chain pieces p m =
    let after : Piece → Bool = λ z. is_before p.segment z.segment in
    last_whole (length pieces) pieces p m (omega (arith, length-filter after pieces, count_by-le-length after pieces))
