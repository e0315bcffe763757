-- A crease that the pieces hold already is added without a change.
use Rattle.std.proofs.Common.{◌≡◌, ℕ, ◌%◌, Bool, true, false, cond, not, nat_eq, inl, inr, List, [], ◌∷◌, refl, sym, ap, subst, ◌∙◌}
use Rattle.std.specs.Prelude.{Contains, Ok, Err}
use Rattle.std.specs.declared.result.Result.{Result}
use Rattle.std.proofs.lemmas.Bool.{and_parts, and_from, or_cases, or_right, false_from_ne_true, both_ways, le-leb, eqb-true, eq-eqb}
use Rattle.surd_number.specs.declared.Sgn.{Sgn}
use Rattle.surd_number.specs.declared.Sgn.TheVariants.{Neg, Zero, Pos}
use Rattle.surd_number.specs.Number.{opposite_sign}
use Rattle.plane_geometry.specs.declared.Point.{Point}
use Rattle.plane_geometry.specs.declared.Segment.{Segment}
use Rattle.plane_geometry.specs.Position.{Position, position_of}
use Rattle.plane_geometry.specs.Direction.{side_of, is_negative}
use Rattle.plane_geometry.specs.SegmentView.{stretch_of, lesser_end, greater_end, direction_number}
use Rattle.plane_geometry.specs.Stretch.{Stretch, is_between, is_end, is_on}
use Rattle.plane_geometry.specs.Common.{is_parallel}
use Rattle.plane_geometry.specs.SideLaws.{order_of, order_self, order_turned, side_from}
use Rattle.plane_geometry.specs.StretchLaws.{LiesOn, negative_is, before_then, then_before, order_to, turned_zero, side_to, side_self, ends_order, to_in_line, on_parts, on_from_parts, end_parts, from_end, to_end}
use Rattle.plane_geometry.specs.CommonPointLaws.{LiesBetween, end_same, between_parts, between_from_parts, between_no_end, middle_of, middle_between}
use Rattle.crease_model.specs.declared.Kind.{Kind}
use Rattle.crease_model.specs.declared.Piece.{Piece}
use Rattle.crease_model.specs.Kind.{is_same_kind}
use Rattle.crease_model.specs.KindLaws.{same_kind_is}
use Rattle.crease_model.specs.PartLaws.{ends_lie, one_line, turn_in_line}
use Rattle.crease_model.specs.Rules.{IsPattern, AllMeetAtEnds, is_on_sheet, most_pieces, size_of}
use Rattle.crease_model.specs.Sheet.{is_within_side}
use Rattle.crease_model.specs.View.{PatternView}
use Rattle.line_split.specs.Cuts.{cuts_of}
use Rattle.line_split.specs.FaultLaws.{fault_is_first}
use Rattle.line_split.specs.MemberLaws.{Member, member, member_right, contained}
use Rattle.crease_store.specs.declared.faults.StoreRefusal.TheVariants.{OutsideSheet, OnBorder, TooManyPieces}
use Rattle.crease_store.specs.Added.{covers, is_vertex, HasAddedKind, IsPieceOfAdd, IsCreaseAdded}
use Rattle.crease_store.specs.Adding.{with_crease, if_it_fits, crease_cut, crease_added}
use Rattle.crease_store.proofs.AddLaws.{crease_is_added, crease_is_one}
use Rattle.crease_store.specs.Held.{is_along_in_kind, GoesOn, LeadsTo, IsLedTo, IsHeld}
use Rattle.crease_store.proofs.Covered.{new_end, old_end, meeting, vertex_parts, vertex_at_old, end_lies, covers_self, same_segment, covering_between, inner_on, inner_vertex_on}
use Rattle.crease_store.proofs.Members.{piece_is, members_meet}

-- ---- runs of pieces

pub led_on : (pieces : List Piece) (kind : Kind) (s : Segment) (v : Point) (p : Piece) → Contains pieces p → GoesOn kind s v p → IsLedTo pieces kind s v → IsLedTo pieces kind s (greater_end p.segment)
led_on pieces kind s v p there goes led = (p ∷ led.0, (refl, there, goes.0, subst (λ (u : Point). LeadsTo pieces kind s u led.0) (sym goes.1) led.1))

leads_among : (some all : List Piece) (kind : Kind) (s : Segment) → ((p : Piece) → Contains some p → Contains all p) → (run : List Piece) (v : Point) → LeadsTo some kind s v run → LeadsTo all kind s v run
leads_among some all kind s inside [] v leads = leads
leads_among some all kind s inside (p ∷ run) v leads = (leads.0, inside p leads.1, leads.2, leads_among some all kind s inside run (lesser_end p.segment) leads.3)

pub led_among : (some all : List Piece) (kind : Kind) (s : Segment) (v : Point) → ((p : Piece) → Contains some p → Contains all p) → IsLedTo some kind s v → IsLedTo all kind s v
led_among some all kind s v inside led = (led.0, leads_among some all kind s inside led.0 v led.1)

-- ---- the pieces along s

module _ (old : List Piece) (kind : Kind) (s : Segment) where
  abbrev S : Stretch
  S = stretch_of s

  -- v is on a piece of the kind and in the direction of s, which s covers
  record IsHeldAt (v : Position) : Type 0 where
    piece : Piece
    there : Member old piece
    kind_is : piece.kind ≡ kind
    direction : direction_number piece.segment ≡ direction_number s
    covered : covers S (stretch_of piece.segment) ≡ true
    on : is_on v (stretch_of piece.segment) ≡ true

  along_parts : (p : Piece) → is_along_in_kind kind s p ≡ true → (p.kind ≡ kind) × (direction_number p.segment ≡ direction_number s)
  along_parts p e =
      let k = and_parts (is_same_kind p.kind kind) (nat_eq (direction_number p.segment) (direction_number s)) e in
      (same_kind_is p.kind kind k.0, eqb-true _ _ k.1)

  -- a run stays on the line of s, and does not go back behind its lesser end
  leads_along : (run : List Piece) (v : Point) → LeadsTo old kind s v run → (side_of S.from S.dir (position_of v) ≡ Zero) × (is_negative (order_of S.from (position_of v)) ≡ false)
  leads_along [] v leads =
      subst (λ (u : Point). (side_of S.from S.dir (position_of u) ≡ Zero) × (is_negative (order_of S.from (position_of u)) ≡ false)) (sym leads)
      (side_self S.from S.dir, ap is_negative (order_self S.from))
  leads_along (p ∷ run) v leads =
      let P = stretch_of p.segment in
      let first = leads_along run (lesser_end p.segment) leads.3 in
      let line : side_of P.from S.dir P.to ≡ Zero = ap (λ (n : ℕ). side_of P.from n P.to) (sym (along_parts p leads.2).1) ∙ to_in_line P p.segment.stretch in
      subst (λ (u : Point). (side_of S.from S.dir (position_of u) ≡ Zero) × (is_negative (order_of S.from (position_of u)) ≡ false)) (sym leads.0)
      (side_to S.from S.dir P.from P.to line ∙ first.0, ap is_negative (then_before S.from P.from P.to first.1 (ends_order P p.segment.stretch)))

  -- the last piece of a run that does not go beyond the greater end
  module _ (p : Piece) (run : List Piece) (leads : LeadsTo old kind s (greater_end p.segment) (p ∷ run)) (within : is_negative (order_of (stretch_of p.segment).to S.to) ≡ false) where
    abbrev P : Stretch
    P = stretch_of p.segment

    before_end : order_of P.from S.to ≡ Pos
    before_end = before_then P.from P.to S.to (ends_order P p.segment.stretch) within

    last_covered : covers S P ≡ true
    last_covered =
        let begins = leads_along run (lesser_end p.segment) leads.3 in
        let ends = leads_along (p ∷ run) (greater_end p.segment) leads in
        and_from _ _
        (on_from_parts P.from S s.stretch (record { in_line = begins.0; after_from = begins.1; before_to = ap is_negative before_end }))
        (on_from_parts P.to S s.stretch (record { in_line = ends.0; after_from = ends.1; before_to = within }))

    -- a point of s behind its beginning, and not beyond its end
    on_last : (w : Position) → LiesOn w S → is_negative (order_of P.from w) ≡ false → is_negative (order_of w P.to) ≡ false → IsHeldAt w
    on_last w lies after before =
        let begins = leads_along run (lesser_end p.segment) leads.3 in
        let k = along_parts p leads.2 in
        let line : side_of P.from S.dir w ≡ Zero = sym (side_from S.from S.dir P.from w begins.0) ∙ lies.in_line in
        record {
          piece = p;
          there = member old p leads.1;
          kind_is = k.0;
          direction = k.1;
          covered = last_covered;
          on = on_from_parts w P p.segment.stretch (record { in_line = ap (λ (n : ℕ). side_of P.from n w) k.1 ∙ line; after_from = after; before_to = before });
        }

  -- what is on s, behind its lesser end and in front of the end of a run
  before_led : (run : List Piece) (v : Point) → LeadsTo old kind s v run → is_negative (order_of (position_of v) S.to) ≡ false → (w : Position) → LiesOn w S → order_of w (position_of v) ≡ Pos → IsHeldAt w
  before_led [] v leads within w lies before =
      let at : order_of w S.from ≡ Pos = ap (λ (u : Point). order_of w (position_of u)) (sym leads) ∙ before in
      let back : is_negative (order_of S.from w) ≡ true = ap is_negative (order_turned w S.from ∙ ap opposite_sign at) in
      absurd (both_ways (is_negative (order_of S.from w)) lies.after_from back)
  before_led (p ∷ run) v leads within w lies before =
      go (order_of (stretch_of p.segment).from w) refl (before_led run (lesser_end p.segment) leads.3 (ap is_negative (before_end p run here inside)) w lies)
    where
      here : LeadsTo old kind s (greater_end p.segment) (p ∷ run)
      here = (refl, leads.1, leads.2, leads.3)

      inside : is_negative (order_of (stretch_of p.segment).to S.to) ≡ false
      inside = subst (λ (u : Point). is_negative (order_of (position_of u) S.to) ≡ false) leads.0 within

      ahead : order_of w (stretch_of p.segment).to ≡ Pos
      ahead = subst (λ (u : Point). order_of w (position_of u) ≡ Pos) leads.0 before

      go : (t : Sgn) → order_of (stretch_of p.segment).from w ≡ t → (order_of w (stretch_of p.segment).from ≡ Pos → IsHeldAt w) → IsHeldAt w
      go Neg e rest = rest (order_turned (stretch_of p.segment).from w ∙ ap opposite_sign e)
      go Zero e rest = on_last p run here inside w lies (ap is_negative e) (ap is_negative ahead)
      go Pos e rest = on_last p run here inside w lies (ap is_negative e) (ap is_negative ahead)

  held_at : IsHeld old kind s → (w : Position) → is_on w S ≡ true → IsHeldAt w
  held_at held w on = by_run held.0 held.1
    where
      lies : LiesOn w S
      lies = on_parts w S s.stretch on

      by_run : (run : List Piece) → LeadsTo old kind s (greater_end s) run → IsHeldAt w
      by_run [] leads =
          let clash : Pos ≡ Zero = sym (ends_order S s.stretch) ∙ ap (λ (u : Point). order_of S.from (position_of u)) leads ∙ order_self S.from in
          absurd (cc)
      by_run (p ∷ run) leads = go (order_of w S.to) refl
        where
          here : LeadsTo old kind s (greater_end p.segment) (p ∷ run)
          here = (refl, leads.1, leads.2, leads.3)

          ends : order_of S.to (stretch_of p.segment).to ≡ Zero
          ends = ap (λ (u : Point). order_of S.to (position_of u)) (sym leads.0) ∙ order_self S.to

          inside : is_negative (order_of (stretch_of p.segment).to S.to) ≡ false
          inside = ap is_negative (turned_zero S.to (stretch_of p.segment).to ends)

          go : (t : Sgn) → order_of w S.to ≡ t → IsHeldAt w
          go Neg e = absurd (both_ways (is_negative (order_of w S.to)) lies.before_to (ap is_negative e))
          go Zero e =
              let at : order_of w (stretch_of p.segment).to ≡ Zero = order_to w S.to (stretch_of p.segment).to ends ∙ e in
              on_last p run here inside w lies (ap is_negative (order_to (stretch_of p.segment).from (stretch_of p.segment).to w (turned_zero w (stretch_of p.segment).to at) ∙ ends_order (stretch_of p.segment) p.segment.stretch)) (ap is_negative at)
          go Pos e = before_led (p ∷ run) (greater_end s) leads (ap is_negative (order_self S.to)) w lies e

module _ (old : List Piece) (kind : Kind) (s : Segment) (meetings : AllMeetAtEnds old) (held : IsHeld old kind s) where
  -- no vertex is strictly between the ends of an old piece
  none_inside : (u : Piece) → Member old u → (v : Position) → is_vertex old (S old kind s) v ≡ true → is_between v (stretch_of u.segment) ≡ true → ⊥
  none_inside u at v e b = by_held (held_at old kind s held v (inner_vertex_on old meetings (stretch_of s) u at v e b))
    where
      lies : LiesBetween v (stretch_of u.segment)
      lies = between_parts v (stretch_of u.segment) b

      on : is_on v (stretch_of u.segment) ≡ true
      on = or_right (is_end v (stretch_of u.segment)) (is_between v (stretch_of u.segment)) b

      no_end : is_end v (stretch_of u.segment) ≡ true → ⊥
      no_end = between_no_end v (stretch_of u.segment) lies

      -- a piece with this point is that piece
      only : (p : Piece) → Member old p → is_on v (stretch_of p.segment) ≡ true → p ≡ u
      only p m on_p = elim (members_meet old p u meetings m at) [ inl same ↦ same | inr meet ↦ absurd (no_end (meet v on_p on).1) ]

      by_held : IsHeldAt old kind s v → ⊥
      by_held h =
          let same : h.piece ≡ u = only h.piece h.there h.on in
          elim (vertex_parts old (stretch_of s) v e) [
            | new_end l ↦
                between_no_end v (stretch_of s) (covering_between (stretch_of s) (stretch_of u.segment) v s.stretch u.segment.stretch
                (subst (λ (t : Piece). covers (stretch_of s) (stretch_of t.segment) ≡ true) same h.covered) lies) l
            | old_end p m l ↦ no_end (subst (λ (t : Piece). is_end v (stretch_of t.segment) ≡ true) (only p m (end_lies v (stretch_of p.segment) l)) l)
            | meeting p m on_s on_p apart ↦
                (let direction : direction_number p.segment ≡ direction_number s = ap (λ (t : Piece). direction_number t.segment) (only p m on_p ∙ sym same) ∙ h.direction in
                both_ways (is_parallel (stretch_of s) (stretch_of p.segment)) apart (eq-eqb (direction_number s % 8) (direction_number p.segment % 8) (ap (λ (n : ℕ). n % 8) (sym direction))))
          ]

  -- a vertex on an old piece is an end of it
  end_of_piece : (u : Piece) → Member old u → (v : Position) → is_vertex old (stretch_of s) v ≡ true → is_on v (stretch_of u.segment) ≡ true → is_end v (stretch_of u.segment) ≡ true
  end_of_piece u at v e on =
      elim (or_cases (is_end v (stretch_of u.segment)) (is_between v (stretch_of u.segment)) on) [ inl l ↦ l | inr b ↦ absurd (none_inside u at v e b) ]

  -- ---- each old piece is one of the new pattern

  abbrev middle : Piece → Position
  middle q = middle_of (stretch_of q.segment).from (stretch_of q.segment).to

  middle_at : (q : Piece) → covers (stretch_of s) (stretch_of q.segment) ≡ true → IsHeldAt old kind s (middle q)
  middle_at q e =
      held_at old kind s held (middle q) (inner_on (stretch_of s) (stretch_of q.segment) (middle q) s.stretch q.segment.stretch e (middle_between (stretch_of q.segment) q.segment.stretch))

  kind_there : (q : Piece) → Member old q → covers (stretch_of s) (stretch_of q.segment) ≡ true → q.kind ≡ kind
  kind_there q at e =
      let h = middle_at q e in
      let Q = stretch_of q.segment in
      let b = middle_between Q q.segment.stretch in
      elim (members_meet old h.piece q meetings h.there at) [
        | inl same ↦ ap (λ (t : Piece). t.kind) (sym same) ∙ h.kind_is
        | inr meet ↦ absurd (between_no_end (middle q) Q b (meet (middle q) h.on (or_right (is_end (middle q) Q) (is_between (middle q) Q) (between_from_parts (middle q) Q b))).1)
      ]

  pub old_is_piece : (q : Piece) → Contains old q → IsPieceOfAdd old kind (stretch_of s) q
  old_is_piece q c =
      record {
        from_vertex = vertex_at_old old (stretch_of s) _ q at (from_end (stretch_of q.segment));
        to_vertex = vertex_at_old old (stretch_of s) _ q at (to_end (stretch_of q.segment));
        none_between = λ v e. false_from_ne_true (is_between v (stretch_of q.segment)) (none_inside q at v e);
        covered = go (covers (stretch_of s) (stretch_of q.segment)) refl;
      }
    where
      at : Member old q
      at = member old q c

      go : (b : Bool) → covers (stretch_of s) (stretch_of q.segment) ≡ b → HasAddedKind old kind (stretch_of s) q
      go true e = inl (e, kind_there q at e)
      go false e = inr (e, (q, c, covers_self (stretch_of q.segment), refl))

  -- ---- and each of those is old

  whole : (p q : Piece) → Member old p → q.kind ≡ p.kind → is_vertex old (stretch_of s) (stretch_of q.segment).from ≡ true → is_vertex old (stretch_of s) (stretch_of q.segment).to ≡ true → covers (stretch_of p.segment) (stretch_of q.segment) ≡ true → Member old q
  whole p q at same_kind from to e =
      let k = and_parts (is_on (stretch_of q.segment).from (stretch_of p.segment)) (is_on (stretch_of q.segment).to (stretch_of p.segment)) e in
      let same = same_segment q.segment p.segment (end_of_piece p at _ from k.0) (end_of_piece p at _ to k.1) in
      subst (Member old) (piece_is p q (sym same_kind) (sym same)) at

  -- a new piece that s covers, and the old one on which its middle is
  module _ (q : Piece) (piece : IsPieceOfAdd old kind (stretch_of s) q) (e : covers (stretch_of s) (stretch_of q.segment) ≡ true) (h : IsHeldAt old kind s (middle q)) where
    abbrev H : Stretch
    H = stretch_of h.piece.segment

    abbrev Q : Stretch
    Q = stretch_of q.segment

    b : LiesBetween (middle q) Q
    b = middle_between Q q.segment.stretch

    l : LiesOn (middle q) H
    l = on_parts (middle q) H h.piece.segment.stretch h.on

    ends : LiesOn Q.from (stretch_of s) × LiesOn Q.to (stretch_of s)
    ends = ends_lie (stretch_of s) Q s.stretch e

    old_ends : LiesOn H.from (stretch_of s) × LiesOn H.to (stretch_of s)
    old_ends = ends_lie (stretch_of s) H s.stretch h.covered

    in_line : (v : Position) → LiesOn v (stretch_of s) → side_of H.from H.dir v ≡ Zero
    in_line v lies =
        ap (λ (n : ℕ). side_of H.from n v) h.direction
        ∙ sym (side_from (stretch_of s).from (stretch_of s).dir H.from v old_ends.0.in_line) ∙ lies.in_line

    from_before : order_of Q.from H.to ≡ Pos
    from_before = before_then Q.from (middle q) H.to b.after_from l.before_to

    to_after : order_of H.from Q.to ≡ Pos
    to_after = then_before H.from (middle q) Q.to l.after_from b.before_to

    -- no end of the old one is strictly between those of q
    outside : (v : Position) → is_vertex old (stretch_of s) v ≡ true → LiesOn v (stretch_of s) → order_of Q.from v ≡ Pos → order_of v Q.to ≡ Pos → ⊥
    outside v vertex lies after before =
        let turn = turn_in_line (stretch_of s) Q s.stretch q.segment.stretch ends.0.in_line ends.1.in_line in
        let line = one_line (stretch_of s) Q Q.from v s.stretch turn ends.0.in_line (side_self Q.from Q.dir) lies.in_line in
        both_ways (is_between v Q) (piece.none_between v vertex) (between_from_parts v Q (record { in_line = line; after_from = after; before_to = before }))

    turned_neg : (v w : Position) → is_negative (order_of v w) ≡ true → order_of w v ≡ Pos
    turned_neg v w f = order_turned v w ∙ ap opposite_sign (negative_is _ f)

    begins : is_negative (order_of H.from Q.from) ≡ false
    begins = false_from_ne_true _ (λ f. outside H.from (vertex_at_old old (stretch_of s) _ h.piece h.there (from_end H)) old_ends.0 (turned_neg H.from Q.from f) to_after)

    arrives : is_negative (order_of Q.to H.to) ≡ false
    arrives = false_from_ne_true _ (λ f. outside H.to (vertex_at_old old (stretch_of s) _ h.piece h.there (to_end H)) old_ends.1 from_before (turned_neg Q.to H.to f))

    piece_covers : covers H Q ≡ true
    piece_covers =
        and_from (is_on Q.from H) (is_on Q.to H)
        (on_from_parts Q.from H h.piece.segment.stretch (record { in_line = in_line Q.from ends.0; after_from = begins; before_to = ap is_negative from_before }))
        (on_from_parts Q.to H h.piece.segment.stretch (record { in_line = in_line Q.to ends.1; after_from = ap is_negative to_after; before_to = arrives }))

  pub piece_is_old : (q : Piece) → IsPieceOfAdd old kind (stretch_of s) q → Contains old q
  piece_is_old q h = contained old q (go h.covered)
    where
      go : HasAddedKind old kind (stretch_of s) q → Member old q
      go (inl w) = let m = middle_at q w.0 in whole m.piece q m.there (w.1 ∙ sym m.kind_is) h.from_vertex h.to_vertex (piece_covers q h w.0 m)
      go (inr w) = whole (w.1).0 q (member old (w.1).0 (w.1).1) (w.1).3 h.from_vertex h.to_vertex (w.1).2

  -- each common point with an old piece is of two Surds
  pub held_in_range : (n : ℕ) → cuts_of s old ≡ Err n → ⊥
  held_in_range n e =
      let first = fault_is_first s old n e in
      let r = first.piece in
      let at : Member old r = subst (λ (l : List Piece). Member l r) (sym first.split) (member_right first.earlier (r ∷ first.later) r (inl refl)) in
      let v = first.meets.shared.0 in
      let h = held_at old kind s held v first.meets.shared.1 in
      let H = stretch_of h.piece.segment in
      let R = stretch_of r.segment in
      let ends = and_parts (is_on H.from (stretch_of s)) (is_on H.to (stretch_of s)) h.covered in
      elim (members_meet old h.piece r meetings h.there at) [
        | inl same ↦
            both_ways (is_parallel (stretch_of s) R) first.meets.turned
            (eq-eqb (direction_number s % 8) (direction_number r.segment % 8) (ap (λ (k : ℕ). k % 8) (sym h.direction ∙ ap (λ (t : Piece). direction_number t.segment) same)))
        | inr meet ↦
            (let both = meet v h.on first.meets.shared.2 in
            elim (end_parts v H both.0) [
              | inl f ↦ first.meets.none h.piece.segment.from ends.0 (end_lies H.from R (end_same v H.from R (turned_zero H.from v f) both.1))
              | inr f ↦ first.meets.none h.piece.segment.to ends.1 (end_lies H.to R (end_same v H.to R f both.1))
            ])
      ]

-- ---- the pattern

module _ (old : PatternView) (kind : Kind) (s : Segment) (rules : IsPattern old) (held : IsHeld old.pieces kind s) where
  nothing_added : IsCreaseAdded old kind s old
  nothing_added = record {
    corners = refl;
    aux = refl;
    order = rules.order.0;
    pieces = λ q. (old_is_piece old.pieces kind s rules.meetings held q, piece_is_old old.pieces kind s rules.meetings held q);
  }

  fits : if_it_fits old ≡ Ok old
  fits = ap (λ b. cond b (Ok old) (Err (TooManyPieces (size_of old)))) (le-leb (size_of old) most_pieces rules.size)

  cut_the_same : (r : Result (List Point) ℕ) → cuts_of s old.pieces ≡ r → crease_cut old kind s r ≡ Ok old
  cut_the_same (Ok cuts) e = ap if_it_fits (crease_is_one old kind s (with_crease old kind s cuts) old (crease_is_added old kind s cuts rules e) nothing_added) ∙ fits
  cut_the_same (Err n) e = absurd (held_in_range old.pieces kind s rules.meetings held n e)

  pub held_is_added : is_on_sheet old.corners (stretch_of s) ≡ true → is_within_side old.corners (stretch_of s) ≡ false → crease_added old kind s ≡ Ok old
  held_is_added on_sheet inside =
      let cut = crease_cut old kind s (cuts_of s old.pieces) in
      ap (λ b. cond (not b) (Err OutsideSheet) (cond (is_within_side old.corners (stretch_of s)) (Err OnBorder) cut)) on_sheet
      ∙ ap (λ b. cond b (Err OnBorder) cut) inside ∙ cut_the_same (cuts_of s old.pieces) refl
