-- The piece that a chain becomes: where it lies, and what it meets.
use Rattle.std.proofs.Common.{◌≡◌, Bool, true, false, not, ◌&&◌, ◌⊎◌, inl, inr, List, [], ◌∷◌, length, refl, sym, ap, ap₂, subst, ◌∙◌}
use Rattle.std.specs.Prelude.{Option, None, Some, unwrap_or}
use Rattle.std.proofs.lemmas.Bool.{and_parts, and_from, true≢false, false_from_ne_true, not-true, not_from_false}
use Rattle.surd_number.specs.declared.Sgn.TheVariants.{Zero}
use Rattle.plane_geometry.specs.declared.Point.{Point}
use Rattle.plane_geometry.specs.declared.Segment.{Segment}
use Rattle.plane_geometry.specs.Position.{Position, position_of}
use Rattle.plane_geometry.specs.Stretch.{MeetAtEnds, is_end, is_on}
use Rattle.plane_geometry.specs.SegmentView.{stretch_of, lesser_end, greater_end, direction_number}
use Rattle.plane_geometry.specs.SegmentOf.{segment_of}
use Rattle.plane_geometry.specs.SegmentLaws.{point_is, segment_is, segment_of-ends}
use Rattle.plane_geometry.specs.SideLaws.{order_of}
use Rattle.plane_geometry.specs.StretchLaws.{order_from, turned_zero, end_parts, end_from, end_to}
use Rattle.crease_model.specs.declared.Piece.{Piece}
use Rattle.plane_geometry.specs.Polygon.{Side, sides_of}
use Rattle.crease_model.specs.Sheet.{place_of, is_outside, is_on_segment, holds_both_ends, is_within_side}
use Rattle.crease_model.specs.Rules.{AllMeetAtEnds, is_crease, is_crease_kind, is_on_sheet}
use Rattle.crease_store.specs.Merged.{is_loose, last_piece, joined_to, merged_from, IsJoined, IsChain, last_in_chain}
use Rattle.line_split.specs.MemberLaws.{Member, member, any_member, member_any}
use Rattle.crease_store.proofs.Covered.{inner_on}
use Rattle.crease_store.proofs.Members.{members_meet}
use Rattle.crease_store.proofs.Chains.{Reaches, IsWhole, point_self, loose_parts, loose_joined, reaches_itself, reaches_on, last_step, one_beginning, nothing_before, whole_chain}
use Rattle.crease_store.proofs.Joining.{joined, joined_from, joined_to_end, joined_direction, joined_on, joined_between}

-- ---- the segment of a chain

pub record ChainSegment (p last : Piece) : Type 0 where
  pub segment : Segment
  pub from : lesser_end segment ≡ lesser_end p.segment
  pub to : greater_end segment ≡ greater_end last.segment
  pub direction : direction_number segment ≡ direction_number p.segment

unfoldable pub chain_segment : (pieces : List Piece) (p : Piece) (rest : List Piece) → IsChain pieces p rest → ChainSegment p (last_in_chain p rest)
chain_segment pieces p [] c = record { segment = p.segment; from = refl; to = refl; direction = refl }
chain_segment pieces p (q ∷ qs) c =
    let r = chain_segment pieces q qs c.1 in
    let at = c.0.vertex ∙ sym r.from in
    let same = c.0.direction ∙ sym r.direction in
    record {
      segment = joined p.segment r.segment at same;
      from = joined_from p.segment r.segment at same;
      to = joined_to_end p.segment r.segment at same ∙ r.to;
      direction = joined_direction p.segment r.segment at same;
    }

-- q is the chain from p to the last piece as one piece
pub record IsOne (pieces : List Piece) (p q : Piece) : Type 0 where
  pub last : Piece
  pub whole : IsWhole pieces p last
  pub from : lesser_end q.segment ≡ lesser_end p.segment
  pub to : greater_end q.segment ≡ greater_end last.segment
  pub kind : q.kind ≡ p.kind

joined_ends : (p last : Piece) → ChainSegment p last → (lesser_end (joined_to p last).segment ≡ lesser_end p.segment) × (greater_end (joined_to p last).segment ≡ greater_end last.segment)
joined_ends p last s =
    let found : segment_of (lesser_end p.segment) (greater_end last.segment) ≡ Some s.segment =
    ap₂ (λ (v w : Point). segment_of v w) (sym s.from) (sym s.to) ∙ segment_of-ends s.segment in
    let is : (joined_to p last).segment ≡ s.segment = ap (λ o. unwrap_or o p.segment) found in
    (ap lesser_end is ∙ s.from, ap greater_end is ∙ s.to)

pub merged_one : (pieces : List Piece) (p : Piece) → Member pieces p → IsOne pieces p (merged_from pieces p)
unfolding merged_from
merged_one pieces p m =
    let last = last_piece (length pieces) pieces p in
    let w = whole_chain pieces p m in
    let s = subst (λ (t : Piece). ChainSegment p t) (w.chain).2 (chain_segment pieces p (w.chain).0 (w.chain).1) in
    let ends = joined_ends p last s in
    record { last = last; whole = w; from = ends.0; to = ends.1; kind = refl }

-- ---- what is on it

-- a piece of the chain from p to the last one, with v on it
record IsOnPiece (pieces : List Piece) (p last : Piece) (v : Position) : Type 0 where
  pub piece : Piece
  pub before : Reaches pieces p piece
  pub after : Reaches pieces piece last
  pub on : is_on v (stretch_of piece.segment) ≡ true

on_chain : (pieces : List Piece) (p : Piece) (rest : List Piece) (c : IsChain pieces p rest) (v : Position) → is_on v (stretch_of (chain_segment pieces p rest c).segment) ≡ true → IsOnPiece pieces p (last_in_chain p rest) v
unfolding chain_segment
on_chain pieces p [] c v e = record { piece = p; before = reaches_itself pieces p; after = reaches_itself pieces p; on = e }
on_chain pieces p (q ∷ qs) c v e =
    let r = chain_segment pieces q qs c.1 in
    elim (joined_on p.segment r.segment (c.0.vertex ∙ sym r.from) (c.0.direction ∙ sym r.direction) v e) [
      | inl f ↦ record { piece = p; before = reaches_itself pieces p; after = (q ∷ qs, c, refl); on = f }
      | inr g ↦ (let w = on_chain pieces q qs c.1 v g in record { piece = w.piece; before = reaches_on pieces p q w.piece c.0 w.before; after = w.after; on = w.on })
    ]

on_one_piece : (pieces : List Piece) (p q : Piece) (one : IsOne pieces p q) (v : Position) → is_on v (stretch_of q.segment) ≡ true → IsOnPiece pieces p one.last v
on_one_piece pieces p q one v e =
    let chain = one.whole.chain in
    let s = chain_segment pieces p chain.0 chain.1 in
    let same : q.segment ≡ s.segment = segment_is q.segment s.segment (one.from ∙ sym s.from) (one.to ∙ ap (λ (t : Piece). greater_end t.segment) (sym chain.2) ∙ sym s.to) in
    subst (λ (t : Piece). IsOnPiece pieces p t v) chain.2 (on_chain pieces p chain.0 chain.1 v (subst (λ (t : Segment). is_on v (stretch_of t) ≡ true) same e))

-- ---- not within a side

-- where both ends of the segment are on x, the greater end of the first piece is on x
first_to_on : (pieces : List Piece) (p : Piece) (rest : List Piece) (c : IsChain pieces p rest) (x : Segment) → is_on (stretch_of (chain_segment pieces p rest c).segment).from (stretch_of x) ≡ true → is_on (stretch_of (chain_segment pieces p rest c).segment).to (stretch_of x) ≡ true → is_on (stretch_of p.segment).to (stretch_of x) ≡ true
unfolding chain_segment
first_to_on pieces p [] c x from to = to
first_to_on pieces p (q ∷ qs) c x from to =
    let r = chain_segment pieces q qs c.1 in
    let at = c.0.vertex ∙ sym r.from in
    let same = c.0.direction ∙ sym r.direction in
    let whole = joined p.segment r.segment at same in
    inner_on (stretch_of x) (stretch_of whole) (stretch_of p.segment).to x.stretch whole.stretch (and_from _ _ from to) (joined_between p.segment r.segment at same)

first_within : (pieces : List Piece) (p q : Piece) → IsOne pieces p q → (side : Side) → holds_both_ends (stretch_of q.segment) side ≡ true → holds_both_ends (stretch_of p.segment) side ≡ true
first_within pieces p q one side e = go (segment_of side.start side.end) e
  where
    chain : Reaches pieces p one.last
    chain = one.whole.chain

    s : ChainSegment p (last_in_chain p chain.0)
    s = chain_segment pieces p chain.0 chain.1

    same : q.segment ≡ s.segment
    same = segment_is q.segment s.segment (one.from ∙ sym s.from) (one.to ∙ ap (λ (t : Piece). greater_end t.segment) (sym chain.2) ∙ sym s.to)

    go : (o : Option Segment) → (is_on_segment (stretch_of q.segment).from o && is_on_segment (stretch_of q.segment).to o) ≡ true → (is_on_segment (stretch_of p.segment).from o && is_on_segment (stretch_of p.segment).to o) ≡ true
    go None f = f
    go (Some x) f =
        let k = and_parts (is_on (stretch_of q.segment).from (stretch_of x)) (is_on (stretch_of q.segment).to (stretch_of x)) f in
        and_from (is_on (stretch_of p.segment).from (stretch_of x)) (is_on (stretch_of p.segment).to (stretch_of x))
        (ap (λ (v : Point). is_on (position_of v) (stretch_of x)) (sym one.from) ∙ k.0)
        (first_to_on pieces p chain.0 chain.1 x
        (subst (λ (t : Segment). is_on (stretch_of t).from (stretch_of x) ≡ true) same k.0)
        (subst (λ (t : Segment). is_on (stretch_of t).to (stretch_of x) ≡ true) same k.1))

not_within : (corners : List Point) (pieces : List Piece) (p q : Piece) → IsOne pieces p q → is_within_side corners (stretch_of p.segment) ≡ false → is_within_side corners (stretch_of q.segment) ≡ false
not_within corners pieces p q one outside =
    false_from_ne_true (is_within_side corners (stretch_of q.segment)) (λ e.
    let w = any_member (holds_both_ends (stretch_of q.segment)) (sides_of corners) e in
    true≢false (sym (member_any (holds_both_ends (stretch_of p.segment)) (sides_of corners) w.0 w.1 (first_within pieces p q one w.0 w.2)) ∙ outside))

-- ---- it is a crease

pub reached_there : (pieces : List Piece) (p q : Piece) → Member pieces p → Reaches pieces p q → Member pieces q
reached_there pieces p q m w =
    elim (last_step pieces p w.0 w.1) [
      | inl e ↦ subst (Member pieces) (e ∙ w.2) m
      | inr h ↦ member pieces q (subst (IsJoined pieces h.0) w.2 h.2).second
    ]

pub one_crease : (corners : List Point) (pieces : List Piece) (p q : Piece) (one : IsOne pieces p q) → is_crease corners p ≡ true → is_crease corners one.last ≡ true → is_crease corners q ≡ true
one_crease corners pieces p q one first last =
    let a = and_parts (is_crease_kind p.kind) _ first in
    let b = and_parts (is_on_sheet corners (stretch_of p.segment)) _ a.1 in
    let c = and_parts (not (is_outside (place_of corners (stretch_of p.segment).from))) _ b.0 in
    let d = and_parts (is_on_sheet corners (stretch_of one.last.segment)) _ (and_parts (is_crease_kind one.last.kind) _ last).1 in
    let e = and_parts (not (is_outside (place_of corners (stretch_of one.last.segment).from))) _ d.0 in
    let at : Point → Bool = λ v. not (is_outside (place_of corners (position_of v))) in
    and_from (is_crease_kind q.kind) _ (ap is_crease_kind one.kind ∙ a.0)
    (and_from (is_on_sheet corners (stretch_of q.segment)) _
    (and_from _ _ (ap at one.from ∙ c.0) (ap at one.to ∙ e.1))
    (not_from_false _ (not_within corners pieces p q one (not-true _ b.1))))

-- ---- meetings

pub end_points : (v : Position) (s : Segment) → is_end v (stretch_of s) ≡ true → (order_of v (position_of (lesser_end s)) ≡ Zero) ⊎ (order_of v (position_of (greater_end s)) ≡ Zero)
end_points v s e = elim (end_parts v (stretch_of s) e) [ inl l ↦ inl (turned_zero (stretch_of s).from v l) | inr r ↦ inr r ]

one_place : (v : Position) (a b : Point) → order_of v (position_of a) ≡ Zero → order_of v (position_of b) ≡ Zero → a ≡ b
one_place v a b e f = point_is a b (sym (order_from v (position_of a) (position_of b) e) ∙ f)

module _ (pieces : List Piece) (p q : Piece) (one : IsOne pieces p q) (begins : is_loose pieces (lesser_end p.segment) ≡ false) (x : Piece) (before : Reaches pieces p x) (after : Reaches pieces x one.last) (there : Member pieces x) where
  module _ (v : Position) (y : Piece) (at : Member pieces y) (y_end : is_end v (stretch_of y.segment) ≡ true) (same : x ≡ y → ⊥) (up : IsJoined pieces x y → ⊥) (down : IsJoined pieces y x → ⊥) where
    by_to : order_of v (position_of (greater_end x.segment)) ≡ Zero → is_end v (stretch_of q.segment) ≡ true
    by_to e = go (is_loose pieces (greater_end x.segment)) refl
      where
        here : x ≡ one.last → is_end v (stretch_of q.segment) ≡ true
        here f = end_to v (stretch_of q.segment) (ap (λ (t : Point). order_of v (position_of t)) (one.to ∙ ap (λ (t : Piece). greater_end t.segment) (sym f)) ∙ e)

        at_last : is_loose pieces (greater_end x.segment) ≡ false → (rest : List Piece) → IsChain pieces x rest → last_in_chain x rest ≡ one.last → is_end v (stretch_of q.segment) ≡ true
        at_last f [] c g = here g
        at_last f (z ∷ zs) c g = absurd (true≢false (sym c.0.loose ∙ f))

        nothing : is_loose pieces (greater_end x.segment) ≡ true → ⊥
        nothing f =
            let w = loose_parts pieces (greater_end x.segment) f in
            let first : x ≡ w.0 = (w.2).arrives.alone x there (point_self _ (greater_end x.segment) refl) in
            elim (end_points v y.segment y_end) [
              | inl g ↦
                  (let second : y ≡ w.1 = (w.2).leaves.alone y at (point_self _ (greater_end x.segment) (one_place v (lesser_end y.segment) (greater_end x.segment) g e)) in
                  up (subst (λ (t : Piece). IsJoined pieces t y) (sym first) (subst (λ (t : Piece). IsJoined pieces (w.0) t) (sym second) (loose_joined pieces (greater_end x.segment) (w.0) (w.1) f (w.2)))))
              | inr g ↦ same (first ∙ sym ((w.2).arrives.alone y at (point_self _ (greater_end x.segment) (one_place v (greater_end y.segment) (greater_end x.segment) g e))))
            ]

        go : (b : Bool) → is_loose pieces (greater_end x.segment) ≡ b → is_end v (stretch_of q.segment) ≡ true
        go true f = absurd (nothing f)
        go false f = at_last f after.0 after.1 after.2

    by_from : order_of v (position_of (lesser_end x.segment)) ≡ Zero → is_end v (stretch_of q.segment) ≡ true
    by_from e = go (is_loose pieces (lesser_end x.segment)) refl
      where
        here : p ≡ x → is_end v (stretch_of q.segment) ≡ true
        here f =
            end_from v (stretch_of q.segment) (turned_zero v (stretch_of q.segment).from
            (ap (λ (t : Point). order_of v (position_of t)) (one.from ∙ ap (λ (t : Piece). lesser_end t.segment) f) ∙ e))

        nothing : is_loose pieces (lesser_end x.segment) ≡ true → ⊥
        nothing f =
            let w = loose_parts pieces (lesser_end x.segment) f in
            let second : x ≡ w.1 = (w.2).leaves.alone x there (point_self _ (lesser_end x.segment) refl) in
            elim (end_points v y.segment y_end) [
              | inl g ↦ same (second ∙ sym ((w.2).leaves.alone y at (point_self _ (lesser_end x.segment) (one_place v (lesser_end y.segment) (lesser_end x.segment) g e))))
              | inr g ↦
                  (let first : y ≡ w.0 = (w.2).arrives.alone y at (point_self _ (lesser_end x.segment) (one_place v (greater_end y.segment) (lesser_end x.segment) g e)) in
                  down (subst (λ (t : Piece). IsJoined pieces t x) (sym first) (subst (λ (t : Piece). IsJoined pieces (w.0) t) (sym second) (loose_joined pieces (lesser_end x.segment) (w.0) (w.1) f (w.2)))))
            ]

        go : (b : Bool) → is_loose pieces (lesser_end x.segment) ≡ b → is_end v (stretch_of q.segment) ≡ true
        go true f = absurd (nothing f)
        go false f = here (nothing_before pieces p x f before)

    end_kept : is_end v (stretch_of x.segment) ≡ true → is_end v (stretch_of q.segment) ≡ true
    end_kept e = elim (end_points v x.segment e) [ inl f ↦ by_from f | inr g ↦ by_to g ]

pub reaches_then : (pieces : List Piece) (p x y : Piece) → Reaches pieces p x → IsJoined pieces x y → Reaches pieces p y
reaches_then pieces p x y w h = go p w.0 w.1 w.2
  where
    go : (p : Piece) (rest : List Piece) → IsChain pieces p rest → last_in_chain p rest ≡ x → Reaches pieces p y
    go p [] c e = reaches_on pieces p y y (subst (λ (t : Piece). IsJoined pieces t y) (sym e) h) (reaches_itself pieces y)
    go p (z ∷ zs) c e = reaches_on pieces p z y c.0 (go z zs c.1 e)

-- chains that begin with different pieces meet at their ends alone
pub ones_meet : (pieces : List Piece) → AllMeetAtEnds pieces → (p q p' q' : Piece) → Member pieces p → Member pieces p' → IsOne pieces p q → IsOne pieces p' q' → is_loose pieces (lesser_end p.segment) ≡ false → is_loose pieces (lesser_end p'.segment) ≡ false → (p ≡ p' → ⊥) → MeetAtEnds (stretch_of q.segment) (stretch_of q'.segment)
ones_meet pieces meetings p q p' q' m m' one one' begins begins' differ v on_q on_q' = go (members_meet pieces X Y meetings x_there y_there)
  where
    x : IsOnPiece pieces p one.last v
    x = on_one_piece pieces p q one v on_q

    y : IsOnPiece pieces p' one'.last v
    y = on_one_piece pieces p' q' one' v on_q'

    X : Piece
    X = x.piece

    Y : Piece
    Y = y.piece

    x_there : Member pieces X
    x_there = reached_there pieces p X m x.before

    y_there : Member pieces Y
    y_there = reached_there pieces p' Y m' y.before

    not_one : X ≡ Y → ⊥
    not_one e = differ (one_beginning pieces p p' Y begins begins' (subst (Reaches pieces p) e x.before) y.before)

    not_up : IsJoined pieces X Y → ⊥
    not_up h = differ (one_beginning pieces p p' Y begins begins' (reaches_then pieces p X Y x.before h) y.before)

    not_down : IsJoined pieces Y X → ⊥
    not_down h = differ (one_beginning pieces p p' X begins begins' x.before (reaches_then pieces p' Y X y.before h))

    go : (X ≡ Y) ⊎ MeetAtEnds (stretch_of X.segment) (stretch_of Y.segment) → (is_end v (stretch_of q.segment) ≡ true) × (is_end v (stretch_of q'.segment) ≡ true)
    go (inl e) = absurd (not_one e)
    go (inr meet) =
        let ends = meet v x.on y.on in (
          end_kept pieces p q one begins X x.before x.after x_there v Y y_there ends.1 not_one not_up not_down ends.0,
          end_kept pieces p' q' one' begins' Y y.before y.after y_there v X x_there ends.0 (λ e. not_one (sym e)) not_down not_up ends.1,
        )
