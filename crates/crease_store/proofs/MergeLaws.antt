-- What merging means, proved.
use Rattle.std.proofs.Common.{◌≡◌, ◌⊎◌, inl, inr, ℕ, ◌<◌, Bool, true, false, not, ◌&&◌, cond, List, [], ◌∷◌, refl, sym, ap, ap₂, subst, ◌∙◌, arith, eq-eqb}
use Rattle.std.specs.Prelude.{Some, filter}
use Rattle.std.proofs.lemmas.Bool.{agree_below, agree_below_at, and_from, false≢true}
use Rattle.surd_number.specs.declared.Sgn.{Sgn}
use Rattle.surd_number.specs.declared.Sgn.TheVariants.{Zero, Pos}
use Rattle.surd_number.specs.Number.{times_sign}
use Rattle.plane_geometry.specs.declared.Point.{Point}
use Rattle.plane_geometry.specs.declared.Segment.{Segment}
use Rattle.plane_geometry.specs.Position.{position_of, is_same_position, vector_of}
use Rattle.plane_geometry.specs.Direction.{direction_vector, is_positive, is_zero, opposite_number}
use Rattle.plane_geometry.specs.Stretch.{is_end}
use Rattle.plane_geometry.specs.SegmentView.{stretch_of, lesser_end, greater_end, direction_number}
use Rattle.plane_geometry.specs.SideLaws.{order_of, order_self, lex_sign, square_sign, along_lex}
use Rattle.plane_geometry.specs.StretchLaws.{ends_order, to_in_line, along_sign, end_from, end_to, same_is}
use Rattle.crease_model.specs.declared.Piece.{Piece}
use Rattle.crease_model.specs.Rules.{IsPattern, is_ascending, segments_of}
use Rattle.crease_model.specs.View.{PatternView}
use Rattle.crease_model.specs.Kind.{is_same_kind}
use Rattle.crease_model.specs.KindLaws.{same_kind_self}
use Rattle.crease_store.specs.Merged.{are_alike, ends_at, single, only_at, is_loose, merge_of, direction_from, IsLoose, IsMerged}
use Rattle.crease_store.specs.Rising.{beginning_of, arrival_of}
use Rattle.crease_store.specs.MergedLaws.{LooseIsTwo, MergedIsOne}
use Rattle.line_split.specs.MemberLaws.{Member, member, contained, filter_member, member_filter}
use Rattle.crease_store.proofs.Ascending.{one_ascending, filter_ascends}
use Rattle.crease_store.proofs.Chains.{loose_parts, same_point, point_self}
use Rattle.crease_store.proofs.MergedPieces.{end_points}
use Rattle.crease_store.proofs.Merges.{merge_is}

pub merge_joins_chains : (pattern : PatternView) → IsPattern pattern → IsMerged pattern (merge_of pattern)
merge_joins_chains pattern rules = merge_is pattern rules

-- ---- one pattern only

view_is : (p q : PatternView) → p.corners ≡ q.corners → p.pieces ≡ q.pieces → p.aux ≡ q.aux → p ≡ q
view_is p q e f g = λ i. record { corners = e i; pieces = f i; aux = g i }

pub merged_is_one : MergedIsOne
merged_is_one old new other h k =
    view_is new other (h.corners ∙ sym k.corners)
    (one_ascending (λ (p : Piece). p.segment) new.pieces other.pieces h.order k.order
    (λ z m. member other.pieces z ((k.pieces z).1 ((h.pieces z).0 (contained new.pieces z m))))
    (λ z m. member new.pieces z ((h.pieces z).1 ((k.pieces z).0 (contained other.pieces z m)))))
    (h.aux ∙ sym k.aux)

-- ---- directions of segments

-- the opposite of a direction that leads from a lesser point to a greater one leads back
leads_one_way : ℕ → Bool
leads_one_way n = not (is_positive (lex_sign (direction_vector n)) && is_positive (lex_sign (direction_vector (opposite_number n))))

table_one_way : agree_below leads_one_way (λ _. true) 16 ≡ true
unfolding leads_one_way
table_one_way = refl

forward : (s : Segment) → lex_sign (direction_vector (direction_number s)) ≡ Pos
forward s =
    let S = stretch_of s in
    sym (along_lex (direction_vector S.dir) (vector_of S.from S.to) (square_sign S.dir) (to_in_line S s.stretch)
    ∙ ap (λ (t : Sgn). times_sign t (lex_sign (direction_vector S.dir))) (along_sign S s.stretch))
    ∙ ends_order S s.stretch

-- segments are never in opposite directions, each from its lesser end
not_opposite : (s u : Segment) → direction_number s ≡ opposite_number (direction_number u) → ⊥
unfolding leads_one_way
not_opposite s u e =
    let n = direction_number u in
    let both : (is_positive (lex_sign (direction_vector n)) && is_positive (lex_sign (direction_vector (opposite_number n)))) ≡ true =
    and_from _ _ (ap is_positive (forward u)) (ap (λ m. is_positive (lex_sign (direction_vector m))) (sym e) ∙ ap is_positive (forward s)) in
    false≢true (ap not (sym both) ∙ agree_below_at leads_one_way (λ _. true) 16 n table_one_way (omega (arith, u.dir.in_range)))

opposite_twice : (m n : ℕ) → m < 16 → n < 16 → m ≡ opposite_number (opposite_number n) → m ≡ n
opposite_twice m n few_m few_n e = omega arith

opposite_both : (m n : ℕ) → m < 16 → n < 16 → opposite_number m ≡ opposite_number (opposite_number n) → m ≡ opposite_number n
opposite_both m n few_m few_n e = omega arith

-- ---- loose vertices

apart : (s : Segment) → lesser_end s ≡ greater_end s → ⊥
apart s e =
    let h : Pos ≡ Zero = sym (ends_order (stretch_of s) s.stretch) ∙ ap (λ (t : Point). order_of (position_of t) (stretch_of s).to) e ∙ order_self (stretch_of s).to in cc

from_lesser : (v : Point) (s : Segment) → lesser_end s ≡ v → direction_from v s ≡ direction_number s
from_lesser v s e = ap (λ b. cond b (direction_number s) (opposite_number (direction_number s))) (point_self v (lesser_end s) (sym e))

from_greater : (v : Point) (s : Segment) → greater_end s ≡ v → direction_from v s ≡ opposite_number (direction_number s)
from_greater v s e = go (is_same_position (position_of v) (position_of (lesser_end s))) refl
  where
    go : (b : Bool) → is_same_position (position_of v) (position_of (lesser_end s)) ≡ b → cond b (direction_number s) (opposite_number (direction_number s)) ≡ opposite_number (direction_number s)
    go true f = absurd (apart s (sym (same_point v (lesser_end s) f) ∙ sym e))
    go false f = refl

pub end_at_lesser : (v : Point) (s : Segment) → lesser_end s ≡ v → is_end (position_of v) (stretch_of s) ≡ true
end_at_lesser v s e = end_from (position_of v) (stretch_of s) (ap (λ (t : Point). order_of (stretch_of s).from (position_of t)) (sym e) ∙ order_self (stretch_of s).from)

pub end_at_greater : (v : Point) (s : Segment) → greater_end s ≡ v → is_end (position_of v) (stretch_of s) ≡ true
end_at_greater v s e = end_to (position_of v) (stretch_of s) (ap (λ (t : Point). order_of (position_of t) (stretch_of s).to) (sym e) ∙ order_self (stretch_of s).to)

pub either_end : (v : Point) (s : Segment) → is_end (position_of v) (stretch_of s) ≡ true → (lesser_end s ≡ v) ⊎ (greater_end s ≡ v)
either_end v s e =
    elim (end_points (position_of v) s e) [
      | inl f ↦ inl (sym (same_point v (lesser_end s) (same_is (position_of v) (position_of (lesser_end s)) ∙ ap is_zero f)))
      | inr f ↦ inr (sym (same_point v (greater_end s) (same_is (position_of v) (position_of (greater_end s)) ∙ ap is_zero f)))
    ]

loose_words : (pieces : List Piece) (v : Point) → is_loose pieces v ≡ true → IsLoose pieces v
loose_words pieces v e =
    let w = loose_parts pieces v e in
    let p = w.0 in
    let q = w.1 in
    let p_at = same_point (greater_end p.segment) v (w.2).arrives.passes in
    let q_at = same_point (lesser_end q.segment) v (w.2).leaves.passes in
    record {
      one = p;
      other = q;
      one_there = contained pieces p (w.2).arrives.there;
      other_there = contained pieces q (w.2).leaves.there;
      two = λ same. apart q.segment (q_at ∙ sym p_at ∙ ap (λ (t : Piece). greater_end t.segment) same);
      one_ends = end_at_greater v p.segment p_at;
      other_ends = end_at_lesser v q.segment q_at;
      no_third = λ z c f. elim (either_end v z.segment f) [
        | inl g ↦ inr ((w.2).leaves.alone z (member pieces z c) (point_self (lesser_end z.segment) v g))
        | inr g ↦ inl ((w.2).arrives.alone z (member pieces z c) (point_self (greater_end z.segment) v g))
      ];
      opposite = from_greater v p.segment p_at ∙ ap opposite_number ((w.2).direction ∙ sym (from_lesser v q.segment q_at));
      kind = (w.2).kind;
    }

-- the one piece of an ascending list that passes a test
single_from : (test : Piece → Bool) (pieces : List Piece) (p : Piece) → is_ascending (segments_of pieces) ≡ true → Member pieces p → test p ≡ true → ((z : Piece) → Member pieces z → test z ≡ true → z ≡ p) → single (filter test pieces) ≡ Some p
single_from test pieces p up there passes alone =
    ap single
    (one_ascending (λ (t : Piece). t.segment) (filter test pieces) (p ∷ []) (filter_ascends (λ (t : Piece). t.segment) test pieces up) refl
    (λ z m. let w = filter_member test pieces z m in inl (sym (alone z w.0 w.1)))
    (λ z m. elim m [ inl e ↦ subst (Member (filter test pieces)) e (member_filter test pieces p there passes) | inr n ↦ absurd n ]))

module _ (pieces : List Piece) (up : is_ascending (segments_of pieces) ≡ true) (v : Point) where
  -- where p arrives and q goes on, and nothing else ends there
  pub loose_from : (p q : Piece) → Member pieces p → Member pieces q → greater_end p.segment ≡ v → lesser_end q.segment ≡ v → ((z : Piece) → Member pieces z → is_end (position_of v) (stretch_of z.segment) ≡ true → (z ≡ p) ⊎ (z ≡ q)) → direction_number p.segment ≡ direction_number q.segment → p.kind ≡ q.kind → is_loose pieces v ≡ true
  unfolding is_loose
  loose_from p q m n p_at q_at no_third direction kind =
      let to : only_at arrival_of pieces v ≡ Some p =
      single_from (ends_at arrival_of v) pieces p up m (point_self _ v p_at) (λ z k e.
      let z_at = same_point (greater_end z.segment) v e in
      elim (no_third z k (end_at_greater v z.segment z_at)) [ inl f ↦ f | inr f ↦ absurd (apart q.segment (q_at ∙ sym z_at ∙ ap (λ (t : Piece). greater_end t.segment) f)) ]) in
      let from : only_at beginning_of pieces v ≡ Some q =
      single_from (ends_at beginning_of v) pieces q up n (point_self _ v q_at) (λ z k e.
      let z_at = same_point (lesser_end z.segment) v e in
      elim (no_third z k (end_at_lesser v z.segment z_at)) [ inl f ↦ absurd (apart p.segment (ap (λ (t : Piece). lesser_end t.segment) (sym f) ∙ z_at ∙ sym p_at)) | inr f ↦ f ]) in
      ap₂ are_alike to from
      ∙ and_from (is_same_kind p.kind q.kind) _ (ap (is_same_kind p.kind) (sym kind) ∙ same_kind_self p.kind)
      (eq-eqb (direction_number p.segment) (direction_number q.segment) direction)

  loose_from_words : IsLoose pieces v → is_loose pieces v ≡ true
  loose_from_words h = go (either_end v h.one.segment h.one_ends) (either_end v h.other.segment h.other_ends)
    where
      s : Segment
      s = h.one.segment

      u : Segment
      u = h.other.segment

      few : (t : Segment) → direction_number t < 16
      few t = omega (arith, t.dir.in_range)

      no_third : (z : Piece) → Member pieces z → is_end (position_of v) (stretch_of z.segment) ≡ true → (z ≡ h.one) ⊎ (z ≡ h.other)
      no_third z m e = h.no_third z (contained pieces z m) e

      no_third_turned : (z : Piece) → Member pieces z → is_end (position_of v) (stretch_of z.segment) ≡ true → (z ≡ h.other) ⊎ (z ≡ h.one)
      no_third_turned z m e = elim (no_third z m e) [ inl f ↦ inr f | inr f ↦ inl f ]

      go : (lesser_end s ≡ v) ⊎ (greater_end s ≡ v) → (lesser_end u ≡ v) ⊎ (greater_end u ≡ v) → is_loose pieces v ≡ true
      go (inl a) (inl b) = absurd (not_opposite s u (sym (from_lesser v s a) ∙ h.opposite ∙ ap opposite_number (from_lesser v u b)))
      go (inl a) (inr b) =
          loose_from h.other h.one (member pieces h.other h.other_there) (member pieces h.one h.one_there) b a no_third_turned
          (sym (opposite_twice (direction_number s) (direction_number u) (few s) (few u) (sym (from_lesser v s a) ∙ h.opposite ∙ ap opposite_number (from_greater v u b)))) (sym h.kind)
      go (inr a) (inl b) =
          loose_from h.one h.other (member pieces h.one h.one_there) (member pieces h.other h.other_there) a b no_third
          (opposite_once (direction_number s) (direction_number u) (few s) (few u) (sym (from_greater v s a) ∙ h.opposite ∙ ap opposite_number (from_lesser v u b))) h.kind
        where
          opposite_once : (m n : ℕ) → m < 16 → n < 16 → opposite_number m ≡ opposite_number n → m ≡ n
          opposite_once m n few_m few_n e = omega arith
      go (inr a) (inr b) = absurd (not_opposite s u (opposite_both (direction_number s) (direction_number u) (few s) (few u) (sym (from_greater v s a) ∙ h.opposite ∙ ap opposite_number (from_greater v u b))))

pub loose_is_two : LooseIsTwo
loose_is_two pattern v rules = (loose_words pattern.pieces v, loose_from_words pattern.pieces rules.order.0 v)
