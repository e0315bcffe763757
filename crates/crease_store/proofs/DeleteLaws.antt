-- What taking away and another kind mean, proved.
use Rattle.std.proofs.Common.{◌≡◌, Bool, true, false, cond, not, inl, inr, List, [], ◌∷◌, map, refl, sym, ap, ap₂, subst, ◌∙◌}
use Rattle.std.specs.Prelude.{◌↔◌, Contains, Ok, Err, IfOk, IsErrOf, MatchResult}
use Rattle.std.specs.declared.result.Result.{Result}
use Rattle.std.specs.Ordering.{is_lt}
use Rattle.std.proofs.lemmas.Bool.{and_parts, and_from, true≢false, false_from_ne_true, not-true, not_from_false}
use Rattle.surd_number.specs.declared.Sgn.TheVariants.{Neg}
use Rattle.surd_number.specs.Number.{opposite_sign}
use Rattle.plane_geometry.specs.declared.Point.{Point}
use Rattle.plane_geometry.specs.declared.Segment.{Segment}
use Rattle.plane_geometry.specs.Position.{position_of, compare_positions, is_same_position}
use Rattle.plane_geometry.specs.Direction.{is_positive}
use Rattle.plane_geometry.specs.Ends.{lesser_of, greater_of}
use Rattle.plane_geometry.specs.SegmentView.{stretch_of, lesser_end, greater_end}
use Rattle.plane_geometry.specs.SideLaws.{order_of, order_turned}
use Rattle.plane_geometry.specs.StretchLaws.{before_is, ends_order}
use Rattle.crease_model.specs.declared.Kind.{Kind}
use Rattle.crease_model.specs.declared.Piece.{Piece}
use Rattle.crease_model.specs.Rules.{IsPattern}
use Rattle.crease_model.specs.View.{PatternView}
use Rattle.crease_store.specs.declared.faults.StoreFault.{StoreFault}
use Rattle.crease_store.specs.declared.faults.StoreFault.TheVariants as fault
use Rattle.crease_store.specs.declared.faults.StoreRefusal.{StoreRefusal}
use Rattle.crease_store.specs.declared.faults.StoreRefusal.TheVariants.{NoSuchPiece}
use Rattle.crease_store.specs.Answer.{IsAnswer, HasMemory}
use Rattle.crease_store.specs.InOrder.{segment_at, line_at}
use Rattle.crease_store.specs.Changed.{joins_points, stands_between, without_piece, without_line, delete_of, in_kind, with_kind, set_of, JoinsPoints, HasPiece, HasLine, IsPieceTaken, IsLineTaken, IsDeleted, IsKindSet}
use Rattle.line_split.specs.MemberLaws.{Member, member, contained, any_member, member_any, filter_member, member_filter}
use Rattle.crease_store.proofs.Changes.{IsPattern-without_piece, IsPattern-without_line, same_segments, segment_stays}
use Rattle.crease_store.proofs.Chains.{same_point, point_self}
use Rattle.crease_store.proofs.Refused.{refused_where}

-- ---- the ends

ends_parts : (p q : Point) (s : Segment) → joins_points p q s ≡ true → JoinsPoints p q s
ends_parts p q s e =
    go (is_lt (compare_positions (position_of p) (position_of q)))
    (same_point (lesser_end s) (lesser_of p q) (and_parts (is_same_position (position_of (lesser_end s)) (position_of (lesser_of p q))) _ e).0)
    (same_point (greater_end s) (greater_of p q) (and_parts (is_same_position (position_of (lesser_end s)) (position_of (lesser_of p q))) _ e).1)
  where
    go : (b : Bool) → lesser_end s ≡ cond b p q → greater_end s ≡ cond b q p → JoinsPoints p q s
    go true f g = inl (f, g)
    go false f g = inr (f, g)

ends_from : (p q : Point) (s : Segment) → JoinsPoints p q s → joins_points p q s ≡ true
ends_from p q s (inl w) =
    let before : is_lt (compare_positions (position_of p) (position_of q)) ≡ true =
    ap₂ (λ (a b : Point). is_lt (compare_positions (position_of a) (position_of b))) (sym w.0) (sym w.1) ∙ s.stretch.0 in
    and_from (is_same_position (position_of (lesser_end s)) (position_of (lesser_of p q))) _
    (point_self (lesser_end s) (lesser_of p q) (w.0 ∙ sym (ap (λ b. cond b p q) before)))
    (point_self (greater_end s) (greater_of p q) (w.1 ∙ sym (ap (λ b. cond b q p) before)))
ends_from p q s (inr w) =
    let turned : order_of (position_of p) (position_of q) ≡ Neg =
    ap₂ (λ (a b : Point). order_of (position_of a) (position_of b)) (sym w.1) (sym w.0)
    ∙ order_turned (stretch_of s).from (stretch_of s).to ∙ ap opposite_sign (ends_order (stretch_of s) s.stretch) in
    let after : is_lt (compare_positions (position_of p) (position_of q)) ≡ false = before_is (position_of p) (position_of q) ∙ ap is_positive turned in
    and_from (is_same_position (position_of (lesser_end s)) (position_of (lesser_of p q))) _
    (point_self (lesser_end s) (lesser_of p q) (w.0 ∙ sym (ap (λ b. cond b p q) after)))
    (point_self (greater_end s) (greater_of p q) (w.1 ∙ sym (ap (λ b. cond b q p) after)))

kept_from : (p q : Point) (s : Segment) → (JoinsPoints p q s → ⊥) → not (joins_points p q s) ≡ true
kept_from p q s none = not_from_false (joins_points p q s) (false_from_ne_true (joins_points p q s) (λ e. none (ends_parts p q s e)))

kept_parts : (p q : Point) (s : Segment) → not (joins_points p q s) ≡ true → JoinsPoints p q s → ⊥
kept_parts p q s e w = true≢false (sym (ends_from p q s w) ∙ not-true (joins_points p q s) e)

-- ---- what there is

module _ {X : Type 0} (segment_at : X → Segment) (xs : List X) (p q : Point) where
  one_there : stands_between segment_at xs p q ≡ true → (x : X) × Contains xs x × JoinsPoints p q (segment_at x)
  one_there e =
      let w = any_member (λ x. joins_points p q (segment_at x)) xs e in
      (w.0, contained xs w.0 w.1, ends_parts p q (segment_at w.0) w.2)

  none_there : stands_between segment_at xs p q ≡ false → (x : X) × Contains xs x × JoinsPoints p q (segment_at x) → ⊥
  none_there e w = true≢false (sym (member_any (λ x. joins_points p q (segment_at x)) xs w.0 (member xs w.0 w.1) (ends_from p q (segment_at w.0) w.2)) ∙ e)

-- ---- taking away

piece_taken : (old : PatternView) (p q : Point) → IsPattern old → stands_between segment_at old.pieces p q ≡ true → IsPieceTaken old p q (without_piece old p q)
piece_taken old p q rules e =
    let keep : Piece → Bool = λ piece. not (joins_points p q piece.segment) in
    record {
      there = one_there segment_at old.pieces p q e;
      corners = refl;
      aux = refl;
      order = (IsPattern-without_piece old p q rules).order.0;
      pieces = λ z. (
        (λ c. let w = filter_member keep old.pieces z (member _ z c) in (contained old.pieces z w.0, kept_parts p q z.segment w.1)),
        λ w. contained _ z (member_filter keep old.pieces z (member old.pieces z w.0) (kept_from p q z.segment w.1)),
      );
    }

line_taken : (old : PatternView) (p q : Point) → IsPattern old → stands_between segment_at old.pieces p q ≡ false → stands_between line_at old.aux p q ≡ true → IsLineTaken old p q (without_line old p q)
line_taken old p q rules none e =
    let keep : Segment → Bool = λ s. not (joins_points p q s) in
    record {
      no_piece = none_there segment_at old.pieces p q none;
      there = one_there line_at old.aux p q e;
      corners = refl;
      pieces = refl;
      order = (IsPattern-without_line old p q rules).order.1;
      aux = λ s. (
        (λ c. let w = filter_member keep old.aux s (member _ s c) in (contained old.aux s w.0, kept_parts p q s w.1)),
        λ w. contained _ s (member_filter keep old.aux s (member old.aux s w.0) (kept_from p q s w.1)),
      );
    }

delete_takes_away : (old : PatternView) (p q : Point) → IsPattern old → MatchResult (delete_of old p q) (λ new. IsDeleted old p q new) (λ e. (e ≡ NoSuchPiece) × (¬ HasPiece old p q) × (¬ HasLine old p q))
unfolding delete_of
delete_takes_away old p q rules = go (stands_between segment_at old.pieces p q) (stands_between line_at old.aux p q) refl refl
  where
    go : (a b : Bool) → stands_between segment_at old.pieces p q ≡ a → stands_between line_at old.aux p q ≡ b → MatchResult (cond a (Ok (without_piece old p q)) (cond b (Ok (without_line old p q)) (Err NoSuchPiece))) (λ new. IsDeleted old p q new) (λ e. (e ≡ NoSuchPiece) × (¬ HasPiece old p q) × (¬ HasLine old p q))
    go true b e f = inl (piece_taken old p q rules e)
    go false true e f = inr (line_taken old p q rules e f)
    go false false e f = (refl, none_there segment_at old.pieces p q e, none_there line_at old.aux p q f)

-- ---- another kind

module _ (kind : Kind) (p q : Point) where
  turned_is : (z : Piece) → joins_points p q z.segment ≡ true → (in_kind kind p q z).kind ≡ kind
  turned_is z e = ap (λ b. (cond b (record z { kind = kind }) z).kind) e

  stays_is : (z : Piece) → joins_points p q z.segment ≡ false → in_kind kind p q z ≡ z
  stays_is z e = ap (λ b. cond b (record z { kind = kind }) z) e

  not_there : (z : Piece) → (JoinsPoints p q z.segment → ⊥) → joins_points p q z.segment ≡ false
  not_there z none = false_from_ne_true (joins_points p q z.segment) (λ e. none (ends_parts p q z.segment e))

  same_there : (z : Piece) → joins_points p q (in_kind kind p q z).segment ≡ joins_points p q z.segment
  same_there z = ap (joins_points p q) (segment_stays kind p q z)

  set_here : (ps : List Piece) (z : Piece) → Member (map (in_kind kind p q) ps) z → joins_points p q z.segment ≡ true → z.kind ≡ kind
  set_here [] z m e = absurd m
  set_here (x ∷ xs) z (inl at) e = ap (λ (t : Piece). t.kind) (sym at) ∙ turned_is x (sym (same_there x) ∙ ap (λ (t : Piece). joins_points p q t.segment) at ∙ e)
  set_here (x ∷ xs) z (inr m) e = set_here xs z m e

  others_to : (ps : List Piece) (z : Piece) → Member (map (in_kind kind p q) ps) z → joins_points p q z.segment ≡ false → Member ps z
  others_to [] z m e = absurd m
  others_to (x ∷ xs) z (inl at) e = inl (sym (stays_is x (sym (same_there x) ∙ ap (λ (t : Piece). joins_points p q t.segment) at ∙ e)) ∙ at)
  others_to (x ∷ xs) z (inr m) e = inr (others_to xs z m e)

  others_from : (ps : List Piece) (z : Piece) → Member ps z → joins_points p q z.segment ≡ false → Member (map (in_kind kind p q) ps) z
  others_from [] z m e = absurd m
  others_from (x ∷ xs) z (inl at) e = inl (stays_is x (ap (λ (t : Piece). joins_points p q t.segment) at ∙ e) ∙ at)
  others_from (x ∷ xs) z (inr m) e = inr (others_from xs z m e)

  kind_set : (old : PatternView) → stands_between segment_at old.pieces p q ≡ true → IsKindSet old kind p q (with_kind old kind p q)
  kind_set old e =
      record {
        there = one_there segment_at old.pieces p q e;
        corners = refl;
        aux = refl;
        segments = same_segments (in_kind kind p q) (segment_stays kind p q) old.pieces;
        here = λ z c w. set_here old.pieces z (member _ z c) (ends_from p q z.segment w);
        others = λ z none. (
          (λ c. contained old.pieces z (others_to old.pieces z (member _ z c) (not_there z none))),
          λ c. contained _ z (others_from old.pieces z (member old.pieces z c) (not_there z none)),
        );
      }

set_turns_one : (old : PatternView) (kind : Kind) (p q : Point) → MatchResult (set_of old kind p q) (λ new. IsKindSet old kind p q new) (λ e. (e ≡ NoSuchPiece) × (¬ HasPiece old p q))
unfolding set_of
set_turns_one old kind p q = go (stands_between segment_at old.pieces p q) refl
  where
    go : (b : Bool) → stands_between segment_at old.pieces p q ≡ b → MatchResult (cond b (Ok (with_kind old kind p q)) (Err NoSuchPiece)) (λ new. IsKindSet old kind p q new) (λ e. (e ≡ NoSuchPiece) × (¬ HasPiece old p q))
    go true e = kind_set kind p q old e
    go false e = (refl, none_there segment_at old.pieces p q e)

-- ---- answers

pub deleted_where : (old : PatternView) (p q : Point) → IsPattern old → (result : Result PatternView StoreFault) → IsAnswer result (delete_of old p q) → IfOk result (λ new. IsDeleted old p q new)
deleted_where old p q rules (Ok new) exact =
    subst (λ (r : Result PatternView StoreRefusal). MatchResult r (λ new. IsDeleted old p q new) (λ e. (e ≡ NoSuchPiece) × (¬ HasPiece old p q) × (¬ HasLine old p q))) exact (delete_takes_away old p q rules)
deleted_where old p q rules (Err e) exact = tt

nothing_deleted : (old : PatternView) (p q : Point) → IsPattern old → (delete_of old p q ≡ Err NoSuchPiece) ↔ ((¬ HasPiece old p q) × (¬ HasLine old p q))
nothing_deleted old p q rules = (to, from)
  where
    to : delete_of old p q ≡ Err NoSuchPiece → (¬ HasPiece old p q) × (¬ HasLine old p q)
    to e =
        let w = subst (λ (r : Result PatternView StoreRefusal). MatchResult r (λ new. IsDeleted old p q new) (λ e. (e ≡ NoSuchPiece) × (¬ HasPiece old p q) × (¬ HasLine old p q))) e (delete_takes_away old p q rules) in
        (w.1, w.2)

    go : (r : Result PatternView StoreRefusal) → MatchResult r (λ new. IsDeleted old p q new) (λ e. (e ≡ NoSuchPiece) × (¬ HasPiece old p q) × (¬ HasLine old p q)) → (¬ HasPiece old p q) × (¬ HasLine old p q) → r ≡ Err NoSuchPiece
    go (Err e) w none = ap Err w.0
    go (Ok new) (inl w) none = absurd (none.0 w.there)
    go (Ok new) (inr w) none = absurd (none.1 w.there)

    from : (¬ HasPiece old p q) × (¬ HasLine old p q) → delete_of old p q ≡ Err NoSuchPiece
    from none = go (delete_of old p q) (delete_takes_away old p q rules) none

pub not_deleted_where : (old : PatternView) (p q : Point) → IsPattern old → (result : Result PatternView StoreFault) → IsAnswer result (delete_of old p q)
    → IsErrOf result fault.NoSuchPiece ↔ (HasMemory result × ((¬ HasPiece old p q) × (¬ HasLine old p q)))
not_deleted_where old p q rules result exact =
    refused_where (delete_of old p q) result NoSuchPiece ((¬ HasPiece old p q) × (¬ HasLine old p q)) exact (nothing_deleted old p q rules)

pub set_where : (old : PatternView) (kind : Kind) (p q : Point) (result : Result PatternView StoreFault) → IsAnswer result (set_of old kind p q) → IfOk result (λ new. IsKindSet old kind p q new)
set_where old kind p q (Ok new) exact =
    subst (λ (r : Result PatternView StoreRefusal). MatchResult r (λ new. IsKindSet old kind p q new) (λ e. (e ≡ NoSuchPiece) × (¬ HasPiece old p q))) exact (set_turns_one old kind p q)
set_where old kind p q (Err e) exact = tt

nothing_set : (old : PatternView) (kind : Kind) (p q : Point) → (set_of old kind p q ≡ Err NoSuchPiece) ↔ (¬ HasPiece old p q)
nothing_set old kind p q = (to, from)
  where
    to : set_of old kind p q ≡ Err NoSuchPiece → ¬ HasPiece old p q
    to e = (subst (λ (r : Result PatternView StoreRefusal). MatchResult r (λ new. IsKindSet old kind p q new) (λ e. (e ≡ NoSuchPiece) × (¬ HasPiece old p q))) e (set_turns_one old kind p q)).1

    go : (r : Result PatternView StoreRefusal) → MatchResult r (λ new. IsKindSet old kind p q new) (λ e. (e ≡ NoSuchPiece) × (¬ HasPiece old p q)) → (¬ HasPiece old p q) → r ≡ Err NoSuchPiece
    go (Err e) w none = ap Err w.0
    go (Ok new) w none = absurd (none w.there)

    from : (¬ HasPiece old p q) → set_of old kind p q ≡ Err NoSuchPiece
    from none = go (set_of old kind p q) (set_turns_one old kind p q) none

pub not_set_where : (old : PatternView) (kind : Kind) (p q : Point) (result : Result PatternView StoreFault) → IsAnswer result (set_of old kind p q)
    → IsErrOf result fault.NoSuchPiece ↔ (HasMemory result × (¬ HasPiece old p q))
not_set_where old kind p q result exact = refused_where (set_of old kind p q) result NoSuchPiece (¬ HasPiece old p q) exact (nothing_set old kind p q)
