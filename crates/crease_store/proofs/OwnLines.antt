-- The lines of a pattern load as that pattern: the edges change nothing, and each piece and each auxiliary line goes behind
-- those before it.
use Rattle.std.proofs.Common.{◌≡◌, ℕ, ◌≤◌, true, false, not, ◌&&◌, cond, ◌⊎◌, inl, inr, List, [], ◌∷◌, ◌++◌, map, append_assoc, length-append, refl, sym, ap, subst, ◌∙◌, arith}
use Rattle.std.specs.Prelude.{Contains, Ok, Err, IsTrue, is_some, unwrap_or}
use Rattle.std.specs.List.{list_all}
use Rattle.std.specs.declared.result.Result.{Result}
use Rattle.std.proofs.lemmas.Bool.{and_parts, and_from, le-leb, not-true}
use Rattle.std.proofs.lemmas.List.{append-nil}
use Rattle.plane_geometry.specs.declared.Point.{Point}
use Rattle.plane_geometry.specs.declared.Segment.{Segment}
use Rattle.plane_geometry.specs.Position.{position_of}
use Rattle.plane_geometry.specs.SegmentOf.{segment_of}
use Rattle.plane_geometry.specs.SegmentView.{stretch_of, lesser_end, greater_end}
use Rattle.plane_geometry.specs.SegmentLaws.{segment_of-ends}
use Rattle.plane_geometry.specs.StretchLaws.{from_end, to_end}
use Rattle.plane_geometry.specs.Stretch.{MeetAtEnds}
use Rattle.crease_model.specs.declared.Kind.TheVariants.{Edge, Aux}
use Rattle.crease_model.specs.declared.Piece.{Piece}
use Rattle.crease_model.specs.PartLaws.{direction_is_along, sheet_turns}
use Rattle.plane_geometry.specs.Polygon.{Side, sides_of, side_direction}
use Rattle.crease_model.specs.Sheet.{is_on_segment, holds_both_ends, is_within_side, is_sheet}
use Rattle.crease_model.specs.View.{PatternView, empty_on}
use Rattle.crease_model.specs.Rules.{IsPattern, AllMeetAtEnds, is_crease, is_crease_kind, is_on_sheet, is_ascending, size_of, most_pieces}
use Rattle.plane_geometry.specs.Order.{is_before}
use Rattle.line_split.specs.Cuts.{cuts_of}
use Rattle.line_split.specs.FaultLaws.{fault_is_first}
use Rattle.line_split.specs.MemberLaws.{Member, member, contained, all_member, all_from_members, member_any, member_left, member_right, member_either}
use Rattle.crease_store.specs.declared.faults.StoreRefusal.{StoreRefusal}
use Rattle.crease_store.specs.declared.faults.StoreRefusal.TheVariants.{EdgeOffBorder, OutsideSheet, OnBorder, TooManyPieces}
use Rattle.crease_store.specs.declared.loading.LoadLine.{LoadLine}
use Rattle.crease_store.specs.Added.{IsCreaseAdded, IsLineAdded}
use Rattle.crease_store.specs.Adding.{with_crease, with_line, if_it_fits, crease_cut, crease_added, added_between, add_of}
use Rattle.crease_store.specs.Loading.{after_line, load_from, load_of}
use Rattle.crease_store.specs.InOrder.{segment_at, line_at}
use Rattle.crease_model.specs.OwnLines.{PlainLine, side_line, piece_line, auxiliary_line, own_lines}
use Rattle.crease_store.specs.OwnLines.{plain_line, OwnLinesAreLoaded}
use Rattle.crease_store.proofs.Refused.{between_points, added_as_crease}
use Rattle.crease_store.proofs.AddLaws.{lines_ascend, crease_is_added, line_is_added, crease_is_one, line_is_one}
use Rattle.crease_store.proofs.Covered.{end_lies}
use Rattle.crease_store.proofs.OwnPieces.{ends_in_range, piece_from_member, member_from_piece}

-- ---- lines added one after another

-- the pattern once the line is added
abbrev after : PatternView → PlainLine → Result PatternView StoreRefusal
after old line = add_of old line.kind line.from line.to

-- each line is accepted, and they lead from one pattern to the other
abbrev Adds : List PlainLine → PatternView → PatternView → Type 0
Adds [] old new = old ≡ new
Adds (line ∷ lines) old new = (next : PatternView) × (after old line ≡ Ok next) × Adds lines next new

then_adds : (xs ys : List PlainLine) (old next new : PatternView) → Adds xs old next → Adds ys next new → Adds (xs ++ ys) old new
then_adds [] ys old next new e h = subst (λ (p : PatternView). Adds ys p new) (sym e) h
then_adds (x ∷ xs) ys old next new w h = (w.0, w.1, then_adds xs ys w.0 next new w.2 h)

loaded_from : (lines : List LoadLine) (old new : PatternView) → Adds (map plain_line lines) old new → load_from lines old ≡ Ok new
loaded_from [] old new e = ap Ok e
loaded_from (line ∷ lines) old new w = ap (λ r. after_line line.number r (load_from lines)) w.1 ∙ loaded_from lines w.0 new w.2

-- ---- edges

edge_adds : (old : PatternView) (side : Side) → Member (sides_of old.corners) side → is_some (side_direction side) ≡ true → after old (side_line side) ≡ Ok old
unfolding add_of
edge_adds old side m e =
    let k = direction_is_along (position_of side.start) (position_of side.end) e in
    let w = between_points side.start side.end (unwrap_or (side_direction side) 0) k.1 k.0 in
    let S = stretch_of w.0 in
    let from : is_on_segment S.from (segment_of side.start side.end) ≡ true = ap (is_on_segment S.from) w.1 ∙ end_lies S.from S (from_end S) in
    let to : is_on_segment S.to (segment_of side.start side.end) ≡ true = ap (is_on_segment S.to) w.1 ∙ end_lies S.to S (to_end S) in
    let within : is_within_side old.corners S ≡ true = member_any (holds_both_ends S) (sides_of old.corners) side m (and_from _ _ from to) in
    ap (added_between old Edge side.start side.end) w.1 ∙ ap (λ b. cond b (Ok old) (Err EdgeOffBorder)) within

edges_add : (old : PatternView) (sides : List Side) → ((side : Side) → Member sides side → Member (sides_of old.corners) side) → list_all (λ side. is_some (side_direction side)) sides ≡ true → Adds (map side_line sides) old old
edges_add old [] there e = refl
edges_add old (side ∷ sides) there e =
    let k = and_parts (is_some (side_direction side)) (list_all (λ side. is_some (side_direction side)) sides) e in
    (old, edge_adds old side (there side (inl refl)) k.0, edges_add old sides (λ z m. there z (inr m)) k.1)

-- ---- the front of a pattern

fits : (p : PatternView) → size_of p ≤ most_pieces → if_it_fits p ≡ Ok p
fits p few = ap (λ b. cond b (Ok p) (Err (TooManyPieces (size_of p)))) (le-leb (size_of p) most_pieces few)

front_meets : (xs ys : List Piece) → AllMeetAtEnds (xs ++ ys) → AllMeetAtEnds xs
front_meets [] ys h = tt
front_meets (x ∷ xs) ys h =
    let Meets : Piece → Type 0 = λ z. MeetAtEnds (stretch_of x.segment) (stretch_of z.segment) in
    (all_from_members Meets xs (λ z m. all_member Meets (xs ++ ys) z h.0 (member_left xs ys z m)), front_meets xs ys h.1)

-- those behind meet those in front
behind_meets : (xs ys : List Piece) (p q : Piece) → AllMeetAtEnds (xs ++ ys) → Member xs p → Member ys q → MeetAtEnds (stretch_of q.segment) (stretch_of p.segment)
behind_meets [] ys p q h m n = absurd m
behind_meets (x ∷ xs) ys p q h (inl e) n =
    λ v on_q on_p.
    let meet = all_member (λ z. MeetAtEnds (stretch_of x.segment) (stretch_of z.segment)) (xs ++ ys) q h.0 (member_right xs ys q n) in
    let both = subst (λ (t : Piece). MeetAtEnds (stretch_of t.segment) (stretch_of q.segment)) e meet v on_p on_q in
    (both.1, both.0)
behind_meets (x ∷ xs) ys p q h (inr m) n = behind_meets xs ys p q h.1 m n

front_ascends : {X : Type 0} (segment_at : X → Segment) (xs ys : List X) → is_ascending (map segment_at (xs ++ ys)) ≡ true → is_ascending (map segment_at xs) ≡ true
front_ascends segment_at [] ys up = refl
front_ascends segment_at (x ∷ []) ys up = refl
front_ascends segment_at (x ∷ y ∷ xs) ys up =
    let k = and_parts (is_before (segment_at x) (segment_at y)) (is_ascending (map segment_at (y ∷ (xs ++ ys)))) up in
    and_from (is_before (segment_at x) (segment_at y)) _ k.0 (front_ascends segment_at (y ∷ xs) ys k.1)

abbrev pattern_of : List Point → List Piece → List Segment → PatternView
pattern_of corners pieces aux = record { corners = corners; pieces = pieces; aux = aux }

front_pieces : (corners : List Point) (xs ys : List Piece) (aux : List Segment) → IsPattern (pattern_of corners (xs ++ ys) aux) → IsPattern (pattern_of corners xs [])
front_pieces corners xs ys aux rules =
    record {
      creases = all_from_members (λ (q : Piece). IsTrue (is_crease corners q)) xs (λ q m. all_member (λ (q : Piece). IsTrue (is_crease corners q)) (xs ++ ys) q rules.creases (member_left xs ys q m));
      meetings = front_meets xs ys rules.meetings;
      lines = tt;
      size = omega (arith, rules.size, length-append xs ys);
      order = (front_ascends segment_at xs ys rules.order.0, refl);
    }

front_lines : (corners : List Point) (pieces : List Piece) (xs ys : List Segment) → IsPattern (pattern_of corners pieces (xs ++ ys)) → IsPattern (pattern_of corners pieces xs)
front_lines corners pieces xs ys rules =
    record {
      creases = rules.creases;
      meetings = rules.meetings;
      lines = all_from_members (λ (s : Segment). IsTrue (is_on_sheet corners (stretch_of s))) xs (λ s m. all_member (λ (s : Segment). IsTrue (is_on_sheet corners (stretch_of s))) (xs ++ ys) s rules.lines (member_left xs ys s m));
      size = omega (arith, rules.size, length-append xs ys);
      order = (rules.order.0, lines_ascend xs ∙ front_ascends line_at xs ys (sym (lines_ascend (xs ++ ys)) ∙ rules.order.1));
    }

-- ---- pieces

module _ (corners : List Point) (done : List Piece) (q : Piece) (rules : IsPattern (pattern_of corners (done ++ q ∷ []) [])) where
  abbrev old : PatternView
  old = pattern_of corners done []

  abbrev new : PatternView
  new = pattern_of corners (done ++ q ∷ []) []

  old_rules : IsPattern old
  old_rules = front_pieces corners done (q ∷ []) [] rules

  meets_old : (p : Piece) → Member done p → MeetAtEnds (stretch_of q.segment) (stretch_of p.segment)
  meets_old p m = behind_meets done (q ∷ []) p q rules.meetings m (inl refl)

  piece_is_added : IsCreaseAdded old q.kind q.segment new
  piece_is_added =
      record {
        corners = refl;
        aux = refl;
        order = rules.order.0;
        pieces = λ z. (piece_from_member done q.kind q.segment meets_old old_rules.meetings z, member_from_piece done q.kind q.segment meets_old old_rules.meetings z);
      }

  is_there : Member (done ++ q ∷ []) q
  is_there = member_right done (q ∷ []) q (inl refl)

  crease_parts : (is_crease_kind q.kind ≡ true) × (is_on_sheet corners (stretch_of q.segment) ≡ true) × (is_within_side corners (stretch_of q.segment) ≡ false)
  crease_parts =
      let is : is_crease corners q ≡ true = all_member (λ (p : Piece). IsTrue (is_crease corners p)) (done ++ q ∷ []) q rules.creases is_there in
      let k = and_parts (is_crease_kind q.kind) (is_on_sheet corners (stretch_of q.segment) && not (is_within_side corners (stretch_of q.segment))) is in
      let l = and_parts (is_on_sheet corners (stretch_of q.segment)) (not (is_within_side corners (stretch_of q.segment))) k.1 in
      (k.0, l.0, not-true _ l.1)

  cut_accepted : (r : Result (List Point) ℕ) → cuts_of q.segment done ≡ r → crease_cut old q.kind q.segment r ≡ Ok new
  cut_accepted (Ok cuts) e =
      ap if_it_fits (crease_is_one old q.kind q.segment (with_crease old q.kind q.segment cuts) new (crease_is_added old q.kind q.segment cuts old_rules e) piece_is_added)
      ∙ fits new rules.size
  cut_accepted (Err n) e =
      let first = fault_is_first q.segment done n e in
      let m = subst (λ (ps : List Piece). Member ps first.piece) (sym first.split) (member_right first.earlier (first.piece ∷ first.later) first.piece (inl refl)) in
      absurd (ends_in_range q.segment (first.piece).segment (meets_old first.piece m) first.meets)

  crease_accepted : crease_added old q.kind q.segment ≡ Ok new
  crease_accepted =
      let S = stretch_of q.segment in
      let cut = crease_cut old q.kind q.segment (cuts_of q.segment done) in
      ap (λ b. cond (not b) (Err OutsideSheet) (cond (is_within_side corners S) (Err OnBorder) cut)) crease_parts.1
      ∙ ap (λ b. cond b (Err OnBorder) cut) crease_parts.2
      ∙ cut_accepted (cuts_of q.segment done) refl

  piece_adds : after old (piece_line q) ≡ Ok new
  unfolding add_of
  piece_adds =
      ap (added_between old q.kind (lesser_end q.segment) (greater_end q.segment)) (segment_of-ends q.segment)
      ∙ added_as_crease old q.kind q.segment crease_parts.0 ∙ crease_accepted

pieces_add : (corners : List Point) (done rest : List Piece) → IsPattern (pattern_of corners (done ++ rest) []) → Adds (map piece_line rest) (pattern_of corners done []) (pattern_of corners (done ++ rest) [])
pieces_add corners done [] rules = sym (ap (λ ps. pattern_of corners ps []) (append-nil done))
pieces_add corners done (q ∷ qs) rules =
    let next = done ++ q ∷ [] in
    let one : next ++ qs ≡ done ++ q ∷ qs = append_assoc done (q ∷ []) qs in
    let all = subst (λ (ps : List Piece). IsPattern (pattern_of corners ps [])) (sym one) rules in (
      pattern_of corners next [],
      piece_adds corners done q (front_pieces corners next qs [] all),
      subst (λ (ps : List Piece). Adds (map piece_line qs) (pattern_of corners next []) (pattern_of corners ps [])) one (pieces_add corners next qs all),
    )

-- ---- auxiliary lines

module _ (corners : List Point) (pieces : List Piece) (done : List Segment) (s : Segment) (rules : IsPattern (pattern_of corners pieces (done ++ s ∷ []))) where
  abbrev without_line : PatternView
  without_line = pattern_of corners pieces done

  abbrev and_line : PatternView
  and_line = pattern_of corners pieces (done ++ s ∷ [])

  line_there : (u : Segment) → Contains done u ⊎ (u ≡ s) → Contains (done ++ s ∷ []) u
  line_there u (inl c) = contained _ u (member_left done (s ∷ []) u (member done u c))
  line_there u (inr e) = contained _ u (member_right done (s ∷ []) u (inl (sym e)))

  old_or_new : (u : Segment) → Member done u ⊎ Member (s ∷ []) u → Contains done u ⊎ (u ≡ s)
  old_or_new u (inl m) = inl (contained done u m)
  old_or_new u (inr (inl e)) = inr (sym e)
  old_or_new u (inr (inr n)) = absurd n

  is_line_added : IsLineAdded without_line s and_line
  is_line_added =
      record {
        corners = refl;
        pieces = refl;
        order = rules.order.1;
        aux = λ u. (λ c. old_or_new u (member_either done (s ∷ []) u (member _ u c)), line_there u);
      }

  line_adds : after without_line (auxiliary_line s) ≡ Ok and_line
  unfolding add_of
  line_adds =
      let on_sheet : is_on_sheet corners (stretch_of s) ≡ true = all_member (λ (u : Segment). IsTrue (is_on_sheet corners (stretch_of u))) (done ++ s ∷ []) s rules.lines (member_right done (s ∷ []) s (inl refl)) in
      ap (added_between without_line Aux (lesser_end s) (greater_end s)) (segment_of-ends s)
      ∙ ap (λ b. cond (not b) (Err OutsideSheet) (if_it_fits (with_line without_line s))) on_sheet
      ∙ ap if_it_fits (line_is_one without_line s (with_line without_line s) and_line (line_is_added without_line s (front_lines corners pieces done (s ∷ []) rules)) is_line_added)
      ∙ fits and_line rules.size

lines_add : (corners : List Point) (pieces : List Piece) (done rest : List Segment) → IsPattern (pattern_of corners pieces (done ++ rest)) → Adds (map auxiliary_line rest) (pattern_of corners pieces done) (pattern_of corners pieces (done ++ rest))
lines_add corners pieces done [] rules = sym (ap (pattern_of corners pieces) (append-nil done))
lines_add corners pieces done (s ∷ ss) rules =
    let next = done ++ s ∷ [] in
    let one : next ++ ss ≡ done ++ s ∷ ss = append_assoc done (s ∷ []) ss in
    let all = subst (λ (us : List Segment). IsPattern (pattern_of corners pieces us)) (sym one) rules in (
      pattern_of corners pieces next,
      line_adds corners pieces done s (front_lines corners pieces next ss all),
      subst (λ (us : List Segment). Adds (map auxiliary_line ss) (pattern_of corners pieces next) (pattern_of corners pieces us)) one (lines_add corners pieces next ss all),
    )

-- ---- the whole

own_lines_add : (pattern : PatternView) → IsPattern pattern → is_sheet pattern.corners ≡ true → Adds (own_lines pattern) (empty_on pattern.corners) pattern
own_lines_add pattern rules sheet =
    let nothing = empty_on pattern.corners in
    let creases = pattern_of pattern.corners pattern.pieces [] in
    then_adds (map side_line (sides_of pattern.corners)) (map piece_line pattern.pieces ++ map auxiliary_line pattern.aux) nothing nothing pattern
    (edges_add nothing (sides_of pattern.corners) (λ z m. m) (sheet_turns pattern.corners sheet).0)
    (then_adds (map piece_line pattern.pieces) (map auxiliary_line pattern.aux) nothing creases pattern
    (pieces_add pattern.corners [] pattern.pieces (front_lines pattern.corners pattern.pieces [] pattern.aux rules))
    (lines_add pattern.corners pattern.pieces [] pattern.aux rules))

pub own_lines_are_loaded : OwnLinesAreLoaded
unfolding load_of
own_lines_are_loaded pattern other lines rules sheet same e =
    ap (λ (corners : List Point). load_from lines (empty_on corners)) same
    ∙ loaded_from lines (empty_on pattern.corners) pattern
    (subst (λ (ls : List PlainLine). Adds ls (empty_on pattern.corners) pattern) (sym e) (own_lines_add pattern rules sheet))
