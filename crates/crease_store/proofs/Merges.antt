-- A merged pattern keeps the rules of a pattern, and its pieces are the chains between vertices that aren't loose.
use Rattle.std.proofs.Common.{◌≡◌, ◌≤◌, ◌⊎◌, Bool, true, false, cond, inl, inr, List, [], ◌∷◌, length, refl, sym, ap, subst, ◌∙◌, arith}
use Rattle.std.specs.Prelude.{IsTrue}
use Rattle.std.proofs.lemmas.Bool.{and_parts, and_from, true≢false, not-true}
use Rattle.plane_geometry.specs.declared.Segment.{Segment}
use Rattle.plane_geometry.specs.Stretch.{MeetAtEnds, has_same_ends, is_end}
use Rattle.plane_geometry.specs.SegmentView.{stretch_of, lesser_end, greater_end}
use Rattle.plane_geometry.specs.SegmentLaws.{segment_is}
use Rattle.plane_geometry.specs.CommonPointLaws.{meeting_is}
use Rattle.crease_model.specs.declared.Piece.{Piece}
use Rattle.crease_model.specs.View.{PatternView}
use Rattle.crease_model.specs.Rules.{IsPattern, AllMeetAtEnds, is_ascending, is_crease, segments_of}
use Rattle.crease_store.specs.InOrder.{segment_at, with_in_order}
use Rattle.crease_store.specs.Merged.{is_loose, merged_from, merged_among, merge_of, IsMerged, IsPieceOfMerge}
use Rattle.line_split.specs.MemberLaws.{Member, member, contained, all_member, all_from_members}
use Rattle.crease_store.proofs.InOrderLaws.{placed_ascends, placed_new, placed_old, placed_either, placed_length}
use Rattle.crease_store.proofs.Ascending.{ascending_rest, differs_later}
use Rattle.crease_store.proofs.Members.{piece_is}
use Rattle.plane_geometry.specs.StretchLaws.{from_end, to_end}
use Rattle.crease_store.proofs.Chains.{one_ending}
use Rattle.crease_store.proofs.MergedPieces.{merged_one, one_crease, ones_meet, reached_there}

-- no segment meets itself at ends alone
pub not_itself : (s : Segment) → MeetAtEnds (stretch_of s) (stretch_of s) → ⊥
not_itself s meet =
    let S = stretch_of s in
    let test = (meeting_is S S s.stretch s.stretch).1 meet in
    let apart = and_parts _ _ (and_parts _ _ test).1 in
    true≢false (sym (and_from (is_end S.from S) (is_end S.to S) (from_end S) (to_end S)) ∙ not-true (has_same_ends S S) apart.0)

-- ---- the pieces of a merge

-- z is the chain that begins with one of ps
pub record IsFrom (pieces ps : List Piece) (z : Piece) : Type 0 where
  pub first : Piece
  pub there : Member ps first
  pub begins : is_loose pieces (lesser_end first.segment) ≡ false
  pub is : merged_from pieces first ≡ z

pub from_merged : (pieces ps : List Piece) (z : Piece) → Member (merged_among pieces ps) z → IsFrom pieces ps z
from_merged pieces [] z m = absurd m
from_merged pieces (p ∷ ps) z m = go (is_loose pieces (lesser_end p.segment)) refl m (λ n. later (from_merged pieces ps z n))
  where
    later : IsFrom pieces ps z → IsFrom pieces (p ∷ ps) z
    later w = record { first = w.first; there = inr w.there; begins = w.begins; is = w.is }

    go : (b : Bool) → is_loose pieces (lesser_end p.segment) ≡ b → Member (cond b (merged_among pieces ps) (with_in_order segment_at (merged_among pieces ps) (merged_from pieces p))) z → (Member (merged_among pieces ps) z → IsFrom pieces (p ∷ ps) z) → IsFrom pieces (p ∷ ps) z
    go true e n rest = rest n
    go false e n rest =
        elim (placed_either segment_at (merged_among pieces ps) (merged_from pieces p) z n) [ inl f ↦ record { first = p; there = inl refl; begins = e; is = f } | inr k ↦ rest k ]

fewer_merged : (pieces ps : List Piece) → length (merged_among pieces ps) ≤ length ps
fewer_merged pieces [] = omega arith
fewer_merged pieces (p ∷ ps) =
    let rest = fewer_merged pieces ps in
    let more = placed_length segment_at (merged_among pieces ps) (merged_from pieces p) in
    elim (is_loose pieces (lesser_end p.segment)) as (λ b. length (cond b (merged_among pieces ps) (with_in_order segment_at (merged_among pieces ps) (merged_from pieces p))) ≤ length (p ∷ ps))
    [ true ↦ omega (arith, rest) | false ↦ omega (arith, rest, more) ]

module _ (pieces : List Piece) (meetings : AllMeetAtEnds pieces) where
  pub two_meet : (p q : Piece) → Member pieces p → Member pieces q → is_loose pieces (lesser_end p.segment) ≡ false → is_loose pieces (lesser_end q.segment) ≡ false → (p ≡ q → ⊥) → MeetAtEnds (stretch_of (merged_from pieces p).segment) (stretch_of (merged_from pieces q).segment)
  two_meet p q m n begins_p begins_q differ =
      ones_meet pieces meetings p (merged_from pieces p) q (merged_from pieces q) m n (merged_one pieces p m) (merged_one pieces q n) begins_p begins_q differ

  -- two chains are on different segments
  pub differ : (p q : Piece) → Member pieces p → Member pieces q → is_loose pieces (lesser_end p.segment) ≡ false → is_loose pieces (lesser_end q.segment) ≡ false → (p ≡ q → ⊥) → (merged_from pieces p).segment ≡ (merged_from pieces q).segment → ⊥
  differ p q m n begins_p begins_q apart same =
      not_itself (merged_from pieces p).segment
      (subst (λ (t : Segment). MeetAtEnds (stretch_of (merged_from pieces p).segment) (stretch_of t)) (sym same) (two_meet p q m n begins_p begins_q apart))

  pub merged_there : (ps : List Piece) → ((z : Piece) → Member ps z → Member pieces z) → is_ascending (segments_of ps) ≡ true → (p : Piece) → Member ps p → is_loose pieces (lesser_end p.segment) ≡ false → Member (merged_among pieces ps) (merged_from pieces p)
  merged_there [] inside up p m begins = absurd m
  merged_there (x ∷ xs) inside up p m begins =
      go (is_loose pieces (lesser_end x.segment)) refl m (λ n. merged_there xs (λ z k. inside z (inr k)) (ascending_rest segment_at x xs up) p n begins)
    where
      later : is_loose pieces (lesser_end x.segment) ≡ false → Member xs p → Member (with_in_order segment_at (merged_among pieces xs) (merged_from pieces x)) (merged_from pieces p) ⊎ (segment_at (merged_from pieces x) ≡ segment_at (merged_from pieces p)) → Member (with_in_order segment_at (merged_among pieces xs) (merged_from pieces x)) (merged_from pieces p)
      later e n (inl k) = k
      later e n (inr same) =
          absurd (differ x p (inside x (inl refl)) (inside p (inr n)) e begins (λ f. differs_later segment_at x xs p up n (ap segment_at f)) same)

      go : (b : Bool) → is_loose pieces (lesser_end x.segment) ≡ b → Member (x ∷ xs) p → (Member xs p → Member (merged_among pieces xs) (merged_from pieces p)) → Member (cond b (merged_among pieces xs) (with_in_order segment_at (merged_among pieces xs) (merged_from pieces x))) (merged_from pieces p)
      go true e (inl at) rest = absurd (true≢false (sym e ∙ ap (λ (t : Piece). is_loose pieces (lesser_end t.segment)) at ∙ begins))
      go true e (inr n) rest = rest n
      go false e (inl at) rest = subst (λ (t : Piece). Member (with_in_order segment_at (merged_among pieces xs) (merged_from pieces x)) (merged_from pieces t)) at (placed_new segment_at (merged_among pieces xs) (merged_from pieces x))
      go false e (inr n) rest = later e n (placed_old segment_at (merged_among pieces xs) (merged_from pieces x) (merged_from pieces p) (rest n))

  pub ascending_merged : (ps : List Piece) → is_ascending (segments_of (merged_among pieces ps)) ≡ true
  ascending_merged [] = refl
  ascending_merged (p ∷ ps) =
      let rest = ascending_merged ps in
      elim (is_loose pieces (lesser_end p.segment)) as (λ b. is_ascending (segments_of (cond b (merged_among pieces ps) (with_in_order segment_at (merged_among pieces ps) (merged_from pieces p)))) ≡ true)
      [ true ↦ rest | false ↦ placed_ascends segment_at (merged_among pieces ps) (merged_from pieces p) rest ]

  merged_meet : (q r : Piece) → Member (merged_among pieces pieces) q → Member (merged_among pieces pieces) r → (q.segment ≡ r.segment → ⊥) → MeetAtEnds (stretch_of q.segment) (stretch_of r.segment)
  merged_meet q r m n differ =
      let w = from_merged pieces pieces q m in
      let u = from_merged pieces pieces r n in
      let meet = two_meet w.first u.first w.there u.there w.begins u.begins
      (λ e. differ (ap (λ (t : Piece). t.segment) (sym w.is ∙ ap (merged_from pieces) e ∙ u.is))) in
      subst (λ (t : Piece). MeetAtEnds (stretch_of t.segment) (stretch_of r.segment)) w.is
      (subst (λ (t : Piece). MeetAtEnds (stretch_of (merged_from pieces w.first).segment) (stretch_of t.segment)) u.is meet)

-- where each two pieces of different segments meet at ends alone
all_meet : (ps : List Piece) → is_ascending (segments_of ps) ≡ true → ((q r : Piece) → Member ps q → Member ps r → (q.segment ≡ r.segment → ⊥) → MeetAtEnds (stretch_of q.segment) (stretch_of r.segment)) → AllMeetAtEnds ps
all_meet [] up each = tt
all_meet (p ∷ ps) up each = (
  all_from_members (λ q. MeetAtEnds (stretch_of p.segment) (stretch_of q.segment)) ps (λ q m. each p q (inl refl) (inr m) (differs_later (λ (t : Piece). t.segment) p ps q up m)),
  all_meet ps (ascending_rest (λ (t : Piece). t.segment) p ps up) (λ q r m n. each q r (inr m) (inr n)),
)

merged_crease : (pattern : PatternView) → IsPattern pattern → (q : Piece) → Member (merged_among pattern.pieces pattern.pieces) q → is_crease pattern.corners q ≡ true
merged_crease pattern old q m =
    let pieces = pattern.pieces in
    let w = from_merged pieces pieces q m in
    let one = merged_one pieces w.first w.there in
    let crease : (p : Piece) → Member pieces p → is_crease pattern.corners p ≡ true = λ p n. all_member (λ r. IsTrue (is_crease pattern.corners r)) pieces p old.creases n in
    subst (λ (t : Piece). is_crease pattern.corners t ≡ true) w.is
    (one_crease pattern.corners pieces w.first (merged_from pieces w.first) one (crease w.first w.there) (crease one.last (reached_there pieces w.first one.last w.there one.whole.chain)))

pub IsPattern-merge : (pattern : PatternView) → IsPattern pattern → IsPattern (merge_of pattern)
unfolding merge_of
IsPattern-merge pattern old =
    let pieces = pattern.pieces in
    let up = ascending_merged pieces old.meetings pieces in
    record {
      creases = all_from_members (λ q. IsTrue (is_crease pattern.corners q)) (merged_among pieces pieces) (merged_crease pattern old);
      meetings = all_meet (merged_among pieces pieces) up (merged_meet pieces old.meetings);
      lines = old.lines;
      size = omega (arith, old.size, fewer_merged pieces pieces);
      order = (up, old.order.1);
    }

-- ---- what a merge is

merged_chain : (pieces : List Piece) (q : Piece) → Member (merged_among pieces pieces) q → IsPieceOfMerge pieces q
merged_chain pieces q m =
    let w = from_merged pieces pieces q m in
    let one = merged_one pieces w.first w.there in
    let chain = one.whole.chain in
    record {
      first = w.first;
      rest = chain.0;
      there = contained pieces w.first w.there;
      chain = chain.1;
      from = ap (λ (t : Piece). lesser_end t.segment) (sym w.is) ∙ one.from;
      to = ap (λ (t : Piece). greater_end t.segment) (sym w.is) ∙ one.to ∙ ap (λ (t : Piece). greater_end t.segment) (sym chain.2);
      kind = ap (λ (t : Piece). t.kind) (sym w.is) ∙ one.kind;
      begins = w.begins;
      ends = ap (λ (t : Piece). is_loose pieces (greater_end t.segment)) chain.2 ∙ one.whole.ends;
    }

chain_merged : (pieces : List Piece) → AllMeetAtEnds pieces → is_ascending (segments_of pieces) ≡ true → (q : Piece) → IsPieceOfMerge pieces q → Member (merged_among pieces pieces) q
chain_merged pieces meetings up q h =
    let there = member pieces h.first h.there in
    let one = merged_one pieces h.first there in
    let chain = one.whole.chain in
    let ends = one_ending pieces h.first h.rest chain.0 h.chain chain.1 h.ends (ap (λ (t : Piece). is_loose pieces (greater_end t.segment)) chain.2 ∙ one.whole.ends) in
    let to : greater_end (merged_from pieces h.first).segment ≡ greater_end q.segment = one.to ∙ ap (λ (t : Piece). greater_end t.segment) (sym (ends ∙ chain.2)) ∙ sym h.to in
    subst (Member (merged_among pieces pieces))
    (piece_is (merged_from pieces h.first) q (one.kind ∙ sym h.kind) (segment_is (merged_from pieces h.first).segment q.segment (one.from ∙ sym h.from) to))
    (merged_there pieces meetings pieces (λ z m. m) up h.first there h.begins)

pub merge_is : (pattern : PatternView) → IsPattern pattern → IsMerged pattern (merge_of pattern)
unfolding merge_of
merge_is pattern old =
    let pieces = pattern.pieces in
    record {
      corners = refl;
      aux = refl;
      order = ascending_merged pieces old.meetings pieces;
      pieces = λ q. (λ c. merged_chain pieces q (member _ q c), λ h. contained _ q (chain_merged pieces old.meetings old.order.0 q h));
    }
