-- Each piece lies on a merged one of its kind, and no vertex of a merged pattern is loose.
use Rattle.std.proofs.Common.{◌≡◌, ℕ, zero, suc, ◌<◌, ◌≤◌, Bool, true, false, ◌⊎◌, inl, inr, List, [], ◌∷◌, length, refl, sym, ap, subst, ◌∙◌, arith}
use Rattle.std.specs.Prelude.{Contains, IsTrue, IsFalse, filter}
use Rattle.std.proofs.lemmas.Bool.{and_from, true≢false, false_from_ne_true}
use Rattle.std.proofs.lemmas.List.Sums.{length-filter, count_by-le-length}
use Rattle.plane_geometry.specs.declared.Point.{Point}
use Rattle.plane_geometry.specs.declared.Segment.{Segment}
use Rattle.plane_geometry.specs.Position.{Position}
use Rattle.plane_geometry.specs.Stretch.{MeetAtEnds, is_on}
use Rattle.plane_geometry.specs.SegmentView.{stretch_of, lesser_end, greater_end, direction_number}
use Rattle.plane_geometry.specs.SegmentLaws.{segment_is}
use Rattle.crease_model.specs.declared.Piece.{Piece}
use Rattle.crease_model.specs.View.{PatternView}
use Rattle.plane_geometry.specs.Order.{is_before}
use Rattle.crease_model.specs.Rules.{IsPattern}
use Rattle.crease_store.specs.Added.{covers}
use Rattle.crease_store.specs.Merged.{is_loose, merged_from, merged_among, merge_of, IsJoined, IsChain, last_in_chain}
use Rattle.line_split.specs.MemberLaws.{Member, member, contained}
use Rattle.crease_store.proofs.Members.{members_meet}
use Rattle.plane_geometry.specs.OrderLaws.{before_trans, before_irreflexive}
use Rattle.plane_geometry.specs.StretchLaws.{from_end, to_end}
use Rattle.crease_store.proofs.Covered.{end_lies}
use Rattle.crease_store.proofs.Chains.{IsLooseAt, Reaches, same_point, point_self, loose_parts, loose_joined, reaches_itself, reaches_on, one_ending, joined_before, kept-lt, whole_chain}
use Rattle.crease_store.proofs.MergedPieces.{ChainSegment, chain_segment, IsOne, merged_one, reached_there, reaches_then}
use Rattle.crease_store.proofs.Joining.{joined, joined_from, joined_to_end, joined_direction, first_on_joined, second_on_joined}
use Rattle.crease_store.proofs.Merges.{IsFrom, from_merged, merged_there, not_itself, two_meet}
use Rattle.crease_store.proofs.MergeLaws.{either_end, loose_from}

-- ---- each piece is on a chain

-- how many pieces stand before z
earlier_count : List Piece → Piece → ℕ
earlier_count pieces z = length (filter (λ (y : Piece). is_before y.segment z.segment) pieces)

fewer_earlier : (pieces : List Piece) (p q : Piece) → IsJoined pieces p q → earlier_count pieces p < earlier_count pieces q
unfolding earlier_count
fewer_earlier pieces p q h =
    let before = joined_before pieces p q h in
    kept-lt (λ (y : Piece). is_before y.segment p.segment) (λ (y : Piece). is_before y.segment q.segment) (λ y e. before_trans y.segment p.segment q.segment e before)
    pieces p (member pieces p h.first) (false_from_ne_true (is_before p.segment p.segment) (before_irreflexive p.segment)) before

-- a chain that reaches z begins where nothing goes on
record HasBeginning (pieces : List Piece) (z : Piece) : Type 0 where
  pub first : Piece
  pub there : Member pieces first
  pub begins : is_loose pieces (lesser_end first.segment) ≡ false
  pub chain : Reaches pieces first z

-- the piece from which it goes on to z
previous : (pieces : List Piece) (z : Piece) → Member pieces z → is_loose pieces (lesser_end z.segment) ≡ true → (p : Piece) × IsJoined pieces p z
previous pieces z m e =
    let v = lesser_end z.segment in
    let w = loose_parts pieces v e in
    (w.0, subst (λ (t : Piece). IsJoined pieces (w.0) t) (sym ((w.2).leaves.alone z m (point_self v v refl))) (loose_joined pieces v (w.0) (w.1) e (w.2)))

beginning_here : (pieces : List Piece) (z : Piece) → Member pieces z → is_loose pieces (lesser_end z.segment) ≡ false → HasBeginning pieces z
beginning_here pieces z m e = record { first = z; there = m; begins = e; chain = reaches_itself pieces z }

beginning_on : (pieces : List Piece) (p z : Piece) → IsJoined pieces p z → HasBeginning pieces p → HasBeginning pieces z
beginning_on pieces p z h w = record { first = w.first; there = w.there; begins = w.begins; chain = reaches_then pieces w.first p z w.chain h }

beginning_within : (n : ℕ) (pieces : List Piece) (z : Piece) → Member pieces z → earlier_count pieces z ≤ n → HasBeginning pieces z
beginning_within zero pieces z m few = go (is_loose pieces (lesser_end z.segment)) refl
  where
    go : (b : Bool) → is_loose pieces (lesser_end z.segment) ≡ b → HasBeginning pieces z
    go false e = beginning_here pieces z m e
    go true e = let w = previous pieces z m e in let less = fewer_earlier pieces w.0 z w.1 in absurd (omega (arith, less))
beginning_within (suc n) pieces z m few =
    go (is_loose pieces (lesser_end z.segment)) refl (λ p h. beginning_within n pieces p (member pieces p h.first) (let less = fewer_earlier pieces p z h in omega (arith, less)))
  where
    go : (b : Bool) → is_loose pieces (lesser_end z.segment) ≡ b → ((p : Piece) → IsJoined pieces p z → HasBeginning pieces p) → HasBeginning pieces z
    go false e rest = beginning_here pieces z m e
    go true e rest = let w = previous pieces z m e in beginning_on pieces w.0 z w.1 (rest w.0 w.1)

beginning_of_chain : (pieces : List Piece) (z : Piece) → Member pieces z → HasBeginning pieces z
unfolding earlier_count
beginning_of_chain pieces z m =
    let earlier : Piece → Bool = λ y. is_before y.segment z.segment in
    beginning_within (length pieces) pieces z m (omega (arith, length-filter earlier pieces, count_by-le-length earlier pieces))

-- ---- along a chain

chain_kind : (pieces : List Piece) (p : Piece) (rest : List Piece) → IsChain pieces p rest → p.kind ≡ (last_in_chain p rest).kind
chain_kind pieces p [] c = refl
chain_kind pieces p (q ∷ qs) c = c.0.kind ∙ chain_kind pieces q qs c.1

chain_direction : (pieces : List Piece) (p : Piece) (rest : List Piece) → IsChain pieces p rest → direction_number p.segment ≡ direction_number (last_in_chain p rest).segment
chain_direction pieces p [] c = refl
chain_direction pieces p (q ∷ qs) c = c.0.direction ∙ chain_direction pieces q qs c.1

chain_then : (pieces : List Piece) (p z last : Piece) → Reaches pieces p z → Reaches pieces z last → Reaches pieces p last
chain_then pieces p z last w u = go p w.0 w.1 w.2
  where
    go : (p : Piece) (rest : List Piece) → IsChain pieces p rest → last_in_chain p rest ≡ z → Reaches pieces p last
    go p [] c e = subst (λ (t : Piece). Reaches pieces t last) (sym e) u
    go p (q ∷ qs) c e = reaches_on pieces p q last c.0 (go q qs c.1 e)

-- the segment of a chain through z, with z on it
record CoverSegment (p last z : Piece) : Type 0 where
  pub along : ChainSegment p last
  pub on : (v : Position) → is_on v (stretch_of z.segment) ≡ true → is_on v (stretch_of along.segment) ≡ true

first_covered : (pieces : List Piece) (z : Piece) (rest : List Piece) (c : IsChain pieces z rest) (v : Position) → is_on v (stretch_of z.segment) ≡ true → is_on v (stretch_of (chain_segment pieces z rest c).segment) ≡ true
unfolding chain_segment
first_covered pieces z [] c v e = e
first_covered pieces z (q ∷ qs) c v e =
    let r = chain_segment pieces q qs c.1 in first_on_joined z.segment r.segment (c.0.vertex ∙ sym r.from) (c.0.direction ∙ sym r.direction) v e

cover_on : (pieces : List Piece) (p q last z : Piece) → IsJoined pieces p q → CoverSegment q last z → CoverSegment p last z
cover_on pieces p q last z h r =
    let at = h.vertex ∙ sym r.along.from in
    let same = h.direction ∙ sym r.along.direction in
    record {
      along = record {
        segment = joined p.segment r.along.segment at same;
        from = joined_from p.segment r.along.segment at same;
        to = joined_to_end p.segment r.along.segment at same ∙ r.along.to;
        direction = joined_direction p.segment r.along.segment at same;
      };
      on = λ v e. second_on_joined p.segment r.along.segment at same v (r.on v e);
    }

cover_segment : (pieces : List Piece) (p z : Piece) (rest after : List Piece) → IsChain pieces p rest → last_in_chain p rest ≡ z → IsChain pieces z after → CoverSegment p (last_in_chain z after) z
cover_segment pieces p z [] after c e d =
    subst (λ (t : Piece). CoverSegment t (last_in_chain z after) z) (sym e) (record { along = chain_segment pieces z after d; on = first_covered pieces z after d })
cover_segment pieces p z (q ∷ qs) after c e d = cover_on pieces p q (last_in_chain z after) z c.0 (cover_segment pieces q z qs after c.1 e d)

-- ---- each piece lies on a merged one

-- the merged piece that z lies on
record IsOnMerged (pieces : List Piece) (z : Piece) : Type 0 where
  pub beginning : HasBeginning pieces z
  pub one : IsOne pieces beginning.first (merged_from pieces beginning.first)
  pub after : Reaches pieces z one.last

on_merged : (pieces : List Piece) (z : Piece) → Member pieces z → IsOnMerged pieces z
on_merged pieces z m =
    let b = beginning_of_chain pieces z m in
    let one = merged_one pieces b.first b.there in
    let rest = whole_chain pieces z m in
    let whole = chain_then pieces b.first z _ b.chain rest.chain in
    let same = one_ending pieces b.first whole.0 one.whole.chain.0 whole.1 one.whole.chain.1
    (ap (λ (t : Piece). is_loose pieces (greater_end t.segment)) whole.2 ∙ rest.ends)
    (ap (λ (t : Piece). is_loose pieces (greater_end t.segment)) one.whole.chain.2 ∙ one.whole.ends) in
    record { beginning = b; one = one; after = subst (Reaches pieces z) (sym whole.2 ∙ same ∙ one.whole.chain.2) rest.chain }

merged_covers : (pieces : List Piece) (z : Piece) (w : IsOnMerged pieces z) → covers (stretch_of (merged_from pieces w.beginning.first).segment) (stretch_of z.segment) ≡ true
merged_covers pieces z w =
    let p = w.beginning.first in
    let q = merged_from pieces p in
    let r = subst (λ (t : Piece). CoverSegment p t z) w.after.2 (cover_segment pieces p z w.beginning.chain.0 w.after.0 w.beginning.chain.1 w.beginning.chain.2 w.after.1) in
    let same : r.along.segment ≡ q.segment = segment_is r.along.segment q.segment (r.along.from ∙ sym w.one.from) (r.along.to ∙ sym w.one.to) in
    let on : (v : Position) → is_on v (stretch_of z.segment) ≡ true → is_on v (stretch_of q.segment) ≡ true =
    λ v e. subst (λ (t : Segment). is_on v (stretch_of t) ≡ true) same (r.on v e) in
    let Z = stretch_of z.segment in
    and_from _ _ (on Z.from (end_lies Z.from Z (from_end Z))) (on Z.to (end_lies Z.to Z (to_end Z)))

merged_kind : (pieces : List Piece) (z : Piece) (w : IsOnMerged pieces z) → (merged_from pieces w.beginning.first).kind ≡ z.kind
merged_kind pieces z w =
    w.one.kind ∙ chain_kind pieces w.beginning.first w.beginning.chain.0 w.beginning.chain.1 ∙ ap (λ (t : Piece). t.kind) w.beginning.chain.2

pub merge_covers : (pattern : PatternView) (z : Piece) → IsPattern pattern → Contains pattern.pieces z → (q : Piece) × Contains (merge_of pattern).pieces q × IsTrue (covers (stretch_of q.segment) (stretch_of z.segment)) × (q.kind ≡ z.kind)
unfolding merge_of
merge_covers pattern z rules c =
    let pieces = pattern.pieces in
    let w = on_merged pieces z (member pieces z c) in
    let p = w.beginning.first in (
      merged_from pieces p,
      contained (merged_among pieces pieces) (merged_from pieces p) (merged_there pieces rules.meetings pieces (λ _ m. m) rules.order.0 p w.beginning.there w.beginning.begins),
      merged_covers pieces z w,
      merged_kind pieces z w,
    )

-- ---- no vertex is loose

module _ (pattern : PatternView) (rules : IsPattern pattern) where
  old : List Piece
  old = pattern.pieces

  new : List Piece
  new = merged_among pattern.pieces pattern.pieces

  -- pieces of the chains that become one piece, and that both end where it ends, are one
  same_last : (z : Piece) (w : IsOnMerged old z) (p : Piece) (m : Member old p) → Member old z → is_loose old (lesser_end p.segment) ≡ false → merged_from old w.beginning.first ≡ merged_from old p → z ≡ w.one.last → z ≡ (merged_one old p m).last
  unfolding old
  same_last z w p m at begins same is = go (members_meet old z last rules.meetings at (reached_there old p last m one.whole.chain))
    where
      one : IsOne old p (merged_from old p)
      one = merged_one old p m

      last : Piece
      last = one.last

      differ : (z ≡ last → ⊥) → w.beginning.first ≡ p → ⊥
      differ n e =
          n (is ∙ sym w.one.whole.chain.2
          ∙ one_ending old w.beginning.first w.one.whole.chain.0 (chain_at e).0 w.one.whole.chain.1 (chain_at e).1
          (ap (λ (t : Piece). is_loose old (greater_end t.segment)) w.one.whole.chain.2 ∙ w.one.whole.ends)
          (ap (λ (t : Piece). is_loose old (greater_end t.segment)) (chain_at e).2 ∙ one.whole.ends)
          ∙ (chain_at e).2)
        where
          chain_at : w.beginning.first ≡ p → Reaches old w.beginning.first last
          chain_at e = subst (λ (t : Piece). Reaches old t last) (sym e) one.whole.chain

      go : (z ≡ last) ⊎ MeetAtEnds (stretch_of z.segment) (stretch_of last.segment) → z ≡ last
      go (inl e) = e
      go (inr meet) =
          let apart : z ≡ last → ⊥ = λ e. not_itself z.segment (subst (λ (t : Piece). MeetAtEnds (stretch_of z.segment) (stretch_of t.segment)) (sym e) meet) in
          let both = two_meet old rules.meetings w.beginning.first p w.beginning.there m w.beginning.begins begins (differ apart) in
          absurd (not_itself (merged_from old w.beginning.first).segment (subst (λ (t : Piece). MeetAtEnds (stretch_of (merged_from old w.beginning.first).segment) (stretch_of t.segment)) (sym same) both))

  -- two pieces that become one piece are one
  same_first : (z q : Piece) (at : Member old z) (m : Member old q) → is_loose old (lesser_end z.segment) ≡ false → is_loose old (lesser_end q.segment) ≡ false → merged_from old z ≡ merged_from old q → z ≡ q
  unfolding old
  same_first z q at m begins begins' same = go (members_meet old z q rules.meetings at m)
    where
      go : (z ≡ q) ⊎ MeetAtEnds (stretch_of z.segment) (stretch_of q.segment) → z ≡ q
      go (inl e) = e
      go (inr meet) =
          let apart : z ≡ q → ⊥ = λ e. not_itself z.segment (subst (λ (t : Piece). MeetAtEnds (stretch_of z.segment) (stretch_of t.segment)) (sym e) meet) in
          let both = two_meet old rules.meetings z q at m begins begins' apart in
          absurd (not_itself (merged_from old z).segment (subst (λ (t : Piece). MeetAtEnds (stretch_of (merged_from old z).segment) (stretch_of t.segment)) (sym same) both))

  one_direction : (p q : Piece) (one : IsOne old p q) → direction_number q.segment ≡ direction_number p.segment
  unfolding old
  one_direction p q one =
      let chain = one.whole.chain in
      let s = chain_segment old p chain.0 chain.1 in
      let same : q.segment ≡ s.segment = segment_is q.segment s.segment (one.from ∙ sym s.from) (one.to ∙ ap (λ (t : Piece). greater_end t.segment) (sym chain.2) ∙ sym s.to) in
      ap direction_number same ∙ s.direction

  -- where a arrives at v and b goes on from there after the merge, and nothing else does, v was loose before
  module _ (v : Point) (a b : Piece) (h : IsLooseAt new v a b) where
    from_a : IsFrom old old a
    unfolding old new
    from_a = from_merged old old a h.arrives.there

    from_b : IsFrom old old b
    unfolding old new
    from_b = from_merged old old b h.leaves.there

    one_a : IsOne old from_a.first (merged_from old from_a.first)
    one_a = merged_one old from_a.first from_a.there

    one_b : IsOne old from_b.first (merged_from old from_b.first)
    one_b = merged_one old from_b.first from_b.there

    a_to : greater_end one_a.last.segment ≡ v
    a_to = sym one_a.to ∙ ap (λ (t : Piece). greater_end t.segment) from_a.is ∙ same_point (greater_end a.segment) v h.arrives.passes

    b_from : lesser_end from_b.first.segment ≡ v
    b_from = sym one_b.from ∙ ap (λ (t : Piece). lesser_end t.segment) from_b.is ∙ same_point (lesser_end b.segment) v h.leaves.passes

    not_loose : is_loose old v ≡ false
    not_loose = ap (is_loose old) (sym a_to) ∙ one_a.whole.ends

    direction : direction_number one_a.last.segment ≡ direction_number from_b.first.segment
    direction =
        sym (chain_direction old from_a.first one_a.whole.chain.0 one_a.whole.chain.1 ∙ ap (λ (t : Piece). direction_number t.segment) one_a.whole.chain.2)
        ∙ sym (one_direction from_a.first (merged_from old from_a.first) one_a) ∙ ap (λ (t : Piece). direction_number t.segment) from_a.is
        ∙ h.direction ∙ ap (λ (t : Piece). direction_number t.segment) (sym from_b.is) ∙ one_direction from_b.first (merged_from old from_b.first) one_b

    kind : one_a.last.kind ≡ from_b.first.kind
    kind =
        sym (chain_kind old from_a.first one_a.whole.chain.0 one_a.whole.chain.1 ∙ ap (λ (t : Piece). t.kind) one_a.whole.chain.2)
        ∙ sym one_a.kind ∙ ap (λ (t : Piece). t.kind) from_a.is ∙ h.kind ∙ ap (λ (t : Piece). t.kind) (sym from_b.is) ∙ one_b.kind

    -- a piece that arrives at v is the last one of the first chain
    arriving : (z : Piece) → Member old z → greater_end z.segment ≡ v → z ≡ one_a.last
    unfolding old new one_a
    arriving z m at =
        let u = on_merged old z m in
        let p = u.beginning.first in
        let ends : is_loose old (greater_end z.segment) ≡ false = ap (is_loose old) at ∙ not_loose in
        let last : z ≡ u.one.last = go ends u.after.0 u.after.1 u.after.2 in
        let to : greater_end (merged_from old p).segment ≡ v = u.one.to ∙ ap (λ (t : Piece). greater_end t.segment) (sym last) ∙ at in
        let same : merged_from old p ≡ a = h.arrives.alone (merged_from old p) (merged_there old rules.meetings old (λ _ n. n) rules.order.0 p u.beginning.there u.beginning.begins) (point_self (greater_end (merged_from old p).segment) v to) in
        same_last z u from_a.first from_a.there m from_a.begins (same ∙ sym from_a.is) last
      where
        go : is_loose old (greater_end z.segment) ≡ false → {l : Piece} → (rest : List Piece) → IsChain old z rest → last_in_chain z rest ≡ l → z ≡ l
        go ends [] c e = e
        go ends (y ∷ ys) c e = absurd (true≢false (sym c.0.loose ∙ ends))

    -- a piece that goes on from v is the first one of the second chain
    leaving : (z : Piece) → Member old z → lesser_end z.segment ≡ v → z ≡ from_b.first
    unfolding old new
    leaving z m at =
        let begins : is_loose old (lesser_end z.segment) ≡ false = ap (is_loose old) at ∙ not_loose in
        let from : lesser_end (merged_from old z).segment ≡ v = (merged_one old z m).from ∙ at in
        let same : merged_from old z ≡ b = h.leaves.alone (merged_from old z) (merged_there old rules.meetings old (λ _ n. n) rules.order.0 z m begins) (point_self (lesser_end (merged_from old z).segment) v from) in
        same_first z from_b.first m from_b.there begins from_b.begins (same ∙ sym from_b.is)

    was_loose : is_loose old v ≡ true
    unfolding old
    was_loose =
        loose_from old rules.order.0 v one_a.last from_b.first (reached_there old from_a.first one_a.last from_a.there one_a.whole.chain) from_b.there a_to b_from
        (λ z m e. elim (either_end v z.segment e) [ inl f ↦ inr (leaving z m f) | inr f ↦ inl (arriving z m f) ]) direction kind

pub merge_leaves_none_loose : (pattern : PatternView) (v : Point) → IsPattern pattern → IsFalse (is_loose (merge_of pattern).pieces v)
unfolding merge_of old new
merge_leaves_none_loose pattern v rules =
    let after = merged_among pattern.pieces pattern.pieces in
    false_from_ne_true (is_loose after v) (λ e.
    let w = loose_parts after v e in
    true≢false (sym (was_loose pattern rules v w.0 w.1 w.2) ∙ not_loose pattern rules v w.0 w.1 w.2))
