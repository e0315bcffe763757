-- Points of stretches, and vertices once a segment is added.
use Rattle.std.proofs.Common.{◌≡◌, true, false, not, ◌&&◌, ◌||◌, ◌⊎◌, inl, inr, List, sym, ap, subst, ◌∙◌}
use Rattle.std.proofs.lemmas.Bool.{and_parts, and_from, or_cases, or_left, or_right, not-true}
use Rattle.surd_number.specs.declared.Sgn.TheVariants.{Neg, Zero, Pos}
use Rattle.surd_number.specs.Number.{opposite_sign}
use Rattle.plane_geometry.specs.declared.Segment.{Segment}
use Rattle.plane_geometry.specs.Position.{Position}
use Rattle.plane_geometry.specs.SegmentView.{stretch_of}
use Rattle.plane_geometry.specs.Stretch.{Stretch, MeetAtEnds, is_between, is_end, is_on}
use Rattle.plane_geometry.specs.Stored.{IsStretch}
use Rattle.plane_geometry.specs.SideLaws.{order_of, order_turned, side_same}
use Rattle.plane_geometry.specs.StretchLaws.{before_then, then_before, ends_order, order_from, order_to, side_to, on_from_parts, end_parts, from_end, to_end}
use Rattle.plane_geometry.specs.CommonPointLaws.{LiesBetween, between_parts, between_lies, between_no_end, middle_of, middle_between}
use Rattle.plane_geometry.specs.SegmentLaws.{point_is, segment_is}
use Rattle.crease_model.specs.declared.Piece.{Piece}
use Rattle.crease_model.specs.Rules.{AllMeetAtEnds}
use Rattle.crease_model.specs.PartLaws.{ends_lie, on_covering}
use Rattle.plane_geometry.specs.Common.{is_parallel}
use Rattle.line_split.specs.Cuts.{is_meeting_point}
use Rattle.line_split.specs.MemberLaws.{Member, any_member, member_any}
use Rattle.crease_store.specs.Added.{covers, is_vertex}
use Rattle.crease_store.proofs.Members.{members_meet}

-- ---- points of a stretch

pub end_lies : (v : Position) (s : Stretch) → is_end v s ≡ true → is_on v s ≡ true
end_lies v s e = or_left (is_end v s) (is_between v s) e

pub covers_self : (s : Stretch) → covers s s ≡ true
covers_self s = and_from _ _ (end_lies s.from s (from_end s)) (end_lies s.to s (to_end s))

-- a segment whose ends are ends of another is that
pub same_segment : (q s : Segment) → is_end (stretch_of q).from (stretch_of s) ≡ true → is_end (stretch_of q).to (stretch_of s) ≡ true → q ≡ s
same_segment q s at_from at_to = go (end_parts q_from (stretch_of s) at_from) (end_parts q_to (stretch_of s) at_to)
  where
    open stretch_of q use {from as q_from, to as q_to}
    open stretch_of s use {from as s_from, to as s_to}

    q_order : order_of q_from q_to ≡ Pos
    q_order = ends_order (stretch_of q) q.stretch

    s_order : order_of s_from s_to ≡ Pos
    s_order = ends_order (stretch_of s) s.stretch

    apart : order_of q_from q_to ≡ Zero → ⊥
    apart f = let h : Pos ≡ Zero = sym q_order ∙ f in cc

    backwards : order_of q_from s_to ≡ Zero → order_of s_from q_to ≡ Zero → ⊥
    backwards b c = let h : Pos ≡ Neg = sym q_order ∙ order_to q_from s_from q_to c ∙ order_from q_from s_to s_from b ∙ order_turned s_from s_to ∙ ap opposite_sign s_order in cc

    go : (order_of s_from q_from ≡ Zero) ⊎ (order_of q_from s_to ≡ Zero) → (order_of s_from q_to ≡ Zero) ⊎ (order_of q_to s_to ≡ Zero) → q ≡ s
    go (inl a) (inl c) = absurd (apart (sym (order_from s_from q_from q_to a) ∙ c))
    go (inl a) (inr c) = segment_is q s (sym (point_is s.from q.from a)) (point_is q.to s.to c)
    go (inr b) (inl c) = absurd (backwards b c)
    go (inr b) (inr c) = absurd (apart (sym (order_to q_from q_to s_to c) ∙ b))

-- a point strictly between the ends of q is on each stretch that covers q
pub inner_on : (x q : Stretch) (v : Position) → IsStretch x → IsStretch q → covers x q ≡ true → LiesBetween v q → is_on v x ≡ true
inner_on x q v h k e b = on_from_parts v x h (on_covering x q v h k e (between_lies v q b))

-- a point strictly between the ends of q is strictly between those of each stretch that covers q
pub covering_between : (s q : Stretch) (v : Position) → IsStretch s → IsStretch q → covers s q ≡ true → LiesBetween v q → LiesBetween v s
covering_between s q v h k e b =
    let ends = ends_lie s q h e in
    record {
      in_line = (on_covering s q v h k e (between_lies v q b)).in_line;
      after_from = then_before s.from q.from v ends.0.after_from b.after_from;
      before_to = before_then v q.to s.to b.before_to ends.1.before_to;
    }

pub between_same : (v w : Position) (s : Stretch) → order_of v w ≡ Zero → LiesBetween v s → LiesBetween w s
between_same v w s e b =
    record {
      in_line = side_to s.from s.dir v w (side_same v s.dir w e) ∙ b.in_line;
      after_from = order_to s.from v w e ∙ b.after_from;
      before_to = sym (order_from v w s.to e) ∙ b.before_to;
    }

-- ---- vertices

-- why a point is a vertex
pub data IsVertex (old : List Piece) (s : Stretch) (v : Position) : Type 0 where
  new_end : is_end v s ≡ true → IsVertex old s v
  old_end : (p : Piece) → Member old p → is_end v (stretch_of p.segment) ≡ true → IsVertex old s v
  meeting : (p : Piece) → Member old p → is_on v s ≡ true → is_on v (stretch_of p.segment) ≡ true → is_parallel s (stretch_of p.segment) ≡ false → IsVertex old s v

pub vertex_parts : (old : List Piece) (s : Stretch) (v : Position) → is_vertex old s v ≡ true → IsVertex old s v
vertex_parts old s v e =
    elim (or_cases (is_end v s) _ e) [
      | inl l ↦ new_end l
      | inr r ↦ (let w = any_member (λ (p : Piece). is_end v (stretch_of p.segment) || is_meeting_point v s (stretch_of p.segment)) old r in
          elim (or_cases (is_end v (stretch_of (w.0).segment)) (is_meeting_point v s (stretch_of (w.0).segment)) w.2) [
            | inl l ↦ old_end w.0 w.1 l
            | inr t ↦ (let k = and_parts (is_on v s && is_on v (stretch_of (w.0).segment)) (not (is_parallel s (stretch_of (w.0).segment))) t in
                let l = and_parts (is_on v s) (is_on v (stretch_of (w.0).segment)) k.0 in
                meeting w.0 w.1 l.0 l.1 (not-true _ k.1))
          ])
    ]

pub vertex_at_new : (old : List Piece) (s : Stretch) (v : Position) → is_end v s ≡ true → is_vertex old s v ≡ true
vertex_at_new old s v e = or_left (is_end v s) _ e

pub vertex_at_old : (old : List Piece) (s : Stretch) (v : Position) (p : Piece) → Member old p → is_end v (stretch_of p.segment) ≡ true → is_vertex old s v ≡ true
vertex_at_old old s v p m e =
    or_right (is_end v s) _ (member_any (λ (p : Piece). is_end v (stretch_of p.segment) || is_meeting_point v s (stretch_of p.segment)) old p m (or_left (is_end v (stretch_of p.segment)) (is_meeting_point v s (stretch_of p.segment)) e))

-- ---- old pieces

-- the middle of a segment is on each one that covers it
middle_on : (s q : Segment) → covers (stretch_of s) (stretch_of q) ≡ true → is_on (middle_of (stretch_of q).from (stretch_of q).to) (stretch_of s) ≡ true
middle_on s q e =
    inner_on (stretch_of s) (stretch_of q) _ s.stretch q.stretch e (middle_between (stretch_of q) q.stretch)

module _ (old : List Piece) (meetings : AllMeetAtEnds old) where
  -- a vertex strictly between the ends of an old piece is on s
  pub inner_vertex_on : (s : Stretch) (u : Piece) → Member old u → (v : Position) → is_vertex old s v ≡ true → is_between v (stretch_of u.segment) ≡ true → is_on v s ≡ true
  inner_vertex_on s u at v e b =
      elim (vertex_parts old s v e) [
        | new_end l ↦ end_lies v s l
        | old_end p m l ↦ absurd (by_old p l (members_meet old p u meetings m at))
        | meeting p m on_s on_p apart ↦ on_s
      ]
    where
      no_end : is_end v (stretch_of u.segment) ≡ true → ⊥
      no_end = between_no_end v (stretch_of u.segment) (between_parts v (stretch_of u.segment) b)

      by_old : (p : Piece) → is_end v (stretch_of p.segment) ≡ true → (p ≡ u) ⊎ MeetAtEnds (stretch_of p.segment) (stretch_of u.segment) → ⊥
      by_old p l (inl same) = no_end (subst (λ (t : Piece). is_end v (stretch_of t.segment) ≡ true) same l)
      by_old p l (inr meet) = no_end (meet v (end_lies v (stretch_of p.segment) l) (or_right (is_end v (stretch_of u.segment)) (is_between v (stretch_of u.segment)) b)).1

  -- old pieces that cover one segment are one piece
  pub covered_once : (u w : Piece) (q : Segment) → Member old u → Member old w → covers (stretch_of u.segment) (stretch_of q) ≡ true → covers (stretch_of w.segment) (stretch_of q) ≡ true → u ≡ w
  covered_once u w q m n e f =
      elim (members_meet old u w meetings m n) [
        | inl same ↦ same
        | inr meet ↦
            (let k = and_parts (is_on (stretch_of q).from (stretch_of u.segment)) (is_on (stretch_of q).to (stretch_of u.segment)) e in
            let l = and_parts (is_on (stretch_of q).from (stretch_of w.segment)) (is_on (stretch_of q).to (stretch_of w.segment)) f in
            let same = same_segment q u.segment (meet (stretch_of q).from k.0 l.0).0 (meet (stretch_of q).to k.1 l.1).0 in
            let v = middle_of (stretch_of q).from (stretch_of q).to in
            let b = middle_between (stretch_of q) q.stretch in
            let at = (meet v (middle_on u.segment q e) (middle_on w.segment q f)).0 in
            absurd (between_no_end v (stretch_of q) b (subst (λ (t : Segment). is_end v (stretch_of t) ≡ true) (sym same) at)))
      ]
