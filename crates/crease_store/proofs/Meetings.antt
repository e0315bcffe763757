-- Once a crease is added, whatever it cuts, the pieces meet at ends alone.
use Rattle.std.proofs.Common.{◌≡◌, ◌↔◌, ℕ, ◌%◌, ◌<◌, Bool, true, false, not, ◌&&◌, ◌||◌, nat_eq, ◌⊎◌, inl, inr, List, [], ◌∷◌, refl, sym, ap, subst, ◌∙◌, arith}
use Rattle.std.specs.Prelude.{Contains}
use Rattle.std.proofs.lemmas.Bool.{agree_below, agree_below_at, and_parts, and_from, and_left, or_right, not_from_false, false_from_ne_true, both_ways}
use Rattle.surd_number.specs.declared.Sgn.{Sgn}
use Rattle.surd_number.specs.declared.Sgn.TheVariants.{Zero}
use Rattle.surd_number.specs.Number.{times_sign}
use Rattle.plane_geometry.specs.declared.Segment.{Segment}
use Rattle.plane_geometry.specs.Position.{Position}
use Rattle.plane_geometry.specs.Direction.{is_zero, is_positive, is_negative, side_of, turn_sign}
use Rattle.plane_geometry.specs.SegmentView.{stretch_of}
use Rattle.plane_geometry.specs.Stored.{IsStretch}
use Rattle.plane_geometry.specs.Stretch.{Stretch, MeetAtEnds, is_between, is_end, is_on, is_parted, is_crossing, has_same_ends, ends_at_ends}
use Rattle.plane_geometry.specs.SideLaws.{order_of, product_by_zero}
use Rattle.plane_geometry.specs.StretchLaws.{zero_is, on_parts}
use Rattle.plane_geometry.specs.CommonPointLaws.{LiesBetween, between_from_parts, crossing_point, meeting_is, side_on_line}
use Rattle.crease_model.specs.declared.Kind.{Kind}
use Rattle.crease_model.specs.declared.Piece.{Piece}
use Rattle.crease_model.specs.Rules.{AllMeetAtEnds, is_ascending, segments_of}
use Rattle.plane_geometry.specs.Common.{is_parallel}
use Rattle.crease_model.specs.PartLaws.{turn_in_line, one_line, ends_lie}
use Rattle.line_split.specs.Cuts.{is_meeting_point}
use Rattle.line_split.specs.MemberLaws.{Member, member, contained, all_from_members, member_any}
use Rattle.crease_store.specs.Added.{covers, is_vertex, HasAddedKind, IsPieceOfAdd}
use Rattle.crease_store.proofs.Members.{members_meet}
use Rattle.crease_store.proofs.Ascending.{ascending_rest, differs_later}
use Rattle.crease_store.proofs.Covered.{same_segment, inner_on, vertex_at_old}

-- ---- parallel directions

-- directions that are one, or opposite, do not turn from each other
tells_parallel : ℕ → ℕ → Bool
tells_parallel m n = not (nat_eq (m % 8) (n % 8)) || is_zero (turn_sign n m)

table_parallel : agree_below (λ m. agree_below (tells_parallel m) (λ _. true) 16) (λ _. true) 16 ≡ true
unfolding tells_parallel
table_parallel = refl

parallel_turn : (m n : ℕ) → m < 16 → n < 16 → nat_eq (m % 8) (n % 8) ≡ true → turn_sign n m ≡ Zero
unfolding tells_parallel
parallel_turn m n few_m few_n e =
    zero_is (turn_sign n m)
    (ap (λ b. not b || is_zero (turn_sign n m)) (sym e)
    ∙ agree_below_at (tells_parallel m) (λ _. true) 16 n (agree_below_at (λ k. agree_below (tells_parallel k) (λ _. true) 16) (λ _. true) 16 m table_parallel few_m) few_n)

-- ---- lines

-- stretches on one line do not cross
no_crossing : (x q r : Stretch) → IsStretch x → IsStretch q → side_of x.from x.dir q.from ≡ Zero → side_of x.from x.dir q.to ≡ Zero → side_of x.from x.dir r.from ≡ Zero → is_crossing q r ≡ false
no_crossing x q r h k a b c =
    let on_line : side_of q.from q.dir r.from ≡ Zero =
    side_on_line x q.from r.from q.dir h a c ∙ ap (times_sign (order_of q.from r.from)) (turn_in_line x q h k a b) ∙ product_by_zero (order_of q.from r.from) in
    and_left (is_parted r.from r.to q) (is_parted q.from q.to r)
    (ap (λ (t : Sgn). (is_positive t && is_negative (side_of q.from q.dir r.to)) || (is_negative t && is_positive (side_of q.from q.dir r.to))) on_line)

-- ---- what is covered

-- which stretch covers q
data CoveredBy (old : List Piece) (s : Stretch) (q : Stretch) : Type 0 where
  by_new : covers s q ≡ true → CoveredBy old s q
  by_old : (p : Piece) → Member old p → covers (stretch_of p.segment) q ≡ true → CoveredBy old s q

covered_by : (old : List Piece) (kind : Kind) (s : Stretch) (q : Piece) → HasAddedKind old kind s q → CoveredBy old s (stretch_of q.segment)
covered_by old kind s q (inl w) = by_new w.0
covered_by old kind s q (inr w) = by_old (w.1).0 (member old (w.1).0 (w.1).1) (w.1).2

-- ---- two pieces

module _ (old : List Piece) (kind : Kind) (s : Segment) (meetings : AllMeetAtEnds old) where
  no_inner_vertex : (q : Piece) (v : Position) → IsPieceOfAdd old kind (stretch_of s) q → LiesBetween v (stretch_of q.segment) → is_vertex old (stretch_of s) v ≡ true → ⊥
  no_inner_vertex q v h b e = both_ways (is_between v (stretch_of q.segment)) (h.none_between v e) (between_from_parts v (stretch_of q.segment) b)

  vertex_at_meeting : (v : Position) (u : Piece) → Member old u → is_on v (stretch_of s) ≡ true → is_on v (stretch_of u.segment) ≡ true → is_parallel (stretch_of s) (stretch_of u.segment) ≡ false → is_vertex old (stretch_of s) v ≡ true
  vertex_at_meeting v u at on_s on_u turned =
      or_right (is_end v (stretch_of s)) _
      (member_any (λ (p : Piece). is_end v (stretch_of p.segment) || is_meeting_point v (stretch_of s) (stretch_of p.segment)) old u at
      (or_right (is_end v (stretch_of u.segment)) (is_meeting_point v (stretch_of s) (stretch_of u.segment))
      (and_from _ _ (and_from (is_on v (stretch_of s)) (is_on v (stretch_of u.segment)) on_s on_u) (not_from_false _ turned))))

  turn_of_parallel : (u : Segment) → is_parallel (stretch_of s) (stretch_of u) ≡ true → turn_sign (stretch_of u).dir (stretch_of s).dir ≡ Zero
  turn_of_parallel u e = parallel_turn (stretch_of s).dir (stretch_of u).dir (omega (arith, s.dir.in_range)) (omega (arith, u.dir.in_range)) e

  -- where they cross, there is a vertex, or they are on one line
  crossing_pieces : (q r : Piece) → IsPieceOfAdd old kind (stretch_of s) q → IsPieceOfAdd old kind (stretch_of s) r → is_crossing (stretch_of q.segment) (stretch_of r.segment) ≡ true → ⊥
  crossing_pieces q r h k e = go (covered_by old kind (stretch_of s) q h.covered) (covered_by old kind (stretch_of s) r k.covered)
    where
      point : (v : Position) × LiesBetween v (stretch_of q.segment) × LiesBetween v (stretch_of r.segment)
      point = crossing_point (stretch_of q.segment) (stretch_of r.segment) q.segment.stretch r.segment.stretch e

      on_line : (x : Segment) → side_of (stretch_of x).from (stretch_of x).dir (stretch_of q.segment).from ≡ Zero → side_of (stretch_of x).from (stretch_of x).dir (stretch_of q.segment).to ≡ Zero → side_of (stretch_of x).from (stretch_of x).dir (stretch_of r.segment).from ≡ Zero → ⊥
      on_line x a b c = both_ways (is_crossing (stretch_of q.segment) (stretch_of r.segment)) (no_crossing (stretch_of x) (stretch_of q.segment) (stretch_of r.segment) x.stretch q.segment.stretch a b c) e

      one_cover : (x : Segment) → covers (stretch_of x) (stretch_of q.segment) ≡ true → covers (stretch_of x) (stretch_of r.segment) ≡ true → ⊥
      one_cover x a b =
          let l = ends_lie (stretch_of x) (stretch_of q.segment) x.stretch a in
          let m = ends_lie (stretch_of x) (stretch_of r.segment) x.stretch b in
          on_line x l.0.in_line l.1.in_line m.0.in_line

      on_by : (x : Segment) (t : Piece) → covers (stretch_of x) (stretch_of t.segment) ≡ true → LiesBetween point.0 (stretch_of t.segment) → is_on point.0 (stretch_of x) ≡ true
      on_by x t c b = inner_on (stretch_of x) (stretch_of t.segment) point.0 x.stretch t.segment.stretch c b

      parallel_new_old : (u : Piece) → covers (stretch_of s) (stretch_of q.segment) ≡ true → covers (stretch_of u.segment) (stretch_of r.segment) ≡ true → turn_sign (stretch_of u.segment).dir (stretch_of s).dir ≡ Zero → ⊥
      parallel_new_old u a b turn =
          let l = ends_lie (stretch_of s) (stretch_of q.segment) s.stretch a in
          let m = ends_lie (stretch_of u.segment) (stretch_of r.segment) u.segment.stretch b in
          let v_s = on_parts point.0 (stretch_of s) s.stretch (on_by s q a point.1) in
          let v_u = on_parts point.0 (stretch_of u.segment) u.segment.stretch (on_by u.segment r b point.2) in
          on_line u.segment
          (one_line (stretch_of s) (stretch_of u.segment) point.0 (stretch_of q.segment).from s.stretch turn v_s.in_line v_u.in_line l.0.in_line)
          (one_line (stretch_of s) (stretch_of u.segment) point.0 (stretch_of q.segment).to s.stretch turn v_s.in_line v_u.in_line l.1.in_line)
          m.0.in_line

      parallel_old_new : (u : Piece) → covers (stretch_of u.segment) (stretch_of q.segment) ≡ true → covers (stretch_of s) (stretch_of r.segment) ≡ true → turn_sign (stretch_of u.segment).dir (stretch_of s).dir ≡ Zero → ⊥
      parallel_old_new u a b turn =
          let l = ends_lie (stretch_of u.segment) (stretch_of q.segment) u.segment.stretch a in
          let m = ends_lie (stretch_of s) (stretch_of r.segment) s.stretch b in
          let v_u = on_parts point.0 (stretch_of u.segment) u.segment.stretch (on_by u.segment q a point.1) in
          let v_s = on_parts point.0 (stretch_of s) s.stretch (on_by s r b point.2) in
          on_line u.segment l.0.in_line l.1.in_line
          (one_line (stretch_of s) (stretch_of u.segment) point.0 (stretch_of r.segment).from s.stretch turn v_s.in_line v_u.in_line m.0.in_line)

      by_direction : (u : Piece) → Member old u → is_on point.0 (stretch_of s) ≡ true → is_on point.0 (stretch_of u.segment) ≡ true → (turn_sign (stretch_of u.segment).dir (stretch_of s).dir ≡ Zero → ⊥) → (b : Bool) → is_parallel (stretch_of s) (stretch_of u.segment) ≡ b → ⊥
      by_direction u at on_s on_u none true f = none (turn_of_parallel u.segment f)
      by_direction u at on_s on_u none false f = no_inner_vertex q point.0 h point.1 (vertex_at_meeting point.0 u at on_s on_u f)

      by_members : (u w : Piece) → Member old u → covers (stretch_of u.segment) (stretch_of q.segment) ≡ true → covers (stretch_of w.segment) (stretch_of r.segment) ≡ true → (u ≡ w) ⊎ MeetAtEnds (stretch_of u.segment) (stretch_of w.segment) → ⊥
      by_members u w at a b (inl same) = one_cover u.segment a (subst (λ (t : Piece). covers (stretch_of t.segment) (stretch_of r.segment) ≡ true) (sym same) b)
      by_members u w at a b (inr meet) =
          no_inner_vertex q point.0 h point.1 (vertex_at_old old (stretch_of s) point.0 u at (meet point.0 (on_by u.segment q a point.1) (on_by w.segment r b point.2)).0)

      go : CoveredBy old (stretch_of s) (stretch_of q.segment) → CoveredBy old (stretch_of s) (stretch_of r.segment) → ⊥
      go (by_new a) (by_new b) = one_cover s a b
      go (by_new a) (by_old u at b) = by_direction u at (on_by s q a point.1) (on_by u.segment r b point.2) (parallel_new_old u a b) (is_parallel (stretch_of s) (stretch_of u.segment)) refl
      go (by_old u at a) (by_new b) = by_direction u at (on_by s r b point.2) (on_by u.segment q a point.1) (parallel_old_new u a b) (is_parallel (stretch_of s) (stretch_of u.segment)) refl
      go (by_old u at a) (by_old w to b) = by_members u w at a b (members_meet old u w meetings at to)

  -- a vertex on a piece is an end of it
  end_where_on : (q : Piece) (v : Position) → IsPieceOfAdd old kind (stretch_of s) q → is_vertex old (stretch_of s) v ≡ true → (not (is_on v (stretch_of q.segment)) || is_end v (stretch_of q.segment)) ≡ true
  end_where_on q v h e = go (is_end v (stretch_of q.segment)) (is_between v (stretch_of q.segment)) (h.none_between v e)
    where
      go : (a b : Bool) → b ≡ false → (not (a || b) || a) ≡ true
      go true b f = refl
      go false true f = sym f
      go false false f = refl

  pieces_meet : (q r : Piece) → IsPieceOfAdd old kind (stretch_of s) q → IsPieceOfAdd old kind (stretch_of s) r → (q.segment ≡ r.segment → ⊥) → MeetAtEnds (stretch_of q.segment) (stretch_of r.segment)
  pieces_meet q r h k differ =
      let Q = stretch_of q.segment in
      let R = stretch_of r.segment in
      let crossing : is_crossing Q R ≡ false = false_from_ne_true (is_crossing Q R) (crossing_pieces q r h k) in
      let ends : has_same_ends Q R ≡ false =
      false_from_ne_true (has_same_ends Q R) (λ e. let l = and_parts (is_end Q.from R) (is_end Q.to R) e in differ (same_segment q.segment r.segment l.0 l.1)) in
      let q_ends : ends_at_ends Q R ≡ true = and_from _ _ (end_where_on r Q.from k h.from_vertex) (end_where_on r Q.to k h.to_vertex) in
      let r_ends : ends_at_ends R Q ≡ true = and_from _ _ (end_where_on q R.from h k.from_vertex) (end_where_on q R.to h k.to_vertex) in
      (meeting_is Q R q.segment.stretch r.segment.stretch).0
      (and_from _ _ (not_from_false _ crossing) (and_from _ _ (not_from_false _ ends) (and_from (ends_at_ends Q R) (ends_at_ends R Q) q_ends r_ends)))

  pub crease_meets : (new : List Piece) → is_ascending (segments_of new) ≡ true → ((q : Piece) → Contains new q ↔ IsPieceOfAdd old kind (stretch_of s) q) → AllMeetAtEnds new
  crease_meets new up is = all_meet new up (λ q m. (is q).0 (contained new q m))
    where
      all_meet : (ps : List Piece) → is_ascending (segments_of ps) ≡ true → ((q : Piece) → Member ps q → IsPieceOfAdd old kind (stretch_of s) q) → AllMeetAtEnds ps
      all_meet [] up each = tt
      all_meet (p ∷ ps) up each = (
        all_from_members (λ q. MeetAtEnds (stretch_of p.segment) (stretch_of q.segment)) ps
            (λ q m. pieces_meet p q (each p (inl refl)) (each q (inr m)) (differs_later (λ (t : Piece). t.segment) p ps q up m)),
        all_meet ps (ascending_rest (λ (t : Piece). t.segment) p ps up) (λ q m. each q (inr m)),
      )
