-- Half-edges that go on to one half-edge are one.
use Rattle.std.proofs.Common.{◌≡◌, ℕ, ◌+◌, ◌%◌, ◌<◌, ◌≤◌, true, false, ◌⊎◌, inl, inr, List, refl, sym, ap, subst, ◌∙◌, arith}
use Rattle.std.proofs.lemmas.Bool.{cases_lt, cases_eq, and_parts, leb-true, true≢false}
use Rattle.surd_number.specs.declared.Sgn.{Sgn}
use Rattle.surd_number.specs.declared.Sgn.TheVariants.{Neg, Zero, Pos}
use Rattle.surd_number.specs.Number.{opposite_sign}
use Rattle.plane_geometry.specs.declared.Point.{Point}
use Rattle.plane_geometry.specs.DirView.{dir_number}
use Rattle.plane_geometry.specs.Position.{Position, position_of}
use Rattle.plane_geometry.specs.Direction.{side_of, is_negative, is_along, opposite_number, turn_sign}
use Rattle.plane_geometry.specs.SideLaws.{side_from, side_turned}
use Rattle.plane_geometry.specs.DirectionLaws.{along_parts}
use Rattle.plane_geometry.specs.CommonPointLaws.{turn_turned}
use Rattle.plane_geometry.specs.Polygon.{side_number, turn_of}
use Rattle.plane_geometry.specs.SegmentView.{direction_number}
use Rattle.crease_model.specs.Rules.{IsPattern}
use Rattle.crease_model.specs.Sheet.{is_sheet}
use Rattle.crease_model.specs.View.{PatternView}
use Rattle.line_split.specs.MemberLaws.{Member}
use Rattle.face_builder.specs.declared.half_edges.HalfEdge.{HalfEdge}
use Rattle.face_builder.specs.Fan.{interior_angle}
use Rattle.face_builder.specs.HalfEdge.{forward, backward, both_ways, border_parts, all_half_edges}
use Rattle.face_builder.proofs.Apart.{IsBack, moves}
use Rattle.face_builder.proofs.AtBorder.{IsBorder, border_is, way_left, end_within}
use Rattle.face_builder.proofs.Border.{Runs}
use Rattle.face_builder.proofs.Chains.{member_left, member_right, member_either}
use Rattle.face_builder.proofs.Corners.{after_of, parallel_line, opposite_turn}
use Rattle.face_builder.proofs.Departures.{IsPieceWay, as_way, way_of, few_of, side_same, parts_end_once, depart_once}
use Rattle.face_builder.proofs.Nexts.{GoesOn}
use Rattle.face_builder.proofs.Sheets.{turn_few, turn_many, sheet_facts}
use Rattle.face_builder.proofs.Sides.{border_leads, way_is}

-- ---- what a sign says of a turn

few_dir : (h : HalfEdge) → dir_number h.dir < 16
few_dir h = omega (arith, h.dir.in_range)

zero_turn : (n m : ℕ) → n < 16 → m < 16 → turn_sign n m ≡ Zero → (turn_of n m ≡ 0) ⊎ (turn_of n m ≡ 8)
zero_turn n m few_n few_m e =
    let t = turn_of n m in
    let at : m ≡ (n + t) % 16 = omega (arith, few_n, few_m) in
    elim (cases_eq t 0) [
      | inl none ↦ inl none
      | inr some ↦
          (elim (cases_eq t 8) [
            | inl eight ↦ inr eight
            | inr other ↦
                (elim (cases_lt t 8) [
                  | inl less ↦ absurd
                      (pos_zero (sym (turn_few n m t few_n few_m at (omega (arith, some)) less) ∙ e))
                  | inr more ↦ absurd
                      (neg_zero
                      (sym (turn_many n m t few_n few_m at (omega (arith, more, other)) (omega arith)) ∙ e))
                ])
          ])
    ]
  where
    pos_zero : Pos ≡ Zero → ⊥
    pos_zero e = cc

    neg_zero : Neg ≡ Zero → ⊥
    neg_zero e = cc

pos_turn : (n m : ℕ) (u v : Position) → n < 16 → m < 16 → is_along m u v ≡ true → turn_sign n m ≡ Pos
    → (0 < turn_of n m) × (turn_of n m < 8)
pos_turn n m u v few_n few_m along e =
    let t = turn_of n m in
    let at : m ≡ (n + t) % 16 = omega (arith, few_n, few_m) in
    elim (cases_lt t 8) [
      | inl less ↦
          (elim (cases_eq t 0) [
            | inl none ↦
                (let same : n ≡ m = omega (arith, at, none, few_n, few_m) in
                let turn : turn_sign n m ≡ Zero = sym (moves n m u v along) ∙ ap (λ k. side_of u k v) same
                ∙ (along_parts m u v along).0 in
                absurd (zero_pos (sym turn ∙ e)))
            | inr some ↦ (omega (arith, some), less)
          ])
      | inr more ↦
          (elim (cases_eq t 8) [
            | inl eight ↦
                (let opposite : n ≡ opposite_number m = omega (arith, at, eight, few_n, few_m) in
                let turn : turn_sign n m ≡ Zero =
                subst (λ k. turn_sign k m ≡ Zero) (sym opposite) (opposite_turn m u v few_m along) in
                absurd (zero_pos (sym turn ∙ e)))
            | inr other ↦ absurd
                (neg_pos (sym (turn_many n m t few_n few_m at (omega (arith, more, other)) (omega arith))
                ∙ e))
          ])
    ]
  where
    zero_pos : Zero ≡ Pos → ⊥
    zero_pos e = cc

    neg_pos : Neg ≡ Pos → ⊥
    neg_pos e = cc

-- neither turns left of the other
neither_left : (s : Sgn) → is_negative (opposite_sign s) ≡ false → is_negative s ≡ false → s ≡ Zero
neither_left Neg e f = absurd (true≢false f)
neither_left Zero e f = refl
neither_left Pos e f = absurd (true≢false e)

-- ---- angles around a vertex

-- two arrivals with one next half-edge, where each one's reverse leaves too
same_arrival : (g h e : ℕ) → g < 16 → h < 16 → e < 16 → interior_angle g e
    ≤ interior_angle g (opposite_number h)
    → interior_angle h e ≤ interior_angle h (opposite_number g) → g ≡ h
same_arrival g h e a b c f k = omega (arith, a, b, c, f, k)

-- the border arrives by g, and leaves by b; a piece leaves by o strictly left of both, and arrives by h
pub not_border_and_piece : (g b h o e : ℕ) → g < 16 → b < 16 → h < 16 → e < 16 → o ≡ opposite_number h
    → 0 < turn_of g o → turn_of g o < 8 → 0 < turn_of b o → turn_of b o < 8
    → interior_angle g e ≤ interior_angle g o → interior_angle h e ≤ interior_angle h b → ⊥
not_border_and_piece g b h o e few_g few_b few_h few_e back x y z w f k =
    absurd (omega (arith, few_g, few_b, few_h, few_e, back, x, y, z, w, f, k))

-- ---- in a pattern

module _ (p : PatternView) (sheet : is_sheet p.corners ≡ true) (rules : IsPattern p)
    (hs : List HalfEdge) (from : (h : HalfEdge) → Member hs h → Member (all_half_edges p) h)
    (to : (h : HalfEdge) → Member (all_half_edges p) h → Member hs h)
    (runs : (h : HalfEdge) → Member hs h → Runs h) where
  abbrev Way : HalfEdge → Type 0
  Way h = IsPieceWay p sheet rules h

  abbrev Border : HalfEdge → Type 0
  Border h = IsBorder p sheet rules h

  -- a piece leaves again where it arrives
  record HasReverse (h : HalfEdge) : Type 0 where
    back : HalfEdge
    member : Member hs back
    is_way : Way back
    is_back : IsBack h back

  reverse_of : (h : HalfEdge) → Member (both_ways 1 p.pieces) h → HasReverse h
  reverse_of h m =
      let r = way_is 1 p.pieces h m in
      let forth_in = r.4 in
      let back_in = r.5 in
      let few : direction_number r.1.segment < 16 = omega (arith, r.1.segment.dir.in_range) in
      elim r.3 [
        | inl at ↦
            record {
              back = backward r.0 r.1;
              member = to (backward r.0 r.1)
                  (member_left (both_ways 1 p.pieces) (border_parts p.corners p.pieces)
                  (backward r.0 r.1) back_in);
              is_way = way_of p sheet rules (backward r.0 r.1) back_in;
              is_back = record {
                start = sym (ap (λ (k : HalfEdge). k.end) at);
                end = sym (ap (λ (k : HalfEdge). k.start) at);
                dir = let d = ap (λ (k : HalfEdge). dir_number k.dir) at in omega (arith, d);
              };
            }
        | inr at ↦
            record {
              back = forward r.0 r.1;
              member = to (forward r.0 r.1)
                  (member_left (both_ways 1 p.pieces) (border_parts p.corners p.pieces)
                  (forward r.0 r.1) forth_in);
              is_way = way_of p sheet rules (forward r.0 r.1) forth_in;
              is_back = record {
                start = sym (ap (λ (k : HalfEdge). k.end) at);
                end = sym (ap (λ (k : HalfEdge). k.start) at);
                dir = let d = ap (λ (k : HalfEdge). dir_number k.dir) at in omega (arith, d, few);
              };
            }
      ]

  -- two pieces
  ways_arrive : (g h e : HalfEdge) → Member hs g → Member hs h → Way g → Way h → HasReverse g → HasReverse h
      → GoesOn hs g e → GoesOn hs h e → g ≡ h
  ways_arrive g h e m n v w r s x y =
      let joined : g.end ≡ h.end = sym x.joined ∙ y.joined in
      let first : interior_angle (dir_number g.dir) (dir_number e.dir)
      ≤ interior_angle (dir_number g.dir) (opposite_number (dir_number h.dir)) =
      subst (λ k. interior_angle (dir_number g.dir) (dir_number e.dir)
      ≤ interior_angle (dir_number g.dir) k) s.is_back.dir
      (x.nearest s.back s.member (s.is_back.start ∙ sym joined)) in
      let second : interior_angle (dir_number h.dir) (dir_number e.dir)
      ≤ interior_angle (dir_number h.dir) (opposite_number (dir_number g.dir)) =
      subst (λ k. interior_angle (dir_number h.dir) (dir_number e.dir)
      ≤ interior_angle (dir_number h.dir) k) r.is_back.dir
      (y.nearest r.back r.member (r.is_back.start ∙ joined)) in
      let dir : dir_number g.dir ≡ dir_number h.dir =
      same_arrival (dir_number g.dir) (dir_number h.dir) (dir_number e.dir) (few_dir g) (few_dir h)
      (few_dir e) first second in
      let turned : dir_number r.back.dir ≡ dir_number s.back.dir = r.is_back.dir ∙ ap opposite_number dir
      ∙ sym s.is_back.dir in
      let one : r.back ≡ s.back =
      depart_once p sheet rules r.back s.back (inl r.is_way) (inl s.is_way) (runs r.back r.member)
      (runs s.back s.member)
      (r.is_back.start ∙ joined ∙ sym s.is_back.start) turned in
      depart_once p sheet rules g h (inl v) (inl w) (runs g m) (runs h n)
      (sym r.is_back.end ∙ ap (λ (k : HalfEdge). k.end) one ∙ s.is_back.end) dir

  -- the border and a piece
  border_and_way : (g h e : HalfEdge) → Member (border_parts p.corners p.pieces) g → HasReverse h
      → Member hs h → GoesOn hs g e → GoesOn hs h e → ⊥
  border_and_way g h e m r n x y =
      let joined : g.end ≡ h.end = sym x.joined ∙ y.joined in
      let arrive = border_is p sheet rules g m in
      let exit = border_leads p.corners p.pieces g m in
      let b = exit.0 in
      let leave = border_is p sheet rules b exit.1 in
      let b_in : Member hs b =
      to b (member_right (both_ways 1 p.pieces) (border_parts p.corners p.pieces) b exit.1) in
      let back_runs = runs r.back r.member in
      let at_arrive : side_of (position_of arrive.side.start) (side_number arrive.side)
      (position_of r.back.start) ≡ Zero =
      ap (λ (q : Point). side_of (position_of arrive.side.start) (side_number arrive.side) (position_of q))
      (r.is_back.start ∙ sym joined) ∙ arrive.end_on in
      let at_leave : side_of (position_of leave.side.start) (side_number leave.side)
      (position_of r.back.start) ≡ Zero =
      ap (λ (q : Point). side_of (position_of leave.side.start) (side_number leave.side) (position_of q))
      (r.is_back.start ∙ sym joined ∙ sym exit.2) ∙ leave.start_on in
      let left_arrive =
      way_left p sheet rules r.back
      (as_way p sheet rules r.back r.is_way) back_runs arrive.side arrive.member at_arrive in
      let left_leave =
      way_left p sheet rules r.back
      (as_way p sheet rules r.back r.is_way) back_runs leave.side leave.member at_leave in
      let few_arrive = (few_of p sheet rules arrive.side arrive.member).1 in
      let few_leave = (few_of p sheet rules leave.side leave.member).1 in
      let u = position_of r.back.start in
      let v = position_of r.back.end in
      let t = pos_turn (side_number arrive.side) (dir_number r.back.dir) u v few_arrive
      (few_dir r.back) back_runs left_arrive in
      let w = pos_turn (side_number leave.side) (dir_number r.back.dir) u v few_leave
      (few_dir r.back) back_runs left_leave in
      not_border_and_piece (dir_number g.dir) (dir_number b.dir) (dir_number h.dir) (dir_number r.back.dir)
      (dir_number e.dir)
      (few_dir g) (few_dir b) (few_dir h) (few_dir e) r.is_back.dir
      (subst (λ k. 0 < turn_of k (dir_number r.back.dir)) (sym arrive.dir) t.0)
      (subst (λ k. turn_of k (dir_number r.back.dir) < 8) (sym arrive.dir) t.1)
      (subst (λ k. 0 < turn_of k (dir_number r.back.dir)) (sym leave.dir) w.0)
      (subst (λ k. turn_of k (dir_number r.back.dir) < 8) (sym leave.dir) w.1)
      (x.nearest r.back r.member (r.is_back.start ∙ sym joined)) (y.nearest b b_in (exit.2 ∙ joined))

  -- of two parts of the border that end in one point, neither side turns right of the other
  not_right_turn : (g h : HalfEdge) → (b : Border g) → (d : Border h) → Runs h → g.end ≡ h.end
      → is_negative (opposite_sign (turn_sign (side_number b.side) (side_number d.side))) ≡ false
  not_right_turn g h b d run joined =
      let n = side_number b.side in
      let u = position_of b.side.start in
      let v = position_of h.end in
      let q = position_of h.start in
      let on : side_of u n v ≡ Zero = ap (λ (z : Point). side_of u n (position_of z)) (sym joined)
      ∙ b.end_on in
      let moved : side_of q n v ≡ turn_sign n (side_number d.side) = moves n (dir_number h.dir) q v run
      ∙ ap (turn_sign n) d.dir in
      sym (ap is_negative (side_from u n v q on ∙ side_turned q n v ∙ ap opposite_sign moved))
      ∙ d.start_in b.side b.member

  -- the sides through one point are not opposite
  not_opposite_sides : (g h : HalfEdge) → (b : Border g) → (d : Border h) → g.end ≡ h.end
      → turn_of (side_number b.side) (side_number d.side) ≡ 8
      → turn_sign (side_number d.side) (side_number b.side) ≡ Zero → ⊥
  not_opposite_sides g h b d joined eight parallel =
      let s = b.side in
      let t = d.side in
      let n = side_number s in
      let k = side_number t in
      let next = after_of p.corners (sheet_facts p.corners sheet).turns s b.member in
      let l = side_number next.after in
      let run = few_of p sheet rules next.after next.member in
      let few_n = (few_of p sheet rules s b.member).1 in
      let few_k = (few_of p sheet rules t d.member).1 in
      let left = and_parts _ _ next.left in
      let some : 1 ≤ turn_of n l = leb-true 1 (turn_of n l) left.0 in
      let most : turn_of n l ≤ 7 = leb-true (turn_of n l) 7 left.1 in
      let v = position_of g.end in
      let c = position_of s.end in
      let e = position_of next.after.end in
      let on_side : side_of (position_of s.start) n c ≡ Zero =
      (along_parts n (position_of s.start) c (few_of p sheet rules s b.member).0).0 in
      let in_line : side_of v n c ≡ Zero = sym (side_from (position_of s.start) n v c b.end_on) ∙ on_side in
      let in_other : side_of v k c ≡ Zero = parallel_line k n v c parallel in_line in
      let t_on : side_of (position_of t.start) k v ≡ Zero =
      ap (λ (z : Point). side_of (position_of t.start) k (position_of z)) joined ∙ d.end_on in
      let step : side_of c k e ≡ turn_sign k l =
      ap (λ (z : Point). side_of (position_of z) k e) (sym next.joined)
      ∙ moves k l (position_of next.after.start) e run.0 in
      let turned : turn_sign k l ≡ Neg =
      turn_many k l (8 + turn_of n l) few_k run.1 (omega (arith, eight, few_n, few_k, run.1))
      (omega (arith, some)) (omega (arith, most)) in
      let reach : side_of (position_of t.start) k e ≡ Neg = side_from (position_of t.start) k v e t_on
      ∙ side_from v k c e in_other ∙ step ∙ turned in
      true≢false (sym (ap is_negative reach) ∙ end_within p sheet rules next.after next.member t d.member)

  borders_arrive : (g h : HalfEdge) → Border g → Border h → Runs g → Runs h → g.end ≡ h.end → g ≡ h
  borders_arrive g h b d run_g run_h joined =
      let n = side_number b.side in
      let k = side_number d.side in
      let one = not_right_turn g h b d run_h joined in
      let other = not_right_turn h g d b run_g (sym joined) in
      let flat : turn_sign n k ≡ Zero =
      neither_left (turn_sign n k) one (ap is_negative (turn_turned k n) ∙ other) in
      let back : turn_sign k n ≡ Zero = turn_turned n k ∙ ap opposite_sign flat in
      let few_n = (few_of p sheet rules b.side b.member).1 in
      let few_k = (few_of p sheet rules d.side d.member).1 in
      elim (zero_turn n k few_n few_k flat) [
        | inl none ↦
            parts_end_once p sheet rules g h b d
            (side_same p sheet rules b.side d.side b.member d.member (omega (arith, none, few_n, few_k)))
            joined
        | inr eight ↦ absurd (not_opposite_sides g h b d joined eight back)
      ]

  -- what goes on to one half-edge is one half-edge
  pub arrive_once : (g h e : HalfEdge) → Member hs g → Member hs h → GoesOn hs g e → GoesOn hs h e → g ≡ h
  arrive_once g h e m n x y =
      elim (member_either (both_ways 1 p.pieces) (border_parts p.corners p.pieces) g (from g m)) [
        | inl way_g ↦
            (elim (member_either (both_ways 1 p.pieces) (border_parts p.corners p.pieces) h (from h n)) [
              | inl way_h ↦
                  ways_arrive g h e m n (way_of p sheet rules g way_g) (way_of p sheet rules h way_h)
                  (reverse_of g way_g) (reverse_of h way_h) x y
              | inr border_h ↦ absurd (border_and_way h g e border_h (reverse_of g way_g) m y x)
            ])
        | inr border_g ↦
            (elim (member_either (both_ways 1 p.pieces) (border_parts p.corners p.pieces) h (from h n)) [
              | inl way_h ↦ absurd (border_and_way g h e border_g (reverse_of h way_h) n x y)
              | inr border_h ↦
                  borders_arrive g h (border_is p sheet rules g border_g) (border_is p sheet rules h border_h)
                  (runs g m) (runs h n)
                  (sym x.joined ∙ y.joined)
            ])
      ]
