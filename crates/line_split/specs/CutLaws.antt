-- The cut points are the points where the segment is cut, and they ascend.
use Rattle.std.proofs.Common.{◌≡◌, ℕ, ◌+◌, Bool, true, false, not, ◌&&◌, ◌||◌, cond, ◌⊎◌, inl, inr, List, [], ◌∷◌, refl, sym, subst, arith}
use Rattle.std.specs.Prelude.{Contains, Option, None, Some, Ok}
use Rattle.std.proofs.lemmas.Bool.{and_parts, and_from, or_cases, or_left, or_right, not-true, not_from_false, both_ways, cond-true, cond_both}
use Rattle.surd_number.specs.declared.Sgn.TheVariants.{Zero}
use Rattle.plane_geometry.specs.declared.Point.{Point}
use Rattle.plane_geometry.specs.declared.Segment.{Segment}
use Rattle.plane_geometry.specs.Position.{Position, position_of}
use Rattle.plane_geometry.specs.SegmentView.{stretch_of, lesser_end, greater_end}
use Rattle.plane_geometry.specs.Stretch.{Stretch, is_end, is_on, is_between, is_touching}
use Rattle.plane_geometry.specs.Common.{is_parallel, common_of}
use Rattle.plane_geometry.specs.SideLaws.{order_of}
use Rattle.plane_geometry.specs.StretchLaws.{turned_zero, on_parts, on_from_parts, end_parts, from_end, to_end}
use Rattle.plane_geometry.specs.CommonPointLaws.{lies_same, end_same, touching_is}
use Rattle.plane_geometry.specs.CommonLaws.{common_only}
use Rattle.crease_model.specs.declared.Piece.{Piece}
use Rattle.line_split.specs.MemberLaws.{Member, member, contained, any_member, member_any}
use Rattle.line_split.specs.Points.{is_rising, with_point}
use Rattle.line_split.specs.Cuts.{is_meeting_point, is_cut, with_point_on, with_ends, is_meeting, with_common, with_meeting, with_piece_cuts, points_or, cuts_from, cuts_of}
use Rattle.line_split.specs.PointLaws.{with_point_new, with_point_old, with_point_either, with_point_rising}

-- ---- where one segment cuts another

-- why u cuts s at v
data CutBy (s u : Stretch) (v : Position) : Type 0 where
  at_end : is_on v s ≡ true → is_end v u ≡ true → CutBy s u v
  at_meeting : is_on v s ≡ true → is_on v u ≡ true → is_parallel s u ≡ false → CutBy s u v

abbrev is_cut_by : Stretch → Position → Piece → Bool
is_cut_by s v p = is_end v (stretch_of p.segment) || is_meeting_point v s (stretch_of p.segment)

cut_from_test : (s : Stretch) (v : Position) (p : Piece) → is_on v s ≡ true → is_cut_by s v p ≡ true
    → CutBy s (stretch_of p.segment) v
cut_from_test s v p on e =
    elim (or_cases (is_end v (stretch_of p.segment)) (is_meeting_point v s (stretch_of p.segment)) e) [
      | inl l ↦ at_end on l
      | inr r ↦
          (let k = and_parts (is_on v s && is_on v (stretch_of p.segment))
          (not (is_parallel s (stretch_of p.segment))) r in
          at_meeting on (and_parts (is_on v s) (is_on v (stretch_of p.segment)) k.0).1 (not-true _ k.1))
    ]

cut_on : (s u : Stretch) (v : Position) → CutBy s u v → is_on v s ≡ true
cut_on s u v (at_end on e) = on
cut_on s u v (at_meeting on on_u turned) = on

cut_test : (s : Stretch) (v : Position) (p : Piece) → CutBy s (stretch_of p.segment) v
    → is_cut_by s v p ≡ true
cut_test s v p (at_end on e) =
    or_left (is_end v (stretch_of p.segment)) (is_meeting_point v s (stretch_of p.segment)) e
cut_test s v p (at_meeting on on_u turned) =
    or_right (is_end v (stretch_of p.segment)) (is_meeting_point v s (stretch_of p.segment))
    (and_from (is_on v s && is_on v (stretch_of p.segment)) _
    (and_from (is_on v s) (is_on v (stretch_of p.segment)) on on_u) (not_from_false _ turned))

-- a point in the place of one on s is on it
on_same : (s : Segment) (v w : Position) → order_of v w ≡ Zero → is_on v (stretch_of s) ≡ true
    → is_on w (stretch_of s) ≡ true
on_same s v w e on =
    on_from_parts w (stretch_of s) s.stretch
    (lies_same v w (stretch_of s) e (on_parts v (stretch_of s) s.stretch on))

-- ---- with a point that is on s

module _ (s : Stretch) (xs : List Point) (v : Point) where
  on_rising : is_rising xs ≡ true → is_rising (with_point_on s xs v) ≡ true
  on_rising up =
      cond_both (is_on (position_of v) s) (with_point xs v) xs (λ ys. is_rising ys ≡ true)
      (λ e. with_point_rising xs v up) (λ e. up)

  on_old : (z : Point) → Member xs z → Member (with_point_on s xs v) z
  on_old z m =
      cond_both (is_on (position_of v) s) (with_point xs v) xs (λ ys. Member ys z)
      (λ e. with_point_old xs v z m) (λ e. m)

  on_new : is_on (position_of v) s ≡ true → Member (with_point_on s xs v) v
  on_new e =
      subst (λ ys. Member ys v) (sym (cond-true (is_on (position_of v) s) (with_point xs v) xs e))
      (with_point_new xs v)

  on_either : (z : Point) → Member (with_point_on s xs v) z → ((v ≡ z) × (is_on (position_of v) s ≡ true))
      ⊎ Member xs z
  on_either z =
      cond_both (is_on (position_of v) s) (with_point xs v) xs
      (λ ys. Member ys z → ((v ≡ z) × (is_on (position_of v) s ≡ true)) ⊎ Member xs z)
      (λ e m. elim (with_point_either xs v z m) [ inl f ↦ inl (f, e) | inr n ↦ inr n ])
      (λ e m. inr m)

-- ---- with the points at one piece

-- what is added where s and u may meet
data Met (s u : Stretch) (xs all : List Point) : Type 0 where
  apart : is_meeting s u ≡ false → xs ≡ all → Met s u xs all
  met : (p : Point) → is_meeting s u ≡ true → common_of s u ≡ Some p → with_point xs p ≡ all → Met s u xs all

met_by : (s u : Stretch) (xs all : List Point) → with_meeting s xs u ≡ Some all → Met s u xs all
met_by s u xs all = go (is_meeting s u) (common_of s u) refl refl
  where
    go : (b : Bool) (o : Option Point) → is_meeting s u ≡ b → common_of s u ≡ o
        → cond b (with_common xs o) (Some xs) ≡ Some all → Met s u xs all
    go false o f g e = apart f (cc)
    go true None f g e = absurd (cc)
    go true (Some p) f g e = met p f g (cc)

-- where two segments meet, their common point is on both
pub common_is_on : (s u : Segment) (p : Point) → is_meeting (stretch_of s) (stretch_of u) ≡ true
    → common_of (stretch_of s) (stretch_of u) ≡ Some p → (is_on (position_of p) (stretch_of s) ≡ true)
    × (is_on (position_of p) (stretch_of u) ≡ true)
common_is_on s u p e f =
    let k = and_parts (not (is_parallel (stretch_of s) (stretch_of u)))
    (is_touching (stretch_of s) (stretch_of u)) e in
    let turned = not-true _ k.0 in
    let w = (touching_is (stretch_of s) (stretch_of u) s.stretch u.stretch).0 k.1 in
    let same = common_only (stretch_of s) (stretch_of u) (omega (arith, s.dir.in_range))
    (omega (arith, u.dir.in_range)) turned p f w.0 (
      (on_parts w.0 (stretch_of s) s.stretch w.1).in_line,
      (on_parts w.0 (stretch_of u) u.stretch w.2).in_line,
    ) in
    (on_same s w.0 (position_of p) same w.1, on_same u w.0 (position_of p) same w.2)

cut_at_common : (s u : Segment) (p : Point) → is_meeting (stretch_of s) (stretch_of u) ≡ true
    → common_of (stretch_of s) (stretch_of u) ≡ Some p → CutBy (stretch_of s) (stretch_of u) (position_of p)
cut_at_common s u p e f =
    let on = common_is_on s u p e f in
    at_meeting on.0 on.1 (not-true _
    (and_parts (not (is_parallel (stretch_of s) (stretch_of u))) (is_touching (stretch_of s) (stretch_of u))
    e).0)

module _ (s u : Segment) (xs all : List Point) (cuts : with_piece_cuts (stretch_of s) xs u ≡ Some all) where
  parts : Met (stretch_of s) (stretch_of u) (with_ends (stretch_of s) xs u) all
  parts = met_by (stretch_of s) (stretch_of u) (with_ends (stretch_of s) xs u) all cuts

  step_rising : is_rising xs ≡ true → is_rising all ≡ true
  step_rising up =
      let ends = on_rising (stretch_of s) (with_point_on (stretch_of s) xs (lesser_end u)) (greater_end u)
      (on_rising (stretch_of s) xs (lesser_end u) up) in
      elim parts [
        | apart f g ↦ subst (λ ys. is_rising ys ≡ true) g ends
        | met p f g k ↦
            subst (λ ys. is_rising ys ≡ true) k (with_point_rising (with_ends (stretch_of s) xs u) p ends)
      ]

  with_ends_old : (z : Point) → Member (with_ends (stretch_of s) xs u) z → Member all z
  with_ends_old z m =
      elim parts [
        | apart f g ↦ subst (λ ys. Member ys z) g m
        | met p f g k ↦ subst (λ ys. Member ys z) k (with_point_old (with_ends (stretch_of s) xs u) p z m)
      ]

  step_old : (z : Point) → Member xs z → Member all z
  step_old z m =
      with_ends_old z (on_old (stretch_of s) (with_point_on (stretch_of s) xs (lesser_end u)) (greater_end u)
      z (on_old (stretch_of s) xs (lesser_end u) z m))

  -- each new point is where u cuts s
  step_cut : (z : Point) → Member all z → Member xs z ⊎ CutBy (stretch_of s) (stretch_of u) (position_of z)
  step_cut z m =
      elim parts [
        | apart f g ↦ by_ends (subst (λ ys. Member ys z) (sym g) m)
        | met p f g k ↦
            elim (with_point_either (with_ends (stretch_of s) xs u) p z
            (subst (λ ys. Member ys z) (sym k) m)) [
              | inl e ↦
                  inr (subst (λ (t : Point). CutBy (stretch_of s) (stretch_of u) (position_of t)) e
                  (cut_at_common s u p f g))
              | inr n ↦ by_ends n
            ]
      ]
    where
      by_end : (v : Point) → is_end (position_of v) (stretch_of u) ≡ true → (v ≡ z)
          × (is_on (position_of v) (stretch_of s) ≡ true)
          → CutBy (stretch_of s) (stretch_of u) (position_of z)
      by_end v e w =
          subst (λ (t : Point). CutBy (stretch_of s) (stretch_of u) (position_of t)) w.0 (at_end w.1 e)

      by_ends : Member (with_ends (stretch_of s) xs u) z → Member xs z
          ⊎ CutBy (stretch_of s) (stretch_of u) (position_of z)
      by_ends m =
          elim (on_either (stretch_of s) (with_point_on (stretch_of s) xs (lesser_end u)) (greater_end u)
          z m) [
            | inl w ↦ inr (by_end (greater_end u) (to_end (stretch_of u)) w)
            | inr n ↦ elim (on_either (stretch_of s) xs (lesser_end u) z n) [
              | inl w ↦ inr (by_end (lesser_end u) (from_end (stretch_of u)) w)
              | inr k ↦ inl k
            ]
          ]

  -- each point where u cuts s is there
  step_all : (v : Position) → CutBy (stretch_of s) (stretch_of u) v → (z : Point) × Member all z
      × (order_of v (position_of z) ≡ Zero)
  step_all v (at_end on e) =
      elim (end_parts v (stretch_of u) e) [
        | inl l ↦
            (let same = turned_zero (stretch_of u).from v l in (
              lesser_end u,
              with_ends_old (lesser_end u)
                  (on_old (stretch_of s) (with_point_on (stretch_of s) xs (lesser_end u)) (greater_end u)
                  (lesser_end u) (on_new (stretch_of s) xs (lesser_end u)
                  (on_same s v (stretch_of u).from same on))),
              same,
            ))
        | inr r ↦ (
          greater_end u,
          with_ends_old (greater_end u)
              (on_new (stretch_of s) (with_point_on (stretch_of s) xs (lesser_end u)) (greater_end u)
              (on_same s v (stretch_of u).to r on)),
          r,
        )
      ]
  step_all v (at_meeting on on_u turned) =
      let touching = (touching_is (stretch_of s) (stretch_of u) s.stretch u.stretch).1 (v, on, on_u) in
      let meeting = and_from (not (is_parallel (stretch_of s) (stretch_of u))) _ (not_from_false _ turned)
      touching in
      elim parts [
        | apart f g ↦ absurd (both_ways (is_meeting (stretch_of s) (stretch_of u)) f meeting)
        | met p f g k ↦ (
          p,
          subst (λ ys. Member ys p) k (with_point_new (with_ends (stretch_of s) xs u) p),
          common_only (stretch_of s) (stretch_of u) (omega (arith, s.dir.in_range))
              (omega (arith, u.dir.in_range)) turned p g v (
                (on_parts v (stretch_of s) s.stretch on).in_line,
                (on_parts v (stretch_of u) u.stretch on_u).in_line,
              ),
        )
      ]

-- ---- with the points at each piece

module _ (s : Segment) (ys : List Point) where
  next_cuts : (n : ℕ) (p : Piece) (ps : List Piece) (xs : List Point)
      → cuts_from (stretch_of s) n (p ∷ ps) xs ≡ Ok ys → (all : List Point)
      × (with_piece_cuts (stretch_of s) xs p.segment ≡ Some all)
      × (cuts_from (stretch_of s) (n + 1) ps all ≡ Ok ys)
  next_cuts n p ps xs = go (with_piece_cuts (stretch_of s) xs p.segment) refl
    where
      go : (o : Option (List Point)) → with_piece_cuts (stretch_of s) xs p.segment ≡ o
          → points_or n o (cuts_from (stretch_of s) (n + 1) ps) ≡ Ok ys → (all : List Point)
          × (with_piece_cuts (stretch_of s) xs p.segment ≡ Some all)
          × (cuts_from (stretch_of s) (n + 1) ps all ≡ Ok ys)
      go None f e = absurd (cc)
      go (Some all) f e = (all, f, e)

  from_rising : (n : ℕ) (ps : List Piece) (xs : List Point) → cuts_from (stretch_of s) n ps xs ≡ Ok ys
      → is_rising xs ≡ true → is_rising ys ≡ true
  from_rising n [] xs e up = let same : xs ≡ ys = cc in subst (λ zs. is_rising zs ≡ true) same up
  from_rising n (p ∷ ps) xs e up =
      let next = next_cuts n p ps xs e in
      from_rising (n + 1) ps next.0 next.2 (step_rising s p.segment xs next.0 next.1 up)

  from_old : (n : ℕ) (ps : List Piece) (xs : List Point) → cuts_from (stretch_of s) n ps xs ≡ Ok ys
      → (z : Point) → Member xs z → Member ys z
  from_old n [] xs e z m = let same : xs ≡ ys = cc in subst (λ zs. Member zs z) same m
  from_old n (p ∷ ps) xs e z m =
      let next = next_cuts n p ps xs e in
      from_old (n + 1) ps next.0 next.2 z (step_old s p.segment xs next.0 next.1 z m)

  -- each new point is where some piece cuts s
  from_cut : (n : ℕ) (ps : List Piece) (xs : List Point) → cuts_from (stretch_of s) n ps xs ≡ Ok ys
      → (z : Point) → Member ys z → Member xs z
      ⊎ ((p : Piece) × Member ps p × CutBy (stretch_of s) (stretch_of p.segment) (position_of z))
  from_cut n [] xs e z m = let same : xs ≡ ys = cc in inl (subst (λ zs. Member zs z) (sym same) m)
  from_cut n (p ∷ ps) xs e z m =
      let next = next_cuts n p ps xs e in
      elim (from_cut (n + 1) ps next.0 next.2 z m) [
        | inl k ↦
            elim (step_cut s p.segment xs next.0 next.1 z k)
            [ inl old ↦ inl old | inr c ↦ inr (p, inl refl, c) ]
        | inr w ↦ inr (w.0, inr w.1, w.2)
      ]

  -- each point where a piece cuts s is there
  from_all : (n : ℕ) (ps : List Piece) (xs : List Point) → cuts_from (stretch_of s) n ps xs ≡ Ok ys
      → (p : Piece) → Member ps p → (v : Position) → CutBy (stretch_of s) (stretch_of p.segment) v
      → (z : Point) × Member ys z × (order_of v (position_of z) ≡ Zero)
  from_all n [] xs e p m v c = absurd m
  from_all n (r ∷ ps) xs e p (inl same) v c =
      let next = next_cuts n r ps xs e in
      let w = step_all s r.segment xs next.0 next.1 v
      (subst (λ (t : Piece). CutBy (stretch_of s) (stretch_of t.segment) v) (sym same) c) in
      (w.0, from_old (n + 1) ps next.0 next.2 w.0 w.1, w.2)
  from_all n (r ∷ ps) xs e p (inr m) v c =
      let next = next_cuts n r ps xs e in from_all (n + 1) ps next.0 next.2 p m v c

-- ---- the cut points

-- where one point is a cut, one in its place is
pub cut_same : (s : Segment) (pieces : List Piece) (v w : Position) → order_of v w ≡ Zero
    → is_cut pieces (stretch_of s) v ≡ true → is_cut pieces (stretch_of s) w ≡ true
cut_same s pieces v w same e =
    let k = and_parts (is_on v (stretch_of s)) _ e in
    let on = on_same s v w same k.0 in
    and_from (is_on w (stretch_of s)) _ on (elim (or_cases (is_end v (stretch_of s)) _ k.1) [
      | inl at ↦ or_left (is_end w (stretch_of s)) _ (end_same v w (stretch_of s) same at)
      | inr some ↦
          (let a = any_member (is_cut_by (stretch_of s) v) pieces some in
          or_right (is_end w (stretch_of s)) _
          (member_any (is_cut_by (stretch_of s) w) pieces a.0 a.1
          (cut_test (stretch_of s) w a.0 (at a.0 on (cut_from_test (stretch_of s) v a.0 k.0 a.2)))))
    ])
  where
    at : (p : Piece) → is_on w (stretch_of s) ≡ true → CutBy (stretch_of s) (stretch_of p.segment) v
        → CutBy (stretch_of s) (stretch_of p.segment) w
    at p on (at_end on_v e) = at_end on (end_same v w (stretch_of p.segment) same e)
    at p on (at_meeting on_v on_u turned) = at_meeting on (on_same p.segment v w same on_u) turned

module _ (s : Segment) (pieces : List Piece) (points : List Point) (cut : cuts_of s pieces ≡ Ok points) where
  cuts : cuts_from (stretch_of s) 1 pieces (lesser_end s ∷ greater_end s ∷ []) ≡ Ok points
  unfolding cuts_of
  cuts = cut

  end_is_cut : (v : Position) → is_end v (stretch_of s) ≡ true → is_cut pieces (stretch_of s) v ≡ true
  end_is_cut v e =
      and_from (is_on v (stretch_of s)) _ (or_left (is_end v (stretch_of s)) (is_between v (stretch_of s)) e)
      (or_left (is_end v (stretch_of s)) _ e)

  -- each is a point where s is cut
  pub cuts_are_cuts : (p : Point) → Contains points p → is_cut pieces (stretch_of s) (position_of p) ≡ true
  cuts_are_cuts p c =
      elim (from_cut s points 1 pieces (lesser_end s ∷ greater_end s ∷ []) cuts p (member points p c)) [
        | inl m ↦ elim m [
          | inl e ↦
              subst (λ (t : Point). is_cut pieces (stretch_of s) (position_of t) ≡ true) e
              (end_is_cut (stretch_of s).from (from_end (stretch_of s)))
          | inr n ↦ elim n [
            | inl e ↦
                subst (λ (t : Point). is_cut pieces (stretch_of s) (position_of t) ≡ true) e
                (end_is_cut (stretch_of s).to (to_end (stretch_of s)))
            | inr none ↦ absurd none
          ]
        ]
        | inr w ↦
            and_from (is_on (position_of p) (stretch_of s)) _
            (cut_on (stretch_of s) (stretch_of (w.0).segment) (position_of p) w.2)
            (or_right (is_end (position_of p) (stretch_of s)) _
            (member_any (is_cut_by (stretch_of s) (position_of p)) pieces w.0 w.1
            (cut_test (stretch_of s) (position_of p) w.0 w.2)))
      ]

  -- each point where s is cut is there
  pub cuts_are_all : (v : Position) → is_cut pieces (stretch_of s) v ≡ true → (p : Point) × Contains points p
      × (order_of v (position_of p) ≡ Zero)
  cuts_are_all v e =
      let k = and_parts (is_on v (stretch_of s)) _ e in
      let w = elim (or_cases (is_end v (stretch_of s)) _ k.1)
      as (λ c. (p : Point) × Member points p × (order_of v (position_of p) ≡ Zero)) [
        | inl at ↦ by_end (end_parts v (stretch_of s) at)
        | inr some ↦ (let a = any_member (is_cut_by (stretch_of s) v) pieces some in
            from_all s points 1 pieces (lesser_end s ∷ greater_end s ∷ []) cuts a.0 a.1 v
            (cut_from_test (stretch_of s) v a.0 k.0 a.2))
      ] in
      (w.0, contained points w.0 w.1, w.2)
    where
      old : (z : Point) → Member (lesser_end s ∷ greater_end s ∷ []) z → Member points z
      old = from_old s points 1 pieces (lesser_end s ∷ greater_end s ∷ []) cuts

      by_end : (order_of (stretch_of s).from v ≡ Zero) ⊎ (order_of v (stretch_of s).to ≡ Zero) → (p : Point)
          × Member points p × (order_of v (position_of p) ≡ Zero)
      by_end (inl l) = (lesser_end s, old (lesser_end s) (inl refl), turned_zero (stretch_of s).from v l)
      by_end (inr r) = (greater_end s, old (greater_end s) (inr (inl refl)), r)

  -- they ascend
  pub cuts_ascend : is_rising points ≡ true
  cuts_ascend =
      from_rising s points 1 pieces (lesser_end s ∷ greater_end s ∷ []) cuts (and_from _ _ s.stretch.0 refl)
