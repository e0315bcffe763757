-- The parts of a piece are the pieces of its kind between neighbouring points.
use Rattle.std.proofs.Common.{◌≡◌, true, false, ◌&&◌, ◌⊎◌, inl, inr, List, [], ◌∷◌, ◌++◌, refl, sym, ap, subst, ◌∙◌, arith}
use Rattle.std.specs.Prelude.{Contains}
use Rattle.std.proofs.lemmas.Bool.{and_from, or_left, or_right, false_from_ne_true, both_ways}
use Rattle.surd_number.specs.declared.Sgn.TheVariants.{Zero, Pos}
use Rattle.plane_geometry.specs.declared.Point.{Point}
use Rattle.plane_geometry.specs.declared.Segment.{Segment}
use Rattle.plane_geometry.specs.Position.{position_of}
use Rattle.plane_geometry.specs.Direction.{side_of, is_along, is_negative, is_positive}
use Rattle.plane_geometry.specs.SegmentOf.{segment_of}
use Rattle.plane_geometry.specs.SegmentView.{stretch_of, lesser_end, greater_end}
use Rattle.plane_geometry.specs.Stretch.{is_end, is_on, is_between}
use Rattle.plane_geometry.specs.DirectionLaws.{along_unique, along_from_parts}
use Rattle.plane_geometry.specs.SideLaws.{order_self, side_from}
use Rattle.plane_geometry.specs.StretchLaws.{before_is, before_then, then_before, side_self, ends_order, to_in_line, from_end, to_end}
use Rattle.plane_geometry.specs.CommonPointLaws.{LiesBetween, between_parts, between_from_parts, line_through, dot_is_order}
use Rattle.plane_geometry.specs.SegmentLaws.{segment_is, segment_of-ends}
use Rattle.crease_model.specs.declared.Kind.{Kind}
use Rattle.crease_model.specs.declared.Piece.{Piece}
use Rattle.line_split.specs.MemberLaws.{Member, member, contained, filter_member, member_filter}
use Rattle.line_split.specs.Points.{is_rising}
use Rattle.line_split.specs.Parts.{inner_points, piece_on, pieces_between, parts_of}
use Rattle.line_split.specs.Parts.{IsPartEnd, IsPart}
use Rattle.line_split.specs.PointLaws.{point_order, rising_rest, rising_next, rising_later, rising_from, filter_rising, not_before_itself, not_before_each_other}

-- ---- the segment between two points of one line

-- on the line of s
abbrev IsInLine : Segment → Point → Type 0
IsInLine s v = side_of (position_of s.from) s.dir.number (position_of v) ≡ Zero

module _ (s : Segment) (a b : Point) (a_in : IsInLine s a) (b_in : IsInLine s b)
    (up : point_order a b ≡ Pos) where
  goes_along : is_along s.dir.number (position_of a) (position_of b) ≡ true
  goes_along =
      let side = line_through (stretch_of s) (position_of a) (position_of b) a_in b_in in
      along_from_parts s.dir.number (position_of a) (position_of b) side
      (dot_is_order (stretch_of s) (position_of a) (position_of b) s.stretch side ∙ up)

  abbrev segment_to : Segment
  segment_to =
      record {
        from = a;
        to = b;
        dir = s.dir;
        stretch =
            (before_is (position_of a) (position_of b) ∙ ap is_positive up, goes_along);
      }

-- a segment with both ends on the line of s has its direction
same_direction : (s q : Segment) → IsInLine s (lesser_end q) → IsInLine s (greater_end q)
    → q.dir.number ≡ s.dir.number
same_direction s q a_in b_in =
    along_unique q.dir.number s.dir.number (position_of q.from) (position_of q.to)
    (omega (arith, q.dir.in_range)) (omega (arith, s.dir.in_range))
    q.stretch.1 (goes_along s q.from q.to a_in b_in (ends_order (stretch_of q) q.stretch))

-- ---- neighbours

-- y is the next after x among a, the points xs and b
abbrev Neighbours : Point → List Point → Point → Point → Point → Type 0
Neighbours a [] b x y = (a ≡ x) × (b ≡ y)
Neighbours a (c ∷ cs) b x y = ((a ≡ x) × (c ≡ y)) ⊎ Neighbours c cs b x y

-- a, the points xs and b ascend on the line of s
record IsRow (s : Segment) (a : Point) (xs : List Point) (b : Point) : Type 0 where
  rises : is_rising (a ∷ xs) ≡ true
  before_end : (z : Point) → Member (a ∷ xs) z → point_order z b ≡ Pos
  in_line : (z : Point) → Member (a ∷ xs) z → IsInLine s z
  end_in_line : IsInLine s b

row_rest : (s : Segment) (a c : Point) (cs : List Point) (b : Point) → IsRow s a (c ∷ cs) b → IsRow s c cs b
row_rest s a c cs b row =
    record {
      rises = rising_rest a (c ∷ cs) row.rises;
      before_end = λ z m. row.before_end z (inr m);
      in_line = λ z m. row.in_line z (inr m);
      end_in_line = row.end_in_line;
    }

-- y is after x, and none of the others is between them
record IsNext (a : Point) (xs : List Point) (b x y : Point) : Type 0 where
  from : Member (a ∷ xs) x
  to : Member xs y ⊎ (b ≡ y)
  up : point_order x y ≡ Pos
  none_between : (z : Point) → Member xs z → point_order x z ≡ Pos → point_order z y ≡ Pos → ⊥

module _ (s : Segment) (b x y : Point) where
  next_from_neighbours : (a : Point) (xs : List Point) → IsRow s a xs b → Neighbours a xs b x y
      → IsNext a xs b x y
  next_from_neighbours a [] row n =
      record {
        from = inl n.0;
        to = inr n.1;
        up =
            subst (λ (t : Point). point_order x t ≡ Pos) n.1
            (subst (λ (t : Point). point_order t b ≡ Pos) n.0 (row.before_end a (inl refl)));
        none_between = λ z m e f. absurd m;
      }
  next_from_neighbours a (c ∷ cs) row (inl n) =
      record {
        from = inl n.0;
        to = inl (inl n.1);
        up =
            subst (λ (t : Point). point_order x t ≡ Pos) n.1
            (subst (λ (t : Point). point_order t c ≡ Pos) n.0 (rising_next a c cs row.rises));
        none_between = λ z m e f.
            let g = subst (λ (t : Point). point_order z t ≡ Pos) (sym n.1) f in
            elim m [
              | inl h ↦ not_before_itself c (subst (λ (t : Point). point_order t c ≡ Pos) (sym h) g)
              | inr k ↦ not_before_each_other c z (rising_later c cs z (rising_rest a (c ∷ cs) row.rises) k) g
            ];
      }
  next_from_neighbours a (c ∷ cs) row (inr n) =
      let rest = row_rest s a c cs b row in
      let next = next_from_neighbours c cs rest n in
      record {
        from = inr next.from;
        to = elim next.to [ inl m ↦ inl (inr m) | inr e ↦ inr e ];
        up = next.up;
        none_between = λ z m e f. elim m [
          | inl h ↦
              (let g = subst (λ (t : Point). point_order x t ≡ Pos) (sym h) e in
              elim next.from [
                | inl k ↦ not_before_itself c (subst (λ (t : Point). point_order t c ≡ Pos) (sym k) g)
                | inr k ↦ not_before_each_other c x (rising_later c cs x rest.rises k) g
              ])
          | inr k ↦ next.none_between z k e f
        ];
      }

  neighbours_from_next : (a : Point) (xs : List Point) → IsRow s a xs b → IsNext a xs b x y
      → Neighbours a xs b x y
  neighbours_from_next a [] row next = (
    elim next.from [ inl e ↦ e | inr m ↦ absurd m ],
    elim next.to as (λ t. b ≡ y)
        [ inl m ↦ absurd m | inr e ↦ e ],
  )
  neighbours_from_next a (c ∷ cs) row next =
      go (neighbours_from_next c cs (row_rest s a c cs b row)) next.from next.to
    where
      rest : IsRow s c cs b
      rest = row_rest s a c cs b row

      none : (z : Point) → Member cs z → point_order x z ≡ Pos → point_order z y ≡ Pos → ⊥
      none z m = next.none_between z (inr m)

      -- c is not between a and a later point
      skipped : a ≡ x → point_order c y ≡ Pos → ⊥
      skipped e f =
          next.none_between c (inl refl)
          (subst (λ (t : Point). point_order t c ≡ Pos) e (rising_next a c cs row.rises)) f

      go : (IsNext c cs b x y → Neighbours c cs b x y) → Member (a ∷ c ∷ cs) x → Member (c ∷ cs) y ⊎ (b ≡ y)
          → Neighbours a (c ∷ cs) b x y
      go later (inl e) (inl (inl f)) = inl (e, f)
      go later (inl e) (inl (inr m)) = absurd (skipped e (rising_later c cs y rest.rises m))
      go later (inl e) (inr f) =
          absurd (skipped e (subst (λ (t : Point). point_order c t ≡ Pos) f (rest.before_end c (inl refl))))
      go later (inr (inl k)) (inl (inl f)) =
          absurd (not_before_itself c
          (subst (λ (t : Point). point_order c t ≡ Pos) (sym f)
          (subst (λ (t : Point). point_order t y ≡ Pos) (sym k) next.up)))
      go later (inr (inr k)) (inl (inl f)) =
          absurd (not_before_each_other c x (rising_later c cs x rest.rises k)
          (subst (λ (t : Point). point_order x t ≡ Pos) (sym f) next.up))
      go later (inr k) (inl (inr m)) =
          inr (later (record { from = k; to = inl m; up = next.up; none_between = none }))
      go later (inr k) (inr f) =
          inr (later (record { from = k; to = inr f; up = next.up; none_between = none }))

-- ---- the pieces between neighbours

module _ (s : Segment) (kind : Kind) (a c : Point) (a_in : IsInLine s a) (c_in : IsInLine s c)
    (up : point_order a c ≡ Pos) where
  abbrev piece_to : Piece
  piece_to = record { kind = kind; segment = segment_to s a c a_in c_in up }

  piece_found : piece_on kind (segment_of a c) ≡ piece_to ∷ []
  piece_found = ap (piece_on kind) (segment_of-ends (segment_to s a c a_in c_in up))

  piece_parts : (q : Piece) → piece_to ≡ q → (q.kind ≡ kind) × (a ≡ lesser_end q.segment)
      × (c ≡ greater_end q.segment)
  piece_parts q e = (
    ap (λ (t : Piece). t.kind) (sym e),
    ap (λ (t : Piece). lesser_end t.segment) e,
    ap (λ (t : Piece). greater_end t.segment) e,
  )

  piece_is : (q : Piece) → q.kind ≡ kind → a ≡ lesser_end q.segment → c ≡ greater_end q.segment → piece_to ≡ q
  piece_is q e f g =
      let same = segment_is (segment_to s a c a_in c_in up) q.segment f g in
      λ i. record { kind = sym e i; segment = same i }

module _ (s : Segment) (kind : Kind) (b : Point) where
  neighbours_from_piece : (a : Point) (xs : List Point) → IsRow s a xs b → (q : Piece)
      → Member (pieces_between kind a xs b) q → (q.kind ≡ kind)
      × Neighbours a xs b (lesser_end q.segment) (greater_end q.segment)
  neighbours_from_piece a [] row q m =
      let a_in = row.in_line a (inl refl) in
      let up = row.before_end a (inl refl) in
      elim (subst (λ ys. Member ys q) (piece_found s kind a b a_in row.end_in_line up) m) [
        | inl e ↦ (let k = piece_parts s kind a b a_in row.end_in_line up q e in (k.0, (k.1, k.2)))
        | inr n ↦ absurd n
      ]
  neighbours_from_piece a (c ∷ cs) row q m =
      let a_in = row.in_line a (inl refl) in
      let c_in = row.in_line c (inr (inl refl)) in
      let up = rising_next a c cs row.rises in
      elim (subst (λ ys. Member (ys ++ pieces_between kind c cs b) q)
      (piece_found s kind a c a_in c_in up) m) [
        | inl e ↦ (let k = piece_parts s kind a c a_in c_in up q e in (k.0, inl (k.1, k.2)))
        | inr n ↦ (let k = neighbours_from_piece c cs (row_rest s a c cs b row) q n in (k.0, inr k.1))
      ]

  piece_from_neighbours : (a : Point) (xs : List Point) → IsRow s a xs b → (q : Piece) → q.kind ≡ kind
      → Neighbours a xs b (lesser_end q.segment) (greater_end q.segment)
      → Member (pieces_between kind a xs b) q
  piece_from_neighbours a [] row q e n =
      let a_in = row.in_line a (inl refl) in
      let up = row.before_end a (inl refl) in
      subst (λ ys. Member ys q) (sym (piece_found s kind a b a_in row.end_in_line up))
      (inl (piece_is s kind a b a_in row.end_in_line up q e n.0 n.1))
  piece_from_neighbours a (c ∷ cs) row q e n =
      let a_in = row.in_line a (inl refl) in
      let c_in = row.in_line c (inr (inl refl)) in
      let up = rising_next a c cs row.rises in
      subst (λ ys. Member (ys ++ pieces_between kind c cs b) q) (sym (piece_found s kind a c a_in c_in up))
      (elim n [
        | inl k ↦ inl (piece_is s kind a c a_in c_in up q e k.0 k.1)
        | inr k ↦ inr (piece_from_neighbours c cs (row_rest s a c cs b row) q e k)
      ])

-- ---- the parts

module _ (p : Piece) (points : List Point) (up : is_rising points ≡ true) where
  abbrev inner : List Point
  inner = inner_points (stretch_of p.segment) points

  abbrev start : Point
  start = lesser_end p.segment

  abbrev end : Point
  end = greater_end p.segment

  inner_parts : (z : Point) → Member inner z → Contains points z
      × (is_between (position_of z) (stretch_of p.segment) ≡ true)
  inner_parts z m =
      let k = filter_member (λ (v : Point). is_between (position_of v) (stretch_of p.segment)) points z m in
      (contained points z k.0, k.1)

  inner_from : (z : Point) → Contains points z → is_between (position_of z) (stretch_of p.segment) ≡ true
      → Member inner z
  inner_from z c e =
      member_filter (λ (v : Point). is_between (position_of v) (stretch_of p.segment)) points z
      (member points z c) e

  lies_between : (z : Point) → Member inner z → LiesBetween (position_of z) (stretch_of p.segment)
  lies_between z m = between_parts (position_of z) (stretch_of p.segment) (inner_parts z m).1

  row : IsRow p.segment start inner end
  row = record {
    rises =
        rising_from start inner (λ z m. (lies_between z m).after_from)
        (filter_rising (λ (v : Point). is_between (position_of v) (stretch_of p.segment)) points up);
    before_end = λ z m. elim m [
      | inl e ↦
          subst (λ (t : Point). point_order t end ≡ Pos) e
          (ends_order (stretch_of p.segment) p.segment.stretch)
      | inr n ↦ (lies_between z n).before_to
    ];
    in_line = λ z m. elim m [
      | inl e ↦ subst (IsInLine p.segment) e (side_self (position_of start) p.segment.dir.number)
      | inr n ↦ (lies_between z n).in_line
    ];
    end_in_line = to_in_line (stretch_of p.segment) p.segment.stretch;
  }

  parts : (q : Piece) → Contains (parts_of p points) q → Member (pieces_between p.kind start inner end) q
  unfolding parts_of
  parts q c = member (pieces_between p.kind start inner end) q c

  from_parts : (q : Piece) → Member (pieces_between p.kind start inner end) q → Contains (parts_of p points) q
  unfolding parts_of
  from_parts q m = contained (pieces_between p.kind start inner end) q m

  module _ (q : Piece) where
    abbrev x : Point
    x = lesser_end q.segment

    abbrev y : Point
    y = greater_end q.segment

    part_from_next : q.kind ≡ p.kind → IsNext start inner end x y → IsPart p points q
    part_from_next e next =
        record {
          kind = e;
          from = elim next.from [ inl f ↦ inl (sym f) | inr m ↦ inr (inr (inner_parts x m)) ];
          to = elim next.to [ inl m ↦ inr (inr (inner_parts y m)) | inr f ↦ inr (inl (sym f)) ];
          none_between = λ v c. false_from_ne_true (is_between (position_of v) (stretch_of q.segment)) (λ f.
              let b = between_parts (position_of v) (stretch_of q.segment) f in
              next.none_between v (inner_from v c (between v b)) b.after_from b.before_to);
        }
      where
        x_in : IsInLine p.segment x
        x_in = row.in_line x next.from

        y_in : IsInLine p.segment y
        y_in =
            elim next.to [
              | inl m ↦ row.in_line y (inr m)
              | inr f ↦ subst (IsInLine p.segment) f row.end_in_line
            ]

        after_start : is_negative (point_order start x) ≡ false
        after_start = elim next.from [
          | inl f ↦
              subst (λ (t : Point). is_negative (point_order start t) ≡ false) f
              (ap is_negative (order_self (position_of start)))
          | inr m ↦ ap is_negative (rising_later start inner x row.rises m)
        ]

        before_end : is_negative (point_order y end) ≡ false
        before_end = elim next.to [
          | inl m ↦ ap is_negative (row.before_end y (inr m))
          | inr f ↦
              subst (λ (t : Point). is_negative (point_order t end) ≡ false) f
              (ap is_negative (order_self (position_of end)))
        ]

        -- what is strictly between the ends of q is strictly between those of p
        between : (v : Point) → LiesBetween (position_of v) (stretch_of q.segment)
            → is_between (position_of v) (stretch_of p.segment) ≡ true
        between v b =
            between_from_parts (position_of v) (stretch_of p.segment) (record {
              in_line =
                  side_from (position_of start) p.segment.dir.number (position_of x) (position_of v) x_in
                  ∙ subst (λ n. side_of (position_of x) n (position_of v) ≡ Zero)
                  (same_direction p.segment q.segment x_in y_in) b.in_line;
              after_from =
                  then_before (position_of start) (position_of x) (position_of v) after_start b.after_from;
              before_to =
                  before_then (position_of v) (position_of y) (position_of end) b.before_to before_end;
            })

    next_from_part : IsPart p points q → IsNext start inner end x y
    next_from_part part =
        record {
          from = from_at part.from part.to;
          to = to_at part.to part.from;
          up = forward;
          none_between =
              λ z m e f. both_ways (is_between (position_of z) (stretch_of q.segment))
              (part.none_between z (inner_parts z m).0) (between z m e f);
        }
      where
        forward : point_order x y ≡ Pos
        forward = ends_order (stretch_of q.segment) q.segment.stretch

        in_line : (v : Point) → IsPartEnd p points v → IsInLine p.segment v
        in_line v (inl e) = subst (IsInLine p.segment) (sym e) (row.in_line start (inl refl))
        in_line v (inr (inl e)) = subst (IsInLine p.segment) (sym e) row.end_in_line
        in_line v (inr (inr w)) = (between_parts (position_of v) (stretch_of p.segment) w.1).in_line

        -- no end is after the end, and none before the start
        not_after : (v : Point) → IsPartEnd p points v → point_order end v ≡ Pos → ⊥
        not_after v (inl e) f =
            not_before_each_other end start (subst (λ (t : Point). point_order end t ≡ Pos) e f)
            (row.before_end start (inl refl))
        not_after v (inr (inl e)) f =
            not_before_itself end (subst (λ (t : Point). point_order end t ≡ Pos) e f)
        not_after v (inr (inr w)) f =
            not_before_each_other end v f (row.before_end v (inr (inner_from v w.0 w.1)))

        not_before : (v : Point) → IsPartEnd p points v → point_order v start ≡ Pos → ⊥
        not_before v (inl e) f =
            not_before_itself start (subst (λ (t : Point). point_order t start ≡ Pos) e f)
        not_before v (inr (inl e)) f =
            not_before_each_other end start (subst (λ (t : Point). point_order t start ≡ Pos) e f)
            (row.before_end start (inl refl))
        not_before v (inr (inr w)) f =
            not_before_each_other v start f (rising_later start inner v row.rises (inner_from v w.0 w.1))

        from_at : IsPartEnd p points x → IsPartEnd p points y → Member (start ∷ inner) x
        from_at (inl e) to = inl (sym e)
        from_at (inr (inl e)) to =
            absurd (not_after y to (subst (λ (t : Point). point_order t y ≡ Pos) e forward))
        from_at (inr (inr w)) to = inr (inner_from x w.0 w.1)

        to_at : IsPartEnd p points y → IsPartEnd p points x → Member inner y ⊎ (end ≡ y)
        to_at (inl e) from =
            absurd (not_before x from (subst (λ (t : Point). point_order x t ≡ Pos) e forward))
        to_at (inr (inl e)) from = inr (sym e)
        to_at (inr (inr w)) from = inl (inner_from y w.0 w.1)

        between : (z : Point) → Member inner z → point_order x z ≡ Pos → point_order z y ≡ Pos
            → is_between (position_of z) (stretch_of q.segment) ≡ true
        between z m e f =
            let x_in = in_line x part.from in
            between_from_parts (position_of z) (stretch_of q.segment) (record {
              in_line =
                  subst (λ n. side_of (position_of x) n (position_of z) ≡ Zero)
                  (sym (same_direction p.segment q.segment x_in (in_line y part.to)))
                  (line_through (stretch_of p.segment) (position_of x) (position_of z) x_in
                  (row.in_line z (inr m)));
              after_from = e;
              before_to = f;
            })

pub parts_are_parts : (p : Piece) (points : List Point) → is_rising points ≡ true → (q : Piece)
    → Contains (parts_of p points) q → IsPart p points q
parts_are_parts p points up q c =
    let r = row p points up in
    let k = neighbours_from_piece p.segment p.kind (greater_end p.segment) (lesser_end p.segment)
    (inner_points (stretch_of p.segment) points) r q (parts p points up q c) in
    part_from_next p points up q k.0
    (next_from_neighbours p.segment (greater_end p.segment) (lesser_end q.segment) (greater_end q.segment)
    (lesser_end p.segment) (inner_points (stretch_of p.segment) points) r k.1)

pub parts_are_all : (p : Piece) (points : List Point) → is_rising points ≡ true → (q : Piece)
    → IsPart p points q → Contains (parts_of p points) q
parts_are_all p points up q part =
    let r = row p points up in
    from_parts p points up q
    (piece_from_neighbours p.segment p.kind (greater_end p.segment) (lesser_end p.segment)
    (inner_points (stretch_of p.segment) points) r q part.kind
    (neighbours_from_next p.segment (greater_end p.segment) (lesser_end q.segment) (greater_end q.segment)
    (lesser_end p.segment) (inner_points (stretch_of p.segment) points) r
    (next_from_part p points up q part)))

part_end_is_on : (p : Piece) (points : List Point) (v : Point) → IsPartEnd p points v
    → is_on (position_of v) (stretch_of p.segment) ≡ true
part_end_is_on p points v (inl e) =
    or_left (is_end (position_of v) (stretch_of p.segment)) _
    (subst (λ (t : Point). is_end (position_of t) (stretch_of p.segment) ≡ true) (sym e)
    (from_end (stretch_of p.segment)))
part_end_is_on p points v (inr (inl e)) =
    or_left (is_end (position_of v) (stretch_of p.segment)) _
    (subst (λ (t : Point). is_end (position_of t) (stretch_of p.segment) ≡ true) (sym e)
    (to_end (stretch_of p.segment)))
part_end_is_on p points v (inr (inr w)) = or_right (is_end (position_of v) (stretch_of p.segment)) _ w.1

-- the piece covers its parts
pub part_is_on : (p : Piece) (points : List Point) (q : Piece) → IsPart p points q
    → (is_on (stretch_of q.segment).from (stretch_of p.segment)
    && is_on (stretch_of q.segment).to (stretch_of p.segment)) ≡ true
part_is_on p points q part =
    and_from (is_on (stretch_of q.segment).from (stretch_of p.segment)) _
    (part_end_is_on p points (lesser_end q.segment) part.from)
    (part_end_is_on p points (greater_end q.segment) part.to)
