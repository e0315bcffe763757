-- No two half-edges leave a vertex in one direction.
use Rattle.std.proofs.Common.{◌≡◌, ℕ, ◌+◌, ◌%◌, ◌<◌, true, ◌⊎◌, inl, inr, List, [], ◌∷◌, ◌++◌, refl, sym, ap, ap₂, subst, ◌∙◌, arith}
use Rattle.surd_number.specs.declared.Sgn.TheVariants.{Zero, Pos}
use Rattle.surd_number.specs.Number.{IsSame, sum_of}
use Rattle.surd_number.specs.RingTool.{◌⊕◌, ◌⊝◌, ◌⊗◌, v0, v1, v2, v3, v4, v5, v6, v7}
use Rattle.surd_number.specs.NumberLaws.{number_ring}
use Rattle.surd_number.specs.SignLaws.{sign_of-same, sign_of-sum_positive}
use Rattle.plane_geometry.specs.declared.Point.{Point}
use Rattle.plane_geometry.specs.declared.Dir.{Dir}
use Rattle.plane_geometry.specs.DirView.{dir_number, dir_of}
use Rattle.plane_geometry.specs.Position.{Position, position_of, vector_of, dot_of}
use Rattle.plane_geometry.specs.Direction.{direction_vector, side_of, is_along, opposite_number, turn_sign}
use Rattle.plane_geometry.specs.SideLaws.{side_from}
use Rattle.plane_geometry.specs.DirectionLaws.{along_parts, along_from_parts, along_back, along_unique}
use Rattle.plane_geometry.specs.Polygon.{Side, sides_of, side_number}
use Rattle.plane_geometry.specs.SegmentView.{direction_number}
use Rattle.crease_model.specs.declared.Piece.{Piece}
use Rattle.crease_model.specs.Rules.{IsPattern}
use Rattle.crease_model.specs.Sheet.{is_sheet}
use Rattle.crease_model.specs.View.{PatternView}
use Rattle.line_split.specs.MemberLaws.{Member}
use Rattle.face_builder.specs.declared.half_edges.HalfEdge.{HalfEdge}
use Rattle.face_builder.specs.HalfEdge.{forward, backward, both_ways, parts_from, side_parts, border_parts, all_half_edges}
use Rattle.face_builder.specs.Vertices.{vertices_along}
use Rattle.face_builder.proofs.Apart.{moves}
use Rattle.face_builder.proofs.AtBorder.{IsBorder, IsWay, border_is, way_left, part_ends}
use Rattle.face_builder.proofs.Border.{Runs, row_goes, row_of}
use Rattle.plane_geometry.specs.Ends.{GoesAlong}
use Rattle.face_builder.proofs.Chains.{Chain, member_either}
use Rattle.face_builder.proofs.LeavesApart.{IsNumbered, numbered_member, leave_once}
use Rattle.face_builder.proofs.Sheets.{sheet_sides, one_direction, side_runs}

-- ---- along one direction

dot_chain : (d p q r : Position)
    → IsSame (dot_of d (vector_of p r)) (sum_of (dot_of d (vector_of p q)) (dot_of d (vector_of q r)))
dot_chain d p q r =
    number_ring (d.x ∷ d.y ∷ p.x ∷ p.y ∷ q.x ∷ q.y ∷ r.x ∷ r.y ∷ [])
    (v0 ⊗ (v6 ⊝ v2) ⊕ v1 ⊗ (v7 ⊝ v3))
    ((v0 ⊗ (v4 ⊝ v2) ⊕ v1 ⊗ (v5 ⊝ v3)) ⊕ (v0 ⊗ (v6 ⊝ v4) ⊕ v1 ⊗ (v7 ⊝ v5))) refl

pub along_on : (n : ℕ) (p q r : Position) → is_along n p q ≡ true → is_along n q r ≡ true → is_along n p r ≡ true
along_on n p q r a b =
    let k = along_parts n p q a in
    let l = along_parts n q r b in
    let d = direction_vector n in
    along_from_parts n p r (side_from p n q r k.0 ∙ l.0)
    (sign_of-same (dot_of d (vector_of p r)) (sum_of (dot_of d (vector_of p q)) (dot_of d (vector_of q r)))
    (dot_chain d p q r)
    ∙ sign_of-sum_positive (dot_of d (vector_of p q)) (dot_of d (vector_of q r)) k.1 l.1)

pub not_along_itself : (n : ℕ) (p : Position) → n < 16 → is_along n p p ≡ true → ⊥
not_along_itself n p few a =
    let back = along_back n p p few ∙ a in
    let same = along_unique (opposite_number n) n p p (omega arith) few back a in
    absurd (omega (arith, same, few))

pub row_later : (n : ℕ) (u : Point) (vs : List Point) (v : Point) → Chain (GoesAlong n) (u ∷ vs) → Member vs v
    → GoesAlong n u v
row_later n u [] v c m = absurd m
row_later n u (w ∷ ws) v c (inl at) = subst (λ (z : Point). GoesAlong n u z) at c.0
row_later n u (w ∷ ws) v c (inr m) =
    along_on n (position_of u) (position_of w) (position_of v) c.0 (row_later n w ws v c.1 m)

-- parts of one row that start in one point are one
part_once : (d : Dir) (n : ℕ) (few : n < 16) (u : Point) (vs : List Point) (g h : HalfEdge)
    → Chain (GoesAlong n) (u ∷ vs)
    → Member (parts_from d u vs) g → Member (parts_from d u vs) h → g.start ≡ h.start → g ≡ h
part_once d n few u [] g h c a b e = absurd a
part_once d n few u (v ∷ vs) g h c (inl a) (inl b) e = sym a ∙ b
part_once d n few u (v ∷ vs) g h c (inl a) (inr b) e =
    let later = row_later n u (v ∷ vs) h.start c (part_ends d v vs h b).0 in
    let same : h.start ≡ u = sym e ∙ ap (λ (k : HalfEdge). k.start) (sym a) in
    absurd (not_along_itself n (position_of u) few (subst (λ (z : Point). GoesAlong n u z) same later))
part_once d n few u (v ∷ vs) g h c (inr a) (inl b) e =
    let later = row_later n u (v ∷ vs) g.start c (part_ends d v vs g a).0 in
    let same : g.start ≡ u = e ∙ ap (λ (k : HalfEdge). k.start) (sym b) in
    absurd (not_along_itself n (position_of u) few (subst (λ (z : Point). GoesAlong n u z) same later))
part_once d n few u (v ∷ vs) g h c (inr a) (inr b) e = part_once d n few v vs g h c.1 a b e

pub end_in : (d : Dir) (u : Point) (vs : List Point) (h : HalfEdge) → Member (parts_from d u vs) h
    → Member vs h.end
end_in d u [] h m = absurd m
end_in d u (v ∷ vs) h (inl at) = inl (ap (λ (k : HalfEdge). k.end) at)
end_in d u (v ∷ vs) h (inr m) = inr (end_in d v vs h m)

-- a part of a row ends behind its first point
end_later : (d : Dir) (n : ℕ) (few : n < 16) (v : Point) (vs : List Point) (h : HalfEdge)
    → Chain (GoesAlong n) (v ∷ vs)
    → Member (parts_from d v vs) h → v ≡ h.end → ⊥
end_later d n few v [] h c m e = absurd m
end_later d n few v (w ∷ ws) h c (inl at) e =
    let same : w ≡ v = ap (λ (k : HalfEdge). k.end) at ∙ sym e in
    not_along_itself n (position_of v) few (subst (λ (z : Point). GoesAlong n v z) same c.0)
end_later d n few v (w ∷ ws) h c (inr m) e =
    let later =
    along_on n (position_of v) (position_of w) (position_of h.end) c.0
    (row_later n w ws h.end c.1 (end_in d w ws h m)) in
    not_along_itself n (position_of v) few (subst (λ (z : Point). GoesAlong n v z) (sym e) later)

-- parts of one row that end in one point are one
part_end_once : (d : Dir) (n : ℕ) (few : n < 16) (u : Point) (vs : List Point) (g h : HalfEdge)
    → Chain (GoesAlong n) (u ∷ vs)
    → Member (parts_from d u vs) g → Member (parts_from d u vs) h → g.end ≡ h.end → g ≡ h
part_end_once d n few u [] g h c a b e = absurd a
part_end_once d n few u (v ∷ vs) g h c (inl a) (inl b) e = sym a ∙ b
part_end_once d n few u (v ∷ vs) g h c (inl a) (inr b) e =
    absurd (end_later d n few v vs h c.1 b (ap (λ (k : HalfEdge). k.end) a ∙ e))
part_end_once d n few u (v ∷ vs) g h c (inr a) (inl b) e =
    absurd (end_later d n few v vs g c.1 a (ap (λ (k : HalfEdge). k.end) b ∙ sym e))
part_end_once d n few u (v ∷ vs) g h c (inr a) (inr b) e = part_end_once d n few v vs g h c.1 a b e

-- ---- half-edges of a pattern

numbered_way : (k : ℕ) (ps : List Piece) (h : HalfEdge) → Member (both_ways k ps) h
    → (j : ℕ) × (q : Piece) × IsNumbered k ps j q × ((h ≡ forward j q) ⊎ (h ≡ backward j q))
numbered_way k [] h m = absurd m
numbered_way k (p ∷ ps) h (inl at) = (k, p, inl (refl, refl), inl (sym at))
numbered_way k (p ∷ ps) h (inr (inl at)) = (k, p, inl (refl, refl), inr (sym at))
numbered_way k (p ∷ ps) h (inr (inr m)) = let r = numbered_way (k + 1) ps h m in (r.0, r.1, inr r.2, r.3)

module _ (p : PatternView) (sheet : is_sheet p.corners ≡ true) (rules : IsPattern p) where
  -- a piece in one of its directions
  pub record IsPieceWay (h : HalfEdge) : Type 0 where
    pub number : ℕ
    pub piece : Piece
    pub numbered : IsNumbered 1 p.pieces number piece
    pub way : (h ≡ forward number piece) ⊎ (h ≡ backward number piece)

  pub way_of : (h : HalfEdge) → Member (both_ways 1 p.pieces) h → IsPieceWay h
  way_of h m =
      let r = numbered_way 1 p.pieces h m in record { number = r.0; piece = r.1; numbered = r.2; way = r.3 }

  pub as_way : (h : HalfEdge) → IsPieceWay h → IsWay p sheet rules h
  as_way h w = (w.number, w.piece, numbered_member 1 p.pieces w.number w.piece w.numbered, w.way)

  -- the half-edge is a piece in one of its directions, or a part of the border
  pub kind_of : (h : HalfEdge) → Member (all_half_edges p) h → IsPieceWay h ⊎ IsBorder p sheet rules h
  kind_of h m =
      elim (member_either (both_ways 1 p.pieces) (border_parts p.corners p.pieces) h m) [
        | inl n ↦ inl (way_of h n)
        | inr n ↦ inr (border_is p sheet rules h n)
      ]

  pub few_of : (s : Side) → Member (sides_of p.corners) s → GoesAlong (side_number s) s.start s.end
      × (side_number s < 16)
  few_of s m = side_runs (sides_of p.corners) (sheet_sides p.corners sheet) s m

  pub side_same : (s t : Side) → Member (sides_of p.corners) s → Member (sides_of p.corners) t → side_number s
      ≡ side_number t → s ≡ t
  side_same s t m k e = one_direction (sides_of p.corners) (sheet_sides p.corners sheet) s t m k e

  pub row : (s : Side) → Member (sides_of p.corners) s → Chain (GoesAlong (side_number s)) (row_of s p.pieces)
  row s m = row_goes s p.pieces (side_number s) (few_of s m).1 (few_of s m).0

  pub same_directions : (n m : ℕ) (u v : Position) → n ≡ m → is_along m u v ≡ true → turn_sign n m ≡ Zero
  same_directions n m u v e along =
      sym (moves n m u v along)
      ∙ ap (λ k. side_of u k v) e ∙ (along_parts m u v along).0

  pub parts_once : (g h : HalfEdge) → (b : IsBorder p sheet rules g) → (d : IsBorder p sheet rules h) → b.side
      ≡ d.side → g.start ≡ h.start → g ≡ h
  parts_once g h b d same e =
      let s = d.side in
      part_once (dir_of (side_number s)) (side_number s) (few_of s d.member).1 s.start
      (vertices_along s p.pieces ++ s.end ∷ []) g h (row s d.member)
      (subst (λ (t : Side). Member (side_parts p.pieces t) g) same b.part) d.part e

  pub parts_end_once : (g h : HalfEdge) → (b : IsBorder p sheet rules g) → (d : IsBorder p sheet rules h)
      → b.side ≡ d.side → g.end ≡ h.end → g ≡ h
  parts_end_once g h b d same e =
      let s = d.side in
      part_end_once (dir_of (side_number s)) (side_number s) (few_of s d.member).1 s.start
      (vertices_along s p.pieces ++ s.end ∷ []) g h (row s d.member)
      (subst (λ (t : Side). Member (side_parts p.pieces t) g) same b.part) d.part e

  way_not_border : (g h : HalfEdge) → IsPieceWay g → Runs g → (d : IsBorder p sheet rules h) → g.start
      ≡ h.start
      → dir_number g.dir ≡ dir_number h.dir → ⊥
  way_not_border g h w runs d start dir =
      let s = d.side in
      let left = way_left p sheet rules g (as_way g w) runs s d.member
      (ap (λ (q : Point). side_of (position_of s.start) (side_number s) (position_of q)) start
      ∙ d.start_on) in
      let same : side_number s ≡ dir_number g.dir = sym d.dir ∙ sym dir in
      pos_is_zero (sym left
      ∙ same_directions (side_number s) (dir_number g.dir) (position_of g.start)
      (position_of g.end) same runs)
    where
      pos_is_zero : Pos ≡ Zero → ⊥
      pos_is_zero e = cc

  ways_once : (g h : HalfEdge) → IsPieceWay g → IsPieceWay h → g.start ≡ h.start → dir_number g.dir
      ≡ dir_number h.dir → g ≡ h
  ways_once g h v w start dir =
      let one = leave_once 1 p.pieces v.number w.number v.piece w.piece g h rules.meetings v.numbered
      w.numbered v.way w.way start dir in
      by v.way w.way one.0 one.1
    where
      by : (g ≡ forward v.number v.piece) ⊎ (g ≡ backward v.number v.piece) → (h ≡ forward w.number w.piece)
          ⊎ (h ≡ backward w.number w.piece)
          → v.number ≡ w.number → v.piece ≡ w.piece → g ≡ h
      by (inl a) (inl b) e f = a ∙ ap₂ forward e f ∙ sym b
      by (inr a) (inr b) e f = a ∙ ap₂ backward e f ∙ sym b
      by (inl a) (inr b) e f =
          let numbers : direction_number v.piece.segment % 16 ≡ (direction_number v.piece.segment + 8) % 16 =
          ap (λ (k : HalfEdge). dir_number k.dir) (sym a) ∙ dir
          ∙ ap (λ (k : HalfEdge). dir_number k.dir) (b ∙ ap₂ backward (sym e) (sym f)) in
          absurd (omega (arith, numbers))
      by (inr a) (inl b) e f =
          let numbers : (direction_number v.piece.segment + 8) % 16 ≡ direction_number v.piece.segment % 16 =
          ap (λ (k : HalfEdge). dir_number k.dir) (sym a) ∙ dir
          ∙ ap (λ (k : HalfEdge). dir_number k.dir) (b ∙ ap₂ forward (sym e) (sym f)) in
          absurd (omega (arith, numbers))

  -- half-edges that leave one vertex in one direction are one
  pub depart_once : (g h : HalfEdge) → IsPieceWay g ⊎ IsBorder p sheet rules g → IsPieceWay h
      ⊎ IsBorder p sheet rules h → Runs g → Runs h
      → g.start ≡ h.start → dir_number g.dir ≡ dir_number h.dir → g ≡ h
  depart_once g h (inl v) (inl w) runs run start dir = ways_once g h v w start dir
  depart_once g h (inl v) (inr d) runs run start dir = absurd (way_not_border g h v runs d start dir)
  depart_once g h (inr b) (inl w) runs run start dir =
      absurd (way_not_border h g w run b (sym start) (sym dir))
  depart_once g h (inr b) (inr d) runs run start dir =
      parts_once g h b d (side_same b.side d.side b.member d.member (sym b.dir ∙ dir ∙ d.dir)) start
