-- Each piece lies between two different faces.
use Rattle.std.proofs.Common.{◌≡◌, ℕ, zero, suc, ◌+◌, ◌-◌, ◌≤◌, Bool, true, false, cond, not, ◌⊎◌, inl, inr, List, [], ◌∷◌, map, length, None, Some, min, max, refl, sym, ap, ap₂, subst, ◌∙◌, arith}
use Rattle.std.specs.Prelude.{slice_get}
use Rattle.std.specs.List.{AllByRecursion, list_all, list_any}
use Rattle.std.specs.Option.{option_map}
use Rattle.std.proofs.lemmas.Bool.{cases_lt, and_parts, and_from, both_ways as not_both, ne_eqb, eqb-true, eq-eqb, not-true}
use Rattle.std.proofs.lemmas.List.{length-map}
use Rattle.std.proofs.lemmas.Option.{slice_get_within, slice_get-map}
use Rattle.plane_geometry.specs.Direction.{is_positive}
use Rattle.plane_geometry.specs.SideLaws.{order_turned}
use Rattle.plane_geometry.specs.StretchLaws.{before_is, ends_order}
use Rattle.plane_geometry.specs.SegmentView.{lesser_end, greater_end, stretch_of}
use Rattle.plane_geometry.specs.Polygon.{sides_of, has_direction}
use Rattle.surd_number.specs.Number.{opposite_sign}
use Rattle.crease_model.specs.declared.Piece.{Piece}
use Rattle.crease_model.specs.Rules.{IsPattern}
use Rattle.crease_model.specs.Sheet.{is_sheet}
use Rattle.crease_model.specs.PartLaws.{sheet_turns}
use Rattle.crease_model.specs.View.{PatternView}
use Rattle.line_split.specs.MemberLaws.{Member, contained, any_member, member_any}
use Rattle.face_builder.specs.declared.half_edges.HalfEdge.{HalfEdge}
use Rattle.face_builder.specs.HalfEdge.{forward, backward, both_ways, border_parts, half_edges_of}
use Rattle.face_builder.specs.Faces.{corners_of, convex_refusal, faces_among}
use Rattle.face_builder.specs.MapRules.{IsSideOf, IsShared}
use Rattle.face_builder.specs.Shared.{is_of_piece, is_upward, is_forward, is_backward, face_with_from, left_face, right_face, shared_piece, shared_from}
use Rattle.face_builder.specs.View.{corners_at}
use Rattle.face_builder.proofs.Apart.{IsBack}
use Rattle.face_builder.proofs.Chains.{member_left}
use Rattle.face_builder.proofs.Cover.{covered, member_map}
use Rattle.face_builder.proofs.Departures.{kind_of}
use Rattle.face_builder.proofs.LeavesApart.{IsNumbered}
use Rattle.face_builder.proofs.Nexts.{member_of_place}
use Rattle.face_builder.proofs.Polygons.{side_of_half, faces_apart, face_sides, face_member}
use Rattle.face_builder.proofs.Sides.{from_sorted, to_sorted}

-- ---- the first face with such a half-edge

record IsFirst (f : ℕ) (test : HalfEdge → Bool) (faces : List (List HalfEdge)) : Type 0 where
  place : ℕ
  face : List HalfEdge
  stands : slice_get faces place ≡ Some face
  number : face_with_from f test faces ≡ f + place
  half_edge : HalfEdge
  member : Member face half_edge
  passes : test half_edge ≡ true

first_with : (f : ℕ) (test : HalfEdge → Bool) (faces : List (List HalfEdge)) (face : List HalfEdge)
    (g : HalfEdge) → Member faces face
    → Member face g → test g ≡ true → IsFirst f test faces
first_with f test [] face g m n e = absurd m
first_with f test (x ∷ xs) face g m n e =
    by (list_any test x) refl (λ k. first_with (f + 1) test xs face g k n e)
  where
    here : list_any test x ≡ true → IsFirst f test (x ∷ xs)
    here found =
        let w = any_member test x found in
        record {
          place = zero;
          face = x;
          stands = refl;
          number = ap (λ b. cond b f (face_with_from (f + 1) test xs)) found
              ∙ (let z : f ≡ f + zero = omega arith in z);
          half_edge = w.0;
          member = w.1;
          passes = w.2;
        }

    later : list_any test x ≡ false → IsFirst (f + 1) test xs → IsFirst f test (x ∷ xs)
    later missing r =
        record {
          place = suc r.place;
          face = r.face;
          stands = r.stands;
          number = ap (λ b. cond b f (face_with_from (f + 1) test xs)) missing ∙ r.number
              ∙ (let z : f + 1 + r.place ≡ f + suc r.place = omega arith in z);
          half_edge = r.half_edge;
          member = r.member;
          passes = r.passes;
        }

    by : (b : Bool) → list_any test x ≡ b → (Member xs face → IsFirst (f + 1) test xs)
        → IsFirst f test (x ∷ xs)
    by true found rest = here found
    by false missing rest =
        later missing
        (rest
        (elim m [
          | inl at ↦ absurd
              (not_both (list_any test x) missing
              (member_any test x g (subst (λ h. Member h g) (sym at) n) e))
          | inr k ↦ k
        ]))

-- ---- which half-edges a piece is

pub numbered_from : (k : ℕ) (ps : List Piece) (j : ℕ) (q : Piece) → IsNumbered k ps j q → k ≤ j
numbered_from k [] j q n = absurd n
numbered_from k (x ∷ xs) j q (inl e) = omega (arith, e.0)
numbered_from k (x ∷ xs) j q (inr n) = omega (arith, numbered_from (k + 1) xs j q n)

numbered_once : (k : ℕ) (ps : List Piece) (j : ℕ) (q r : Piece) → IsNumbered k ps j q → IsNumbered k ps j r
    → q ≡ r
numbered_once k [] j q r m n = absurd m
numbered_once k (x ∷ xs) j q r (inl e) (inl f) = sym e.1 ∙ f.1
numbered_once k (x ∷ xs) j q r (inl e) (inr n) = absurd (omega (arith, e.0, numbered_from (k + 1) xs j r n))
numbered_once k (x ∷ xs) j q r (inr m) (inl f) = absurd (omega (arith, f.0, numbered_from (k + 1) xs j q m))
numbered_once k (x ∷ xs) j q r (inr m) (inr n) = numbered_once (k + 1) xs j q r m n

forward_rises : (k : ℕ) (q : Piece) → is_upward (forward k q) ≡ true
forward_rises k q = q.segment.stretch.0

backward_falls : (k : ℕ) (q : Piece) → is_upward (backward k q) ≡ false
backward_falls k q =
    let s = stretch_of q.segment in
    before_is s.to s.from
    ∙ ap is_positive (order_turned s.from s.to ∙ ap opposite_sign (ends_order s q.segment.stretch))

plain_is_none : (k : ℕ) (g : HalfEdge) → g.piece ≡ None → is_of_piece k g ≡ false
plain_is_none k g e =
    ap (λ o. is_of_piece k (record { start = g.start; dir = g.dir; end = g.end; piece = o })) e

pub back_of : (k : ℕ) (q : Piece) → IsBack (forward k q) (backward k q)
back_of k q = record { start = refl; end = refl; dir = omega arith }

module _ (p : PatternView) (sheet : is_sheet p.corners ≡ true) (rules : IsPattern p) where
  abbrev hs : List HalfEdge
  hs = half_edges_of p

  directed : list_all has_direction (sides_of p.corners) ≡ true
  directed = (sheet_turns p.corners sheet).0

  -- a half-edge of a piece goes forth or back
  pub piece_is : (k : ℕ) (q : Piece) (g : HalfEdge) → IsNumbered 1 p.pieces k q → Member hs g
      → is_of_piece k g ≡ true
      → (g ≡ forward k q) ⊎ (g ≡ backward k q)
  piece_is k q g n m e =
      elim (kind_of p sheet rules g (from_sorted p directed g m)) [
        | inl w ↦
            (elim w.way [
              | inl at ↦
                  (let same : w.number ≡ k = eqb-true w.number k (sym (ap (is_of_piece k) at) ∙ e) in
                  let one : w.piece ≡ q =
                  numbered_once 1 p.pieces k w.piece q
                  (subst (λ j. IsNumbered 1 p.pieces j w.piece) same w.numbered) n in
                  inl (at ∙ ap₂ forward same one))
              | inr at ↦
                  (let same : w.number ≡ k = eqb-true w.number k (sym (ap (is_of_piece k) at) ∙ e) in
                  let one : w.piece ≡ q =
                  numbered_once 1 p.pieces k w.piece q
                  (subst (λ j. IsNumbered 1 p.pieces j w.piece) same w.numbered) n in
                  inr (at ∙ ap₂ backward same one))
            ])
        | inr b ↦ absurd (not_both (is_of_piece k g) (plain_is_none k g b.plain) e)
      ]

  forward_is : (k : ℕ) (q : Piece) (g : HalfEdge) → IsNumbered 1 p.pieces k q → Member hs g → is_forward k g
      ≡ true → g ≡ forward k q
  forward_is k q g n m e =
      let parts = and_parts (is_of_piece k g) (is_upward g) e in
      elim (piece_is k q g n m parts.0) [
        | inl at ↦ at
        | inr at ↦ absurd
            (not_both (is_upward (backward k q)) (backward_falls k q) (sym (ap is_upward at) ∙ parts.1))
      ]

  backward_is : (k : ℕ) (q : Piece) (g : HalfEdge) → IsNumbered 1 p.pieces k q → Member hs g → is_backward k g
      ≡ true → g ≡ backward k q
  backward_is k q g n m e =
      let parts = and_parts (is_of_piece k g) (not (is_upward g)) e in
      elim (piece_is k q g n m parts.0) [
        | inl at ↦ absurd
            (not_both (is_upward (forward k q)) (sym (ap is_upward at) ∙ not-true _ parts.1)
            (forward_rises k q))
        | inr at ↦ at
      ]

  numbered_in : (k : ℕ) (ps : List Piece) (j : ℕ) (q : Piece) → IsNumbered k ps j q
      → Member (both_ways k ps) (forward j q) × Member (both_ways k ps) (backward j q)
  numbered_in k [] j q n = absurd n
  numbered_in k (x ∷ xs) j q (inl e) = (inl (ap₂ forward e.0 e.1), inr (inl (ap₂ backward e.0 e.1)))
  numbered_in k (x ∷ xs) j q (inr n) = let r = numbered_in (k + 1) xs j q n in (inr (inr r.0), inr (inr r.1))

  pub ways_in : (k : ℕ) (q : Piece) → IsNumbered 1 p.pieces k q → Member hs (forward k q)
      × Member hs (backward k q)
  ways_in k q n =
      let r = numbered_in 1 p.pieces k q n in (
        to_sorted p directed (forward k q)
            (member_left (both_ways 1 p.pieces) (border_parts p.corners p.pieces) (forward k q) r.0),
        to_sorted p directed (backward k q)
            (member_left (both_ways 1 p.pieces) (border_parts p.corners p.pieces) (backward k q) r.1),
      )

  module _ (none : convex_refusal hs ≡ None) where
    abbrev faces : List (List HalfEdge)
    faces = faces_among hs

    -- the face with a half-edge of a piece
    pub record IsAt (number : ℕ) (g : HalfEdge) : Type 0 where
      pub place : ℕ
      pub face : List HalfEdge
      pub stands : slice_get faces place ≡ Some face
      pub is_number : number ≡ 1 + place
      pub member : Member face g

    pub left_is : (k : ℕ) (q : Piece) → IsNumbered 1 p.pieces k q → IsAt (left_face faces k) (forward k q)
    unfolding left_face
    left_is k q n =
        let way = (ways_in k q n).0 in
        let home = covered p sheet rules (forward k q) way in
        let r = first_with 1 (is_forward k) faces home.0 (forward k q) home.1 home.2
        (and_from _ _ (eq-eqb k k refl) (forward_rises k q)) in
        let in_hs =
        face_member p directed r.face
        (member_of_place faces r.place r.face r.stands) r.half_edge r.member in
        record {
          place = r.place;
          face = r.face;
          stands = r.stands;
          is_number = r.number;
          member = subst (Member r.face) (forward_is k q r.half_edge n in_hs r.passes) r.member;
        }

    pub right_is : (k : ℕ) (q : Piece) → IsNumbered 1 p.pieces k q → IsAt (right_face faces k) (backward k q)
    unfolding right_face
    right_is k q n =
        let way = (ways_in k q n).1 in
        let home = covered p sheet rules (backward k q) way in
        let falls : not (is_upward (backward k q)) ≡ true = ap not (backward_falls k q) in
        let r = first_with 1 (is_backward k) faces home.0 (backward k q) home.1 home.2
        (and_from _ _ (eq-eqb k k refl) falls) in
        let in_hs =
        face_member p directed r.face
        (member_of_place faces r.place r.face r.stands) r.half_edge r.member in
        record {
          place = r.place;
          face = r.face;
          stands = r.stands;
          is_number = r.number;
          member = subst (Member r.face) (backward_is k q r.half_edge n in_hs r.passes) r.member;
        }

    face_some : (f g : List HalfEdge) → Some f ≡ Some g → f ≡ g
    face_some f g e = cc

    pub different : (k : ℕ) (q : Piece) (l r : ℕ) → IsAt l (forward k q) → IsAt r (backward k q) → l ≡ r → ⊥
    different k q l r x y e =
        let place : x.place ≡ y.place = omega (arith, x.is_number, y.is_number, e) in
        let same : x.face ≡ y.face =
        face_some x.face y.face (sym x.stands ∙ ap (slice_get faces) place ∙ y.stands) in
        faces_apart p directed none (forward k q) (backward k q) (back_of k q) y.face
        (member_of_place faces y.place y.face y.stands)
        (subst (λ f. Member f (forward k q)) same x.member) y.member

    side_is : (number : ℕ) (g : HalfEdge) → IsAt number g
        → IsSideOf (map corners_of faces) number g.start g.end
    side_is number g x =
        let at : corners_at (map corners_of faces) number ≡ Some (corners_of x.face) =
        ap (λ k. corners_at (map corners_of faces) k) x.is_number
        ∙ ap (λ b. cond b None (slice_get (map corners_of faces) (1 + x.place - 1)))
        (ne_eqb (1 + x.place) 0 (λ z. omega (arith, z)))
        ∙ ap (slice_get (map corners_of faces)) (let z : 1 + x.place - 1 ≡ x.place = omega arith in z)
        ∙ slice_get-map corners_of faces x.place ∙ ap (option_map corners_of) x.stands in
        let sides = face_sides p directed x.face (member_of_place faces x.place x.face x.stands) in (
          corners_of x.face,
          at,
          contained (sides_of (corners_of x.face)) (side_of_half g)
              (subst (λ ss. Member ss (side_of_half g)) (sym sides)
              (member_map side_of_half x.face g x.member)),
        )

    number_few : (number : ℕ) (g : HalfEdge) → IsAt number g → (1 ≤ number)
        × (number ≤ length (map corners_of faces))
    number_few number g x =
        let less = slice_get_within faces x.place x.face x.stands in
        (omega (arith, x.is_number), omega (arith, x.is_number, less, length-map faces corners_of))

    piece_shared : (k : ℕ) (q : Piece) → IsNumbered 1 p.pieces k q
        → IsShared (map corners_of faces) (shared_piece faces k q)
    piece_shared k q n =
        let l = left_face faces k in
        let r = right_face faces k in
        let x = left_is k q n in
        let y = right_is k q n in
        let few_l = number_few l (forward k q) x in
        let few_r = number_few r (backward k q) y in
        let cs = map corners_of faces in
        let low = lesser_end q.segment in
        let high = greater_end q.segment in
        let left = side_is l (forward k q) x in
        let right = side_is r (backward k q) y in
        elim (cases_lt l r) [
          | inl less ↦
              (let a : l ≡ min l r = omega (arith, less) in
              let b : r ≡ max l r = omega (arith, less) in
              record {
                first = omega (arith, few_l.0, a);
                order = omega (arith, less, a, b);
                last = omega (arith, few_r.1, b);
                sides = inl
                    (subst (λ f. IsSideOf cs f low high) a left, subst (λ f. IsSideOf cs f high low) b right);
              })
          | inr more ↦
              (let apart : l ≡ r → ⊥ = different k q l r x y in
              let a : r ≡ min l r = omega (arith, more) in
              let b : l ≡ max l r = omega (arith, more) in
              record {
                first = omega (arith, few_r.0, a);
                order = omega (arith, more, apart, a, b);
                last = omega (arith, few_l.1, b);
                sides = inr
                    (subst (λ f. IsSideOf cs f low high) b left, subst (λ f. IsSideOf cs f high low) a right);
              })
        ]

    shared_by : (k : ℕ) (ps : List Piece)
        → ((j : ℕ) (q : Piece) → IsNumbered k ps j q
        → IsShared (map corners_of faces) (shared_piece faces j q))
        → AllByRecursion (IsShared (map corners_of faces)) (shared_from faces k ps)
    shared_by k [] all = tt
    shared_by k (q ∷ ps) all = (all k q (inl (refl, refl)), shared_by (k + 1) ps (λ j r n. all j r (inr n)))

    pub all_shared : AllByRecursion (IsShared (map corners_of faces)) (shared_from faces 1 p.pieces)
    all_shared = shared_by 1 p.pieces piece_shared
