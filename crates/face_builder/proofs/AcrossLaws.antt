-- Across a piece of a face lies the other face of the piece.
use Rattle.std.proofs.Common.{◌≡◌, ℕ, zero, suc, ◌+◌, ◌-◌, ◌≤◌, true, nat_eq, map, ◌⊎◌, inl, inr, List, [], ◌∷◌, length, Option, None, Some, min, max, refl, sym, ap, ap₂, subst, ◌∙◌, arith}
use Rattle.std.specs.Prelude.{slice_get, unwrap_or}
use Rattle.std.proofs.lemmas.Bool.{cond_both, eqb-true, eqb-false}
use Rattle.std.proofs.lemmas.Option.{unwrap_or-slice_get}
use Rattle.crease_model.specs.declared.Piece.{Piece}
use Rattle.crease_model.specs.Rules.{IsPattern}
use Rattle.crease_model.specs.Sheet.{is_sheet}
use Rattle.crease_model.specs.PartLaws.{sheet_turns}
use Rattle.crease_model.specs.View.{PatternView}
use Rattle.line_split.specs.MemberLaws.{Member, contained, all_member}
use Rattle.face_builder.specs.declared.half_edges.HalfEdge.{HalfEdge}
use Rattle.face_builder.specs.declared.shared.SharedPiece.{SharedPiece}
use Rattle.face_builder.specs.Faces.{corners_of, convex_refusal, faces_among}
use Rattle.face_builder.specs.HalfEdge.{forward, backward, half_edges_of}
use Rattle.face_builder.specs.MapRules.{IsShared, AreAcross, IsWalk}
use Rattle.face_builder.specs.Shared.{left_face, right_face, shared_piece, shared_from}
use Rattle.face_builder.specs.Walk.{other_face, other_side, face_across, face_half_edges, walk_of}
use Rattle.face_builder.proofs.Cover.{some_is, place_once}
use Rattle.face_builder.proofs.Departures.{kind_of}
use Rattle.face_builder.proofs.LeavesApart.{IsNumbered}
use Rattle.face_builder.proofs.Nexts.{member_of_place}
use Rattle.face_builder.proofs.Polygons.{face_member}
use Rattle.face_builder.proofs.SharedLaws.{numbered_from, IsAt, left_is, right_is, different, all_shared}
use Rattle.face_builder.proofs.Sides.{from_sorted}
use Rattle.face_builder.proofs.ShortWalk.{short_walk}
use Rattle.face_builder.proofs.WalkLaws.{LeadsAcross, step_faces, walks}

shared_at : (faces : List (List HalfEdge)) (k : ℕ) (ps : List Piece) (j : ℕ) (q : Piece) → IsNumbered k ps j q
    → slice_get (shared_from faces k ps) (j - k) ≡ Some (shared_piece faces j q)
shared_at faces k [] j q n = absurd n
shared_at faces k (x ∷ xs) j q (inl e) =
    let none : j - k ≡ zero = omega (arith, e.0) in
    ap (slice_get (shared_from faces k (x ∷ xs))) none ∙ ap Some (ap₂ (shared_piece faces) e.0 e.1)
shared_at faces k (x ∷ xs) j q (inr n) =
    let more : j - k ≡ suc (j - (k + 1)) = omega (arith, numbered_from (k + 1) xs j q n) in
    ap (slice_get (shared_from faces k (x ∷ xs))) more ∙ shared_at faces (k + 1) xs j q n

-- the pieces are numbered by their places
pub numbered_at : (faces : List (List HalfEdge)) (k : ℕ) (ps : List Piece) (i : ℕ) (s : SharedPiece)
    → slice_get (shared_from faces k ps) i ≡ Some s → s.piece ≡ k + i
numbered_at faces k [] i s e = cc
numbered_at faces k (q ∷ qs) zero s e =
    let here : s.piece ≡ k = sym (ap (λ (x : SharedPiece). x.piece) (some_is (shared_piece faces k q) s e)) in
    omega (arith, here)
numbered_at faces k (q ∷ qs) (suc i) s e = omega (arith, numbered_at faces (k + 1) qs i s e)

-- one of two different numbers, and the other one
other_is : (x : SharedPiece) (l r f : ℕ) → x.a ≡ min l r → x.b ≡ max l r → (l ≡ r → ⊥) → (l ≡ f) ⊎ (r ≡ f)
    → AreAcross x f (other_face x f)
other_is x l r f a b apart here =
    cond_both (nat_eq x.a f) x.b x.a (λ g. AreAcross x f g)
    (λ same. inl (eqb-true x.a f same, refl))
    (λ other.
    let not_a = eqb-false x.a f other in
    inr (
      refl,
      elim here [
        | inl at ↦ omega (arith, a, b, apart, at, not_a)
        | inr at ↦ omega (arith, a, b, apart, at, not_a)
      ],
    ))

module _ (p : PatternView) (sheet : is_sheet p.corners ≡ true) (rules : IsPattern p)
    (none : convex_refusal (half_edges_of p) ≡ None) where
  abbrev hs : List HalfEdge
  hs = half_edges_of p

  abbrev faces : List (List HalfEdge)
  faces = faces_among hs

  abbrev shared : List SharedPiece
  shared = shared_from faces 1 p.pieces

  -- the face of a number that has the half-edge
  record HasIt (f : ℕ) (h : HalfEdge) : Type 0 where
    face : List HalfEdge
    stands : slice_get faces (f - 1) ≡ Some face
    member : Member face h

  has_it : (f : ℕ) (h : HalfEdge) → Member (face_half_edges faces f) h → HasIt f h
  has_it f h m = go (slice_get faces (f - 1)) refl
    where
      found : (o : Option (List HalfEdge)) → slice_get faces (f - 1) ≡ o → face_half_edges faces f
          ≡ unwrap_or o []
      found o e = sym (unwrap_or-slice_get faces (f - 1) []) ∙ ap (λ x. unwrap_or x []) e

      go : (o : Option (List HalfEdge)) → slice_get faces (f - 1) ≡ o → HasIt f h
      go None e = absurd (subst (λ hs. Member hs h) (found None e) m)
      go (Some face) e =
          record { face = face; stands = e; member = subst (λ hs. Member hs h) (found (Some face) e) m }

  at_number : (f number : ℕ) (g : HalfEdge) → 1 ≤ f → (x : IsAt p sheet rules none number g) → HasIt f g
      → number ≡ f
  at_number f number g low x y =
      let same : x.place ≡ f - 1 =
      place_once p sheet rules x.place (f - 1) x.face y.face g x.stands y.stands x.member y.member in
      omega (arith, x.is_number, same, low)

  across : (f : ℕ) (h : HalfEdge) → 1 ≤ f → Member (face_half_edges faces f) h → LeadsAcross shared f h.piece
  across f h low m =
      let y = has_it f h m in
      let in_hs =
      face_member p (sheet_turns p.corners sheet).0 y.face
      (member_of_place faces (f - 1) y.face y.stands) h y.member in
      elim (kind_of p sheet rules h (from_sorted p (sheet_turns p.corners sheet).0 h in_hs)) [
        | inl w ↦
            (let k = w.number in
            let q = w.piece in
            let l = left_face faces k in
            let r = right_face faces k in
            let stands : slice_get shared (k - 1) ≡ Some (shared_piece faces k q) =
            shared_at faces 1 p.pieces k q w.numbered in
            let x = shared_piece faces k q in
            let apart =
            different p sheet rules none k q l r (left_is p sheet rules none k q w.numbered)
            (right_is p sheet rules none k q w.numbered) in
            let here : (l ≡ f) ⊎ (r ≡ f) =
            elim w.way [
              | inl at ↦
                  inl (at_number f l (forward k q) low (left_is p sheet rules none k q w.numbered)
                  (record { face = y.face; stands = y.stands; member = subst (Member y.face) at y.member }))
              | inr at ↦
                  inr (at_number f r (backward k q) low (right_is p sheet rules none k q w.numbered)
                  (record { face = y.face; stands = y.stands; member = subst (Member y.face) at y.member }))
            ] in
            let numbered : h.piece ≡ Some k =
            elim w.way
            [ inl at ↦ ap (λ (g : HalfEdge). g.piece) at | inr at ↦ ap (λ (g : HalfEdge). g.piece) at ] in
            let face : face_across shared k f ≡ other_face x f = ap (λ o. other_side o f) stands in
            subst (λ o. LeadsAcross shared f o) (sym numbered) (
              x,
              contained shared x (member_of_place shared (k - 1) x stands),
              refl,
              subst (λ g. AreAcross x f g) (sym face) (other_is x l r f refl refl apart here),
            ))
        | inr b ↦ subst (λ o. LeadsAcross shared f o) (sym b.plain) tt
      ]

  within : (x : SharedPiece) → Member shared x → ((1 ≤ x.a) × (x.a ≤ length (map corners_of faces)))
      × ((1 ≤ x.b) × (x.b ≤ length (map corners_of faces)))
  within x m =
      let s = all_member (λ (y : SharedPiece). IsShared (map corners_of faces) y) shared x
      (all_shared p sheet rules none) m in
      ((s.first, omega (arith, s.order, s.last)), (omega (arith, s.first, s.order), s.last))

  pub all_walk : IsWalk shared [] (walk_of shared faces)
  all_walk = walks shared faces across (λ x m. let b = within x m in (b.0.0, b.1.0))

  pub few_steps : length (walk_of shared faces) ≤ length (map corners_of faces) - 1
  few_steps =
      let n = length (map corners_of faces) in
      short_walk shared (walk_of shared faces) n all_walk
      (step_faces shared (λ f. (1 ≤ f) × (f ≤ n)) within [] (walk_of shared faces) all_walk)
