-- Creases stay where they are in the reflection in them, so both faces lay them in the same place.
use Rattle.std.proofs.Common.{◌≡◌, inl, inr, ℕ, ◌+◌, ◌-◌, ◌<◌, ◌≤◌, ◌⊎◌, Bool, true, false, cond, nat_eq, List, [], ◌∷◌, ◌++◌, None, Some, length, take, get_or, refl, sym, ap, subst, ◌∙◌, arith}
use Rattle.std.specs.Prelude.{slice_get, Contains}
use Rattle.std.specs.List.{All, AllZip}
use Rattle.std.proofs.lemmas.Bool.{eqb-true}
use Rattle.std.proofs.lemmas.List.{take_more}
use Rattle.std.proofs.lemmas.List.Elements.{All-from_recursion}
use Rattle.std.proofs.lemmas.Option.{get_or_from_slice_get}
use Rattle.surd_number.specs.Number.{Number, IsSame, sum_of, difference_of, product_of}
use Rattle.surd_number.specs.RingTool.{◌⊕◌, ◌⊝◌, ◌⊗◌, con, v0, v1, v2, v3, v4, v5, v6, v7, v8}
use Rattle.surd_number.specs.NumberLaws.{number_ring, number_ring_from_three}
use Rattle.line_split.specs.MemberLaws.{Member, member, all_member, all_from_members}
use Rattle.plane_geometry.specs.declared.Point.{Point}
use Rattle.plane_geometry.specs.declared.Segment.{Segment}
use Rattle.plane_geometry.specs.Position.{Position, position_of}
use Rattle.plane_geometry.specs.Direction.{one, direction_vector}
use Rattle.plane_geometry.specs.DirectionLaws.{along_is_multiple}
use Rattle.plane_geometry.specs.Multiple.{IsSameVector}
use Rattle.plane_geometry.specs.Polygon.{Side, sides_from, sides_of}
use Rattle.plane_geometry.specs.SegmentView.{lesser_end, greater_end, direction_number}
use Rattle.isometry_map.specs.declared.folded.CreaseImage.{CreaseImage}
use Rattle.isometry_map.specs.declared.folded.FoldedFace.{FoldedFace}
use Rattle.isometry_map.specs.Folded.{IsImage, AreImages}
use Rattle.isometry_map.specs.Linear.{reflection}
use Rattle.isometry_map.specs.Matrix.{matrix_of}
use Rattle.isometry_map.specs.MatrixLaws.{reflections_keep_their_lines}
use Rattle.isometry_map.specs.Motion.{Motion, image_by, identity_motion}
use Rattle.face_builder.specs.declared.shared.SharedPiece.{SharedPiece}
use Rattle.face_builder.specs.MapRules.{IsSideOf, IsShared, AreFaces}
use Rattle.face_builder.specs.View.{FaceMapView, corners_at}
use Rattle.wireframe_fold.specs.Crease.{HasImage, HasSharedEnds, IsCreaseImage, IsSharedImage}
use Rattle.wireframe_fold.specs.Folding.{motion_at, mirror_in, IsClosedAt}
use Rattle.wireframe_fold.specs.Shape.{AreFoldedFaces}
use Rattle.wireframe_fold.proofs.FaceLists.{has_image, folded_face_at}
use Rattle.wireframe_fold.proofs.Maps.{image_same, same_vector-trans, same_vector-sym}

-- ---- both ends of a crease stay in the reflection in it

-- a row (a, b) with the shift q less the image of q: q itself
row_start : (a b qx qy q : Number)
    → IsSame (sum_of (sum_of (product_of a qx) (product_of b qy))
    (difference_of q (sum_of (product_of a qx) (product_of b qy)))) q
row_start a b qx qy q =
    number_ring (a ∷ b ∷ qx ∷ qy ∷ q ∷ [])
    (v0 ⊗ v2 ⊕ v1 ⊗ v3 ⊕ (v4 ⊝ (v0 ⊗ v2 ⊕ v1 ⊗ v3))) v4 refl

-- and a point p that is q and m times (dx, dy), whose coordinate the row keeps: the first coordinate
row_on_x : (a b px py qx qy dx dy m : Number) → IsSame (difference_of px qx) (product_of m dx)
    → IsSame (difference_of py qy) (product_of m dy)
    → IsSame (sum_of (product_of a dx) (product_of b dy)) dx
    → IsSame (sum_of (sum_of (product_of a px) (product_of b py))
    (difference_of qx (sum_of (product_of a qx) (product_of b qy)))) px
row_on_x a b px py qx qy dx dy m e f g =
    number_ring_from_three (a ∷ b ∷ px ∷ py ∷ qx ∷ qy ∷ dx ∷ dy ∷ m ∷ [])
    (v2 ⊝ v4) (v8 ⊗ v6) (v0 ⊝ con one) (v3 ⊝ v5) (v8 ⊗ v7) v1 (v0 ⊗ v6 ⊕ v1 ⊗ v7) v6 v8
    (v0 ⊗ v2 ⊕ v1 ⊗ v3 ⊕ (v4 ⊝ (v0 ⊗ v4 ⊕ v1 ⊗ v5))) v2 refl e f g

-- the second
row_on_y : (a b px py qx qy dx dy m : Number) → IsSame (difference_of px qx) (product_of m dx)
    → IsSame (difference_of py qy) (product_of m dy)
    → IsSame (sum_of (product_of a dx) (product_of b dy)) dy
    → IsSame (sum_of (sum_of (product_of a px) (product_of b py))
    (difference_of qy (sum_of (product_of a qx) (product_of b qy)))) py
row_on_y a b px py qx qy dx dy m e f g =
    number_ring_from_three (a ∷ b ∷ px ∷ py ∷ qx ∷ qy ∷ dx ∷ dy ∷ m ∷ [])
    (v2 ⊝ v4) (v8 ⊗ v6) v0 (v3 ⊝ v5) (v8 ⊗ v7) (v1 ⊝ con one) (v0 ⊗ v6 ⊕ v1 ⊗ v7) v7 v8
    (v0 ⊗ v2 ⊕ v1 ⊗ v3 ⊕ (v5 ⊝ (v0 ⊗ v4 ⊕ v1 ⊗ v5))) v3 refl e f g

start_stays : (s : Segment)
    → IsSameVector (image_by (mirror_in s) (position_of (lesser_end s))) (position_of (lesser_end s))
start_stays s =
    let m = matrix_of (reflection (direction_number s)) in
    let q = position_of (lesser_end s) in
    (row_start m.xx m.xy q.x q.y q.x, row_start m.yx m.yy q.x q.y q.y)

end_stays : (s : Segment)
    → IsSameVector (image_by (mirror_in s) (position_of (greater_end s))) (position_of (greater_end s))
end_stays s =
    let n = direction_number s in
    let m = matrix_of (reflection n) in
    let d = direction_vector n in
    let q = position_of (lesser_end s) in
    let p = position_of (greater_end s) in
    let on = (along_is_multiple n q p).0 s.stretch.1 in
    let kept = (reflections_keep_their_lines n (omega (arith, s.dir.in_range))).0 in (
      row_on_x m.xx m.xy p.x p.y q.x q.y d.x d.y on.0 on.2.0 on.2.1 kept.0,
      row_on_y m.yx m.yy p.x p.y q.x q.y d.x d.y on.0 on.2.0 on.2.1 kept.1,
    )

-- ---- by either face

-- the image of a point that stays in the reflection
image_across : (t u r : Motion) (p q : Point)
    → ((x : Position) → IsSameVector (image_by u x) (image_by t (image_by r x)))
    → IsSameVector (image_by r (position_of p)) (position_of p) → IsImage t p q → IsImage u p q
image_across t u r p q h stays at =
    let x = position_of p in
    same_vector-trans (position_of q) (image_by t x) (image_by u x) at
    (same_vector-sym (image_by u x) (image_by t x)
    (same_vector-trans (image_by u x) (image_by t (image_by r x)) (image_by t x) (h x)
    (image_same t (image_by r x) x stays)))

pub by_other_face : (ts : List Motion) (s : SharedPiece) (image : Segment) → IsClosedAt ts s
    → IsCreaseImage (motion_at ts s.a) s.segment image → IsCreaseImage (motion_at ts s.b) s.segment image
by_other_face ts s image closed h =
    let t = motion_at ts s.a in
    let u = motion_at ts s.b in
    let r = mirror_in s.segment in
    record {
      from = h.from;
      to = h.to;
      from_is =
          image_across t u r (lesser_end s.segment) h.from closed.composed (start_stays s.segment) h.from_is;
      to_is = image_across t u r (greater_end s.segment) h.to closed.composed (end_stays s.segment) h.to_is;
      ends = h.ends;
    }

pub shared_more : (ts : List Motion) (ss : List SharedPiece) (i : ℕ) (s : SharedPiece) (c : CreaseImage)
    (cs ds : List CreaseImage) → i < length ss → s ≡ get_or ss i s → AllZip (IsSharedImage ts) (take i ss) cs
    → IsSharedImage ts s c → ds ≡ cs ++ c ∷ [] → AllZip (IsSharedImage ts) (take (i + 1) ss) ds
shared_more ts ss i s c cs ds few at h k e =
    let front : take (i + 1) ss ≡ take i ss ++ s ∷ [] =
    take_more ss i s few ∙ ap (λ r. take i ss ++ r ∷ []) (sym at) in
    let P : List CreaseImage → Type 0 = λ xs. AllZip (IsSharedImage ts) (take (i + 1) ss) xs in
    let Q : List SharedPiece → Type 0 = λ xs. AllZip (IsSharedImage ts) xs (cs ++ c ∷ []) in
    subst P (sym e) (subst Q (sym front) (push (take i ss) cs h))
  where
    push : (xs : List SharedPiece) (ys : List CreaseImage) → AllZip (IsSharedImage ts) xs ys
        → AllZip (IsSharedImage ts) (xs ++ s ∷ []) (ys ++ c ∷ [])
    push [] [] g = (k, tt)
    push [] (y ∷ ys) g = absurd g
    push (x ∷ xs) [] g = absurd g
    push (x ∷ xs) (y ∷ ys) g = (g.0, push xs ys g.1)

-- ---- the ends of a shared piece are corners of its faces

ends_from : (first : Point) (ps : List Point) (s : Side) → Member (sides_from first ps) s
    → Member ps s.start × (Member ps s.end ⊎ (s.end ≡ first))
ends_from first [] s at = absurd at
ends_from first (p ∷ []) s (inl e) = (
  inl (ap (λ (x : Side). x.start) e),
  inr (sym (ap (λ (x : Side). x.end) e)),
)
ends_from first (p ∷ []) s (inr at) = absurd at
ends_from first (p ∷ q ∷ ps) s (inl e) = (
  inl (ap (λ (x : Side). x.start) e),
  inl (inr (inl (ap (λ (x : Side). x.end) e))),
)
ends_from first (p ∷ q ∷ ps) s (inr at) =
    let r = ends_from first (q ∷ ps) s at in
    (inr r.0, elim r.1 [ inl later ↦ inl (inr later) | inr last ↦ inr last ])

side_ends : (corners : List Point) (s : Side) → Contains (sides_of corners) s
    → Member corners s.start × Member corners s.end
side_ends [] s c = absurd (member [] s c)
side_ends (p ∷ ps) s c =
    let r = ends_from p (p ∷ ps) s (member (sides_from p (p ∷ ps)) s c) in
    (r.0, elim r.1 [ inl there ↦ there | inr last ↦ inl (sym last) ])

corners_there : (faces : List (List Point)) (f : ℕ) (corners : List Point) → 1 ≤ f
    → corners_at faces f ≡ Some corners → slice_get faces (f - 1) ≡ Some corners
corners_there faces f corners low e = by (nat_eq f 0) refl
  where
    by : (b : Bool) → nat_eq f 0 ≡ b → slice_get faces (f - 1) ≡ Some corners
    by true zero_is = absurd (omega (arith, low, eqb-true f 0 zero_is))
    by false other = sym (ap (λ t. cond t None (slice_get faces (f - 1))) other) ∙ e

module _ (ts : List Motion) (faces : List (List Point)) (fs : List FoldedFace) (h : AreFoldedFaces ts faces fs) where
  side_images : (f : ℕ) (p q : Point) → 1 ≤ f → f ≤ length faces → IsSideOf faces f p q
      → HasImage (motion_at ts f) p × HasImage (motion_at ts f) q
  side_images f p q low high side =
      let corners = side.0 in
      let at : get_or faces (f - 1) [] ≡ corners =
      get_or_from_slice_get faces (f - 1) corners [] (corners_there faces f corners low side.1) in
      let found = folded_face_at ts faces fs h (f - 1) (omega (arith, low, high)) identity_motion in
      let P : List Point → Type 0 = λ ps. AreImages (motion_at ts f) ps found.0.corners in
      let images = subst P at found.1.images in
      let ends = side_ends corners (record { start = p; end = q }) side.2 in (
        has_image (motion_at ts f) corners found.0.corners images p ends.0,
        has_image (motion_at ts f) corners found.0.corners images q ends.1,
      )

  shared_ends : (s : SharedPiece) → IsShared faces s → HasSharedEnds ts s
  shared_ends s x =
      elim x.sides [
        | inl between ↦
            side_images s.a (lesser_end s.segment) (greater_end s.segment) x.first
            (omega (arith, x.order, x.last)) between.0
        | inr between ↦
            (let r = side_images s.a (greater_end s.segment) (lesser_end s.segment) x.first
            (omega (arith, x.order, x.last)) between.1 in
            (r.1, r.0))
      ]

pub all_ends : (m : FaceMapView) (ts : List Motion) (fs : List FoldedFace) → AreFaces m
    → AreFoldedFaces ts m.faces fs → All (HasSharedEnds ts) m.shared
all_ends m ts fs rules h =
    All-from_recursion (HasSharedEnds ts) m.shared
    (all_from_members (HasSharedEnds ts) m.shared
    (λ s at. shared_ends ts m.faces fs h s (all_member (IsShared m.faces) m.shared s rules.shared at)))
