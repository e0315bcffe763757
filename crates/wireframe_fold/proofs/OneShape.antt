-- There is one folded shape at most, and it is made wherever memory is there.
use Rattle.std.specs.Prelude.{Result, Ok, Err, MatchResult, ◌↔◌}
use Rattle.std.proofs.Common.{◌≡◌, ◌≤◌, ℕ, List, [], ◌∷◌, length, refl, sym, ap, ap₂, subst, ◌∙◌, inl, inr, arith}
use Rattle.plane_geometry.specs.declared.Point.{Point}
use Rattle.plane_geometry.specs.declared.Segment.{Segment}
use Rattle.plane_geometry.specs.Ends.{lesser_of, greater_of}
use Rattle.plane_geometry.specs.SegmentLaws.{segment_is}
use Rattle.plane_geometry.specs.SegmentView.{lesser_end, greater_end}
use Rattle.line_split.specs.MemberLaws.{Member, all_member}
use Rattle.isometry_map.specs.declared.folded.CreaseImage.{CreaseImage}
use Rattle.isometry_map.specs.declared.folded.FoldedFace.{FoldedFace}
use Rattle.isometry_map.specs.Folded.{FoldedView}
use Rattle.isometry_map.specs.Motion.{Motion, IsSameMap}
use Rattle.face_builder.specs.declared.shared.SharedPiece.{SharedPiece}
use Rattle.face_builder.specs.MapRules.{IsShared, AreFaces}
use Rattle.face_builder.specs.View.{FaceMapView}
use Rattle.wireframe_fold.specs.declared.faults.WireFault.{WireFault}
use Rattle.wireframe_fold.specs.declared.faults.WireFault.TheVariants.{Memory}
use Rattle.wireframe_fold.specs.Crease.{IsCreaseImage, IsSharedImage, AreSharedImages}
use Rattle.wireframe_fold.specs.Fold.{IsShape, IsWireFault, HasMemory}
use Rattle.wireframe_fold.specs.Folding.{motion_at, IsFolding}
use Rattle.wireframe_fold.specs.Laws.{MoveAlike, ShapeIsOne}
use Rattle.wireframe_fold.proofs.Causes.{at_places, no_fault, one_faces, one_image}
use Rattle.wireframe_fold.proofs.OneFolding.{folding_is_one}

one_crease : (t u : Motion) (crease s r : Segment) → IsSameMap t u → IsCreaseImage t crease s
    → IsCreaseImage u crease r → s ≡ r
one_crease t u crease s r same h k =
    let from = one_image t u (lesser_end crease) h.from k.from same h.from_is k.from_is in
    let to = one_image t u (greater_end crease) h.to k.to same h.to_is k.to_is in
    segment_is s r (h.ends.0 ∙ ap₂ lesser_of from to ∙ sym k.ends.0)
    (h.ends.1 ∙ ap₂ greater_of from to ∙ sym k.ends.1)

one_shared : (ts us : List Motion) (s : SharedPiece) (c d : CreaseImage)
    → IsSameMap (motion_at ts s.a) (motion_at us s.a) → IsSharedImage ts s c → IsSharedImage us s d → c ≡ d
one_shared ts us s c d same h k =
    let piece : c.piece ≡ d.piece = h.piece ∙ sym k.piece in
    let a : c.a ≡ d.a = h.a ∙ sym k.a in
    let b : c.b ≡ d.b = h.b ∙ sym k.b in
    let image =
    one_crease (motion_at ts s.a) (motion_at us s.a) s.segment c.image d.image same h.by_a k.by_a in
    λ i. record { piece = piece i; a = a i; b = b i; image = image i }

one_list : (ts us : List Motion) (shared : List SharedPiece) (cs ds : List CreaseImage)
    → ((s : SharedPiece) → Member shared s → IsSameMap (motion_at ts s.a) (motion_at us s.a))
    → AreSharedImages ts shared cs → AreSharedImages us shared ds → cs ≡ ds
one_list ts us [] [] [] same h k = refl
one_list ts us [] [] (d ∷ ds) same h k = absurd k
one_list ts us [] (c ∷ cs) ds same h k = absurd h
one_list ts us (s ∷ shared) [] ds same h k = absurd h
one_list ts us (s ∷ shared) (c ∷ cs) [] same h k = absurd k
one_list ts us (s ∷ shared) (c ∷ cs) (d ∷ ds) same h k =
    ap₂ ◌∷◌ (one_shared ts us s c d (same s (inl refl)) h.0 k.0)
    (one_list ts us shared cs ds (λ r m. same r (inr m)) h.1 k.1)

pub shape_is_one : ShapeIsOne
shape_is_one m f g rules h k =
    let ts = h.0 in
    let us = k.0 in
    let alike = folding_is_one m ts us rules h.1 k.1 in
    let faces : f.faces ≡ g.faces =
    one_faces m.faces ts us f.faces g.faces h.2.faces k.2.faces h.1.linear k.1.linear
    (at_places m rules ts us alike) in
    let creases : f.creases ≡ g.creases =
    one_list ts us m.shared f.creases g.creases
    (λ s at.
    let x = all_member (IsShared m.faces) m.shared s rules.shared at in
    alike s.a x.first (omega (arith, x.order, x.last))) h.2.creases k.2.creases in
    λ i. record { faces = faces i; creases = creases i }

ok_is : (f g : FoldedView) → ◌≡◌ {A = Result FoldedView WireFault} (Ok f) (Ok g) → f ≡ g
ok_is f g e = cc

ok_not_err : {F : Type 0} (f : FoldedView) (x : WireFault)
    → ◌≡◌ {A = Result FoldedView WireFault} (Ok f) (Err x) → F
ok_not_err f x e = absurd (cc)

pub made_exactly : (m : FaceMapView) → AreFaces m → (r : Result FoldedView WireFault)
    → MatchResult r (IsShape m) (IsWireFault m) → (f : FoldedView)
    → (r ≡ Ok f) ↔ (HasMemory r × IsShape m f)
made_exactly m rules (Ok g) h f = (
  λ e. (
    (λ none. ok_not_err g Memory none),
    subst (IsShape m) (ok_is g f e) h,
  ),
  λ w. ap Ok (shape_is_one m g f rules h w.1),
)
made_exactly m rules (Err x) h f = (
  λ e. ok_not_err f x (sym e),
  λ w. absurd (no_fault m rules f x w.1 h (λ none. w.0 (ap Err none))),
)
