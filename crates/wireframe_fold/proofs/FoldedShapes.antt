-- The shape by the folding, or why there is none.
use Rattle.std.specs.Prelude.{Result, Ok, Err, MatchResult, IfOk}
use Rattle.std.proofs.Common.{◌≡◌, ℕ, suc, ◌<◌, ◌≤◌, Bool, cond, List, [], ◌∷◌, length, refl, sym, ap, subst, arith}
use Rattle.std.specs.Bool.{IsTrue}
use Rattle.std.specs.List.{All, AllByRecursion, AllZip}
use Rattle.std.proofs.lemmas.List.Elements.{All-nil, All-cons, All-head, All-tail}
use Rattle.surd_number.specs.Number.{opposite_sign}
use Rattle.plane_geometry.specs.declared.Point.{Point}
use Rattle.plane_geometry.specs.Direction.{side_of}
use Rattle.plane_geometry.specs.Position.{Position}
use Rattle.crease_model.specs.Rules.{most_pieces}
use Rattle.isometry_map.specs.declared.folded.CreaseImage.{CreaseImage}
use Rattle.isometry_map.specs.declared.folded.FoldedFace.{FoldedFace}
use Rattle.isometry_map.specs.declared.isometries.Isometry.{Isometry}
use Rattle.isometry_map.specs.Folded.{FoldedView, AreImages, are_convex_faces}
use Rattle.isometry_map.specs.Motion.{Motion, side_of_images}
use Rattle.isometry_map.specs.MotionLaws.{sides_are_kept}
use Rattle.face_builder.specs.declared.shared.SharedPiece.{SharedPiece}
use Rattle.face_builder.specs.MapRules.{AreFaces, most_corners}
use Rattle.face_builder.specs.View.{FaceMapView}
use Rattle.wireframe_fold.specs.declared.faults.WireFault.{WireFault}
use Rattle.wireframe_fold.specs.declared.faults.WireFault.TheVariants.{DoesNotClose, FoldRange, TooManyLines, Memory}
use Rattle.wireframe_fold.specs.Crease.{AreSharedImages}
use Rattle.wireframe_fold.specs.Lines.{HasFewCorners}
use Rattle.wireframe_fold.specs.Folding.{motions_of, IsClosedAt, IsFolding, AreAlongWalk}
use Rattle.wireframe_fold.specs.Shape.{IsFoldedFace, AreFoldedFaces}
use Rattle.wireframe_fold.specs.Fold.{IsShapeBy, HasTooManyLines, IsShapeFault, IsShape, IsWireFault, IsSideKeeping, KeepsSides}
use Rattle.wireframe_fold.proofs.ConvexFaces.{IsFew, motions_linear, folded_convex}

folding_by : (m : FaceMapView) (ms : List Isometry) → AreAlongWalk m (motions_of ms)
    → All (IsClosedAt (motions_of ms)) m.shared → IsFolding m (motions_of ms)
folding_by m ms along closed =
    record { count = along.count; linear = motions_linear ms; fixed = along.fixed; closed = closed }

-- the same of slices that the code makes
pub folding_found : (m : FaceMapView) (ms slice first : List Isometry) (shared : List SharedPiece) → slice ≡ ms
    → first ≡ ms → shared ≡ m.shared → AreAlongWalk m (motions_of ms)
    → All (IsClosedAt (motions_of first)) shared → IsFolding m (motions_of slice)
folding_found m ms slice first shared at_slice at_first at_shared along closed =
    let P : List Isometry → Type 0 = λ ns. All (IsClosedAt (motions_of ns)) m.shared in
    let Q : List SharedPiece → Type 0 = λ ss. All (IsClosedAt (motions_of first)) ss in
    let R : List Isometry → Type 0 = λ ns. IsFolding m (motions_of ns) in
    subst R (sym at_slice) (folding_by m ms along (subst P at_first (subst Q at_shared closed)))

shape_fault : (m : FaceMapView) (ts : List Motion) (fault : WireFault) → IsFolding m ts
    → IsShapeFault m ts fault → IsWireFault m fault
shape_fault m ts (DoesNotClose piece) folding h = absurd h
shape_fault m ts (FoldRange face) folding h = (ts, folding, h)
shape_fault m ts (TooManyLines lines) folding h = (ts, folding, h)
shape_fault m ts Memory folding h = tt

pub shape_answer : (m : FaceMapView) (ts : List Motion) (r : Result FoldedView WireFault) → IsFolding m ts
    → MatchResult r (IsShapeBy m ts) (IsShapeFault m ts) → MatchResult r (IsShape m) (IsWireFault m)
shape_answer m ts (Ok f) folding h = (ts, folding, h)
shape_answer m ts (Err fault) folding h = shape_fault m ts fault folding h

-- ---- sides

sides_by : (t : Motion) (c : List Point) (f : FoldedFace) → t.linear < 16 → IsFoldedFace t c f → IsSideKeeping t f
sides_by t c f few h =
    let P : Bool → Type 0 = λ b. (n : ℕ) (q p : Position) → n < 16
    → side_of_images t n q p ≡ cond b (opposite_sign (side_of q n p)) (side_of q n p) in
    subst P (sym h.turned) (λ n q p few_n. sides_are_kept t n q p few few_n)

sides_of_each : (ts : List Motion) (cs : List (List Point)) (fs : List FoldedFace) → AreFoldedFaces ts cs fs
    → All IsFew ts → AllZip IsSideKeeping ts fs
sides_of_each [] [] [] h few = tt
sides_of_each [] [] (g ∷ fs) h few = absurd h
sides_of_each [] (c ∷ cs) [] h few = absurd h
sides_of_each [] (c ∷ cs) (g ∷ fs) h few = absurd h
sides_of_each (u ∷ ts) [] [] h few = absurd h
sides_of_each (u ∷ ts) [] (g ∷ fs) h few = absurd h
sides_of_each (u ∷ ts) (c ∷ cs) [] h few = absurd h
sides_of_each (u ∷ ts) (c ∷ cs) (g ∷ fs) h few = (
  sides_by u c g (All-head IsFew u ts few) h.0,
  sides_of_each ts cs fs h.1 (All-tail IsFew u ts few),
)

pub sides_kept : (m : FaceMapView) (r : Result FoldedView WireFault) → MatchResult r (IsShape m) (IsWireFault m)
    → IfOk r (KeepsSides m)
sides_kept m (Ok f) h =
    (h.0, h.1, sides_of_each h.0 m.faces f.faces h.2.faces h.1.linear)
sides_kept m (Err fault) h = tt

pub convex_shape : (m : FaceMapView) (r : Result FoldedView WireFault) → AreFaces m
    → MatchResult r (IsShape m) (IsWireFault m) → IfOk r (λ f. IsTrue (are_convex_faces f.faces))
convex_shape m (Ok f) rules h = folded_convex h.0 m.faces f.faces h.2.faces h.1.linear rules.convex
convex_shape m (Err fault) rules h = tt

-- ---- how many faces

pub folded_each : (ts : List Motion) (cs : List (List Point)) (fs : List FoldedFace) → AreFoldedFaces ts cs fs
    → length fs ≡ length cs
folded_each [] [] [] h = refl
folded_each [] [] (g ∷ fs) h = absurd h
folded_each [] (c ∷ cs) [] h = absurd h
folded_each [] (c ∷ cs) (g ∷ fs) h = absurd h
folded_each (u ∷ ts) [] [] h = absurd h
folded_each (u ∷ ts) [] (g ∷ fs) h = absurd h
folded_each (u ∷ ts) (c ∷ cs) [] h = absurd h
folded_each (u ∷ ts) (c ∷ cs) (g ∷ fs) h = ap suc (folded_each ts cs fs h.1)

pub all_folded : (m : FaceMapView) (r : Result FoldedView WireFault) → MatchResult r (IsShape m) (IsWireFault m)
    → IfOk r (λ f. length f.faces ≡ length m.faces)
all_folded m (Ok f) h = folded_each h.0 m.faces f.faces h.2.faces
all_folded m (Err fault) h = tt

-- ---- how many creases

images_count : (ts : List Motion) (shared : List SharedPiece) (cs : List CreaseImage)
    → AreSharedImages ts shared cs → length cs ≡ length shared
images_count ts [] [] h = refl
images_count ts [] (c ∷ cs) h = absurd h
images_count ts (s ∷ shared) [] h = absurd h
images_count ts (s ∷ shared) (c ∷ cs) h = ap suc (images_count ts shared cs h.1)

pub all_creases : (m : FaceMapView) (r : Result FoldedView WireFault) → AreFaces m
    → MatchResult r (IsShape m) (IsWireFault m) → IfOk r (λ f. length f.creases ≤ most_pieces)
all_creases m (Ok f) rules h = omega (arith, images_count h.0 m.shared f.creases h.2.creases, rules.pieces)
all_creases m (Err fault) rules h = tt

-- ---- how many corners

corners_count : (t : Motion) (ps qs : List Point) → AreImages t ps qs → length qs ≡ length ps
corners_count t [] [] h = refl
corners_count t [] (q ∷ qs) h = absurd h
corners_count t (p ∷ ps) [] h = absurd h
corners_count t (p ∷ ps) (q ∷ qs) h = ap suc (corners_count t ps qs h.1)

pub corners_few : (ts : List Motion) (cs : List (List Point)) (fs : List FoldedFace) → AreFoldedFaces ts cs fs
    → AllByRecursion (λ corners. length corners ≤ most_corners) cs → All HasFewCorners fs
corners_few [] [] [] h few = All-nil HasFewCorners
corners_few [] [] (g ∷ fs) h few = absurd h
corners_few [] (c ∷ cs) [] h few = absurd h
corners_few [] (c ∷ cs) (g ∷ fs) h few = absurd h
corners_few (u ∷ ts) [] [] h few = absurd h
corners_few (u ∷ ts) [] (g ∷ fs) h few = absurd h
corners_few (u ∷ ts) (c ∷ cs) [] h few = absurd h
corners_few (u ∷ ts) (c ∷ cs) (g ∷ fs) h few =
    All-cons HasFewCorners g fs (omega (arith, few.0, corners_count u c g.corners h.0.images))
    (corners_few ts cs fs h.1 few.1)
