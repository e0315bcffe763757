-- The points strictly inside a folded face are the images of those strictly left of all sides of the face.
use Rattle.std.specs.Prelude.{Result, Ok, Err, MatchResult, IfOk, ◌↔◌}
use Rattle.std.proofs.Common.{◌≡◌, ◌<◌, Bool, true, ◌&&◌, List, [], ◌∷◌, sym, ap, ◌∙◌}
use Rattle.std.specs.Bool.{IsTrue}
use Rattle.std.specs.List.{All, list_all}
use Rattle.std.proofs.lemmas.Bool.{and_parts}
use Rattle.std.proofs.lemmas.List.Elements.{All-head, All-tail}
use Rattle.plane_geometry.specs.declared.Point.{Point}
use Rattle.plane_geometry.specs.Multiple.{IsSameVector}
use Rattle.plane_geometry.specs.Polygon.{have_directions, is_convex, is_in_polygon}
use Rattle.plane_geometry.specs.Position.{Position}
use Rattle.isometry_map.specs.declared.folded.FoldedFace.{FoldedFace}
use Rattle.isometry_map.specs.Folded.{FoldedView, counterclockwise}
use Rattle.isometry_map.specs.Laws.{InsidesAreImages, EachIsAnImage}
use Rattle.isometry_map.specs.Motion.{Motion, image_by}
use Rattle.face_builder.specs.MapRules.{AreFaces}
use Rattle.face_builder.specs.View.{FaceMapView}
use Rattle.wireframe_fold.specs.declared.faults.WireFault.{WireFault}
use Rattle.wireframe_fold.specs.Inside.{is_inside_face, IsInnerImage, HaveInnerImages, KeepsInsides, InsideIsImage}
use Rattle.wireframe_fold.specs.Shape.{IsFoldedFace, AreFoldedFaces}
use Rattle.wireframe_fold.specs.Fold.{IsShape, IsWireFault}
use Rattle.wireframe_fold.proofs.ConvexFaces.{IsFew}

module _ (kept : InsidesAreImages) (each : EachIsAnImage) where
  pub inside_is_image : InsideIsImage
  inside_is_image t corners face few directed folded q = (to, from)
    where
      same : (p : Position) → IsSameVector q (image_by t p) → is_inside_face q face ≡ is_in_polygon corners p
      same p image =
          ap (λ (b : Bool). is_in_polygon (counterclockwise b face.corners) q) folded.turned
          ∙ kept t few corners face.corners folded.images directed p q image

      to : IsTrue (is_inside_face q face) → IsInnerImage t corners q
      to inside = let p = each t q few in (p.0, sym (same p.0 p.1) ∙ inside, p.1)

      from : IsInnerImage t corners q → IsTrue (is_inside_face q face)
      from inner = same inner.0 inner.2 ∙ inner.1

directed : (c : List Point) → is_convex c ≡ true → IsTrue (have_directions c)
unfolding is_convex
directed c e = (and_parts _ _ e).0

module _ (law : InsideIsImage) where
  all_inner : (ts : List Motion) (cs : List (List Point)) (fs : List FoldedFace) → AreFoldedFaces ts cs fs
      → All IsFew ts → list_all is_convex cs ≡ true → HaveInnerImages ts cs fs
  all_inner [] [] [] h few e = tt
  all_inner [] [] (g ∷ fs) h few e = absurd h
  all_inner [] (c ∷ cs) [] h few e = absurd h
  all_inner [] (c ∷ cs) (g ∷ fs) h few e = absurd h
  all_inner (u ∷ ts) [] [] h few e = absurd h
  all_inner (u ∷ ts) [] (g ∷ fs) h few e = absurd h
  all_inner (u ∷ ts) (c ∷ cs) [] h few e = absurd h
  all_inner (u ∷ ts) (c ∷ cs) (g ∷ fs) h few e =
      let k = and_parts (is_convex c) (list_all is_convex cs) e in (
        law u c g (All-head IsFew u ts few) (directed c k.0) h.0,
        all_inner ts cs fs h.1 (All-tail IsFew u ts few) k.1,
      )

  pub insides_kept : (m : FaceMapView) (r : Result FoldedView WireFault) → AreFaces m
      → MatchResult r (IsShape m) (IsWireFault m) → IfOk r (KeepsInsides m)
  insides_kept m (Ok f) rules h =
      (h.0, h.1, all_inner h.0 m.faces f.faces h.2.faces h.1.linear rules.convex)
  insides_kept m (Err fault) rules h = tt
