-- Folded faces are convex where the faces are.
use Rattle.std.proofs.Common.{◌≡◌, ◌<◌, Bool, true, ◌&&◌, List, [], ◌∷◌, get_or, refl, sym, ap₂, subst, arith}
use Rattle.std.specs.List.{All, list_all}
use Rattle.std.proofs.lemmas.Bool.{and_parts}
use Rattle.std.proofs.lemmas.List.Elements.{All-head, All-tail, All-map}
use Rattle.plane_geometry.specs.declared.Point.{Point}
use Rattle.plane_geometry.specs.Polygon.{is_convex}
use Rattle.isometry_map.specs.declared.folded.FoldedFace.{FoldedFace}
use Rattle.isometry_map.specs.declared.isometries.Isometry.{Isometry}
use Rattle.isometry_map.specs.IsometryView.{motion_of}
use Rattle.isometry_map.specs.Motion.{Motion}
use Rattle.isometry_map.specs.Folded.{counterclockwise, is_convex_face, are_convex_faces}
use Rattle.isometry_map.specs.ConvexLaws.{images_are_convex}
use Rattle.wireframe_fold.specs.Folding.{motions_of}
use Rattle.wireframe_fold.specs.Shape.{AreFoldedFaces}

abbrev pub IsFew : Motion → Type 0
IsFew t = t.linear < 16

pub motions_linear : (ms : List Isometry) → All IsFew (motions_of ms)
motions_linear ms = All-map IsFew motion_of ms (λ k d few. omega (arith, (get_or ms k d).linear.in_range))

pub folded_convex : (ts : List Motion) (cs : List (List Point)) (fs : List FoldedFace)
    → AreFoldedFaces ts cs fs
    → All IsFew ts → list_all is_convex cs ≡ true → are_convex_faces fs ≡ true
folded_convex [] [] [] h few e = refl
folded_convex [] [] (g ∷ fs) h few e = absurd h
folded_convex [] (c ∷ cs) [] h few e = absurd h
folded_convex [] (c ∷ cs) (g ∷ fs) h few e = absurd h
folded_convex (u ∷ ts) [] [] h few e = absurd h
folded_convex (u ∷ ts) [] (g ∷ fs) h few e = absurd h
folded_convex (u ∷ ts) (c ∷ cs) [] h few e = absurd h
folded_convex (u ∷ ts) (c ∷ cs) (g ∷ fs) h few e =
    let k = and_parts (is_convex c) (list_all is_convex cs) e in
    let P : Bool → Type 0 = λ b. is_convex (counterclockwise b g.corners) ≡ true in
    let here : is_convex_face g ≡ true = subst P (sym h.0.turned)
    (images_are_convex u (All-head IsFew u ts few) c g.corners h.0.images k.0) in
    ap₂ ◌&&◌ here (folded_convex ts cs fs h.1 (All-tail IsFew u ts few) k.1)
