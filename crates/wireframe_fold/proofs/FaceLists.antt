-- Folded faces, one after another.
use Rattle.std.proofs.Common.{◌≡◌, ◌∙◌, inl, inr, ℕ, zero, suc, ◌+◌, ◌-◌, ◌<◌, List, [], ◌∷◌, ◌++◌, length, take, get_or, sym, ap, subst, arith, refl}
use Rattle.std.proofs.lemmas.List.{take_more, take-map, get_or-take, length-take-le}
use Rattle.plane_geometry.specs.declared.Point.{Point}
use Rattle.isometry_map.specs.declared.folded.FoldedFace.{FoldedFace}
use Rattle.isometry_map.specs.declared.isometries.Isometry.{Isometry}
use Rattle.isometry_map.specs.Motion.{Motion, identity_motion}
use Rattle.isometry_map.specs.IsometryView.{motion_of}
use Rattle.isometry_map.specs.Folded.{IsImage, AreImages}
use Rattle.line_split.specs.MemberLaws.{Member, member}
use Rattle.wireframe_fold.specs.Crease.{HasImage}
use Rattle.wireframe_fold.specs.Folding.{motions_of, motion_at}
use Rattle.wireframe_fold.specs.Shape.{HasPointOut, IsFoldedFace, AreFoldedFaces, IsLeastOut}

-- ---- one more face

faces_push : (ts : List Motion) (cs : List (List Point)) (fs : List FoldedFace) (t : Motion) (c : List Point)
    (f : FoldedFace) → AreFoldedFaces ts cs fs → IsFoldedFace t c f
    → AreFoldedFaces (ts ++ t ∷ []) (cs ++ c ∷ []) (fs ++ f ∷ [])
faces_push [] [] [] t c f h k = (k, tt)
faces_push [] [] (g ∷ fs) t c f h k = absurd h
faces_push [] (d ∷ cs) [] t c f h k = absurd h
faces_push [] (d ∷ cs) (g ∷ fs) t c f h k = absurd h
faces_push (u ∷ ts) [] [] t c f h k = absurd h
faces_push (u ∷ ts) [] (g ∷ fs) t c f h k = absurd h
faces_push (u ∷ ts) (d ∷ cs) [] t c f h k = absurd h
faces_push (u ∷ ts) (d ∷ cs) (g ∷ fs) t c f h k = (h.0, faces_push ts cs fs t c f h.1 k)

pub faces_more : (ms : List Isometry) (cs : List (List Point)) (i : ℕ) (m : Isometry) (c : List Point)
    (f : FoldedFace) (fs gs : List FoldedFace) → i < length ms → i < length cs → m ≡ get_or ms i m
    → c ≡ get_or cs (i + 1 - 1) [] → AreFoldedFaces (motions_of (take i ms)) (take i cs) fs
    → IsFoldedFace (motion_of m) c f → gs ≡ fs ++ f ∷ []
    → AreFoldedFaces (motions_of (take (i + 1) ms)) (take (i + 1) cs) gs
faces_more ms cs i m c f fs gs few few_c at_m at_c h k e =
    let there : i + 1 - 1 ≡ i = omega arith in
    let front : motions_of (take (i + 1) ms) ≡ motions_of (take i ms) ++ motion_of m ∷ [] =
    ap motions_of (take_more ms i m few ∙ ap (λ n. take i ms ++ n ∷ []) (sym at_m))
    ∙ motions_push (take i ms) m in
    let corners : take (i + 1) cs ≡ take i cs ++ c ∷ [] =
    take_more cs i [] few_c
    ∙ ap (λ d. take i cs ++ d ∷ []) (ap (λ n. get_or cs n []) (sym there) ∙ sym at_c) in
    let P : List Motion → Type 0 = λ ts. AreFoldedFaces ts (take i cs ++ c ∷ []) (fs ++ f ∷ []) in
    let Q : List (List Point)
    → Type 0 = λ ds. AreFoldedFaces (motions_of (take (i + 1) ms)) ds (fs ++ f ∷ []) in
    let R : List FoldedFace
    → Type 0 = λ hs. AreFoldedFaces (motions_of (take (i + 1) ms)) (take (i + 1) cs) hs in
    subst R (sym e) (subst Q (sym corners)
    (subst P (sym front) (faces_push (motions_of (take i ms)) (take i cs) fs (motion_of m) c f h k)))
  where
    motions_push : (ns : List Isometry) (n : Isometry)
        → motions_of (ns ++ n ∷ []) ≡ motions_of ns ++ motion_of n ∷ []
    motions_push [] n = refl
    motions_push (o ∷ ns) n = ap (λ ts. motion_of o ∷ ts) (motions_push ns n)

-- ---- faces that are folded have no corner out of range

pub has_image : (t : Motion) (ps qs : List Point) → AreImages t ps qs → (p : Point) → Member ps p → HasImage t p
has_image t [] qs h p at = absurd at
has_image t (r ∷ ps) [] h p at = absurd h
has_image t (r ∷ ps) (q ∷ qs) h p (inl e) =
    let P : Point → Type 0 = λ x. IsImage t x q in (q, subst P e h.0)
has_image t (r ∷ ps) (q ∷ qs) h p (inr at) = has_image t ps qs h.1 p at

in_range : (t : Motion) (ps qs : List Point) → AreImages t ps qs → ¬ HasPointOut t ps
in_range t ps qs h out =
    let found = has_image t ps qs h out.0 (member ps out.0 out.1) in
    out.2 found.0 found.1

pub folded_face_at : (ts : List Motion) (cs : List (List Point)) (fs : List FoldedFace) → AreFoldedFaces ts cs fs
    → (j : ℕ) → j < length cs → (d : Motion)
    → (f : FoldedFace) × IsFoldedFace (get_or ts j d) (get_or cs j []) f
folded_face_at [] [] [] h j few d = absurd (omega arith)
folded_face_at [] [] (g ∷ fs) h j few d = absurd h
folded_face_at [] (c ∷ cs) [] h j few d = absurd h
folded_face_at [] (c ∷ cs) (g ∷ fs) h j few d = absurd h
folded_face_at (u ∷ ts) [] [] h j few d = absurd h
folded_face_at (u ∷ ts) [] (g ∷ fs) h j few d = absurd h
folded_face_at (u ∷ ts) (c ∷ cs) [] h j few d = absurd h
folded_face_at (u ∷ ts) (c ∷ cs) (g ∷ fs) h zero few d = (g, h.0)
folded_face_at (u ∷ ts) (c ∷ cs) (g ∷ fs) h (suc j) few d = folded_face_at ts cs fs h.1 j (omega arith) d

pub folded_at : (ts : List Motion) (cs : List (List Point)) (fs : List FoldedFace) → AreFoldedFaces ts cs fs
    → (j : ℕ) → j < length cs → (d : Motion) → ¬ HasPointOut (get_or ts j d) (get_or cs j [])
folded_at ts cs fs h j few d =
    let found = folded_face_at ts cs fs h j few d in
    in_range (get_or ts j d) (get_or cs j []) found.0.corners found.1.images

motion_in : (ms : List Isometry) (k : ℕ) (m : Isometry) (e : Motion) → k < length ms
    → get_or (motions_of ms) k e ≡ motion_of (get_or ms k m)
motion_in [] k m e few = absurd (omega arith)
motion_in (n ∷ ms) zero m e few = refl
motion_in (n ∷ ms) (suc k) m e few = motion_in ms k m e (omega arith)

pub least_out : (ms : List Isometry) (cs : List (List Point)) (i : ℕ) (m : Isometry) (c : List Point)
    (fs : List FoldedFace) → i < length ms → i < length cs → m ≡ get_or ms i m → c ≡ get_or cs (i + 1 - 1) []
    → AreFoldedFaces (motions_of (take i ms)) (take i cs) fs → HasPointOut (motion_of m) c
    → IsLeastOut (motions_of ms) cs (i + 1)
least_out ms cs i m c fs few few_c at_m at_c h out =
    let there : i + 1 - 1 ≡ i = omega arith in
    let motion : motion_at (motions_of ms) (i + 1) ≡ motion_of m =
    ap (λ n. get_or (motions_of ms) n identity_motion) there ∙ motion_in ms i m identity_motion few
    ∙ ap motion_of (sym at_m) in
    let corner : get_or cs i [] ≡ c = ap (λ n. get_or cs n []) (sym there) ∙ sym at_c in
    let P : Motion → Type 0 = λ t. HasPointOut t (get_or cs i []) in
    let Q : List Point → Type 0 = λ d. HasPointOut (motion_of m) d in
    record {
      before = i;
      number = refl;
      there = few_c;
      out = subst P (sym motion) (subst Q (sym corner) out);
      least = λ j less.
          let later : j + 1 - 1 ≡ j = omega arith in
          let size : length (take i cs) ≡ i = length-take-le i cs (omega arith) in
          let e : get_or (motions_of (take i ms)) j identity_motion ≡ motion_at (motions_of ms) (j + 1) =
          ap (λ ts. get_or ts j identity_motion) (sym (take-map motion_of i ms))
          ∙ get_or-take i (motions_of ms) j identity_motion less
          ∙ ap (λ n. get_or (motions_of ms) n identity_motion) (sym later) in
          let g : get_or (take i cs) j [] ≡ get_or cs j [] = get_or-take i cs j [] less in
          let S : Motion → Type 0 = λ t. ¬ HasPointOut t (get_or cs j []) in
          let T : List Point → Type 0 = λ d. ¬ HasPointOut
          (get_or (motions_of (take i ms)) j identity_motion) d in
          subst S e (subst T g
          (folded_at (motions_of (take i ms)) (take i cs) fs h j (omega (arith, size)) identity_motion));
    }
