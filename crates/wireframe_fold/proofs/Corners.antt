-- Images of corners.
use Rattle.std.specs.Prelude.{Result, Ok, Err}
use Rattle.std.proofs.Common.{◌≡◌, ◌∙◌, ℕ, ◌+◌, ◌<◌, List, [], ◌∷◌, ◌++◌, length, take, get_or, sym, ap, subst}
use Rattle.std.proofs.lemmas.List.{take_more}
use Rattle.surd_number.specs.declared.Surd.{Surd}
use Rattle.surd_number.specs.declared.OutOfRange.{OutOfRange}
use Rattle.surd_number.specs.Number.{Number}
use Rattle.surd_number.specs.NumberLaws.{IsSame-trans, IsSame-sym}
use Rattle.surd_number.specs.Stored.{IsSurd}
use Rattle.surd_number.specs.Value.{number_of}
use Rattle.surd_number.specs.Exact.{IsSurdOf, IsExactly}
use Rattle.plane_geometry.specs.declared.Point.{Point}
use Rattle.plane_geometry.specs.Position.{Position, position_of}
use Rattle.plane_geometry.specs.Multiple.{IsSameVector}
use Rattle.isometry_map.specs.Motion.{Motion, image_by}
use Rattle.isometry_map.specs.Folded.{IsImage, AreImages}
use Rattle.wireframe_fold.specs.Shape.{HasNoImage}

exactly_there : (n : Number) (r : Result Surd OutOfRange) (s : Surd) → IsExactly r n → r ≡ Ok s → IsSurdOf s n
exactly_there n r s h e = let P : Result Surd OutOfRange → Type 0 = λ q. IsExactly q n in subst P e h

exactly_not : (n : Number) (r : Result Surd OutOfRange) (e : OutOfRange) → IsExactly r n → r ≡ Err e
    → ¬ IsSurd n
exactly_not n r e h at = let P : Result Surd OutOfRange → Type 0 = λ q. IsExactly q n in subst P at h

-- w is the image of p, part by part
module _ (t : Motion) (p : Point) (w : Position) (image : IsSameVector w (image_by t (position_of p))) where
  pub point_there : (rx ry : Result Surd OutOfRange) (x y : Surd) → IsExactly rx w.x → IsExactly ry w.y
      → rx ≡ Ok x → ry ≡ Ok y → IsImage t p (record { x = x; y = y })
  point_there rx ry x y h k e f =
      let z = image_by t (position_of p) in (
        IsSame-trans (number_of x) w.x z.x (exactly_there w.x rx x h e) image.0,
        IsSame-trans (number_of y) w.y z.y (exactly_there w.y ry y k f) image.1,
      )

  pub no_point_by_x : (r : Result Surd OutOfRange) (e : OutOfRange) → IsExactly r w.x → r ≡ Err e
      → HasNoImage t p
  no_point_by_x r e h at q there =
      let z = image_by t (position_of p) in
      exactly_not w.x r e h at
      (number_of q.x, q.x.stored, IsSame-trans (number_of q.x) z.x w.x there.0 (IsSame-sym w.x z.x image.0))

  pub no_point_by_y : (r : Result Surd OutOfRange) (e : OutOfRange) → IsExactly r w.y → r ≡ Err e
      → HasNoImage t p
  no_point_by_y r e h at q there =
      let z = image_by t (position_of p) in
      exactly_not w.y r e h at
      (number_of q.y, q.y.stored, IsSame-trans (number_of q.y) z.y w.y there.1 (IsSame-sym w.y z.y image.1))

images_push : (t : Motion) (ps qs : List Point) (p q : Point) → AreImages t ps qs → IsImage t p q
    → AreImages t (ps ++ p ∷ []) (qs ++ q ∷ [])
images_push t [] [] p q h k = (k, tt)
images_push t [] (r ∷ qs) p q h k = absurd h
images_push t (r ∷ ps) [] p q h k = absurd h
images_push t (r ∷ ps) (s ∷ qs) p q h k = (h.0, images_push t ps qs p q h.1 k)

pub images_more : (t : Motion) (ps : List Point) (i : ℕ) (p q : Point) (qs rs : List Point) → i < length ps
    → p ≡ get_or ps i p → AreImages t (take i ps) qs → IsImage t p q → rs ≡ qs ++ q ∷ []
    → AreImages t (take (i + 1) ps) rs
images_more t ps i p q qs rs few at h k e =
    let P : List Point → Type 0 = λ xs. AreImages t (take (i + 1) ps) xs in
    let Q : List Point → Type 0 = λ xs. AreImages t xs (qs ++ q ∷ []) in
    let front : take (i + 1) ps ≡ take i ps ++ p ∷ [] = take_more ps i p few
    ∙ ap (λ r. take i ps ++ r ∷ []) (sym at) in
    subst P (sym e) (subst Q (sym front) (images_push t (take i ps) qs p q h k))
