use Rattle.std.proofs.Common.{◌↔◌, ◌⊎◌, ◌≡◌, ◌∷◌, ◌+◌, ◌∙◌, suc, List, ◌≤◌, drop, length, sym, ap, subst, add-one, arith}
use Rattle.std.specs.List.{Contains}
use Rattle.std.proofs.Math.Seq.{drop-cons}
use Rattle.std.proofs.lemmas.List.{drop_all}
use Rattle.plane_geometry.specs.declared.Line.{Line}
use Rattle.plane_geometry.specs.declared.Point.{Point}
use Rattle.plane_geometry.specs.Polygon.{sides_of}
use Rattle.isometry_map.specs.declared.folded.FoldedFace.{FoldedFace}
use Rattle.wireframe_fold.specs.Lines.{IsThrough, HasFewCorners, folded_sides}
use Rattle.face_builder.specs.MapRules.{most_corners}
use Rattle.wireframe_fold.proofs.SideLines.{all_gathered, different_as, face_gathered, empty_gathered}
use Rattle.wireframe_fold.proofs.lines.count_lines.Goals as goal

pub loop-face-init : goal.loop-face-init
loop-face-init c = (
  λ q.
      let W = IsThrough (folded_sides c.args.faces.now) q in
      let P : List Line → Type 0 = λ ls. (Contains ls q ⊎ W) ↔ W in
      subst P (sym c.new-lines.ensures.items) (empty_gathered W q),
  let none : length c.new-lines.result.items ≡ 0 = ap length c.new-lines.ensures.items in omega (arith, none),
)

pub loop-face-preserved : goal.loop-face-preserved
loop-face-preserved c =
    let faces = c.args.faces.now in
    let i = c.loop-face.face-index in
    let f = c.face-item.result in (
      λ q.
          let rest = drop (i + 1) faces in
          let first : drop i faces ≡ f ∷ rest =
          drop-cons faces i f c.loop-face-test.true ∙ ap (λ n. n ∷ drop (suc i) faces) (sym c.face-item.is)
          ∙ ap (λ n. f ∷ drop n faces) (sym (add-one i)) in
          let W = IsThrough (folded_sides faces) q in
          let A = Contains c.loop-face.lines.items q in
          let P : List FoldedFace → Type 0 = λ fs. (A ⊎ IsThrough (folded_sides fs) q) ↔ W in
          let Q : List Point → Type 0 = λ ps. Contains c.push_lines.new.lines.items q ↔ (A ⊎ IsThrough (sides_of ps) q) in
          face_gathered f rest q (subst P first (c.loop-face.invariant.0 q))
          (subst Q c.as_slice.ensures (c.in_ok-push_lines.ensures.lines q)),
      let few : length f.corners ≤ most_corners =
          subst HasFewCorners (sym c.face-item.is) (c.requires i f c.loop-face-test.true) in
          let same : length c.as_slice.result.now ≡ length f.corners = ap length c.as_slice.ensures in
          omega (arith, c.loop-face.invariant.1, c.in_ok-push_lines.ensures.few, few, same),
    )

pub returns-clause-count : goal.returns-clause-count
returns-clause-count c =
    let faces = c.args.faces.now in
    let ls = c.loop-face.lines.items in
    different_as (Contains ls) (IsThrough (folded_sides faces)) c.count_different.result
    (λ q. let P : List FoldedFace → Type 0 = λ fs. (Contains ls q ⊎ IsThrough (folded_sides fs) q)
    ↔ IsThrough (folded_sides faces) q in
    all_gathered (subst P (drop_all c.loop-face.face-index faces c.loop-face-test.false)
    (c.loop-face.invariant.0 q)))
    c.count_different.ensures.different
