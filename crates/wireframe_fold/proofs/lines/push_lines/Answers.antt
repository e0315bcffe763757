use Rattle.std.proofs.Common.{◌↔◌, ◌⊎◌, ◌≡◌, ◌∷◌, ◌+◌, List, sym, subst, arith}
use Rattle.std.specs.List.{Contains}
use Rattle.plane_geometry.specs.Polygon.{Side, sides_of}
use Rattle.plane_geometry.specs.PolygonLaws.{sides_left, next_side_left}
use Rattle.wireframe_fold.specs.Lines.{IsThrough}
use Rattle.wireframe_fold.proofs.SideLines.{all_left, none_left, next_gathered, all_gathered}
use Rattle.wireframe_fold.proofs.lines.push_lines.Goals as goal

pub loop-i-init : goal.loop-i-init
loop-i-init c = (
  λ q.
      let old = c.args.lines.now.items in
      let W = Contains old q ⊎ IsThrough (sides_of c.args.corners.now) q in
      let P : List Side → Type 0 = λ ss. (Contains old q ⊎ IsThrough ss q) ↔ W in
      subst P (sym (all_left c.args.corners.now)) (λ h. h, λ h. h),
  omega arith,
)

pub loop-i-preserved : goal.loop-i-preserved
loop-i-preserved c = (
  λ q.
      let corners = c.args.corners.now in
      let i = c.loop-i.i in
      let s : Side = record { start = c.index-corners-i.result; end = c.next_corner.result.now } in
      let first : sides_left corners i ≡ s ∷ sides_left corners (i + 1) =
      next_side_left corners i s.start s.end c.loop-i-test.true c.index-corners-i.is c.next_corner.ensures in
      let W = Contains c.args.lines.now.items q ⊎ IsThrough (sides_of corners) q in
      let P : List Side → Type 0 = λ ss. (Contains c.loop-i.lines.items q ⊎ IsThrough ss q) ↔ W in
      next_gathered (subst P first (c.loop-i.invariant.0 q)) (c.in_ok-push_line.ensures.lines q),
  omega (arith, c.loop-i.invariant.1, c.in_ok-push_line.ensures.few),
)

pub returns-clause-lines : goal.returns-clause-lines
returns-clause-lines c = λ q.
    let corners = c.args.corners.now in
    let W = Contains c.args.lines.now.items q ⊎ IsThrough (sides_of corners) q in
    let P : List Side → Type 0 = λ ss. (Contains c.loop-i.lines.items q ⊎ IsThrough ss q) ↔ W in
    all_gathered (subst P (none_left corners c.loop-i.i c.loop-i-test.false) (c.loop-i.invariant.0 q))
