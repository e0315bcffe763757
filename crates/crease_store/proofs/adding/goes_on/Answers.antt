use Rattle.std.proofs.Common.{◌≡◌, true, ◌∙◌, sym, subst}
use Rattle.plane_geometry.specs.declared.Point.{Point}
use Rattle.plane_geometry.specs.SegmentView.{lesser_end}
use Rattle.line_split.specs.Points.{equal_points}
use Rattle.line_split.specs.SortedLaws.{equal_point}
use Rattle.crease_store.proofs.adding.goes_on.Goals as goal

pub returns-then-along : goal.returns-then-along
returns-then-along c =
    let v = c.args.v.now in
    λ e. (
      sym c.along.ensures ∙ c.if-along.true,
      equal_point (lesser_end c.args.piece.now.segment) v (subst (λ (u : Point). equal_points u v ≡ true) c.from.ensures.value (sym c.eq.ensures ∙ e)),
    )
