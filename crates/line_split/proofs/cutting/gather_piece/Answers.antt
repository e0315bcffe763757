use Rattle.std.proofs.Common.{sym, ◌∙◌}
use Rattle.plane_geometry.specs.SegmentView.{stretch_of}
use Rattle.line_split.specs.Points.{in_order}
use Rattle.line_split.specs.TouchLaws.{untouched_cuts}
use Rattle.line_split.proofs.cutting.gather_piece.Goals as goal

pub returns-then-not-share_point-clause-points : goal.returns-then-not-share_point-clause-points
returns-then-not-share_point-clause-points c =
    untouched_cuts (stretch_of c.args.s.now) (in_order c.args.cutting.now.points.items) c.args.piece.now.segment
    (sym c.share_point.ensures.value ∙ c.if-not-share_point.true)
