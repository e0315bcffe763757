use Rattle.std.proofs.Common.{◌≡◌, ◌++◌, drop}
use Rattle.std.specs.Prelude.{IsTrue}
use Rattle.plane_geometry.specs.Position.{position_of}
use Rattle.plane_geometry.specs.SegmentView.{stretch_of, greater_end}
use Rattle.plane_geometry.specs.Stretch.{is_on}
use Rattle.line_split.specs.Parts.{pieces_between, inner_points, parts_of}
use Rattle.line_split.proofs.parting.cut_at.Given as goal

abbrev pub invariant-loop-point : goal.invariant-loop-point
unfolding parts_of
invariant-loop-point l = record {
  parts : l.parts.items
      ++ pieces_between l.piece.kind l.start
      (inner_points (stretch_of l.piece.segment) (drop l.point-index l.points)) (greater_end l.piece.segment)
      ≡ parts_of l.piece l.points;
  start : IsTrue (is_on (position_of l.start) (stretch_of l.piece.segment));
}
