use Rattle.std.proofs.Common.{◌≡◌, ◌+◌, ◌++◌, drop}
use Rattle.plane_geometry.specs.SegmentView.{stretch_of}
use Rattle.line_split.specs.Cuts.{cuts_from, cuts_of, touched, untouched}
use Rattle.line_split.specs.Points.{in_order}
use Rattle.line_split.proofs.cutting.gathered.Given as goal

abbrev pub invariant-loop-i : goal.invariant-loop-i
invariant-loop-i l =
    record {
      points : cuts_from (stretch_of l.segment) (l.i + 1) (drop l.i l.pieces) (in_order l.cutting.points.items) ≡ cuts_of l.segment l.pieces;
      touched : l.cutting.touched.items ++ touched (stretch_of l.segment) (drop l.i l.pieces) ≡ touched (stretch_of l.segment) l.pieces;
      others : l.cutting.others.items ++ untouched (stretch_of l.segment) (drop l.i l.pieces) ≡ untouched (stretch_of l.segment) l.pieces;
    }
