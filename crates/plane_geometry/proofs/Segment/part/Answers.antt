use Rattle.std.proofs.Common.{sym, ◌∙◌}
use Rattle.plane_geometry.specs.Position.{position_of}
use Rattle.plane_geometry.specs.SegmentView.{stretch_of}
use Rattle.plane_geometry.specs.StretchLaws.{before_is, positive_is, on_parts}
use Rattle.plane_geometry.specs.CommonPointLaws.{along_line}
use Rattle.plane_geometry.specs.SegmentLaws.{segment_of-ends}
use Rattle.plane_geometry.proofs.Segment.part.Goals as goal

pub invariant_of-result : goal.invariant_of-result
invariant_of-result c =
    let whole = c.args.self.now in
    let s = stretch_of whole in
    let p = position_of c.args.from.now in
    let q = position_of c.args.to.now in
    record {
      stretch = (
        c.requires.order,
        along_line s p q whole.stretch (on_parts p s whole.stretch c.requires.from_on).in_line
            (on_parts q s whole.stretch c.requires.to_on).in_line
            (positive_is _ (sym (before_is p q) ∙ c.requires.order)),
      );
    }

pub returns-clause-value : goal.returns-clause-value
returns-clause-value c = segment_of-ends _
