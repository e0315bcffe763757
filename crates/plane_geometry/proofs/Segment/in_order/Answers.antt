use Rattle.std.proofs.Common.{sym}
use Rattle.plane_geometry.specs.SegmentLaws.{segment_from_found}
use Rattle.plane_geometry.proofs.Segment.in_order.Goals as goal

pub returns-in-Some-clause-value : goal.returns-in-Some-clause-value
returns-in-Some-clause-value c = sym (segment_from_found _ (sym c.in-Some.ensures.value))
