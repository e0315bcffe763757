use Rattle.std.proofs.Common.{ap}
use Rattle.plane_geometry.specs.declared.Segment.{Segment}
use Rattle.plane_geometry.specs.SegmentView.{lesser_end, greater_end}
use Rattle.plane_geometry.specs.SegmentLaws.{segment_is}
use Rattle.plane_geometry.specs.OrderLaws.{compare_segments-equal}
use Rattle.plane_geometry.proofs.laws.segments_are_their_ends.Goals as goal

pub returns-clause-equal : goal.returns-clause-equal
returns-clause-equal c =
    λ s u. (
      (λ e. (ap (λ (z : Segment). lesser_end z) e, ap (λ (z : Segment). greater_end z) e)),
      λ h. segment_is s u h.0 h.1,
    )

pub returns-clause-tied : goal.returns-clause-tied
returns-clause-tied c = compare_segments-equal
