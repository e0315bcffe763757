-- The faults that tell why there is no segment between two points, and why a segment has no cut points.
use Rattle.plane_geometry.specs.declared.SegmentFault.{SegmentFault}
use Rattle.plane_geometry.specs.declared.SegmentFault.TheVariants.{ZeroLength, BadDirection}
use Rattle.line_split.specs.declared.cutting.SplitFault.{SplitFault}
use Rattle.line_split.specs.declared.cutting.SplitFault.TheVariants.{OutOfRange, Memory}
use Rattle.crease_store.specs.declared.faults.StoreFault.{StoreFault}
use Rattle.crease_store.specs.declared.faults.StoreFault.TheVariants as fault

abbrev pub segment_fault : SegmentFault → StoreFault
segment_fault ZeroLength = fault.ZeroLength
segment_fault BadDirection = fault.BadDirection

abbrev pub split_fault : SplitFault → StoreFault
split_fault (OutOfRange n) = fault.Crossing n
split_fault Memory = fault.Memory
