use Rattle.surd_number.specs.Value.{number_of}
use Rattle.open_region.specs.Interval.{IsInInterval}
use Rattle.open_region.proofs.Heights.{level_is}
use Rattle.open_region.proofs.Region.level.Goals as goal

pub returns : goal.returns
returns c =
    λ y. level_is c.args.self.now (number_of c.whole.result) (number_of c.whole-2.result) y
    (IsInInterval y c.whole-3.result) (IsInInterval y c.along_edge-above.result)
    (IsInInterval y c.along_edge.result) c.whole.ensures.number c.whole-2.ensures.number
    (c.whole-3.ensures y) (c.along_edge-above.ensures y) (c.along_edge.ensures y)
