use Rattle.line_split.proofs.Gathered.{sorted_is}
use Rattle.line_split.proofs.cutting.sort_once.Goals as goal

pub returns : goal.returns
returns c =
    sorted_is c.args.points.now.items c.sort_unstable.new.self.items c.dedup.new.self.items c.sort_unstable.ensures.permutation c.sort_unstable.ensures.sorted
    c.dedup.ensures.filtered
