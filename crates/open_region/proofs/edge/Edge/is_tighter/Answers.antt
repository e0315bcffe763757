use Rattle.std.proofs.Common.{arith}
use Rattle.open_region.specs.EdgeView.{line_offset_of}
use Rattle.open_region.proofs.Steps.{iff_trans}
use Rattle.open_region.proofs.Sizes.{compared_fits, offset_fits}
use Rattle.open_region.proofs.Edges.{turned_less}
use Rattle.open_region.proofs.edge.Edge.is_tighter.Goals as goal

pub is_less-requires-clause-m_fits : goal.is_less-requires-clause-m_fits
is_less-requires-clause-m_fits c =
    compared_fits (line_offset_of c.args.other.now) (offset_fits c.args.other.now)

pub is_less-requires-clause-n_fits : goal.is_less-requires-clause-n_fits
is_less-requires-clause-n_fits c =
    compared_fits (line_offset_of c.args.self.now) (offset_fits c.args.self.now)

pub is_less-requires-else-n-lt8-clause-m_fits : goal.is_less-requires-else-n-lt8-clause-m_fits
is_less-requires-else-n-lt8-clause-m_fits c =
    compared_fits (line_offset_of c.args.self.now) (offset_fits c.args.self.now)

pub is_less-requires-else-n-lt8-clause-n_fits : goal.is_less-requires-else-n-lt8-clause-n_fits
is_less-requires-else-n-lt8-clause-n_fits c =
    compared_fits (line_offset_of c.args.other.now) (offset_fits c.args.other.now)

pub returns-else-n-lt8 : goal.returns-else-n-lt8
returns-else-n-lt8 c =
    iff_trans c.is_less-else-n-lt8.ensures
    (turned_less c.args.n (line_offset_of c.args.self.now) (line_offset_of c.args.other.now)
    (omega arith))
