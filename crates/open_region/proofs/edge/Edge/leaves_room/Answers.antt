use Rattle.open_region.specs.EdgeView.{line_offset_of}
use Rattle.open_region.proofs.Sizes.{compared_fits, offset_fits}
use Rattle.open_region.proofs.edge.Edge.leaves_room.Goals as goal

pub is_less-requires-clause-m_fits : goal.is_less-requires-clause-m_fits
is_less-requires-clause-m_fits c = compared_fits (line_offset_of c.args.self.now) (offset_fits c.args.self.now)

pub is_less-requires-clause-n_fits : goal.is_less-requires-clause-n_fits
is_less-requires-clause-n_fits c = compared_fits (line_offset_of c.args.other.now) (offset_fits c.args.other.now)
