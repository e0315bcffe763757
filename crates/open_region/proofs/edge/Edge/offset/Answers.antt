use Rattle.open_region.proofs.Sizes.{edge_fits}
use Rattle.open_region.proofs.edge.Edge.offset.Goals as goal

pub returns-clause-fits : goal.returns-clause-fits
returns-clause-fits c = edge_fits c.args.self.now
