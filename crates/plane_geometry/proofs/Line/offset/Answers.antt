use Rattle.plane_geometry.proofs.Offsets.{offset_fits}
use Rattle.plane_geometry.proofs.Line.offset.Goals as goal

pub returns-clause-fits : goal.returns-clause-fits
returns-clause-fits c = offset_fits c.args.self.now
