use Rattle.std.proofs.Common.{arith}
use Rattle.open_region.proofs.Sizes.{scaled_is, scaled_fits, offset_is, offset_fits}
use Rattle.open_region.proofs.Heights.{rise_first, rise_one, rise_last}
use Rattle.plane_geometry.specs.Direction.{direction_vector}
use Rattle.open_region.proofs.edge.Edge.risen.Goals as goal

pub returns-then-k-lt2-clause-value : goal.returns-then-k-lt2-clause-value
returns-then-k-lt2-clause-value c =
    scaled_is c.args.self.now (direction_vector c.args.k).y (rise_first c.args.k (omega arith))

pub returns-then-k-lt2-clause-fits : goal.returns-then-k-lt2-clause-fits
returns-then-k-lt2-clause-fits c = scaled_fits c.args.self.now

pub returns-then-k-lt7-clause-value : goal.returns-then-k-lt7-clause-value
returns-then-k-lt7-clause-value c =
    offset_is c.args.self.now (direction_vector c.args.k).y (rise_one c.args.k (omega arith) (omega arith))

pub returns-then-k-lt7-clause-fits : goal.returns-then-k-lt7-clause-fits
returns-then-k-lt7-clause-fits c = offset_fits c.args.self.now

pub returns-else-k-lt7-clause-value : goal.returns-else-k-lt7-clause-value
returns-else-k-lt7-clause-value c =
    scaled_is c.args.self.now (direction_vector c.args.k).y (rise_last c.args.k (omega arith))

pub returns-else-k-lt7-clause-fits : goal.returns-else-k-lt7-clause-fits
returns-else-k-lt7-clause-fits c = scaled_fits c.args.self.now
