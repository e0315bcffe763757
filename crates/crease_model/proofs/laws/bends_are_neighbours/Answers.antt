use Rattle.crease_model.proofs.Bends.{bends_are_neighbours}
use Rattle.crease_model.proofs.laws.bends_are_neighbours.Goals as goal

pub returns : goal.returns
returns c = bends_are_neighbours
