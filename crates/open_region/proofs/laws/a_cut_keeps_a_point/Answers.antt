use Rattle.open_region.proofs.Cuts.{a_cut_keeps}
use Rattle.open_region.proofs.laws.a_cut_keeps_a_point.Goals as goal

pub returns : goal.returns
returns c = a_cut_keeps
