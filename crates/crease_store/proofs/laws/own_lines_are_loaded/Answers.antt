use Rattle.crease_store.proofs.OwnLines.{own_lines_are_loaded}
use Rattle.crease_store.proofs.laws.own_lines_are_loaded.Goals as goal

pub returns : goal.returns
returns c = own_lines_are_loaded
