use Rattle.crease_store.proofs.MergeLaws.{loose_is_two}
use Rattle.crease_store.proofs.merging_laws.loose_is_two.Goals as goal

pub returns : goal.returns
returns c = loose_is_two
