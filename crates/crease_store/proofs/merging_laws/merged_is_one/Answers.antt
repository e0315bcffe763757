use Rattle.crease_store.proofs.MergeLaws.{merged_is_one}
use Rattle.crease_store.proofs.merging_laws.merged_is_one.Goals as goal

pub returns : goal.returns
returns c = merged_is_one
