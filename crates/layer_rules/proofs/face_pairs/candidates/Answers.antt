use Rattle.std.proofs.Common.{arith}
use Rattle.layer_rules.proofs.PairLists.{all_pairs}
use Rattle.layer_rules.proofs.face_pairs.candidates.Goals as goal

pub returns : goal.returns
returns c =
    all_pairs c.args.faces c.loop-i.i c.loop-i.candidates.items (omega arith) c.loop-i.invariant.before
    (omega arith)
