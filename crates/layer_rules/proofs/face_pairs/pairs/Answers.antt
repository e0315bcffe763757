use Rattle.std.proofs.Common.{arith}
use Rattle.layer_rules.proofs.Refusals.{refused_where, accepted_where}
use Rattle.layer_rules.proofs.face_pairs.pairs.Goals as goal

pub returns-then-len-gt-MOST_PAIRS-clause-too_many : goal.returns-then-len-gt-MOST_PAIRS-clause-too_many
returns-then-len-gt-MOST_PAIRS-clause-too_many g c =
    λ n.
    refused_where c.args.shape.now c.in_ok-pairs.pairs.items c.len-then-len-gt-MOST_PAIRS.result n
    c.in_ok-pairs.ensures.0 (omega arith) (omega arith)

pub returns-clause-too_many : goal.returns-clause-too_many
returns-clause-too_many g c =
    λ n.
    accepted_where c.args.shape.now c.in_ok-pairs.pairs.items c.in_ok-pairs.pairs n c.in_ok-pairs.ensures.0
    (omega arith)
