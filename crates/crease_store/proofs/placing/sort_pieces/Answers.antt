use Rattle.std.proofs.Common.{rules}
use Rattle.crease_store.proofs.InOneWalk.{order_by_key}
use Rattle.crease_store.proofs.placing.sort_pieces.Goals as goal

pub returns-clause-order : goal.returns-clause-order
returns-clause-order c = order_by_key c.sort_unstable_by_key.new.self.items c.sort_unstable_by_key.ensures.sorted (λ a r q k. search rules)
