use Rattle.std.proofs.Common.{◌≡◌, subst, true}
use Rattle.sign_rules.specs.Rules.{is_consistent}
use Rattle.sign_rules.specs.ConsistencyLaws.{consistent-front}
use Rattle.order_search.proofs.walking.climb.Goals as goal

pub put-fits-requires-clause-consistent : goal.put-fits-requires-clause-consistent
put-fits-requires-clause-consistent c =
    consistent-front c.args.rules.now c.pop.new.self.list _
    (subst (λ l. is_consistent c.args.rules.now l ≡ true) c.pop.ensures.signs c.requires.consistent)
