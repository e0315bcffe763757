use Rattle.std.proofs.lemmas.Bool.{false≢true}
use Rattle.layer_rules.proofs.regions.overlap.Goals as goal

pub returns-then-is_apart : goal.returns-then-is_apart
returns-then-is_apart c = (
  λ yes. absurd (false≢true yes),
  λ x. absurd (c.is_apart.ensures.apart c.if-is_apart.true x.0 x.1 x.2),
)
