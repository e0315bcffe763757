use Rattle.layer_rules.proofs.circles.common.Goals as goal

pub returns : goal.returns
returns c = λ p. (
  λ h.
      let halves = (c.both.ensures p).0 h in ((c.region.ensures p).0 halves.0, (c.region-2.ensures p).0 halves.1),
  λ h. (c.both.ensures p).1 ((c.region.ensures p).1 h.0, (c.region-2.ensures p).1 h.1),
)
