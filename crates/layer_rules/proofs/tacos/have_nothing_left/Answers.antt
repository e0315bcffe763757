use Rattle.std.proofs.Common.{◌∙◌, sym}
use Rattle.std.proofs.lemmas.Bool.{false≢true}
use Rattle.layer_rules.proofs.tacos.have_nothing_left.Goals as goal

pub returns-then-has_nothing_left : goal.returns-then-has_nothing_left
returns-then-has_nothing_left c = (
  λ yes. (
    c.has_nothing_left.ensures.0 c.if-has_nothing_left.true,
    c.has_nothing_left-then-has_nothing_left.ensures.0 yes,
  ),
  λ both. c.has_nothing_left-then-has_nothing_left.ensures.1 both.1,
)

pub returns-else-has_nothing_left : goal.returns-else-has_nothing_left
returns-else-has_nothing_left c = (
  λ yes. absurd (false≢true (sym c.if-has_nothing_left.false ∙ yes)),
  λ both.
      absurd (false≢true (sym c.if-has_nothing_left.false ∙ c.has_nothing_left.ensures.1 both.0)),
)
