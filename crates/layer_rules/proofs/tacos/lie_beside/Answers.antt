use Rattle.std.proofs.Common.{◌∙◌, sym}
use Rattle.std.proofs.lemmas.Bool.{false≢true}
use Rattle.layer_rules.proofs.tacos.lie_beside.Goals as goal

pub returns-then-have_nothing_left : goal.returns-then-have_nothing_left
returns-then-have_nothing_left c = (
  λ yes. (
    c.have_nothing_left.ensures.0 c.if-have_nothing_left.true,
    c.have_nothing_left-then-have_nothing_left.ensures.0 yes,
  ),
  λ both. c.have_nothing_left-then-have_nothing_left.ensures.1 both.1,
)

pub returns-else-have_nothing_left : goal.returns-else-have_nothing_left
returns-else-have_nothing_left c = (
  λ yes. absurd (false≢true (sym c.if-have_nothing_left.false ∙ yes)),
  λ both.
      absurd (false≢true (sym c.if-have_nothing_left.false ∙ c.have_nothing_left.ensures.1 both.0)),
)
