use Rattle.std.proofs.Common.{List, refl, sym, subst}
use Rattle.job_register.specs.declared.session.Event.{Event}
use Rattle.job_register.specs.Machine.{first_state}
use Rattle.job_register.specs.Legal.{IsLegal}
use Rattle.oriedita_cli.proofs.running.ended_without.Goals as goal

pub returns-clause-legal : goal.returns-clause-legal
returns-clause-legal c =
    subst (λ (es : List Event). IsLegal 1 es) (sym c.new.ensures)
    (record { state = first_state 1; leads = refl })
