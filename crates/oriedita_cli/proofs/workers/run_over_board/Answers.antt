use Rattle.std.proofs.Common.{inr, refl}
use Rattle.job_register.specs.View.{record_events}
use Rattle.oriedita_cli.proofs.Outputs.{refused_output}
use Rattle.oriedita_cli.proofs.Readings.{undone}
use Rattle.oriedita_cli.proofs.workers.run_over_board.Goals as goal

pub returns-in_default-clause-done : goal.returns-in_default-clause-done
returns-in_default-clause-done g c =
    undone c.args.errand c.ended_without.result.status (record_events c.ended_without.result.events)
    c.ended_without.ensures.events c.ended_without.ensures.status

pub returns-in_default-clause-output : goal.returns-in_default-clause-output
returns-in_default-clause-output g c =
    refused_output c.ended_without.result.status 6 _ _ _ c.ended_without.ensures.status (inr refl)
