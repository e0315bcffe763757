use Rattle.std.proofs.Common.{arith, ◌≡◌}
use Rattle.job_register.specs.View.{record_events}
use Rattle.oriedita_cli.proofs.Readings.{nothing_answered, unrun}
use Rattle.oriedita_cli.proofs.programs.run_told.Goals as goal

-- where memory was wanted for the words, nothing is read
pub returns-in-Err-clause-input : goal.returns-in-Err-clause-input
returns-in-Err-clause-input g c =
    let ended = c.ended_without in
    let status : ended.result.status ≡ 6 = ended.ensures.status in
    nothing_answered _ _ _ ended.result.status (record_events ended.result.events) _ _ _ _ _ (omega (arith, status))
    (unrun _ _ _ ended.result.status (record_events ended.result.events) _ _ _ _ ended.ensures.events status)
