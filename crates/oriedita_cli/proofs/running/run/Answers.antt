use Rattle.std.proofs.Common.{arith, inl, ◌≡◌, None, map, string_bytes, option_and_then, ap, rules}
use Rattle.job_register.specs.View.{record_events}
use Rattle.program_words.specs.ProgramWords.{said_of}
use Rattle.oriedita_cli.proofs.Readings.{nothing_answered, script_is_run, unrun}
use Rattle.oriedita_cli.proofs.Unanswered.{ended_early}
use Rattle.oriedita_cli.proofs.running.run.Goals as goal

pub returns-in-Err-BadWords-clause-input : goal.returns-in-Err-BadWords-clause-input
returns-in-Err-BadWords-clause-input g c =
    let status : c.ended_without.result.status ≡ 2 = c.ended_without.ensures.status in
    let none : said_of (map string_bytes c.args.words.now) ≡ None = search rules in
    nothing_answered _ _ _ c.ended_without.result.status (record_events c.ended_without.result.events) _ _ _ _ _
    (omega (arith, status))
    (script_is_run _ _ _ _ _ _ _ _ _ _ (ap (option_and_then (λ said. said.sample)) none)
    (inl (ended_early _ _ c.ended_without.result.status (record_events c.ended_without.result.events) _ _
    c.ended_without.ensures.events (omega (arith, status)) (λ three. omega (arith, three, status))
    (λ five. omega (arith, five, status)))))

pub returns-in-Err-Memory-clause-input : goal.returns-in-Err-Memory-clause-input
returns-in-Err-Memory-clause-input g c =
    let ended = c.ended_without-in-Err-Memory in
    let status : ended.result.status ≡ 6 = ended.ensures.status in
    nothing_answered _ _ _ ended.result.status (record_events ended.result.events) _ _ _ _ _ (omega (arith, status))
    (unrun _ _ _ ended.result.status (record_events ended.result.events) _ _ _ _ ended.ensures.events status)
