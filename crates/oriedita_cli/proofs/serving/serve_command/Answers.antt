use Rattle.std.proofs.Common.{rules, ◌≡◌}
use Rattle.std.proofs.lemmas.Result.{MatchResult-from_err}
use Rattle.job_register.specs.Text.{last_text}
use Rattle.oriedita_cli.proofs.Stopping.{stops_in_text}
use Rattle.oriedita_cli.proofs.serving.serve_command.Goals as goal

pub returns-in_err-write_all-clause-serves : goal.returns-in_err-write_all-clause-serves
returns-in_err-write_all-clause-serves g c =
    let new = c.answer_command.new.session.events in
    let written : c.as_slice.result.now ≡ last_text new = search rules in
    let part = c.in_err-write_all.ensures.err in
    MatchResult-from_err c.from_residual-in_err-write_all.result _ _ c.from_residual-in_err-write_all.ensures.0
    (λ _. stops_in_text c.args.session.now.events new _ _ c.args.command (last_text new) part.count
    c.in_ok-answer_command.ensures.commands c.in_ok-answer_command.ensures.text (rw (← written) part.appended))
