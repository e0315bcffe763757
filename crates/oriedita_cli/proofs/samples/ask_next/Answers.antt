use Rattle.std.proofs.Common.{◌≡◌, false, None, sym, ◌∙◌, rules}
use Rattle.oriedita_cli.proofs.Sampling.{asked_on, asked_once, asks_once, asks_refused, asks_stopped, asks_wait_stopped}
use Rattle.oriedita_cli.proofs.samples.ask_next.Goals as goal

pub returns-in_err-answer_command-clause-asks : goal.returns-in_err-answer_command-clause-asks
returns-in_err-answer_command-clause-asks g c =
    asks_stopped c.args.session.now.events c.answer_command.new.session.events None (c.in_err-answer_command.ensures.stops None)

pub returns-then-is_over-clause-asks : goal.returns-then-is_over-clause-asks
returns-then-is_over-clause-asks g c =
    asks_refused c.args.session.now.events c.answer_command.new.session.events c.in_ok-answer_command.ensures.commands

pub returns-in_err-answer_command-2-clause-asks : goal.returns-in_err-answer_command-2-clause-asks
returns-in_err-answer_command-2-clause-asks g c =
    asks_wait_stopped c.args.session.now.events c.answer_command.new.session.events c.answer_command-2.new.session.events None
    c.in_ok-answer_command.ensures.commands (c.in_err-answer_command-2.ensures.stops None)

pub returns-clause-next : goal.returns-clause-next
returns-clause-next g c = λ goes_on.
    let over : c.is_over-2.result ≡ false = search rules in
    asked_on c.args.session.now c.answer_command.new.session c.answer_command-2.new.session c.in_ok-answer_command.ensures.answered
    c.in_ok-answer_command-2.ensures.answered c.in_ok-answer_command.ensures.commands c.in_ok-answer_command-2.ensures.commands
    c.requires.unended (sym c.is_over.ensures ∙ c.if-is_over.false) (sym c.is_over-2.ensures ∙ over)

pub returns-clause-asks : goal.returns-clause-asks
returns-clause-asks g c =
    asks_once c.args.session.now.events c.answer_command-2.new.session.events
    (asked_once c.args.session.now.events c.answer_command.new.session.events c.answer_command-2.new.session.events
    c.in_ok-answer_command.ensures.commands c.in_ok-answer_command-2.ensures.commands)
