use Rattle.std.proofs.Common.{◌≡◌, ◌++◌, ◌∷◌, [], false, None, subst, ap}
use Rattle.std.specs.List.{list_any}
use Rattle.script_lang.specs.declared.command.Command.{Command}
use Rattle.script_lang.specs.declared.command.Command.TheVariants.{Fold}
use Rattle.job_register.specs.Legal.{commands_in}
use Rattle.oriedita_cli.specs.Samples.{ends_asks}
use Rattle.oriedita_cli.specs.Serving.{AnswersNext, StopsIn}
use Rattle.oriedita_cli.proofs.Sampling.{answer_ends, load_of, sampled_asks, sampled_none, sampled_unfolded, sampled_unloaded}
use Rattle.oriedita_cli.proofs.samples.fold_sample.Goals as goal

pub returns-in_err-load-clause-commands : goal.returns-in_err-load-clause-commands
returns-in_err-load-clause-commands g c = sampled_none c.args.n c.args.session.now.events c.requires.fresh

pub returns-in_err-answer_command-clause-commands : goal.returns-in_err-answer_command-clause-commands
returns-in_err-answer_command-clause-commands g c =
    sampled_unloaded c.args.n c.args.session.now.events c.answer_command.new.session.events None c.requires.fresh
    (subst (λ (command : Command). StopsIn c.args.session.now.events c.answer_command.new.session.events None None (command ∷ []))
    c.in_ok-load.ensures (c.in_err-answer_command.ensures.stops None))

pub returns-in_err-answer_command-2-clause-commands : goal.returns-in_err-answer_command-2-clause-commands
returns-in_err-answer_command-2-clause-commands g c =
    sampled_unfolded c.args.n c.args.session.now.events c.answer_command.new.session.events c.answer_command-2.new.session.events None
    c.requires.fresh
    (subst (λ (command : Command). commands_in c.answer_command.new.session.events
    ≡ commands_in c.args.session.now.events ++ command ∷ []) c.in_ok-load.ensures c.in_ok-answer_command.ensures.commands)
    (c.in_err-answer_command-2.ensures.stops None)

pub ask_all-requires : goal.ask_all-requires
ask_all-requires g c =
    let none : list_any ends_asks c.args.session.now.events ≡ false = ap (list_any ends_asks) c.requires.fresh in
    let loaded : list_any ends_asks c.answer_command.new.session.events ≡ false =
    answer_ends c.args.session.now c.answer_command.new.session (load_of c.args.n)
    (subst (λ (command : Command). AnswersNext c.args.session.now c.answer_command.new.session command) c.in_ok-load.ensures
    c.in_ok-answer_command.ensures.answered) none in (
      c.type_bounds.sync-R,
      (
        c.answer_command-2.ensures.helped,
        answer_ends c.answer_command.new.session c.answer_command-2.new.session Fold c.in_ok-answer_command-2.ensures.answered loaded,
      ),
    )

pub returns-clause-commands : goal.returns-clause-commands
returns-clause-commands g c =
    sampled_asks c.args.n c.args.session.now.events c.answer_command.new.session.events c.answer_command-2.new.session.events
    c.ask_all.new.session.events c.requires.fresh
    (subst (λ (command : Command). commands_in c.answer_command.new.session.events
    ≡ commands_in c.args.session.now.events ++ command ∷ []) c.in_ok-load.ensures c.in_ok-answer_command.ensures.commands)
    c.in_ok-answer_command-2.ensures.commands c.ask_all.ensures.asks
