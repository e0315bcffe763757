use Rattle.std.proofs.Common.{◌++◌, ◌∷◌, [], List, refl, sym, ap, subst, ◌∙◌}
use Rattle.std.proofs.KnownBytes.{Appends-nil}
use Rattle.script_lang.specs.declared.command.Command.{Command}
use Rattle.job_register.specs.Text.{last_text}
use Rattle.job_register.specs.View.{SessionView}
use Rattle.oriedita_cli.specs.Samples.{EndsLast}
use Rattle.oriedita_cli.specs.Serving.{StopsIn}
use Rattle.oriedita_cli.proofs.Released.{helped_step}
use Rattle.oriedita_cli.proofs.Sampling.{answer_last, none_last}
use Rattle.oriedita_cli.proofs.Stopping.{on_any, stops_before, stops_in_text}
use Rattle.oriedita_cli.proofs.serving.answer_command.Goals as goal

pub returns-in_err-prepare-clause-stops : goal.returns-in_err-prepare-clause-stops
returns-in_err-prepare-clause-stops g c =
    on_any c.from_residual.result _ (λ taken. stops_before c.args.session.now.events c.prepare.new.session.events taken (c.args.command ∷ [])
    c.prepare.ensures.goes_on.commands c.prepare.ensures.goes_on.text)

pub returns-in_err-step-clause-stops : goal.returns-in_err-step-clause-stops
returns-in_err-step-clause-stops g c =
    on_any c.from_residual-in_err-step.result _ (λ taken. subst (λ (s : SessionView). StopsIn c.args.session.now.events s.events taken taken (c.args.command ∷ []))
    (sym c.in_err-step.ensures.err)
    (stops_before c.args.session.now.events c.prepare.new.session.events taken (c.args.command ∷ [])
    c.prepare.ensures.goes_on.commands c.prepare.ensures.goes_on.text))

pub put_tasks-requires : goal.put_tasks-requires
put_tasks-requires g c =
    helped_step (g.H.Helpers.held c.prepare.new.helpers) (g.H.Helpers.held c.prepare.new.helpers)
    (g.H.Helpers.given c.prepare.new.helpers) (g.H.Helpers.given c.prepare.new.helpers) c.prepare.new.session
    c.step.new.self c.prepare.new.tickets c.prepare.new.tickets (λ k. refl) refl refl refl c.step.ensures.right
    c.step.ensures.outcomes c.prepare.ensures.helped

pub returns-in-Some-clause-stops : goal.returns-in-Some-clause-stops
returns-in-Some-clause-stops g c =
    let old = c.args.session.now.events in
    let new = c.step.new.self.events in
    on_any c.put_tasks.result _ (λ taken. stops_in_text old new taken taken c.args.command (last_text new) 0
    (c.in_ok-step.ensures.commands
    ∙ ap (λ (xs : List Command). xs ++ c.args.command ∷ []) c.prepare.ensures.goes_on.commands)
    (c.in_ok-step.ensures.text ∙ ap (λ xs. xs ++ last_text new) c.prepare.ensures.goes_on.text)
    (Appends-nil taken))

pub returns-in-None-clause-helped : goal.returns-in-None-clause-helped
returns-in-None-clause-helped g c =
    helped_step (g.H.Helpers.held c.prepare.new.helpers) (g.H.Helpers.held c.prepare.new.helpers)
    (g.H.Helpers.given c.prepare.new.helpers) (g.H.Helpers.given c.prepare.new.helpers) c.prepare.new.session
    c.step.new.self c.prepare.new.tickets c.prepare.new.tickets (λ k. refl) refl refl refl c.step.ensures.right
    c.step.ensures.outcomes c.prepare.ensures.helped

pub returns-in_err-prepare-clause-last : goal.returns-in_err-prepare-clause-last
returns-in_err-prepare-clause-last g c =
    λ unended. none_last c.prepare.new.session.events (c.prepare.ensures.goes_on.ends ∙ unended)

pub returns-in_err-step-clause-last : goal.returns-in_err-step-clause-last
returns-in_err-step-clause-last g c =
    λ unended. subst (λ (s : SessionView). EndsLast s.events) (sym c.in_err-step.ensures.err)
    (none_last c.prepare.new.session.events (c.prepare.ensures.goes_on.ends ∙ unended))

pub returns-in-Some-clause-last : goal.returns-in-Some-clause-last
returns-in-Some-clause-last g c =
    answer_last c.args.session.now c.step.new.self c.args.command (record {
      between = c.prepare.new.session;
      goes_on = c.prepare.ensures.goes_on;
      reply = c.in_ok-step.ensures.answer.0;
      answer = c.in_ok-step.ensures.answer.2;
      event = c.in_ok-step.ensures.answer.1;
    })

pub returns-in-None-clause-last : goal.returns-in-None-clause-last
returns-in-None-clause-last g c =
    answer_last c.args.session.now c.step.new.self c.args.command (record {
      between = c.prepare.new.session;
      goes_on = c.prepare.ensures.goes_on;
      reply = c.in_ok-step.ensures.answer.0;
      answer = c.in_ok-step.ensures.answer.2;
      event = c.in_ok-step.ensures.answer.1;
    })
