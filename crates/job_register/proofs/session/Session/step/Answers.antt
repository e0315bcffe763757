use Rattle.std.proofs.Common.{rules, ◌≡◌, ◌++◌, ◌∷◌, [], List, Some, ap, sym, subst, ◌∙◌}
use Rattle.fold_jobs.specs.Machine.{IsRightIn}
use Rattle.job_register.specs.declared.session.Event.{Event}
use Rattle.job_register.specs.declared.session.Event.TheVariants.{Made}
use Rattle.job_register.specs.Machine.{IsReady}
use Rattle.job_register.specs.RecordVersions.{version_in}
use Rattle.job_register.specs.View.{SessionView}
use Rattle.job_register.proofs.Records.{step_most, text_pushed, commands_in-append, keeps_on}
use Rattle.job_register.proofs.Told.{state_with}
use Rattle.job_register.proofs.Counting.{running_made, accepted_made, step_keeps_right}
use Rattle.job_register.proofs.Versions.{versions_stay}
use Rattle.job_register.proofs.session.Session.step.Goals as goal

pub invariant_of-self-2 : goal.invariant_of-self-2
invariant_of-self-2 g c =
    let es = c.self.inside.events.list.items in
    let e : Event = Made c.args.command c.in_ok-reply.reply in
    let s = state_with c.self.inside.journal c.self.inside.jobs in
    let t = state_with c.answer_command.new.journal c.answer_command.new.jobs in
    let ready : IsReady s c.args.command =
    subst (λ (v : SessionView). IsReady v.state c.args.command) (sym c.self.view_is) c.requires.ready in
    let kept = keeps_on s t es e c.self.inside.refused c.self.invariant.kept
    (c.requires.condition, ready, c.in_ok-reply.ensures.ok) in
    let pushed : c.push.new.self.items ≡ es ++ e ∷ [] = search rules in
    record { kept = rw (pushed, c.refused_after-self-inside.ensures) kept; current = c.answer_command.ensures.current }

pub returns-clause-legal : goal.returns-clause-legal
returns-clause-legal g c =
    let es = c.self.inside.events.list.items in
    let e : Event = Made c.args.command c.in_ok-reply.reply in
    let s = state_with c.self.inside.journal c.self.inside.jobs in
    let t = state_with c.answer_command.new.journal c.answer_command.new.jobs in
    let ready : IsReady s c.args.command =
    subst (λ (v : SessionView). IsReady v.state c.args.command) (sym c.self.view_is) c.requires.ready in
    let kept = keeps_on s t es e c.self.inside.refused c.self.invariant.kept
    (c.requires.condition, ready, c.in_ok-reply.ensures.ok) in
    let pushed : c.push.new.self.items ≡ es ++ e ∷ [] = search rules in
    record { state = t; leads = rw pushed kept.leads }

pub returns-clause-most : goal.returns-clause-most
returns-clause-most g c =
    let e : Event = Made c.args.command c.in_ok-reply.reply in
    let s = state_with c.self.inside.journal c.self.inside.jobs in
    let t = state_with c.answer_command.new.journal c.answer_command.new.jobs in
    let ready : IsReady s c.args.command =
    subst (λ (v : SessionView). IsReady v.state c.args.command) (sym c.self.view_is) c.requires.ready in
    step_most s t e (c.requires.condition, ready, c.in_ok-reply.ensures.ok)
    ∙ ap (λ (v : SessionView). v.state.jobs.most) c.self.view_is

pub returns-clause-text : goal.returns-clause-text
returns-clause-text g c =
    let es = c.self.inside.events.list.items in
    let e : Event = Made c.args.command c.in_ok-reply.reply in
    let pushed : c.push.new.self.items ≡ es ++ e ∷ [] = search rules in
    rw (pushed, ← c.self.view_is) (text_pushed es e)

pub returns-clause-commands : goal.returns-clause-commands
returns-clause-commands g c =
    let es = c.self.inside.events.list.items in
    let e : Event = Made c.args.command c.in_ok-reply.reply in
    let pushed : c.push.new.self.items ≡ es ++ e ∷ [] = search rules in
    rw (pushed, ← c.self.view_is) (commands_in-append es (e ∷ []))

pub returns-clause-versions : goal.returns-clause-versions
returns-clause-versions g c version p e =
    let es = c.self.inside.events.list.items in
    let last : Event = Made c.args.command c.in_ok-reply.reply in
    let pushed : c.push.new.self.items ≡ es ++ last ∷ [] = search rules in
    subst (λ (fs : List Event). version_in fs version ≡ Some p) (sym pushed)
    (versions_stay es (last ∷ []) version p
    (subst (λ (v : SessionView). version_in v.events version ≡ Some p) (sym c.self.view_is) e))

pub returns-clause-running : goal.returns-clause-running
returns-clause-running g c =
    let es = c.self.inside.events.list.items in
    let e : Event = Made c.args.command c.in_ok-reply.reply in
    let s = state_with c.self.inside.journal c.self.inside.jobs in
    let t = state_with c.answer_command.new.journal c.answer_command.new.jobs in
    let ready : IsReady s c.args.command =
    subst (λ (v : SessionView). IsReady v.state c.args.command) (sym c.self.view_is) c.requires.ready in
    let pushed : c.push.new.self.items ≡ es ++ e ∷ [] = search rules in
    rw (pushed, ← c.self.view_is) (running_made s t es c.args.command c.in_ok-reply.reply ready
    c.in_ok-reply.ensures.ok)

pub returns-clause-outcomes : goal.returns-clause-outcomes
returns-clause-outcomes g c =
    let es = c.self.inside.events.list.items in
    let e : Event = Made c.args.command c.in_ok-reply.reply in
    let pushed : c.push.new.self.items ≡ es ++ e ∷ [] = search rules in
    rw (pushed, ← c.self.view_is) (accepted_made es c.args.command c.in_ok-reply.reply)

pub returns-clause-right : goal.returns-clause-right
returns-clause-right g c x right =
    let e : Event = Made c.args.command c.in_ok-reply.reply in
    let s = state_with c.self.inside.journal c.self.inside.jobs in
    let t = state_with c.answer_command.new.journal c.answer_command.new.jobs in
    let ready : IsReady s c.args.command =
    subst (λ (v : SessionView). IsReady v.state c.args.command) (sym c.self.view_is) c.requires.ready in
    step_keeps_right c.right_outcomes_stay.ensures s t e (c.requires.condition, ready, c.in_ok-reply.ensures.ok) x
    (subst (λ (v : SessionView). IsRightIn v.state.jobs x) (sym c.self.view_is) right)
