use Rattle.std.proofs.Common.{rules, ◌≡◌, ◌++◌, ◌∷◌, [], Bool, List, Some, refl, ap, sym, subst, ◌∙◌}
use Rattle.worker_split.specs.declared.outcome.Outcome.{Outcome}
use Rattle.worker_split.specs.Settled.{settled}
use Rattle.fold_jobs.specs.Machine.{IsPosted, IsRightIn, IsRightWhereLive}
use Rattle.job_register.specs.declared.session.Event.{Event}
use Rattle.job_register.specs.declared.session.Event.TheVariants.{Posted}
use Rattle.job_register.specs.Legal.{is_accepted}
use Rattle.job_register.specs.Machine.{IsTakenIn}
use Rattle.job_register.specs.RecordVersions.{version_in}
use Rattle.job_register.specs.View.{SessionView}
use Rattle.job_register.proofs.Records.{text_posted, commands_posted, keeps_posted}
use Rattle.job_register.proofs.Told.{state_with, settled_twice, live_settled, post_taken}
use Rattle.job_register.proofs.Counting.{running_posted, accepted_posted, step_keeps_right}
use Rattle.job_register.proofs.Versions.{versions_stay}
use Rattle.job_register.proofs.session.Session.post.Goals as goal

pub post-taken-requires : goal.post-taken-requires
post-taken-requires c =
    let x = c.args.outcome in
    let right : IsRightWhereLive c.self.inside.jobs x =
    subst (λ (v : SessionView). IsRightWhereLive v.state.jobs x) (sym c.self.view_is) c.requires in
    let given : c.in_ok-copy.field-0 ≡ settled x =
    c.in_ok-copy.ensures ∙ ap settled c.in_ok-kept.ensures ∙ settled_twice x in
    subst (λ (y : Outcome). IsRightWhereLive c.self.inside.jobs y) (sym given)
    (live_settled c.self.inside.jobs x right)

pub invariant_of-self-2 : goal.invariant_of-self-2
invariant_of-self-2 c =
    let x = c.args.outcome in
    let s = state_with c.self.inside.journal c.self.inside.jobs in
    let t = state_with c.self.inside.journal c.post-taken.new.self in
    let es = c.self.inside.events.list.items in
    let right : IsRightWhereLive c.self.inside.jobs x =
    subst (λ (v : SessionView). IsRightWhereLive v.state.jobs x) (sym c.self.view_is) c.requires in
    let given : c.in_ok-copy.field-0 ≡ settled x =
    c.in_ok-copy.ensures ∙ ap settled c.in_ok-kept.ensures ∙ settled_twice x in
    let posted : IsPosted s.jobs (settled x) c.post-taken.result t.jobs =
    subst (λ (y : Outcome). IsPosted s.jobs y c.post-taken.result t.jobs) given c.post-taken.ensures.posted in
    let taken : IsTakenIn s (settled x) (is_accepted c.post-taken.result) t =
    post_taken s t (settled x) c.post-taken.result (live_settled s.jobs x right) posted refl in
    let first : c.push.new.self.items ≡ es ++ Posted c.in_ok-kept.kept c.was_accepted-accepted.result ∷ [] =
    search rules in
    let pushed : c.push.new.self.items ≡ es ++ Posted (settled x) (is_accepted c.post-taken.result) ∷ [] =
    first ∙ ap (λ (y : Outcome). es ++ Posted y c.was_accepted-accepted.result ∷ []) c.in_ok-kept.ensures
    ∙ ap (λ (b : Bool). es ++ Posted (settled x) b ∷ []) c.was_accepted-accepted.ensures in
    record {
      kept = rw pushed (keeps_posted s t es (settled x) (is_accepted c.post-taken.result) c.self.inside.refused
          c.self.invariant.kept taken);
      current = c.self.invariant.current;
    }

pub returns-clause-legal : goal.returns-clause-legal
returns-clause-legal c =
    let x = c.args.outcome in
    let s = state_with c.self.inside.journal c.self.inside.jobs in
    let t = state_with c.self.inside.journal c.post-taken.new.self in
    let es = c.self.inside.events.list.items in
    let right : IsRightWhereLive c.self.inside.jobs x =
    subst (λ (v : SessionView). IsRightWhereLive v.state.jobs x) (sym c.self.view_is) c.requires in
    let given : c.in_ok-copy.field-0 ≡ settled x =
    c.in_ok-copy.ensures ∙ ap settled c.in_ok-kept.ensures ∙ settled_twice x in
    let posted : IsPosted s.jobs (settled x) c.post-taken.result t.jobs =
    subst (λ (y : Outcome). IsPosted s.jobs y c.post-taken.result t.jobs) given c.post-taken.ensures.posted in
    let taken : IsTakenIn s (settled x) (is_accepted c.post-taken.result) t =
    post_taken s t (settled x) c.post-taken.result (live_settled s.jobs x right) posted refl in
    let first : c.push.new.self.items ≡ es ++ Posted c.in_ok-kept.kept c.was_accepted-accepted.result ∷ [] =
    search rules in
    let pushed : c.push.new.self.items ≡ es ++ Posted (settled x) (is_accepted c.post-taken.result) ∷ [] =
    first ∙ ap (λ (y : Outcome). es ++ Posted y c.was_accepted-accepted.result ∷ []) c.in_ok-kept.ensures
    ∙ ap (λ (b : Bool). es ++ Posted (settled x) b ∷ []) c.was_accepted-accepted.ensures in
    record {
      state = t;
      leads = rw pushed (keeps_posted s t es (settled x) (is_accepted c.post-taken.result)
          c.self.inside.refused c.self.invariant.kept taken).leads;
    }

pub returns-clause-text : goal.returns-clause-text
returns-clause-text c =
    let es = c.self.inside.events.list.items in
    let pushed : c.push.new.self.items ≡ es ++ Posted c.in_ok-kept.kept c.was_accepted-accepted.result ∷ [] =
    search rules in
    rw (pushed, ← c.self.view_is) (text_posted es c.in_ok-kept.kept c.was_accepted-accepted.result)

pub returns-clause-commands : goal.returns-clause-commands
returns-clause-commands c =
    let es = c.self.inside.events.list.items in
    let pushed : c.push.new.self.items ≡ es ++ Posted c.in_ok-kept.kept c.was_accepted-accepted.result ∷ [] =
    search rules in
    rw (pushed, ← c.self.view_is) (commands_posted es c.in_ok-kept.kept c.was_accepted-accepted.result)

pub returns-clause-versions : goal.returns-clause-versions
returns-clause-versions c version p e =
    let es = c.self.inside.events.list.items in
    let last : Event = Posted c.in_ok-kept.kept c.was_accepted-accepted.result in
    let pushed : c.push.new.self.items ≡ es ++ last ∷ [] = search rules in
    subst (λ (fs : List Event). version_in fs version ≡ Some p) (sym pushed)
    (versions_stay es (last ∷ []) version p
    (subst (λ (v : SessionView). version_in v.events version ≡ Some p) (sym c.self.view_is) e))

pub returns-clause-running : goal.returns-clause-running
returns-clause-running c =
    let es = c.self.inside.events.list.items in
    let pushed : c.push.new.self.items ≡ es ++ Posted c.in_ok-kept.kept c.was_accepted-accepted.result ∷ [] =
    search rules in
    rw (pushed, ← c.self.view_is) (running_posted es c.in_ok-kept.kept c.was_accepted-accepted.result)

pub returns-clause-outcomes : goal.returns-clause-outcomes
returns-clause-outcomes c =
    let es = c.self.inside.events.list.items in
    let pushed : c.push.new.self.items ≡ es ++ Posted c.in_ok-kept.kept c.was_accepted-accepted.result ∷ [] =
    search rules in
    rw (pushed, ← c.self.view_is) (accepted_posted es c.in_ok-kept.kept c.was_accepted-accepted.result)

pub returns-clause-right : goal.returns-clause-right
returns-clause-right c y right_y =
    let x = c.args.outcome in
    let s = state_with c.self.inside.journal c.self.inside.jobs in
    let t = state_with c.self.inside.journal c.post-taken.new.self in
    let right : IsRightWhereLive c.self.inside.jobs x =
    subst (λ (v : SessionView). IsRightWhereLive v.state.jobs x) (sym c.self.view_is) c.requires in
    let given : c.in_ok-copy.field-0 ≡ settled x =
    c.in_ok-copy.ensures ∙ ap settled c.in_ok-kept.ensures ∙ settled_twice x in
    let posted : IsPosted s.jobs (settled x) c.post-taken.result t.jobs =
    subst (λ (y : Outcome). IsPosted s.jobs y c.post-taken.result t.jobs) given c.post-taken.ensures.posted in
    let taken : IsTakenIn s (settled x) (is_accepted c.post-taken.result) t =
    post_taken s t (settled x) c.post-taken.result (live_settled s.jobs x right) posted refl in
    step_keeps_right c.right_outcomes_stay.ensures s t (Posted (settled x) (is_accepted c.post-taken.result))
    taken y (subst (λ (v : SessionView). IsRightIn v.state.jobs y) (sym c.self.view_is) right_y)
