use Rattle.std.proofs.Common.{◌≡◌, ◌≤◌, ◌+◌, length, None, is_some, sym, ap, subst, ◌∙◌}
use Rattle.std.specs.Prelude.{IfSome}
use Rattle.worker_split.specs.declared.outcome.Outcome.{Outcome}
use Rattle.worker_split.specs.Settled.{settled}
use Rattle.worker_split.specs.Tasks.{task_of, IsRightOutcome}
use Rattle.oriedita_cli.specs.Tickets.{IsTicketFor}
use Rattle.oriedita_cli.proofs.Progress.{fewer_waiting}
use Rattle.oriedita_cli.proofs.Released.{ticket_held, held_right, helped_taken, others_fewer}
use Rattle.oriedita_cli.proofs.helping.fetch_piece.Goals as goal

pub fetch-requires : goal.fetch-requires
fetch-requires g c =
    let held = g.H.Helpers.held c.ticket_for.new.helpers in
    let given = g.H.Helpers.given c.ticket_for.new.helpers in
    let s = c.args.session.now in
    let old = c.args.tickets.now.list.items in
    let ts = c.ticket_for.new.tickets in
    let number = c.in-Some.number in
    let ticket : IsTicketFor held s.state.jobs c.args.job number old ts.list.items =
    subst (λ o. IfSome o (λ n. IsTicketFor held s.state.jobs c.args.job n old ts.list.items)) c.in-Some.is
    c.in_ok-number.ensures.ticket in
    let own = ticket_held held given s ts c.args.job number old c.ticket_for.ensures.helped ticket in
    ap is_some own.1

pub post-requires : goal.post-requires
post-requires g c =
    let held = g.H.Helpers.held c.ticket_for.new.helpers in
    let given = g.H.Helpers.given c.ticket_for.new.helpers in
    let s = c.args.session.now in
    let old = c.args.tickets.now.list.items in
    let ts = c.ticket_for.new.tickets in
    let number = c.in-Some.number in
    let ticket : IsTicketFor held s.state.jobs c.args.job number old ts.list.items =
    subst (λ o. IfSome o (λ n. IsTicketFor held s.state.jobs c.args.job n old ts.list.items)) c.in-Some.is
    c.in_ok-number.ensures.ticket in
    let own = ticket_held held given s ts c.args.job number old c.ticket_for.ensures.helped ticket in
    let x = c.in-Some-2.outcome in
    let there : ∥ IsRightOutcome (task_of own.0) x ∥₁ =
    subst (λ o. IfSome o (λ t. ∥ IsRightOutcome (task_of t) x ∥₁)) own.1
    (subst (λ o. IfSome o (λ y. IfSome (held number) (λ t. ∥ IsRightOutcome (task_of t) y ∥₁))) c.in-Some-2.is
    c.in_ok-outcome.ensures.right) in
    let right = c.right_outcomes_are_one_fact.ensures (task_of own.0) x there in
    c.right_outcomes_stay.ensures.posts s.state.jobs x
    (held_right held given s ts number own.0 x c.ticket_for.ensures.helped own.1 right)

pub returns-in_err-post-clause-helped : goal.returns-in_err-post-clause-helped
returns-in_err-post-clause-helped g c =
    let held = g.H.Helpers.held c.ticket_for.new.helpers in
    let given = g.H.Helpers.given c.ticket_for.new.helpers in
    let s = c.args.session.now in
    let old = c.args.tickets.now.list.items in
    let ts = c.ticket_for.new.tickets in
    let number = c.in-Some.number in
    let ticket : IsTicketFor held s.state.jobs c.args.job number old ts.list.items =
    subst (λ o. IfSome o (λ n. IsTicketFor held s.state.jobs c.args.job n old ts.list.items)) c.in-Some.is
    c.in_ok-number.ensures.ticket in
    let own = ticket_held held given s ts c.args.job number old c.ticket_for.ensures.helped ticket in
    helped_taken held (g.H.Helpers.held c.fetch.new.self) given (g.H.Helpers.given c.fetch.new.self) s c.post.new.self ts
    c.forget.new.self number own.0 own.1
    (subst (λ o. IfSome o (λ (y : Outcome). g.H.Helpers.held c.fetch.new.self number ≡ None)) c.in-Some-2.is
    c.in_ok-outcome.ensures.gone) c.fetch.ensures.others c.fetch.ensures.given c.forget.ensures.given
    c.forget.ensures.list c.post.ensures.right c.post.ensures.outcomes c.ticket_for.ensures.helped

pub returns-clause-helped : goal.returns-clause-helped
returns-clause-helped g c =
    let held = g.H.Helpers.held c.ticket_for.new.helpers in
    let given = g.H.Helpers.given c.ticket_for.new.helpers in
    let s = c.args.session.now in
    let old = c.args.tickets.now.list.items in
    let ts = c.ticket_for.new.tickets in
    let number = c.in-Some.number in
    let ticket : IsTicketFor held s.state.jobs c.args.job number old ts.list.items =
    subst (λ o. IfSome o (λ n. IsTicketFor held s.state.jobs c.args.job n old ts.list.items)) c.in-Some.is
    c.in_ok-number.ensures.ticket in
    let own = ticket_held held given s ts c.args.job number old c.ticket_for.ensures.helped ticket in
    helped_taken held (g.H.Helpers.held c.fetch.new.self) given (g.H.Helpers.given c.fetch.new.self) s c.post.new.self ts
    c.forget.new.self number own.0 own.1
    (subst (λ o. IfSome o (λ (y : Outcome). g.H.Helpers.held c.fetch.new.self number ≡ None)) c.in-Some-2.is
    c.in_ok-outcome.ensures.gone) c.fetch.ensures.others c.fetch.ensures.given c.forget.ensures.given
    c.forget.ensures.list c.post.ensures.right c.post.ensures.outcomes c.ticket_for.ensures.helped

pub returns-clause-fewer : goal.returns-clause-fewer
returns-clause-fewer g c =
    let held = g.H.Helpers.held c.ticket_for.new.helpers in
    let given = g.H.Helpers.given c.ticket_for.new.helpers in
    let s = c.args.session.now in
    let old = c.args.tickets.now.list.items in
    let ts = c.ticket_for.new.tickets in
    let number = c.in-Some.number in
    let ticket : IsTicketFor held s.state.jobs c.args.job number old ts.list.items =
    subst (λ o. IfSome o (λ n. IsTicketFor held s.state.jobs c.args.job n old ts.list.items)) c.in-Some.is
    c.in_ok-number.ensures.ticket in
    let own = ticket_held held given s ts c.args.job number old c.ticket_for.ensures.helped ticket in
    let x = c.in-Some-2.outcome in
    let there : ∥ IsRightOutcome (task_of own.0) x ∥₁ =
    subst (λ o. IfSome o (λ t. ∥ IsRightOutcome (task_of t) x ∥₁)) own.1
    (subst (λ o. IfSome o (λ y. IfSome (held number) (λ t. ∥ IsRightOutcome (task_of t) y ∥₁))) c.in-Some-2.is
    c.in_ok-outcome.ensures.right) in
    let right = c.right_outcomes_are_one_fact.ensures (task_of own.0) x there in
    λ _. fewer_waiting s.state.jobs c.post.new.self.state.jobs held c.args.job number old ts.list.items
    c.forget.new.self.list.items x (settled x) own.0 c.in_ok-post.field-0 ticket own.1 right (right.job ∙ own.2)
    (subst (λ xs. length xs + 1 ≤ length ts.list.items) (sym c.forget.ensures.list)
    (others_fewer number c.args.job ts.list.items ticket.listed))
    c.in_ok-post.ensures.posted c.in_ok-post.ensures.accepted c.in_ok-post.ensures.fewer
