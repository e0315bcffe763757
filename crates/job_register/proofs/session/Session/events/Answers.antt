use Rattle.std.proofs.Common.{subst}
use Rattle.job_register.specs.FoldingRecords.{EnumeratesOrders}
use Rattle.job_register.specs.Legal.{IsLegal}
use Rattle.job_register.specs.View.{SessionView}
use Rattle.job_register.proofs.Records.{legal_kept}
use Rattle.job_register.proofs.Told.{state_with}
use Rattle.job_register.proofs.session.Session.events.Goals as goal

pub returns-clause-legal : goal.returns-clause-legal
returns-clause-legal c =
    subst (λ (v : SessionView). IsLegal v.state.jobs.most v.events) c.self.view_is
    (legal_kept (state_with c.self.inside.journal c.self.inside.jobs) c.self.inside.events.list.items
    c.self.inside.refused c.self.invariant.kept)

pub returns-clause-enumeration : goal.returns-clause-enumeration
returns-clause-enumeration c =
    subst (λ (v : SessionView). EnumeratesOrders v.state.jobs.most v.events) c.self.view_is
    (c.records_enumerate.ensures c.self.inside.jobs.most c.self.inside.events.list.items
    (legal_kept (state_with c.self.inside.journal c.self.inside.jobs) c.self.inside.events.list.items
    c.self.inside.refused c.self.invariant.kept))
