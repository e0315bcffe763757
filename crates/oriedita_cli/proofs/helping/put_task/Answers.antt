use Rattle.std.proofs.Common.{rules, ◌+◌, refl}
use Rattle.oriedita_cli.proofs.Released.{helped_put}
use Rattle.oriedita_cli.proofs.helping.put_task.Goals as goal

pub returns-clause-helped : goal.returns-clause-helped
returns-clause-helped g c =
    helped_put (g.H.Helpers.held c.args.helpers.now) (g.H.Helpers.held c.put.new.self)
    (g.H.Helpers.given c.args.helpers.now) (g.H.Helpers.given c.put.new.self) c.args.session.now c.args.tickets.now
    (record { list = c.push.new.self; given = c.args.tickets.now.given + 1 }) c.in_ok-number.number c.args.task
    c.in_ok-number.ensures.ticket.0 c.in_ok-number.ensures.ticket.1 c.in_ok-number.ensures.fresh
    c.in_ok-number.ensures.held c.in_ok-number.ensures.others refl
    (record { number = c.in_ok-number.number; job = c.args.task.job; piece = c.args.task.piece; budget = c.args.task.budget })
    refl refl (search rules) c.requires.right c.requires.helped
