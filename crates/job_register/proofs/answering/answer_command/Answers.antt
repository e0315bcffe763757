use Rattle.job_register.proofs.answering.answer_command.Goals as goal

pub returns-in-Another-clause-ok : goal.returns-in-Another-clause-ok
returns-in-Another-clause-ok g c = rw c.in-Another.is (c.another.ensures c.args.journal.now)

pub returns-in-Budget-clause-ok : goal.returns-in-Budget-clause-ok
returns-in-Budget-clause-ok g c = rw c.in-Budget.is (c.set_budget.ensures c.args.journal.now)

pub returns-in-Cancel-clause-ok : goal.returns-in-Cancel-clause-ok
returns-in-Cancel-clause-ok g c = rw c.in-Cancel.is (c.cancel.ensures c.args.journal.now)

pub returns-in-Peek-clause-ok : goal.returns-in-Peek-clause-ok
returns-in-Peek-clause-ok g c = rw c.in-Peek.is (c.show.ensures c.args.journal.now)

pub returns-in-Wait-clause-ok : goal.returns-in-Wait-clause-ok
returns-in-Wait-clause-ok g c = rw c.in-Wait.is (c.show-in-Wait.ensures c.args.journal.now)
