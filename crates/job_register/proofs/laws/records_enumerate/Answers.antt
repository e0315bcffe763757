use Rattle.job_register.proofs.FoldingLaws.{records_enumerate}
use Rattle.job_register.proofs.laws.records_enumerate.Goals as goal

pub returns : goal.returns
returns c = records_enumerate c.legal_records_enumerate.ensures c.orders_are_in_order.ensures
