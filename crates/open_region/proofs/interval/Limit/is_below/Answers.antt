use Rattle.open_region.proofs.Sizes.{limit_fits}
use Rattle.open_region.proofs.interval.Limit.is_below.Goals as goal

pub is_less-requires-clause-m_fits : goal.is_less-requires-clause-m_fits
is_less-requires-clause-m_fits c = limit_fits c.args.self.now

pub is_less-requires-clause-n_fits : goal.is_less-requires-clause-n_fits
is_less-requires-clause-n_fits c = limit_fits c.args.other.now
