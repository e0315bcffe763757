use Rattle.std.proofs.Common.{arith}
use Rattle.surd_number.specs.Value.{wide_number_of}
use Rattle.open_region.specs.EdgeView.{limit_of}
use Rattle.open_region.proofs.Steps.{iff_trans, and_iff}
use Rattle.open_region.proofs.Sizes.{compared_fits}
use Rattle.open_region.proofs.Quotients.{rising_bound, falling_bound, level_bound}
use Rattle.open_region.proofs.interval.Interval.narrowed.Goals as goal

pub is_less-requires-clause-m_fits : goal.is_less-requires-clause-m_fits
is_less-requires-clause-m_fits c = compared_fits (wide_number_of c.args.first.now) c.requires.first_fits

pub is_less-requires-clause-n_fits : goal.is_less-requires-clause-n_fits
is_less-requires-clause-n_fits c = compared_fits (wide_number_of c.args.second.now) c.requires.second_fits

pub returns-then-m-n : goal.returns-then-m-n
returns-then-m-n c =
    λ y. and_iff (c.above.ensures y)
    (rising_bound c.args.m c.args.n c.cross_unit-i.result.0 c.cross_unit-i.result.1 c.requires.few
    c.requires.few_others (wide_number_of c.args.first.now) (wide_number_of c.args.second.now)
    (limit_of c.quotient.result) y
    c.if-m-n.true c.cross_unit-i.ensures.tangents c.cross_unit-i.ensures.roots c.quotient.ensures)

pub returns-then-n-m : goal.returns-then-n-m
returns-then-n-m c =
    λ y. and_iff (c.below.ensures y)
    (falling_bound c.args.m c.args.n c.cross_unit-i-then-n-m.result.0 c.cross_unit-i-then-n-m.result.1
    c.requires.few c.requires.few_others (wide_number_of c.args.first.now)
    (wide_number_of c.args.second.now) (limit_of c.quotient-then-n-m.result) y
    c.if-n-m.true c.cross_unit-i-then-n-m.ensures.tangents c.cross_unit-i-then-n-m.ensures.roots
    c.quotient-then-n-m.ensures)

pub returns-else-n-m : goal.returns-else-n-m
returns-else-n-m c =
    λ y. and_iff (c.kept.ensures y)
    (iff_trans c.is_less.ensures (level_bound c.args.m c.args.n 0 0 c.requires.few c.requires.few_others
    (wide_number_of c.args.first.now) (wide_number_of c.args.second.now)
    (wide_number_of c.args.first.now) y (omega arith)))
