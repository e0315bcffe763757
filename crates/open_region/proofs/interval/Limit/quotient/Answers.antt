use Rattle.surd_number.specs.Value.{wide_number_of}
use Rattle.open_region.proofs.Sizes.{wide_numerator, wide_quotient, quotient_is_limit, quotient_is}
use Rattle.open_region.proofs.interval.Limit.quotient.Goals as goal

pub minus-requires : goal.minus-requires
minus-requires c = wide_numerator (wide_number_of c.args.m.now)
    (wide_number_of c.args.n.now) c.requires.m_fits c.requires.n_fits

pub over_unit-requires-clause-fits : goal.over_unit-requires-clause-fits
over_unit-requires-clause-fits c =
    wide_quotient (wide_number_of c.args.m.now)
    (wide_number_of c.args.n.now) c.requires.m_fits c.requires.n_fits
    (wide_number_of c.minus.result) c.args.i c.args.j c.requires.few c.requires.few_roots c.minus.ensures

pub invariant_of-result : goal.invariant_of-result
invariant_of-result c = record {
  fits = ∣ quotient_is_limit (wide_number_of c.args.m.now)
      (wide_number_of c.args.n.now) c.requires.m_fits c.requires.n_fits (wide_number_of c.over_unit.result)
      (wide_number_of c.minus.result) c.args.i c.args.j c.requires.few c.requires.few_roots c.minus.ensures
      c.over_unit.ensures ∣₁;
}

pub returns : goal.returns
returns c = quotient_is (wide_number_of c.args.m.now) (wide_number_of c.args.n.now)
    (wide_number_of c.over_unit.result)
    (wide_number_of c.minus.result) c.args.i c.args.j c.minus.ensures c.over_unit.ensures
