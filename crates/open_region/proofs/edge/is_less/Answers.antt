use Rattle.surd_number.specs.Value.{wide_number_of}
use Rattle.surd_number.specs.declared.Sgn.TheVariants.{Neg, Zero, Pos}
use Rattle.open_region.proofs.Sizes.{wide_difference, sign_told, less_told}
use Rattle.open_region.proofs.edge.is_less.Goals as goal

pub minus-requires : goal.minus-requires
minus-requires c = wide_difference (wide_number_of c.args.m.now)
    (wide_number_of c.args.n.now) c.requires.m_fits c.requires.n_fits

pub sgn-requires : goal.sgn-requires
sgn-requires c =
    sign_told (wide_number_of c.minus.result) (wide_number_of c.args.m.now)
    (wide_number_of c.args.n.now) c.minus.result.stored.0 c.minus.ensures c.requires.m_fits
    c.requires.n_fits

pub returns-in-Neg : goal.returns-in-Neg
returns-in-Neg c = less_told (wide_number_of c.minus.result) (wide_number_of c.args.m.now)
    (wide_number_of c.args.n.now) Neg c.in-Neg.ensures c.minus.ensures

pub returns-in-Zero : goal.returns-in-Zero
returns-in-Zero c = less_told (wide_number_of c.minus.result) (wide_number_of c.args.m.now)
    (wide_number_of c.args.n.now) Zero c.in-Zero.ensures c.minus.ensures

pub returns-in-Pos : goal.returns-in-Pos
returns-in-Pos c = less_told (wide_number_of c.minus.result) (wide_number_of c.args.m.now)
    (wide_number_of c.args.n.now) Pos c.in-Pos.ensures c.minus.ensures
