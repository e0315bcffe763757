use Rattle.std.proofs.Common.{◌^◌, ◌*ℤ◌, FitsSigned, lit<}
use Rattle.std.proofs.lemmas.Int.{fits_signed_mul}
use mir.Syntax.{w128}
use Rattle.surd_number.specs.FitsLaws.{product_bound}
use Rattle.surd_number.proofs.Signed.{product-stored}
use Rattle.surd_number.proofs.arithmetic.product.Goals as goal

pub returns-clause-value : goal.returns-clause-value
returns-clause-value c =
    let fits : FitsSigned w128 (c.args.m *ℤ c.args.n) = fits_signed_mul w128 c.args.m c.args.n (2 ^ 80)
    (2 ^ 36) c.requires.few_bits c.requires.few_bits_other (lit< tt) in
    product-stored c.args.m c.args.n c.ranges.m c.ranges.n fits

pub returns-clause-bound : goal.returns-clause-bound
returns-clause-bound c =
    let fits : FitsSigned w128 (c.args.m *ℤ c.args.n) = fits_signed_mul w128 c.args.m c.args.n (2 ^ 80)
    (2 ^ 36) c.requires.few_bits c.requires.few_bits_other (lit< tt) in
    rw (product-stored c.args.m c.args.n c.ranges.m c.ranges.n fits)
    (product_bound c.args.m c.args.n (2 ^ 80) (2 ^ 36) c.requires.few_bits c.requires.few_bits_other)
