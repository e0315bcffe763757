use Rattle.std.proofs.Common.{ℕ, rules, ◌≤◌, ◌^◌, unsigned_abs, ◌*ℤ◌, FitsSigned, lit<, ap, ◌∙◌}
use Rattle.std.proofs.lemmas.Int.{fits_signed_mul, to_z-of_z}
use Rattle.std.proofs.Math.Nat.{pow-le-pow_right}
use mir.Syntax.{w128}
use Rattle.surd_number.specs.FitsLaws.{product_bound}
use Rattle.surd_number.proofs.Signed.{product-stored}
use Rattle.surd_number.proofs.arithmetic.scaled.Goals as goal

power-bound : (k : ℕ) → k ≤ 20 → 2 ^ k ≤ 2 ^ 20
power-bound k h = pow-le-pow_right (lit< tt) h

pub overflow_mul-result : goal.overflow_mul-result
overflow_mul-result c =
    let p = c.power_of_two.result in
    let few : unsigned_abs p ≤ 2 ^ 20 = rw c.power_of_two.ensures (power-bound c.args.k c.requires.few_places)
    in
    let fits : FitsSigned w128 (c.args.n *ℤ p) = fits_signed_mul w128 c.args.n p (2 ^ 80)
    (2 ^ 20) c.requires.few_bits few (lit< tt) in
    rw (to_z-of_z w128 c.args.n c.ranges.n, to_z-of_z w128 p (search rules)) fits

pub returns-clause-value : goal.returns-clause-value
returns-clause-value c =
    let p = c.power_of_two.result in
    let few : unsigned_abs p ≤ 2 ^ 20 = rw c.power_of_two.ensures (power-bound c.args.k c.requires.few_places)
    in
    let fits : FitsSigned w128 (c.args.n *ℤ p) = fits_signed_mul w128 c.args.n p (2 ^ 80)
    (2 ^ 20) c.requires.few_bits few (lit< tt) in
    product-stored c.args.n p c.ranges.n (search rules) fits ∙ ap (λ z. c.args.n *ℤ z) c.power_of_two.ensures

pub returns-clause-bound : goal.returns-clause-bound
returns-clause-bound c =
    let p = c.power_of_two.result in
    let few : unsigned_abs p ≤ 2 ^ 20 = rw c.power_of_two.ensures (power-bound c.args.k c.requires.few_places)
    in
    let fits : FitsSigned w128 (c.args.n *ℤ p) = fits_signed_mul w128 c.args.n p (2 ^ 80)
    (2 ^ 20) c.requires.few_bits few (lit< tt) in
    rw (product-stored c.args.n p c.ranges.n (search rules) fits)
    (product_bound c.args.n p (2 ^ 80) (2 ^ 20) c.requires.few_bits few)
