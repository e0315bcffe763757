use Rattle.std.proofs.Common.{subst, sym, ℕ, arith}
use Rattle.isometry_map.specs.Matrix.{matrix_of, matrix_product, IsSameMatrix}
use Rattle.isometry_map.specs.MatrixLaws.{composition_is_product}
use Rattle.isometry_map.proofs.linear_parts.compose_linear.Goals as goal

pub returns-clause-product : goal.returns-clause-product
returns-clause-product c =
    let i = c.args.i in
    let j = c.args.j in
    subst (λ (n : ℕ). IsSameMatrix (matrix_of n) (matrix_product (matrix_of i) (matrix_of j)))
    (sym c.composed_number.ensures.value)
    (composition_is_product i j (omega (arith, c.requires.later)) (omega (arith, c.requires.earlier)))
