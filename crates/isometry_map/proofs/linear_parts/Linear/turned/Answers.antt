use Rattle.std.proofs.Common.{subst, sym, Bool, cond, pos, negsuc, arith}
use Rattle.surd_number.specs.Number.{IsSame, whole}
use Rattle.isometry_map.specs.LinearView.{linear_number}
use Rattle.isometry_map.specs.Matrix.{matrix_of, determinant}
use Rattle.isometry_map.specs.MatrixLaws.{turned_reverse}
use Rattle.isometry_map.proofs.linear_parts.Linear.turned.Goals as goal

pub returns-clause-reverses : goal.returns-clause-reverses
returns-clause-reverses c =
    let l = c.args.self in
    subst (λ (b : Bool). IsSame (determinant (matrix_of (linear_number l)))
    (cond b (whole (negsuc 0)) (whole (pos 1)))) (sym c.is_turned.ensures)
    (turned_reverse (linear_number l) (omega (arith, l.in_range)))
