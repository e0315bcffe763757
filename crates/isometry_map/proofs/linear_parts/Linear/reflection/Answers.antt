use Rattle.std.proofs.Common.{subst, sym, ℕ, ◌+◌, ◌%◌, arith}
use Rattle.plane_geometry.specs.DirView.{dir_number}
use Rattle.isometry_map.specs.Matrix.{matrix_of, IsMirrorOf}
use Rattle.isometry_map.specs.MatrixLaws.{reflections_keep_their_lines}
use Rattle.isometry_map.proofs.linear_parts.Linear.reflection.Goals as goal

pub returns-clause-mirror : goal.returns-clause-mirror
returns-clause-mirror c =
    let d = c.args.d in
    subst (λ (n : ℕ). IsMirrorOf (dir_number d) (matrix_of (8 + n % 8))) (sym c.number.ensures)
    (reflections_keep_their_lines (dir_number d) (omega (arith, d.in_range)))
