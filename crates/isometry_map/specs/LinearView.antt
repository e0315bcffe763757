-- What a linear part shows: its number, and the matrix that this stands for.
use Rattle.std.specs.Prelude.{ℕ}
use Rattle.isometry_map.specs.Matrix.{Matrix, matrix_of}
use Rattle.isometry_map.specs.declared.linear_parts.Linear.{Linear}

abbrev pub linear_number : Linear → ℕ
linear_number l = l.number

abbrev pub matrix_in : Linear → Matrix
matrix_in l = matrix_of (linear_number l)
