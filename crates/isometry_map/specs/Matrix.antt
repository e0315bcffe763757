-- The matrices of linear parts.
use Rattle.std.specs.Prelude.{ℕ, ◌+◌, ◌%◌, List, [], ◌∷◌, slice_index_or, if◌then◌else◌}
use Rattle.surd_number.specs.Number.{Number, IsSame, half_root, sum_of, difference_of, product_of, negative_of}
use Rattle.plane_geometry.specs.Position.{Position, opposite_of}
use Rattle.plane_geometry.specs.Direction.{one, nought, direction_vector}
use Rattle.plane_geometry.specs.Multiple.{IsSameVector}
use Rattle.isometry_map.specs.Linear.{is_reflection}

-- by rows
pub record Matrix : Type 0 where
  pub xx : Number
  pub xy : Number
  pub yx : Number
  pub yy : Number

-- of 45 degrees times 0 to 7; half_root is sqrt 2 / 2
abbrev pub cosines : List Number
cosines =
    one ∷ half_root ∷ nought ∷ negative_of half_root
    ∷ negative_of one ∷ negative_of half_root ∷ nought ∷ half_root
    ∷ []

abbrev pub cosine : ℕ → Number
cosine n = slice_index_or cosines (n % 8) nought

abbrev pub sine : ℕ → Number
sine n = cosine (n + 6)

abbrev pub rotation_matrix : ℕ → Matrix
rotation_matrix n = record { xx = cosine n; xy = negative_of (sine n); yx = sine n; yy = cosine n }

abbrev pub reflection_matrix : ℕ → Matrix
reflection_matrix m = record { xx = cosine m; xy = sine m; yx = sine m; yy = negative_of (cosine m) }

-- the matrix of a linear part
abbrev pub matrix_of : ℕ → Matrix
matrix_of n = if is_reflection n then reflection_matrix n else rotation_matrix n

-- the matrix of n, then m
abbrev pub matrix_product : Matrix → Matrix → Matrix
matrix_product m n = record {
  xx = sum_of (product_of m.xx n.xx) (product_of m.xy n.yx);
  xy = sum_of (product_of m.xx n.xy) (product_of m.xy n.yy);
  yx = sum_of (product_of m.yx n.xx) (product_of m.yy n.yx);
  yy = sum_of (product_of m.yx n.xy) (product_of m.yy n.yy);
}

abbrev pub determinant : Matrix → Number
determinant m = difference_of (product_of m.xx m.yy) (product_of m.xy m.yx)

-- the vector that v becomes
abbrev pub image_of : Matrix → Position → Position
image_of m v = record {
  x = sum_of (product_of m.xx v.x) (product_of m.xy v.y);
  y = sum_of (product_of m.yx v.x) (product_of m.yy v.y);
}

-- v turned left by a right angle
abbrev pub normal_of : Position → Position
normal_of v = record { x = negative_of v.y; y = v.x }

-- both have the same numbers
pub record IsSameMatrix (m n : Matrix) : Type 0 where
  pub xx : IsSame m.xx n.xx
  pub xy : IsSame m.xy n.xy
  pub yx : IsSame m.yx n.yx
  pub yy : IsSame m.yy n.yy

-- the reflection in the line of direction n through the origin: that direction stays, and the one at a right angle is
-- turned round
abbrev pub IsMirrorOf : ℕ → Matrix → Type 0
IsMirrorOf n m =
    IsSameVector (image_of m (direction_vector n)) (direction_vector n)
    × IsSameVector (image_of m (normal_of (direction_vector n)))
    (opposite_of (normal_of (direction_vector n)))
