-- Positive multiples of directions: a direction in which one goes, in the words of the subject.
use Rattle.std.specs.Prelude.{◌≡◌, ℕ}
use Rattle.surd_number.specs.declared.Sgn.TheVariants.{Pos}
use Rattle.surd_number.specs.Number.{Number, IsSame, sign_of}
use Rattle.plane_geometry.specs.Position.{Position, vector_of, multiple_of}
use Rattle.plane_geometry.specs.Direction.{direction_vector}

-- two pairs stand for one vector
abbrev pub IsSameVector : Position → Position → Type 0
IsSameVector u v = IsSame u.x v.x × IsSame u.y v.y

-- the difference of the points is a positive multiple of direction n
abbrev pub IsPositiveMultiple : ℕ → Position → Position → Type 0
IsPositiveMultiple n p q =
    (m : Number) × (sign_of m ≡ Pos) × IsSameVector (vector_of p q) (multiple_of m (direction_vector n))
