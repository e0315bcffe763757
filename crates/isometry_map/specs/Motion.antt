-- Isometries of the plane, without limits: a linear part about the origin, then a shift. As maps of points they are
-- compared, composed and told apart by where each point goes.
use Rattle.std.specs.Prelude.{ℕ}
use Rattle.surd_number.specs.declared.Sgn.{Sgn}
use Rattle.surd_number.specs.Number.{Number, sum_of, negative_of, FitsOver}
use Rattle.plane_geometry.specs.declared.Line.{Line}
use Rattle.plane_geometry.specs.Position.{Position, vector_of, multiple_of}
use Rattle.plane_geometry.specs.Direction.{nought, direction_vector, side_of}
use Rattle.plane_geometry.specs.Multiple.{IsSameVector}
use Rattle.plane_geometry.specs.LineView.{line_number, IsOnLine}
use Rattle.isometry_map.specs.Linear.{rotation, reflection, direction_image}
use Rattle.isometry_map.specs.Matrix.{matrix_of, image_of, normal_of}

-- the number of the linear part, and the shift
pub record Motion : Type 0 where
  pub linear : ℕ
  pub shift : Position

-- p shifted by v
abbrev pub shifted : Position → Position → Position
shifted p v = record { x = sum_of p.x v.x; y = sum_of p.y v.y }

-- the point that p becomes
abbrev pub image_by : Motion → Position → Position
image_by t p = shifted (image_of (matrix_of t.linear) p) t.shift

-- on which side of the image of the line through q in direction n the image of p is
abbrev pub side_of_images : Motion → ℕ → Position → Position → Sgn
side_of_images t n q p = side_of (image_by t q) (direction_image t.linear n) (image_by t p)

-- one map of points: each point becomes the same one
abbrev pub IsSameMap : Motion → Motion → Type 0
IsSameMap s t = (p : Position) → IsSameVector (image_by s p) (image_by t p)

-- each point stays
abbrev pub IsIdentity : Motion → Type 0
IsIdentity t = (p : Position) → IsSameVector (image_by t p) p

-- r is t, then s
abbrev pub IsComposition : Motion → Motion → Motion → Type 0
IsComposition r s t = (p : Position) → IsSameVector (image_by r p) (image_by s (image_by t p))

-- the point that is m times the normal of the line from p
abbrev pub beside : Line → Position → Number → Position
beside l p m = shifted p (multiple_of m (normal_of (direction_vector (line_number l))))

-- the reflection in a line: its points stay, and what is beside one of them comes to be as far on the other side
pub record IsReflectionIn (l : Line) (t : Motion) : Type 0 where
  pub stays : (p : Position) → IsOnLine p l → IsSameVector (image_by t p) p
  pub turns : (p : Position) (m : Number) → IsOnLine p l →
      IsSameVector (image_by t (beside l p m)) (beside l p (negative_of m))

-- the reflection in some line
abbrev pub IsReflection : Motion → Type 0
IsReflection t = (l : Line) × IsReflectionIn l t

-- the identity, and the reflection in the line through q in direction n: q stays
abbrev pub identity_motion : Motion
identity_motion = record { linear = rotation 0; shift = record { x = nought; y = nought } }

abbrev pub reflection_at : ℕ → Position → Motion
reflection_at n q = record {
  linear = reflection n;
  shift = vector_of (image_of (matrix_of (reflection n)) q) q;
}

-- over 2^18, the shift has whole numerators of at most `most` in absolute value
abbrev pub IsShiftWithin : ℕ → Motion → Type 0
IsShiftWithin most t = FitsOver most 18 t.shift.x × FitsOver most 18 t.shift.y
