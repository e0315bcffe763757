-- Points of the plane: any pair of exact numbers.
use Rattle.std.specs.Prelude.{Bool, IsTrue}
use Rattle.std.specs.declared.cmp.Ordering.{Ordering}
use Rattle.std.specs.Ordering.{ordering_then, is_eq, is_lt}
use Rattle.surd_number.specs.Number.{Number, sum_of, difference_of, product_of, negative_of, compare_of}
use Rattle.surd_number.specs.Value.{number_of}
use Rattle.plane_geometry.specs.declared.Point.{Point}

pub record Position : Type 0 where
  pub x : Number
  pub y : Number

abbrev pub position_of : Point → Position
position_of p = record { x = number_of p.x; y = number_of p.y }

-- by x, then by y
abbrev pub compare_positions : Position → Position → Ordering
compare_positions p q = ordering_then (compare_of p.x q.x) (compare_of p.y q.y)

-- points by their places
abbrev pub compare_points : Point → Point → Ordering
compare_points p q = compare_positions (position_of p) (position_of q)

-- p comes before q in the order of points
abbrev pub ComesBefore : Point → Point → Type 0
ComesBefore p q = IsTrue (is_lt (compare_positions (position_of p) (position_of q)))

-- both stand for one point of the plane
abbrev pub is_same_position : Position → Position → Bool
is_same_position p q = is_eq (compare_positions p q)

abbrev pub is_same_point : Point → Point → Bool
is_same_point p q = is_same_position (position_of p) (position_of q)

-- the vector from p to q
abbrev pub vector_of : Position → Position → Position
vector_of p q = record { x = difference_of q.x p.x; y = difference_of q.y p.y }

abbrev pub opposite_of : Position → Position
opposite_of v = record { x = negative_of v.x; y = negative_of v.y }

-- v scaled by m
abbrev pub multiple_of : Number → Position → Position
multiple_of m v = record { x = product_of m v.x; y = product_of m v.y }

-- the cross product: positive where v turns left of u
abbrev pub cross_of : Position → Position → Number
cross_of u v = difference_of (product_of u.x v.y) (product_of u.y v.x)

abbrev pub dot_of : Position → Position → Number
dot_of u v = sum_of (product_of u.x v.x) (product_of u.y v.y)
