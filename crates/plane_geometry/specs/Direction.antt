-- The 16 directions in steps of 22.5 degrees, counterclockwise from the x axis. Direction n + 8 is opposite to n.
use Rattle.std.specs.Prelude.{ℕ, zero, suc, ◌-◌, ◌+◌, ◌%◌, pos, Bool, true, false, ◌&&◌, Option, None, Some, nat_lt, if◌then◌else◌}
use Rattle.surd_number.specs.declared.Sgn.{Sgn}
use Rattle.surd_number.specs.declared.Sgn.TheVariants.{Neg, Zero, Pos}
use Rattle.surd_number.specs.Number.{Number, whole, tangent, negative_of, sign_of}
use Rattle.plane_geometry.specs.Position.{Position, opposite_of, vector_of, cross_of, dot_of}

abbrev pub one : Number
one = whole (pos 1)

abbrev pub nought : Number
nought = whole (pos 0)

-- directions 0 to 7
abbrev pub upper_vector : ℕ → Position
upper_vector zero = record { x = one; y = nought }
upper_vector (suc zero) = record { x = one; y = tangent }
upper_vector (suc (suc zero)) = record { x = one; y = one }
upper_vector (suc (suc (suc zero))) = record { x = tangent; y = one }
upper_vector (suc (suc (suc (suc zero)))) = record { x = nought; y = one }
upper_vector (suc (suc (suc (suc (suc zero))))) = record { x = negative_of tangent; y = one }
upper_vector (suc (suc (suc (suc (suc (suc zero)))))) = record { x = negative_of one; y = one }
upper_vector (suc (suc (suc (suc (suc (suc (suc n))))))) = record { x = negative_of one; y = tangent }

abbrev pub direction_vector : ℕ → Position
direction_vector n = if nat_lt n 8 then upper_vector n else opposite_of (upper_vector (n - 8))

abbrev pub opposite_number : ℕ → ℕ
opposite_number n = (n + 8) % 16

-- how direction n turns from direction m: Pos to the left
abbrev pub turn_sign : ℕ → ℕ → Sgn
turn_sign m n = sign_of (cross_of (direction_vector m) (direction_vector n))

-- on which side of the line through q in direction n the point p is: Pos is strictly left
abbrev pub side_of : Position → ℕ → Position → Sgn
side_of q n p = sign_of (cross_of (direction_vector n) (vector_of q p))

abbrev pub is_positive : Sgn → Bool
is_positive Pos = true
is_positive Zero = false
is_positive Neg = false

abbrev pub is_negative : Sgn → Bool
is_negative Pos = false
is_negative Zero = false
is_negative Neg = true

abbrev pub is_zero : Sgn → Bool
is_zero Pos = false
is_zero Zero = true
is_zero Neg = false

-- from p to q it goes in direction n
abbrev pub is_along : ℕ → Position → Position → Bool
is_along n p q = is_zero (side_of p n q)
    && is_positive (sign_of (dot_of (direction_vector n) (vector_of p q)))

-- the least of the directions n, n + 1, .. in which it goes from p to q, among as many as are left
abbrev pub direction_among : ℕ → ℕ → Position → Position → Option ℕ
direction_among zero n p q = None
direction_among (suc left) n p q = if is_along n p q then Some n else direction_among left (n + 1) p q

-- the direction from p to q, if it is one of the 16
unfoldable pub direction_of : Position → Position → Option ℕ
direction_of p q = direction_among 16 0 p q
