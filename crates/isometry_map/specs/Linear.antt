-- Linear parts of isometries as numbers: below 8 the rotation by so many steps of 45 degrees, and 8 + m the reflection in a
-- line of direction m.
use Rattle.std.specs.Prelude.{ℕ, ◌+◌, ◌-◌, ◌*◌, ◌%◌, Bool, nat_le, if◌then◌else◌}
use Rattle.surd_number.specs.declared.Sgn.{Sgn}
use Rattle.surd_number.specs.Number.{opposite_sign}

-- by so many steps
abbrev pub rotation : ℕ → ℕ
rotation n = n % 8

-- in a line of this direction
abbrev pub reflection : ℕ → ℕ
reflection m = 8 + m % 8

abbrev pub is_reflection : ℕ → Bool
is_reflection n = nat_le 8 n

-- j, then i; the 8 in the number of a reflection is nothing, modulo 8
abbrev pub composed : ℕ → ℕ → ℕ
composed i j =
    if is_reflection i
    then (if is_reflection j then rotation (i + 8 - j) else reflection (i + 8 - j))
    else (if is_reflection j then reflection (i + j) else rotation (i + j))

-- the direction that direction n becomes, modulo 16: a rotation by i steps adds 2 * i, and the reflection in a line of
-- direction m makes it 2 * m - n; the 8 in its number is nothing
abbrev pub direction_image : ℕ → ℕ → ℕ
direction_image i n = if is_reflection i then (2 * i + 16 - n) % 16 else (2 * i + n) % 16

-- the side that a side becomes: a reflection turns left into right
abbrev pub side_image : ℕ → Sgn → Sgn
side_image i side = if is_reflection i then opposite_sign side else side
