-- What a line shows: its direction, its offset, and on which side of it points are.
use Rattle.std.specs.Prelude.{◌≡◌, ◌≢◌, ◌↔◌, ℕ}
use Rattle.surd_number.specs.declared.Sgn.{Sgn}
use Rattle.surd_number.specs.declared.Sgn.TheVariants.{Zero}
use Rattle.surd_number.specs.declared.Wide.{Wide}
use Rattle.surd_number.specs.Number.{difference_of, sign_of}
use Rattle.surd_number.specs.Stored.{IsSurd}
use Rattle.surd_number.specs.Value.{wide_number_of}
use Rattle.plane_geometry.specs.declared.Line.{Line}
use Rattle.plane_geometry.specs.Position.{Position, cross_of}
use Rattle.plane_geometry.specs.Direction.{direction_vector}

-- 0 to 7
abbrev pub line_number : Line → ℕ
line_number l = l.direction

abbrev pub line_offset : Line → Wide
line_offset l = l.offset

-- Pos is strictly left: a greater cross product than the line's points have
abbrev pub side_of_line : Line → Position → Sgn
side_of_line l p =
    sign_of (difference_of (cross_of (direction_vector (line_number l)) p) (wide_number_of (line_offset l)))

abbrev pub IsOnLine : Position → Line → Type 0
IsOnLine p l = side_of_line l p ≡ Zero

-- both coordinates are Surds
abbrev pub IsPoint : Position → Type 0
IsPoint p = IsSurd p.x × IsSurd p.y

-- no point of two Surds is on both lines
abbrev pub HasNoCommonPoint : Line → Line → Type 0
HasNoCommonPoint l m = (p : Position) → IsOnLine p l → IsOnLine p m → ¬ IsPoint p

-- they have different directions, and no common point of two Surds
abbrev pub MeetOutOfRange : Line → Line → Type 0
MeetOutOfRange l m = (line_number l ≢ line_number m) × HasNoCommonPoint l m

-- both have the same points of the plane
abbrev pub HaveSamePoints : Line → Line → Type 0
HaveSamePoints l m = (p : Position) → IsOnLine p l ↔ IsOnLine p m
