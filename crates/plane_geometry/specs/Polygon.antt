-- Polygons, given by their corners in order.
use Rattle.std.specs.Prelude.{ℕ, ◌+◌, ◌-◌, ◌%◌, Bool, ◌&&◌, List, [], ◌∷◌, map, length, Option, unwrap_or, is_some, nat_le, nat_lt, nat_eq, slice_index_or, if◌then◌else◌}
use Rattle.std.specs.List.{list_all, sum}
use Rattle.surd_number.specs.declared.Sgn.{Sgn}
use Rattle.plane_geometry.specs.declared.Point.{Point}
use Rattle.plane_geometry.specs.Position.{Position, position_of}
use Rattle.plane_geometry.specs.Direction.{side_of, is_positive, is_negative, direction_of}

-- a side, from one corner to the next
pub record Side : Type 0 where
  pub start : Point
  pub end : Point

-- each corner with the next, and the last with the first
abbrev pub sides_from : Point → List Point → List Side
sides_from first [] = []
sides_from first (p ∷ []) = record { start = p; end = first } ∷ []
sides_from first (p ∷ q ∷ ps) = record { start = p; end = q } ∷ sides_from first (q ∷ ps)

abbrev pub sides_of : List Point → List Side
sides_of [] = []
sides_of (p ∷ ps) = sides_from p (p ∷ ps)

abbrev pub side_direction : Side → Option ℕ
side_direction s = direction_of (position_of s.start) (position_of s.end)

-- the direction, 0 where there is none
abbrev pub side_number : Side → ℕ
side_number s = unwrap_or (side_direction s) 0

-- on which side of a polygon's side a point is: Pos is strictly left
abbrev pub side_sign : Position → Side → Sgn
side_sign p s = side_of (position_of s.start) (side_number s) p

abbrev pub is_left_of : Position → Side → Bool
is_left_of p s = is_positive (side_sign p s)

abbrev pub is_right_of : Position → Side → Bool
is_right_of p s = is_negative (side_sign p s)

-- the corner after the i-th: the next one, or the first after the last
abbrev pub next_corner_of : List Point → ℕ → Point → Point
next_corner_of corners i d =
    if nat_lt (i + 1) (length corners) then slice_index_or corners (i + 1) d else slice_index_or corners 0 d

-- the turn from one direction to the next, in steps of 22.5 degrees counterclockwise
abbrev pub turn_of : ℕ → ℕ → ℕ
turn_of m n = (n + 16 - m) % 16

abbrev pub turns_from : ℕ → List ℕ → List ℕ
turns_from first [] = []
turns_from first (m ∷ []) = turn_of m first ∷ []
turns_from first (m ∷ n ∷ ns) = turn_of m n ∷ turns_from first (n ∷ ns)

abbrev pub turns_of : List ℕ → List ℕ
turns_of [] = []
turns_of (n ∷ ns) = turns_from n (n ∷ ns)

abbrev pub directions_of : List Point → List ℕ
directions_of corners = map side_number (sides_of corners)

abbrev pub has_direction : Side → Bool
has_direction s = is_some (side_direction s)

-- each side runs in one of the 16 directions
abbrev pub have_directions : List Point → Bool
have_directions corners = list_all has_direction (sides_of corners)

-- strictly left of each side
abbrev pub is_in_polygon : List Point → Position → Bool
is_in_polygon corners p = list_all (is_left_of p) (sides_of corners)

-- how far the sides turn left in all, in steps of 22.5 degrees
abbrev pub whole_turn : List Point → ℕ
whole_turn corners = sum (turns_of (directions_of corners))

-- up to 7 steps to the left
abbrev pub is_convex_turn : ℕ → Bool
is_convex_turn turn = nat_le turn 7

-- counterclockwise: sides in the 16 directions, none of which turns right or back, and one whole turn
unfoldable pub is_convex : List Point → Bool
is_convex corners =
    have_directions corners
    && (list_all is_convex_turn (turns_of (directions_of corners)) && nat_eq (whole_turn corners) 16)
