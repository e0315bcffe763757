-- Sheets: convex polygons, given by their corners counterclockwise from the least one.
use Rattle.std.specs.Prelude.{ℕ, ℤ, pos, negsuc, Bool, true, false, ◌&&◌, not, List, [], ◌∷◌, length, Option, Some, None, nat_le, nat_eq, if◌then◌else◌}
use Rattle.std.specs.List.{list_any, list_all}
use Rattle.std.specs.Ordering.{is_lt}
use Rattle.surd_number.specs.Whole.{whole_surd}
use Rattle.plane_geometry.specs.declared.Point.{Point}
use Rattle.plane_geometry.specs.Position.{Position, position_of, compare_positions}
use Rattle.plane_geometry.specs.Polygon.{Side, sides_of, is_right_of, is_in_polygon, turns_of, directions_of, have_directions, whole_turn}
use Rattle.plane_geometry.specs.Stretch.{Stretch, is_on}
use Rattle.plane_geometry.specs.declared.Segment.{Segment}
use Rattle.plane_geometry.specs.SegmentOf.{segment_of}
use Rattle.plane_geometry.specs.SegmentView.{stretch_of}
use Rattle.crease_model.specs.declared.Place.{Place}
use Rattle.crease_model.specs.declared.Place.TheVariants.{Outside, Border, Inside}

-- inside: strictly left of all sides; outside: strictly right of one; else on the border
abbrev pub place_of : List Point → Position → Place
place_of corners p =
    if is_in_polygon corners p then Inside
    else if list_any (is_right_of p) (sides_of corners) then Outside
    else Border

abbrev pub is_outside : Place → Bool
is_outside Outside = true
is_outside Border = false
is_outside Inside = false

abbrev pub is_on_segment : Position → Option Segment → Bool
is_on_segment p None = false
is_on_segment p (Some s) = is_on p (stretch_of s)

-- both ends of s are on the side
abbrev pub holds_both_ends : Stretch → Side → Bool
holds_both_ends s side =
    is_on_segment s.from (segment_of side.start side.end)
    && is_on_segment s.to (segment_of side.start side.end)

-- both ends on one side
abbrev pub is_within_side : List Point → Stretch → Bool
is_within_side corners s = list_any (holds_both_ends s) (sides_of corners)

-- 1 to 7 steps to the left
abbrev pub is_left_turn : ℕ → Bool
is_left_turn turn = nat_le 1 turn && nat_le turn 7

-- no corner is before p
abbrev pub is_least : List Point → Point → Bool
is_least corners p = list_all (λ q. not (is_lt (compare_positions (position_of q) (position_of p)))) corners

abbrev pub is_least_first : List Point → Bool
is_least_first [] = false
is_least_first (p ∷ ps) = is_least (p ∷ ps) p

-- 3 to 16 corners from the least one, sides in the 16 directions, turns of 1 to 7 units, 16 units in all
unfoldable pub is_sheet : List Point → Bool
is_sheet corners =
    (nat_le 3 (length corners) && nat_le (length corners) 16)
    && (have_directions corners
    && (list_all is_left_turn (turns_of (directions_of corners))
    && (nat_eq (whole_turn corners) 16 && is_least_first corners)))

abbrev pub whole_point : ℤ → ℤ → Point
whole_point x y = record { x = whole_surd x; y = whole_surd y }

-- the square with corners (-200, -200), (200, -200), (200, 200), (-200, 200)
abbrev pub square_corners : List Point
square_corners =
    whole_point (negsuc 199) (negsuc 199) ∷ whole_point (pos 200) (negsuc 199)
    ∷ whole_point (pos 200) (pos 200) ∷ whole_point (negsuc 199) (pos 200) ∷ []
