-- New sheets: the first corner that is bad, and the corners from the least one on.
use Rattle.std.specs.Prelude.{◌≡◌, ⊤, ℕ, ◌+◌, Bool, true, false, not, List, [], ◌∷◌, ◌++◌, map, take, drop, Option, None, Some, nat_eq, if◌then◌else◌, Ok, Err}
use Rattle.std.specs.Option.{option_or}
use Rattle.std.specs.List.{sum, position_or_len}
use Rattle.std.specs.declared.result.Result.{Result}
use Rattle.plane_geometry.specs.declared.Point.{Point}
use Rattle.crease_model.specs.declared.SheetFault.{SheetFault}
use Rattle.crease_model.specs.declared.SheetFault.TheVariants.{BadSheet, Memory}
use Rattle.plane_geometry.specs.Polygon.{sides_of, side_direction, turn_of}
use Rattle.crease_model.specs.Sheet.{is_left_turn, is_least}

-- the directions, where there are any, of the side that ends at a corner and of the side that begins there
pub record Bend : Type 0 where
  pub before : Option ℕ
  pub after : Option ℕ

abbrev pub bends_from : Option ℕ → List (Option ℕ) → List Bend
bends_from before [] = []
bends_from before (after ∷ rest) = record { before = before; after = after } ∷ bends_from after rest

abbrev pub last_direction : Option ℕ → List (Option ℕ) → Option ℕ
last_direction direction [] = direction
last_direction direction (next ∷ rest) = last_direction next rest

-- the directions of the sides
abbrev pub side_directions : List Point → List (Option ℕ)
side_directions corners = map side_direction (sides_of corners)

-- the bend at each corner
abbrev pub bends_of : List Point → List Bend
bends_of corners = bends_from (last_direction None (side_directions corners)) (side_directions corners)

-- the side that begins here has no direction, or both have one and the turn is not to the left
abbrev pub is_bad_turn : Option ℕ → Option ℕ → Bool
is_bad_turn before None = true
is_bad_turn None (Some n) = false
is_bad_turn (Some m) (Some n) = not (is_left_turn (turn_of m n))

abbrev pub is_bad : Bend → Bool
is_bad bend = is_bad_turn bend.before bend.after

abbrev pub turn_between : Option ℕ → Option ℕ → ℕ
turn_between (Some m) (Some n) = turn_of m n
turn_between _ _ = 0

-- the turn at a corner, 0 where a side has no direction
abbrev pub bend_turn : Bend → ℕ
bend_turn bend = turn_between bend.before bend.after

-- the number of the first bad corner, where the first corner has this number
abbrev pub first_bad : ℕ → List Bend → Option ℕ
first_bad number [] = None
first_bad number (bend ∷ bends) = if is_bad bend then Some number else first_bad (number + 1) bends

-- 0 where the turns don't add to a whole one
abbrev pub turn_fault : ℕ → Option ℕ
turn_fault turns = if nat_eq turns 16 then None else Some 0

-- what keeps the corners from being those of a sheet: the number of the first bad one from 1,
-- or else the turns
abbrev pub sheet_fault : List Point → Option ℕ
sheet_fault corners =
    option_or (first_bad 1 (bends_of corners)) (turn_fault (sum (map bend_turn (bends_of corners))))

-- how many corners stand before the first least one
abbrev pub least_place : List Point → ℕ
least_place corners = position_or_len (is_least corners) corners

-- the corners from the first least one on, and then those before it
abbrev pub from_least : List Point → List Point
from_least corners = drop (least_place corners) corners ++ take (least_place corners) corners

abbrev pub unless_fault : Option ℕ → List Point → Result (List Point) ℕ
unless_fault None corners = Ok corners
unless_fault (Some number) corners = Err number

-- the sheet with these corners, or what keeps it from being one
unfoldable pub sheet_of : List Point → Result (List Point) ℕ
sheet_of corners = unless_fault (sheet_fault corners) (from_least corners)

-- an answer is the definition's, or want of memory
abbrev pub IsSheetAnswer : Result (List Point) SheetFault → Result (List Point) ℕ → Type 0
IsSheetAnswer (Ok sheet) answer = answer ≡ Ok sheet
IsSheetAnswer (Err (BadSheet number)) answer = answer ≡ Err number
IsSheetAnswer (Err Memory) answer = ⊤
