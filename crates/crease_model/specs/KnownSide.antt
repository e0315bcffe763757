-- What a sheet knows of each of its sides, so that none is searched for again.
use Rattle.std.specs.Prelude.{◌≡◌, ℕ, Bool, ◌&&◌, List, map, Option, Some, IsTrue, if◌then◌else◌}
use Rattle.std.specs.List.{list_any, list_all}
use Rattle.surd_number.specs.declared.Sgn.{Sgn}
use Rattle.plane_geometry.specs.declared.Point.{Point}
use Rattle.plane_geometry.specs.declared.Segment.{Segment}
use Rattle.plane_geometry.specs.Position.{Position, position_of}
use Rattle.plane_geometry.specs.Direction.{side_of, is_positive, is_negative}
use Rattle.plane_geometry.specs.DirView.{dir_number}
use Rattle.plane_geometry.specs.Polygon.{Side, sides_of, side_direction}
use Rattle.plane_geometry.specs.SegmentOf.{segment_of}
use Rattle.plane_geometry.specs.SegmentView.{stretch_of}
use Rattle.plane_geometry.specs.Stretch.{Stretch, is_on}
use Rattle.crease_model.specs.declared.sides.KnownSide.{KnownSide}
use Rattle.crease_model.specs.declared.Place.{Place}
use Rattle.crease_model.specs.declared.Place.TheVariants.{Outside, Border, Inside}
use Rattle.crease_model.specs.Sheet.{is_sheet}

-- where a side begins, its direction, and the segment between its ends
pub record SideFacts : Type 0 where
  pub start : Point
  pub direction : Option ℕ
  pub segment : Option Segment

abbrev pub facts_of : Side → SideFacts
facts_of side = record {
  start = side.start;
  direction = side_direction side;
  segment = segment_of side.start side.end;
}

abbrev pub known_facts : KnownSide → SideFacts
known_facts side = record {
  start = side.start;
  direction = Some (dir_number side.dir);
  segment = Some side.segment;
}

-- the sides between these corners
abbrev pub AreSides : List Point → List KnownSide → Type 0
AreSides corners sides = map known_facts sides ≡ map facts_of (sides_of corners)

-- the corners of a sheet and its sides
pub record IsKnownSheet (corners : List Point) (sides : List KnownSide) : Type 0 where
  pub rules : IsTrue (is_sheet corners)
  pub beside : AreSides corners sides

-- on which side of a known side a point is: Pos is strictly left
abbrev pub known_sign : Position → KnownSide → Sgn
known_sign p side = side_of (position_of side.start) (dir_number side.dir) p

abbrev pub is_left_of_known : Position → KnownSide → Bool
is_left_of_known p side = is_positive (known_sign p side)

abbrev pub is_right_of_known : Position → KnownSide → Bool
is_right_of_known p side = is_negative (known_sign p side)

-- where a point lies to the known sides of a sheet
abbrev pub place_to : List KnownSide → Position → Place
place_to sides p =
    if list_all (is_left_of_known p) sides then Inside
    else if list_any (is_right_of_known p) sides then Outside
    else Border

-- both ends of s are on the known side
abbrev pub known_holds : Stretch → KnownSide → Bool
known_holds s side = is_on s.from (stretch_of side.segment) && is_on s.to (stretch_of side.segment)
