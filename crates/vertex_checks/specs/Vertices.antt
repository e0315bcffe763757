-- The vertices that are checked: the ends of pieces strictly inside the sheet, in ascending order.
use Rattle.std.specs.Prelude.{◌≡◌, ◌⊎◌, Bool, true, false, List, [], ◌∷◌, ◌++◌, flat_map, Contains, if◌then◌else◌}
use Rattle.plane_geometry.specs.declared.Point.{Point}
use Rattle.plane_geometry.specs.Position.{position_of}
use Rattle.plane_geometry.specs.SegmentView.{lesser_end, greater_end}
use Rattle.crease_model.specs.declared.Piece.{Piece}
use Rattle.crease_model.specs.declared.Place.{Place}
use Rattle.crease_model.specs.declared.Place.TheVariants.{Outside, Border, Inside}
use Rattle.crease_model.specs.Sheet.{place_of}
use Rattle.crease_model.specs.Rules.{IsEndOf}
use Rattle.crease_model.specs.View.{PatternView}
use Rattle.line_split.specs.Points.{with_point}

-- strictly inside the sheet, and an end of a piece
pub record IsInnerEnd (pattern : PatternView) (v : Point) : Type 0 where
  pub inside : place_of pattern.corners (position_of v) ≡ Inside
  pub ends : (p : Piece) × Contains pattern.pieces p × IsEndOf p v

-- ---- the same as a list

abbrev pub is_inside : Place → Bool
is_inside Outside = false
is_inside Border = false
is_inside Inside = true

-- ascending points with one more, if it is strictly inside the sheet and not there yet
abbrev pub with_inner : List Point → List Point → Point → List Point
with_inner corners points v =
    if is_inside (place_of corners (position_of v)) then with_point points v else points

abbrev pub with_inner_ends : List Point → List Point → Piece → List Point
with_inner_ends corners points p =
    with_inner corners (with_inner corners points (lesser_end p.segment)) (greater_end p.segment)

-- the points with those ends of these pieces
abbrev pub vertices_from : List Point → List Piece → List Point → List Point
vertices_from corners [] points = points
vertices_from corners (p ∷ ps) points = vertices_from corners ps (with_inner_ends corners points p)

abbrev pub vertices_of : PatternView → List Point
vertices_of pattern = vertices_from pattern.corners pattern.pieces []

-- the point, if it is strictly inside the sheet
abbrev pub inner_point : List Point → Point → List Point
inner_point corners v = if is_inside (place_of corners (position_of v)) then v ∷ [] else []

-- the ends of the piece that are
abbrev pub inner_ends : List Point → Piece → List Point
inner_ends corners p =
    inner_point corners (lesser_end p.segment) ++ inner_point corners (greater_end p.segment)

-- those of all pieces, as often as they are there
abbrev pub inner_ends_of : PatternView → List Point
inner_ends_of pattern = flat_map (inner_ends pattern.corners) pattern.pieces
