-- The lines through folded sides, and how many different ones there are.
use Rattle.std.specs.Prelude.{◌≡◌, ◌↔◌, ◌⊎◌, ℕ, ◌%◌, ◌≤◌, List, [], ◌∷◌, Some, length}
use Rattle.std.specs.List.{Contains, flat_map}
use Rattle.std.specs.List.Sorted.{IsStrictlySortedBy}
use Rattle.plane_geometry.specs.declared.Line.{Line}
use Rattle.plane_geometry.specs.LineView.{line_number, IsOnLine}
use Rattle.plane_geometry.specs.Order.{compare_lines}
use Rattle.plane_geometry.specs.Polygon.{Side, side_direction, sides_of}
use Rattle.plane_geometry.specs.Position.{position_of}
use Rattle.isometry_map.specs.declared.folded.FoldedFace.{FoldedFace}
use Rattle.face_builder.specs.MapRules.{most_corners}

-- the line through a side: in the side's direction, through its start
pub record IsLineThrough (s : Side) (l : Line) : Type 0 where
  pub direction : ℕ
  pub runs : side_direction s ≡ Some direction
  pub number : line_number l ≡ direction % 8
  pub start : IsOnLine (position_of s.start) l

-- the line through one of the sides
abbrev pub IsThrough : List Side → Line → Type 0
IsThrough [] l = ⊥
IsThrough (s ∷ sides) l = IsLineThrough s l ⊎ IsThrough sides l

abbrev pub folded_sides : List FoldedFace → List Side
folded_sides faces = flat_map (λ f. sides_of f.corners) faces

-- so many different lines are of this kind: a list that ascends strictly has just these
pub record HasDifferent (Is : Line → Type 0) (n : ℕ) : Type 0 where
  pub different : List Line
  pub ascending : IsStrictlySortedBy compare_lines different
  pub same : (l : Line) → Contains different l ↔ Is l
  pub count : length different ≡ n

-- so many different lines pass through folded sides
abbrev pub HasLines : List FoldedFace → ℕ → Type 0
HasLines faces n = HasDifferent (IsThrough (folded_sides faces)) n

-- no more than a face can have
abbrev pub HasFewCorners : FoldedFace → Type 0
HasFewCorners f = length f.corners ≤ most_corners
