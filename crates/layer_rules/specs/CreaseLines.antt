-- Creases with the lines that their images lie on.
use Rattle.std.specs.Prelude.{◌≡◌, ◌↔◌, List, IsTrue}
use Rattle.std.specs.List.{Contains}
use Rattle.std.specs.List.Sorted.{IsSorted}
use Rattle.std.specs.declared.cmp.Ordering.{Ordering}
use Rattle.plane_geometry.specs.declared.Segment.{Segment}
use Rattle.plane_geometry.specs.declared.Line.{Line}
use Rattle.plane_geometry.specs.Position.{Position}
use Rattle.plane_geometry.specs.Stretch.{is_in_line}
use Rattle.plane_geometry.specs.SegmentView.{stretch_of}
use Rattle.plane_geometry.specs.LineView.{IsOnLine}
use Rattle.plane_geometry.specs.Order.{compare_lines}
use Rattle.isometry_map.specs.declared.folded.CreaseImage.{CreaseImage}
use Rattle.layer_rules.specs.declared.crease_lines.LinedCrease.{LinedCrease}

-- the points of the line are just those in line with the segment
abbrev pub IsLineThrough : Segment → Line → Type 0
IsLineThrough s l = (p : Position) → IsOnLine p l ↔ IsTrue (is_in_line p (stretch_of s))

-- the crease with the line of its image
pub record IsWithLine (c : CreaseImage) (x : LinedCrease) : Type 0 where
  pub crease : x.crease ≡ c
  pub line : IsLineThrough c.image x.line

abbrev pub compare_by_line : LinedCrease → LinedCrease → Ordering
compare_by_line x y = compare_lines x.line y.line

-- just these creases with their lines, sorted by the lines
pub record AreByLine (creases : List CreaseImage) (lined : List LinedCrease) : Type 0 where
  pub all : (c : CreaseImage) → Contains creases c → (x : LinedCrease) × Contains lined x × IsWithLine c x
  pub only : (x : LinedCrease) → Contains lined x → Contains creases x.crease
  pub order : IsSorted compare_by_line lined
