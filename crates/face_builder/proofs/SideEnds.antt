-- Where corners are no ends of a segment, no vertex is between them.
use Rattle.std.proofs.Common.{◌≡◌, cond, List, [], ◌∷◌, ◌++◌, not, ◌&&◌, None, flat_map, refl, sym, ap, ap₂, ◌∙◌}
use Rattle.std.proofs.lemmas.List.{append-nil}
use Rattle.plane_geometry.specs.declared.Point.{Point}
use Rattle.plane_geometry.specs.Polygon.{Side}
use Rattle.plane_geometry.specs.Position.{position_of, is_same_point}
use Rattle.plane_geometry.specs.SegmentOf.{segment_of}
use Rattle.plane_geometry.specs.SegmentView.{lesser_end, greater_end}
use Rattle.crease_model.specs.declared.Piece.{Piece}
use Rattle.crease_model.specs.Sheet.{is_on_segment}
use Rattle.face_builder.specs.Vertices.{point_between, ends_between}

point_not_between : (side : Side) (v : Point) → segment_of side.start side.end ≡ None → point_between side v ≡ []
point_not_between side v none =
    ap (λ o. cond (is_on_segment (position_of v) o
    && (not (is_same_point v side.start) && not (is_same_point v side.end))) (v ∷ []) []) none

none_between : (side : Side) (pieces : List Piece) → segment_of side.start side.end ≡ None
    → flat_map (ends_between side) pieces ≡ []
none_between side [] none = refl
none_between side (q ∷ qs) none =
    ap₂ ◌++◌
    (ap₂ ◌++◌ (point_not_between side (lesser_end q.segment) none)
    (point_not_between side (greater_end q.segment) none))
    (none_between side qs none)

pub none_added : (start end : Point) (pieces : List Piece) (points : List Point) → segment_of start end ≡ None
    → points ≡ points ++ flat_map (ends_between (record { start = start; end = end })) pieces
none_added start end pieces points none =
    sym (append-nil points)
    ∙ ap (λ zs. points ++ zs) (sym (none_between (record { start = start; end = end }) pieces none))
