-- Bounds of the offsets of lines, and sides of lines.
use Rattle.std.proofs.Common.{◌≡◌, ℕ, ◌+◌, ◌*◌, ◌^◌, subst}
use Rattle.std.proofs.Math.Logic.{∥∥₁_elim}
use Rattle.surd_number.specs.Number.{Number, IsSame, difference_of, sign_of, FitsOver}
use Rattle.surd_number.specs.NumberLaws.{IsSame-refl, IsSame-trans, difference_of-same}
use Rattle.surd_number.specs.SignLaws.{sign_of-same}
use Rattle.surd_number.specs.Value.{number_of, wide_number_of}
use Rattle.surd_number.specs.FitsLaws.{fits_stored, fits_prop}
use Rattle.plane_geometry.specs.declared.Point.{Point}
use Rattle.plane_geometry.specs.declared.Line.{Line}
use Rattle.plane_geometry.specs.Position.{Position, position_of, cross_of}
use Rattle.plane_geometry.specs.Direction.{direction_vector}
use Rattle.plane_geometry.specs.LineStored.{PassesThroughPoint}
use Rattle.plane_geometry.specs.LineView.{line_number, line_offset, side_of_line}
use Rattle.plane_geometry.proofs.Wides.{cross_fits}

-- the cross product of a direction with a point
pub point_cross_fits : (n : ℕ) (p : Point) (r : Number)
    → IsSame r (cross_of (direction_vector n) (position_of p)) → FitsOver (3 * 2 ^ 52 + 3 * 2 ^ 52) 16 r
point_cross_fits n p r e =
    cross_fits n (2 ^ 52) r (number_of p.x) (number_of p.y) e (fits_stored (number_of p.x) p.x.stored)
    (fits_stored (number_of p.y) p.y.stored)

pub offset_fits : (l : Line) → FitsOver (3 * 2 ^ 52 + 3 * 2 ^ 52) 16 (wide_number_of (line_offset l))
offset_fits l = ∥∥₁_elim l.passes (fits_prop (3 * 2 ^ 52 + 3 * 2 ^ 52) 16 (wide_number_of l.offset))
    (λ (w : PassesThroughPoint l.direction l.offset). point_cross_fits l.direction w.0
    (wide_number_of l.offset) w.1)

pub side_by : (l : Line) (p : Position) (n : ℕ) (r z : Number) → n ≡ line_number l
    → IsSame z (cross_of (direction_vector n) p) → IsSame r (difference_of z (wide_number_of (line_offset l)))
    → sign_of r ≡ side_of_line l p
side_by l p n r z at e f =
    let o = wide_number_of (line_offset l) in
    let cross = cross_of (direction_vector (line_number l)) p in
    let e' : IsSame z cross = subst (λ k. IsSame z (cross_of (direction_vector k) p)) at e in
    sign_of-same r (difference_of cross o)
    (IsSame-trans r (difference_of z o) (difference_of cross o) f
    (difference_of-same z o cross o e' (IsSame-refl o)))
