use Rattle.std.proofs.Common.{◌≡◌, ap₂, subst}
use Rattle.surd_number.specs.Number.{Number}
use Rattle.surd_number.specs.Value.{wide_number_of}
use Rattle.plane_geometry.specs.Position.{Position, position_of}
use Rattle.plane_geometry.specs.Multiple.{IsSameVector}
use Rattle.isometry_map.specs.LinearView.{linear_number}
use Rattle.isometry_map.specs.IsometryView.{motion_of}
use Rattle.isometry_map.specs.Motion.{image_by}
use Rattle.isometry_map.specs.WidePointView.{wide_position}
use Rattle.isometry_map.proofs.Widths.{stored_fits, stored_image_fits}
use Rattle.isometry_map.proofs.Mirrors.{image_shifted}
use Rattle.isometry_map.proofs.isometries.Isometry.apply.Goals as goal

pub image-requires : goal.image-requires
image-requires c = (
  stored_fits (wide_number_of c.of.result) c.of.ensures.fits,
  stored_fits (wide_number_of c.of-2.result) c.of-2.ensures.fits,
)

pub plus-requires-clause-few : goal.plus-requires-clause-few
plus-requires-clause-few c =
    let v : Position = record { x = wide_number_of c.of.result; y = wide_number_of c.of-2.result } in
    stored_image_fits (linear_number c.args.self.now.linear) (wide_position c.image.result) v c.image.ensures
    (c.of.ensures.fits, c.of-2.ensures.fits)

pub returns : goal.returns
returns c =
    let t = motion_of c.args.self.now in
    let v : Position = record { x = wide_number_of c.of.result; y = wide_number_of c.of-2.result } in
    let r = wide_position c.plus.result in
    let P : Position → Type 0 = λ p. IsSameVector r (image_by t p) in
    let at : v ≡ position_of c.args.p.now = ap₂
    (λ (x y : Number). let p : Position = record { x = x; y = y } in p) c.of.ensures.value
    c.of-2.ensures.value in
    subst P at (image_shifted t r (wide_position c.image.result) v c.plus.ensures c.image.ensures)
