use Rattle.std.proofs.Common.{◌≡◌, Bool, cond, sym, subst, arith}
use Rattle.surd_number.specs.Number.{opposite_sign}
use Rattle.plane_geometry.specs.Direction.{side_of}
use Rattle.isometry_map.specs.IsometryView.{motion_of}
use Rattle.isometry_map.specs.Motion.{side_of_images}
use Rattle.isometry_map.specs.MotionLaws.{sides_are_kept}
use Rattle.isometry_map.proofs.isometries.Isometry.turned.Goals as goal

pub returns-clause-sides : goal.returns-clause-sides
returns-clause-sides c = λ n q p few.
    let t = motion_of c.args.self.now in
    subst (λ (b : Bool). side_of_images t n q p ≡ cond b (opposite_sign (side_of q n p)) (side_of q n p))
    (sym c.turned.ensures.value)
    (sides_are_kept t n q p (omega (arith, c.args.self.now.linear.in_range)) few)
