use Rattle.std.proofs.Common.{Bool, true, ◌≡◌, ◌↔◌, sym, subst}
use Rattle.plane_geometry.specs.Stretch.{ShareTwoPoints}
use Rattle.plane_geometry.specs.SegmentView.{stretch_of}
use Rattle.plane_geometry.specs.CommonPointLaws.{overlapping_is}
use Rattle.plane_geometry.proofs.segments.overlaps.Goals as goal

pub returns-clause-common : goal.returns-clause-common
returns-clause-common c =
    let s = c.args.s.now in
    let u = c.args.u.now in
    let P : Bool → Type 0 = λ b. (b ≡ true) ↔ ShareTwoPoints (stretch_of s) (stretch_of u) in
    subst P (sym c.overlapping.ensures) (overlapping_is (stretch_of s) (stretch_of u) s.stretch u.stretch)
