use Rattle.std.proofs.Common.{Bool, true, ◌≡◌, ◌↔◌, sym, subst}
use Rattle.plane_geometry.specs.Stretch.{MeetAtEnds}
use Rattle.plane_geometry.specs.SegmentView.{stretch_of}
use Rattle.plane_geometry.specs.CommonPointLaws.{meeting_is}
use Rattle.plane_geometry.proofs.segments.meets_at_ends.Goals as goal

pub returns-clause-common : goal.returns-clause-common
returns-clause-common c =
    let s = c.args.s.now in
    let u = c.args.u.now in
    let P : Bool → Type 0 = λ b. (b ≡ true) ↔ MeetAtEnds (stretch_of s) (stretch_of u) in
    subst P (sym c.apart_but_ends.ensures) (meeting_is (stretch_of s) (stretch_of u) s.stretch u.stretch)
