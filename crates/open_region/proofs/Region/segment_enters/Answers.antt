use Rattle.std.proofs.Common.{ℕ, ◌↔◌, ◌%◌, subst, ◌∙◌}
use Rattle.surd_number.specs.Number.{Number}
use Rattle.plane_geometry.specs.declared.Point.{Point}
use Rattle.plane_geometry.specs.Position.{position_of}
use Rattle.plane_geometry.specs.SegmentView.{direction_number}
use Rattle.open_region.specs.Interval.{IsInInterval}
use Rattle.open_region.specs.Region.{IsInRegion}
use Rattle.open_region.specs.Strip.{point_along}
use Rattle.open_region.proofs.Ends.{enters_iff}
use Rattle.open_region.proofs.Region.segment_enters.Goals as goal

pub returns : goal.returns
returns c =
    let r = c.args.self.now in
    let s = c.args.s.now in
    let I = λ (z : Number). IsInInterval z c.between_ends.result in
    let J = λ (z : Number). IsInInterval z c.along.result in
    enters_iff r s c.has_number.result I J c.has_number.ensures
    (λ z.
    subst (λ (p : Point). J z
    ↔ (I z × IsInRegion (point_along (position_of p) (direction_number s % 8) z) r)) c.from.ensures.value
    (subst (λ (k : ℕ). J z ↔ (I z × IsInRegion (point_along (position_of c.from.result.now) (k % 8) z) r))
    (c.number.ensures ∙ c.dir.ensures.value) (c.along.ensures z)))
    c.between_ends.ensures
