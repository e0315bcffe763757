use Rattle.std.proofs.Common.{ap, ◌∙◌}
use Rattle.plane_geometry.specs.Position.{position_of}
use Rattle.plane_geometry.specs.DirView.{dir_number}
use Rattle.open_region.specs.EdgeView.{line_offset_of}
use Rattle.open_region.specs.Interval.{IsInInterval}
use Rattle.open_region.proofs.Ends.{told_by}
use Rattle.open_region.proofs.interval.Interval.between_ends.Goals as goal

pub returns : goal.returns
returns c =
    λ z. told_by c.args.s.now z (line_offset_of c.through.result) (line_offset_of c.through-2.result)
    (IsInInterval z c.whole.result) (IsInInterval z c.cut.result) (IsInInterval z c.cut-2.result)
    c.number-number.result (dir_number c.numbered.result) (dir_number c.numbered-2.result)
    (position_of c.from.result.now) (position_of c.from-2.result.now) (position_of c.from-3.result.now)
    (position_of c.to.result.now)
    (c.number-number.ensures ∙ c.dir.ensures.value) c.numbered.ensures c.numbered-2.ensures
    (ap position_of c.from.ensures.value) (ap position_of c.from-2.ensures.value)
    (ap position_of c.from-3.ensures.value) (ap position_of c.to.ensures)
    c.through.ensures c.through-2.ensures (c.whole.ensures z) (c.cut.ensures z) (c.cut-2.ensures z)
