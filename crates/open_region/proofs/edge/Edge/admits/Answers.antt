use Rattle.std.proofs.Common.{ℕ, subst}
use Rattle.surd_number.specs.Number.{IsSame}
use Rattle.plane_geometry.specs.Position.{position_of, cross_of}
use Rattle.plane_geometry.specs.Direction.{direction_vector}
use Rattle.open_region.specs.EdgeView.{line_offset_of}
use Rattle.open_region.specs.Region.{turned_offset}
use Rattle.open_region.proofs.Steps.{iff_trans}
use Rattle.open_region.proofs.Edges.{less_right_same}
use Rattle.open_region.proofs.edge.Edge.admits.Goals as goal

pub returns : goal.returns
returns c =
    let n = c.args.n in
    let p = position_of c.args.p.now in
    let o = line_offset_of c.through.result in
    iff_trans c.is_tighter.ensures
    (less_right_same (turned_offset n (line_offset_of c.args.self.now)) (turned_offset n o)
    (cross_of (direction_vector n) p)
    (subst (λ (k : ℕ). IsSame (turned_offset k o) (cross_of (direction_vector k) p)) c.numbered.ensures
    c.through.ensures))
