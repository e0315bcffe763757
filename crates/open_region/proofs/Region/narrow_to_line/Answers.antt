use Rattle.std.proofs.Common.{ℕ, ◌↔◌, subst}
use Rattle.plane_geometry.specs.Position.{position_of}
use Rattle.plane_geometry.specs.DirView.{dir_number}
use Rattle.open_region.specs.EdgeView.{line_offset_of}
use Rattle.open_region.specs.Region.{turned_offset, IsBeyond, IsInRegion}
use Rattle.open_region.proofs.Steps.{and_iff}
use Rattle.open_region.proofs.Edges.{left_is_side}
use Rattle.open_region.proofs.Region.narrow_to_line.Goals as goal

pub returns : goal.returns
returns c =
    let n = dir_number c.args.d in
    let o = line_offset_of c.through.result in
    λ q.
    let narrowed = subst
    (λ (k : ℕ). IsInRegion q c.narrow.new.self
    ↔ (IsInRegion q c.args.self.now × IsBeyond (turned_offset k o) k q)) c.number.ensures
    (c.narrow.ensures q) in
    and_iff narrowed (left_is_side n (turned_offset n o) (position_of c.args.p.now) q c.through.ensures)
