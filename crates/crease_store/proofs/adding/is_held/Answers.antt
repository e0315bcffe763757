use Rattle.std.proofs.Common.{◌≡◌, true, ◌∙◌, sym, subst}
use Rattle.plane_geometry.specs.declared.Point.{Point}
use Rattle.plane_geometry.specs.SegmentView.{greater_end}
use Rattle.line_split.specs.Points.{equal_points}
use Rattle.line_split.specs.SortedLaws.{equal_point}
use Rattle.crease_store.specs.Held.{IsLedTo}
use Rattle.crease_store.proofs.Held.{led_among}
use Rattle.crease_store.proofs.Members.{slice_member}
use Rattle.crease_store.proofs.adding.is_held.Goals as goal

pub returns : goal.returns
returns c =
    let pieces = c.args.pieces.now in
    let kind = c.args.kind in
    let s = c.args.s.now in
    let led = c.led_to.result in
    λ e.
    let all : led ≡ greater_end s = equal_point led (greater_end s) (subst (λ (u : Point). equal_points led u ≡ true) c.to.ensures (sym c.eq.ensures ∙ e)) in
    subst (IsLedTo pieces kind s) all (led_among _ pieces kind s led (λ p there. slice_member _ _ _ pieces p there) c.led_to.ensures)
