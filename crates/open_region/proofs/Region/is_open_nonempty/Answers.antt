use Rattle.open_region.proofs.Steps.{iff_trans}
use Rattle.open_region.proofs.Region.is_open_nonempty.Goals as goal

pub returns : goal.returns
returns c =
    iff_trans c.has_number.ensures (
      (λ w. let p = (c.heights.ensures w.0).0 w.1 in (record { x = p.0; y = w.0 }, p.1)),
      λ w. (w.0.y, (c.heights.ensures w.0.y).1 (w.0.x, w.1)),
    )
