use Rattle.std.proofs.Common.{sym, ap, ◌∙◌}
use Rattle.crease_model.specs.Sheet.{is_sheet}
use Rattle.crease_model.proofs.NewSheets.{new_sheet}
use Rattle.crease_model.proofs.Sheet.new.Goals as goal

pub with_sides-requires : goal.with_sides-requires
with_sides-requires c =
    ap is_sheet c.in_ok-rotated-in-None.ensures
    ∙ new_sheet c.args.corners.now c.requires.least c.requires.most
    (sym c.fault_of.ensures ∙ c.in-None.is)
