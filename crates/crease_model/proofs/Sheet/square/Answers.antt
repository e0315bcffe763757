use Rattle.std.proofs.Common.{◌≡◌, rules}
use Rattle.crease_model.specs.Sheet.{square_corners}
use Rattle.crease_model.proofs.Square.{square_is_sheet}
use Rattle.crease_model.proofs.Sheet.square.Goals as goal

pub with_sides-requires : goal.with_sides-requires
with_sides-requires c =
    let corners : c.in_ok-from_slice.field-0.items ≡ square_corners = search rules in
    rw corners square_is_sheet
