-- The square is a sheet, by computing.
use Rattle.std.proofs.Common.{◌≡◌, true, refl}
use Rattle.plane_geometry.specs.Direction.{direction_of}
use Rattle.crease_model.specs.Sheet.{is_sheet, square_corners}

pub square_is_sheet : is_sheet square_corners ≡ true
unfolding is_sheet direction_of
square_is_sheet = refl
