use Rattle.std.proofs.Common.{ap, sym, ◌∙◌}
use Rattle.std.specs.Option.{option_map}
use Rattle.plane_geometry.specs.DirView.{dir_number}
use Rattle.open_region.proofs.Steps.{and_iff}
use Rattle.open_region.proofs.Narrowing.{left_of_side}
use Rattle.open_region.proofs.Region.narrow_to_side.Goals as goal

pub returns : goal.returns
returns c =
    λ q. and_iff (c.narrow_to_line.ensures q)
    (left_of_side q (record { start = c.args.start.now; end = c.args.end.now }) (dir_number c.in-Some.d)
    (sym c.direction.ensures.value ∙ ap (option_map dir_number) c.in-Some.is))
