-- The position that a point of Wides stands for.
use Rattle.std.specs.Prelude.{ℕ}
use Rattle.surd_number.specs.Number.{FitsOver}
use Rattle.surd_number.specs.Value.{wide_number_of}
use Rattle.plane_geometry.specs.Position.{Position}
use Rattle.isometry_map.specs.declared.wide_points.WidePoint.{WidePoint}

abbrev pub wide_position : WidePoint → Position
wide_position p = record { x = wide_number_of p.x; y = wide_number_of p.y }

-- over 2^places, both coordinates have whole numerators of at most `most` in absolute value
abbrev pub IsPointWithin : ℕ → ℕ → WidePoint → Type 0
IsPointWithin most places p =
    FitsOver most places (wide_number_of p.x) × FitsOver most places (wide_number_of p.y)
