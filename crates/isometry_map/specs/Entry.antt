-- The numbers that matrices of linear parts have as entries.
use Rattle.surd_number.specs.Number.{Number, half_root, negative_of}
use Rattle.plane_geometry.specs.Direction.{one, nought}
use Rattle.isometry_map.specs.declared.wide_points.Entry.{Entry}
use Rattle.isometry_map.specs.declared.wide_points.Entry.TheVariants.{Nought, One, HalfRoot, MinusOne, MinusHalfRoot}

abbrev pub entry_number : Entry → Number
entry_number Nought = nought
entry_number One = one
entry_number HalfRoot = half_root
entry_number MinusOne = negative_of one
entry_number MinusHalfRoot = negative_of half_root
