-- The numbers that directions have as coordinates.
use Rattle.surd_number.specs.Number.{Number, tangent, negative_of}
use Rattle.plane_geometry.specs.declared.sides.Part.{Part}
use Rattle.plane_geometry.specs.declared.sides.Part.TheVariants.{Nought, One, Tangent, MinusOne, MinusTangent}
use Rattle.plane_geometry.specs.Direction.{one, nought}

abbrev pub part_number : Part → Number
part_number Nought = nought
part_number One = one
part_number Tangent = tangent
part_number MinusOne = negative_of one
part_number MinusTangent = negative_of tangent
