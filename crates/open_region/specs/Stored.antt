-- Which numbers edges and limits keep.
use Rattle.std.specs.Prelude.{◌*◌, ◌^◌}
use Rattle.surd_number.specs.Number.{Number, IsSame, product_of, tangent, FitsOver}

-- the offset of a line, and its product with sqrt 2 - 1
pub record IsEdge (offset scaled : Number) : Type 0 where
  pub fits : FitsOver (6 * 2 ^ 52) 16 offset
  pub product : IsSame scaled (product_of offset tangent)

-- small enough that the difference of two has its sign told
abbrev pub IsLimit : Number → Type 0
IsLimit x = FitsOver (2 ^ 62) 19 x
