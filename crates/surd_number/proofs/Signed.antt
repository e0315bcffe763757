-- Products of whole numbers that a signed integer of 128 bits holds.
use Rattle.std.proofs.Common.{◌≡◌, ℤ, ◌*ℤ◌, FitsSigned, to_z, of_z, refl}
use Rattle.std.proofs.lemmas.Int.{to_z-of_z}
use mir.Syntax.{w128}

-- a product that fits is computed as it is
pub product-stored : (m n : ℤ) → FitsSigned w128 m → FitsSigned w128 n → FitsSigned w128 (m *ℤ n)
    → to_z w128 (of_z w128 (to_z w128 (of_z w128 m) *ℤ to_z w128 (of_z w128 n))) ≡ m *ℤ n
product-stored m n f g h = rw (to_z-of_z w128 m f, to_z-of_z w128 n g, to_z-of_z w128 (m *ℤ n) h) refl
