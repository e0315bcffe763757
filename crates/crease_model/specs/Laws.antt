-- What new sheets are.
use Rattle.std.specs.Prelude.{◌≡◌, ℕ, zero, suc, ◌-◌, ◌<◌, ◌≤◌, List, ◌++◌, length, Option, None, Some, Ok, IsTrue, slice_get, slice_index_or}
use Rattle.plane_geometry.specs.declared.Point.{Point}
use Rattle.crease_model.specs.Sheet.{is_sheet}
use Rattle.crease_model.specs.NewSheet.{Bend, side_directions, bends_of, sheet_fault, sheet_of}

-- what is made of corners meets the rules of sheets
abbrev pub NewIsSheet : Type 0
NewIsSheet = (corners sheet : List Point) → 3 ≤ length corners → length corners ≤ 16
    → sheet_of corners ≡ Ok sheet → IsTrue (is_sheet sheet)

-- the corners of a sheet make that sheet
abbrev pub SheetIsNew : Type 0
SheetIsNew = (corners : List Point) → IsTrue (is_sheet corners) → sheet_of corners ≡ Ok corners

-- and there is no fault in them from whichever corner they are given
abbrev pub SheetIsTaken : Type 0
SheetIsTaken = (early late : List Point) → IsTrue (is_sheet (late ++ early))
    → sheet_fault (early ++ late) ≡ None

-- the place of the side that ends where the k-th of n begins: the last one for the first
abbrev pub place_before : ℕ → ℕ → ℕ
place_before n zero = n - 1
place_before n (suc k) = k

abbrev pub bend_at : List (Option ℕ) → ℕ → Bend
bend_at directions k =
    record {
      before = slice_index_or directions (place_before (length directions) k) None;
      after = slice_index_or directions k None;
    }

-- there is a bend at each corner, of the side that ends there and of the side that begins there
abbrev pub BendsAreNeighbours : Type 0
BendsAreNeighbours =
    (corners : List Point)
    → (length (bends_of corners) ≡ length corners)
    × ((k : ℕ) → k < length corners
    → slice_get (bends_of corners) k ≡ Some (bend_at (side_directions corners) k))
