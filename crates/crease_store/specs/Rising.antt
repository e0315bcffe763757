-- Pieces sorted by one of their ends, so that those at a point stand together.
use Rattle.std.specs.Prelude.{Bool, true, false, ◌&&◌, not, List, [], ◌∷◌, Option, None, Some, IsTrue}
use Rattle.std.specs.Prelude.{if◌then◌else◌}
use Rattle.std.specs.Ordering.{is_lt}
use Rattle.std.specs.List.Sorted.{IsPermutation}
use Rattle.plane_geometry.specs.declared.Point.{Point}
use Rattle.plane_geometry.specs.Position.{position_of, compare_positions}
use Rattle.plane_geometry.specs.SegmentView.{lesser_end, greater_end}
use Rattle.crease_model.specs.declared.Piece.{Piece}
use Rattle.crease_store.specs.declared.merging.End.{End}
use Rattle.crease_store.specs.declared.merging.End.TheVariants.{Lesser, Greater}

abbrev pub beginning_of : Piece → Point
beginning_of p = lesser_end p.segment

abbrev pub arrival_of : Piece → Point
arrival_of p = greater_end p.segment

abbrev pub end_of : End → Piece → Point
end_of Lesser = beginning_of
end_of Greater = arrival_of

abbrev pub comes_before : Point → Point → Bool
comes_before p q = is_lt (compare_positions (position_of p) (position_of q))

-- no point comes before the one in front of it
abbrev pub is_sorted_by : (Piece → Point) → List Piece → Bool
is_sorted_by at [] = true
is_sorted_by at (p ∷ []) = true
is_sorted_by at (p ∷ q ∷ ps) = not (comes_before (at q) (at p)) && is_sorted_by at (q ∷ ps)

abbrev pub first_passes : (Piece → Bool) → List Piece → Bool
first_passes test [] = false
first_passes test (p ∷ ps) = test p

-- the first piece, if it passes the test and the second doesn't
abbrev pub first_alone : (Piece → Bool) → List Piece → Option Piece
first_alone test [] = None
first_alone test (p ∷ ps) = if test p && not (first_passes test ps) then Some p else None

-- arrivals holds the pieces by their greater ends
pub record AreSorted (pieces arrivals : List Piece) : Type 0 where
  pub by_beginning : IsTrue (is_sorted_by beginning_of pieces)
  pub by_arrival : IsTrue (is_sorted_by arrival_of arrivals)
  pub same : IsPermutation pieces arrivals
