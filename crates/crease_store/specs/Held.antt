-- A crease that the pieces hold already.
use Rattle.std.specs.Prelude.{◌≡◌, Bool, ◌&&◌, nat_eq, IsTrue, List, [], ◌∷◌, Contains}
use Rattle.plane_geometry.specs.declared.Point.{Point}
use Rattle.plane_geometry.specs.declared.Segment.{Segment}
use Rattle.plane_geometry.specs.SegmentView.{lesser_end, greater_end, direction_number}
use Rattle.crease_model.specs.declared.Kind.{Kind}
use Rattle.crease_model.specs.Kind.{is_same_kind}
use Rattle.crease_model.specs.declared.Piece.{Piece}

-- of this kind and in the direction of s
abbrev pub is_along_in_kind : Kind → Segment → Piece → Bool
is_along_in_kind kind s p =
    is_same_kind p.kind kind && nat_eq (direction_number p.segment) (direction_number s)

-- p is so, and begins at v
abbrev pub GoesOn : Kind → Segment → Point → Piece → Type 0
GoesOn kind s v p = IsTrue (is_along_in_kind kind s p) × (lesser_end p.segment ≡ v)

-- a run, the last piece first, leads from the lesser end of s to v
abbrev pub LeadsTo : List Piece → Kind → Segment → Point → List Piece → Type 0
LeadsTo pieces kind s v [] = v ≡ lesser_end s
LeadsTo pieces kind s v (p ∷ run) =
    (v ≡ greater_end p.segment)
    × Contains pieces p
    × IsTrue (is_along_in_kind kind s p)
    × LeadsTo pieces kind s (lesser_end p.segment) run

abbrev pub IsLedTo : List Piece → Kind → Segment → Point → Type 0
IsLedTo pieces kind s v = (run : List Piece) × LeadsTo pieces kind s v run

-- pieces of one kind and direction lead from one end of s to the other
abbrev pub IsHeld : List Piece → Kind → Segment → Type 0
IsHeld pieces kind s = IsLedTo pieces kind s (greater_end s)
