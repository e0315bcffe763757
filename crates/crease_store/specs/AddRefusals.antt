-- Why a line is not added to a pattern, in words.
use Rattle.std.specs.Prelude.{◌≡◌, ◌≢◌, ◌⊎◌, ℕ, ◌<◌, Some, IsTrue, IsFalse}
use Rattle.plane_geometry.specs.declared.Point.{Point}
use Rattle.plane_geometry.specs.declared.Segment.{Segment}
use Rattle.plane_geometry.specs.Ends.{HaveBadDirection}
use Rattle.plane_geometry.specs.SegmentOf.{segment_of}
use Rattle.plane_geometry.specs.SegmentView.{stretch_of}
use Rattle.crease_model.specs.declared.Kind.{Kind}
use Rattle.crease_model.specs.declared.Kind.TheVariants.{Edge, Aux}
use Rattle.crease_model.specs.Sheet.{is_within_side}
use Rattle.crease_model.specs.Rules.{is_crease, is_crease_kind, is_on_sheet, most_pieces, size_of}
use Rattle.crease_model.specs.View.{PatternView}
use Rattle.line_split.specs.Cuts.{IsFirstOutOfRange}
use Rattle.crease_store.specs.declared.faults.StoreRefusal.{StoreRefusal}
use Rattle.crease_store.specs.declared.faults.StoreRefusal.TheVariants.{ZeroLength, BadDirection}
use Rattle.crease_store.specs.declared.faults.StoreRefusal.TheVariants.{EdgeOffBorder, OutsideSheet}
use Rattle.crease_store.specs.declared.faults.StoreRefusal.TheVariants.{OnBorder, Crossing}
use Rattle.crease_store.specs.declared.faults.StoreRefusal.TheVariants.{TooManyPieces, NoSuchPiece}
use Rattle.crease_store.specs.Added.{IsAdded}

-- there is a segment between the points, and it is so
abbrev pub HasSegment : Point → Point → (Segment → Type 0) → Type 0
HasSegment from to IsSo = (s : Segment) × (segment_of from to ≡ Some s) × IsSo s

-- an edge that is not within one side of the sheet
abbrev pub IsEdgeOffBorder : PatternView → Kind → Point → Point → Type 0
IsEdgeOffBorder old kind from to =
    (kind ≡ Edge) × HasSegment from to (λ s. IsFalse (is_within_side old.corners (stretch_of s)))

-- another line, with an end outside the sheet
abbrev pub IsOutsideSheet : PatternView → Kind → Point → Point → Type 0
IsOutsideSheet old kind from to =
    (kind ≢ Edge) × HasSegment from to (λ s. IsFalse (is_on_sheet old.corners (stretch_of s)))

-- a crease on the sheet and within one side of it
abbrev pub IsCreaseOnBorder : PatternView → Kind → Point → Point → Type 0
IsCreaseOnBorder old kind from to =
    IsTrue (is_crease_kind kind)
    × HasSegment from to
    (λ s. IsTrue (is_on_sheet old.corners (stretch_of s))
    × IsTrue (is_within_side old.corners (stretch_of s)))

-- a crease of the sheet that has no exact common point with the piece of this number, and with none before it
abbrev pub IsCreaseOutOfRange : PatternView → Kind → Point → Point → ℕ → Type 0
IsCreaseOutOfRange old kind from to n =
    HasSegment from to (λ s. IsTrue (is_crease old.corners (record { kind = kind; segment = s }))
    × IsFirstOutOfRange (stretch_of s) old.pieces n)

-- an auxiliary line on the sheet, or a crease of the sheet whose common points are all exact
abbrev pub IsStorable : PatternView → Kind → Segment → Type 0
IsStorable old kind s =
    ((kind ≡ Aux) × IsTrue (is_on_sheet old.corners (stretch_of s)))
    ⊎ (IsTrue (is_crease old.corners (record { kind = kind; segment = s }))
    × ((n : ℕ) → ¬ IsFirstOutOfRange (stretch_of s) old.pieces n))

-- the pattern that the line would give has n pieces and auxiliary lines, too many
pub record GivesTooMany (old : PatternView) (kind : Kind) (from to : Point) (n : ℕ) : Type 0 where
  pub segment : Segment
  pub ends : segment_of from to ≡ Some segment
  pub storable : IsStorable old kind segment
  pub new : PatternView
  pub added : IsAdded old kind segment new
  pub size : n ≡ size_of new
  pub many : most_pieces < n

-- the cause of each refusal
abbrev pub IsRefusedFor : PatternView → Kind → Point → Point → StoreRefusal → Type 0
IsRefusedFor old kind from to ZeroLength = from ≡ to
IsRefusedFor old kind from to BadDirection = HaveBadDirection from to
IsRefusedFor old kind from to EdgeOffBorder = IsEdgeOffBorder old kind from to
IsRefusedFor old kind from to OutsideSheet = IsOutsideSheet old kind from to
IsRefusedFor old kind from to OnBorder = IsCreaseOnBorder old kind from to
IsRefusedFor old kind from to (Crossing n) = IsCreaseOutOfRange old kind from to n
IsRefusedFor old kind from to (TooManyPieces n) = GivesTooMany old kind from to n
IsRefusedFor old kind from to NoSuchPiece = ⊥
