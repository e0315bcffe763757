-- Taking a piece away, giving it another kind, and clearing.
use Rattle.std.specs.Prelude.{◌≡◌, ◌⊎◌, ◌↔◌, Bool, ◌&&◌, not, List, Ok, Err, Contains, IsTrue, map, filter}
use Rattle.std.specs.Prelude.{if◌then◌else◌}
use Rattle.std.specs.List.{list_any}
use Rattle.std.specs.declared.result.Result.{Result}
use Rattle.plane_geometry.specs.declared.Point.{Point}
use Rattle.plane_geometry.specs.declared.Segment.{Segment}
use Rattle.plane_geometry.specs.Position.{position_of, is_same_position}
use Rattle.plane_geometry.specs.Ends.{lesser_of, greater_of}
use Rattle.plane_geometry.specs.SegmentView.{lesser_end, greater_end}
use Rattle.crease_model.specs.declared.Kind.{Kind}
use Rattle.crease_model.specs.declared.Piece.{Piece}
use Rattle.crease_model.specs.Rules.{is_ascending, segments_of}
use Rattle.crease_model.specs.View.{PatternView, empty_on}
use Rattle.crease_store.specs.declared.faults.StoreRefusal.{StoreRefusal}
use Rattle.crease_store.specs.declared.faults.StoreRefusal.TheVariants.{NoSuchPiece}
use Rattle.crease_store.specs.InOrder.{segment_at, line_at}

-- p and q are its ends, in either order
abbrev pub joins_points : Point → Point → Segment → Bool
joins_points p q s =
    is_same_position (position_of (lesser_end s)) (position_of (lesser_of p q))
    && is_same_position (position_of (greater_end s)) (position_of (greater_of p q))

-- one of these has p and q as its ends
abbrev pub stands_between : {X : Type 0} → (X → Segment) → List X → Point → Point → Bool
stands_between segment_at xs p q = list_any (λ x. joins_points p q (segment_at x)) xs

-- those that have other ends
abbrev pub without : {X : Type 0} → (X → Segment) → List X → Point → Point → List X
without segment_at xs p q = filter (λ x. not (joins_points p q (segment_at x))) xs

abbrev pub without_piece : PatternView → Point → Point → PatternView
without_piece pattern p q = record pattern { pieces = without segment_at pattern.pieces p q }

abbrev pub without_line : PatternView → Point → Point → PatternView
without_line pattern p q = record pattern { aux = without line_at pattern.aux p q }

-- without the piece between p and q, else without the auxiliary line between them
unfoldable pub delete_of : PatternView → Point → Point → Result PatternView StoreRefusal
delete_of pattern p q =
    if stands_between segment_at pattern.pieces p q then Ok (without_piece pattern p q)
    else if stands_between line_at pattern.aux p q then Ok (without_line pattern p q)
    else Err NoSuchPiece

abbrev pub in_kind : Kind → Point → Point → Piece → Piece
in_kind kind p q piece = if joins_points p q piece.segment then record piece { kind = kind } else piece

abbrev pub with_kind : PatternView → Kind → Point → Point → PatternView
with_kind pattern kind p q = record pattern { pieces = map (in_kind kind p q) pattern.pieces }

-- with the piece between p and q in this kind
unfoldable pub set_of : PatternView → Kind → Point → Point → Result PatternView StoreRefusal
set_of pattern kind p q =
    if stands_between segment_at pattern.pieces p q then Ok (with_kind pattern kind p q) else Err NoSuchPiece

-- the same sheet with nothing on it
abbrev pub clear_of : PatternView → PatternView
clear_of pattern = empty_on pattern.corners

-- ---- the same in words

-- p and q are its ends
abbrev pub JoinsPoints : Point → Point → Segment → Type 0
JoinsPoints p q s = ((lesser_end s ≡ p) × (greater_end s ≡ q)) ⊎ ((lesser_end s ≡ q) × (greater_end s ≡ p))

abbrev pub HasPiece : PatternView → Point → Point → Type 0
HasPiece pattern p q = (z : Piece) × Contains pattern.pieces z × JoinsPoints p q z.segment

abbrev pub HasLine : PatternView → Point → Point → Type 0
HasLine pattern p q = (s : Segment) × Contains pattern.aux s × JoinsPoints p q s

-- the piece between p and q is gone, and nothing else
pub record IsPieceTaken (old : PatternView) (p q : Point) (new : PatternView) : Type 0 where
  pub there : HasPiece old p q
  pub corners : new.corners ≡ old.corners
  pub aux : new.aux ≡ old.aux
  pub order : IsTrue (is_ascending (segments_of new.pieces))
  pub pieces : (z : Piece) → Contains new.pieces z ↔ (Contains old.pieces z × (¬ JoinsPoints p q z.segment))

-- there is no piece between p and q; the auxiliary line between them is gone, and nothing else
pub record IsLineTaken (old : PatternView) (p q : Point) (new : PatternView) : Type 0 where
  pub no_piece : ¬ HasPiece old p q
  pub there : HasLine old p q
  pub corners : new.corners ≡ old.corners
  pub pieces : new.pieces ≡ old.pieces
  pub order : IsTrue (is_ascending new.aux)
  pub aux : (s : Segment) → Contains new.aux s ↔ (Contains old.aux s × (¬ JoinsPoints p q s))

abbrev pub IsDeleted : PatternView → Point → Point → PatternView → Type 0
IsDeleted old p q new = IsPieceTaken old p q new ⊎ IsLineTaken old p q new

-- the piece between p and q has this kind, and nothing else is changed
pub record IsKindSet (old : PatternView) (kind : Kind) (p q : Point) (new : PatternView) : Type 0 where
  pub there : HasPiece old p q
  pub corners : new.corners ≡ old.corners
  pub aux : new.aux ≡ old.aux
  pub segments : segments_of new.pieces ≡ segments_of old.pieces
  pub here : (z : Piece) → Contains new.pieces z → JoinsPoints p q z.segment → z.kind ≡ kind
  pub others : (z : Piece) → (¬ JoinsPoints p q z.segment) → Contains new.pieces z ↔ Contains old.pieces z
