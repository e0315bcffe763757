-- Adding a line to a pattern: what is cut, what the new line takes the place of, and when it is refused.
use Rattle.std.specs.Prelude.{ℕ, not, List, ◌++◌, Option, None, Some, nat_le, if◌then◌else◌, Ok, Err}
use Rattle.std.specs.List.{filter, flat_map}
use Rattle.std.specs.declared.result.Result.{Result}
use Rattle.plane_geometry.specs.declared.Point.{Point}
use Rattle.plane_geometry.specs.declared.Segment.{Segment}
use Rattle.plane_geometry.specs.Position.{position_of, is_same_position}
use Rattle.plane_geometry.specs.SegmentOf.{segment_of}
use Rattle.plane_geometry.specs.SegmentView.{stretch_of}
use Rattle.plane_geometry.specs.Stretch.{Stretch}
use Rattle.crease_model.specs.declared.Kind.{Kind}
use Rattle.crease_model.specs.declared.Kind.TheVariants.{Edge, Mountain, Valley, Aux, Unassigned}
use Rattle.crease_model.specs.declared.Piece.{Piece}
use Rattle.crease_model.specs.View.{PatternView}
use Rattle.crease_model.specs.Sheet.{is_within_side}
use Rattle.crease_model.specs.Rules.{is_on_sheet, size_of, most_pieces}
use Rattle.line_split.specs.Cuts.{cuts_of, touched, untouched}
use Rattle.line_split.specs.Parts.{parts_of}
use Rattle.crease_store.specs.declared.faults.StoreRefusal.{StoreRefusal}
use Rattle.crease_store.specs.declared.faults.StoreRefusal.TheVariants.{ZeroLength, BadDirection}
use Rattle.crease_store.specs.declared.faults.StoreRefusal.TheVariants.{EdgeOffBorder, OutsideSheet}
use Rattle.crease_store.specs.declared.faults.StoreRefusal.TheVariants.{OnBorder, Crossing}
use Rattle.crease_store.specs.declared.faults.StoreRefusal.TheVariants.{TooManyPieces}
use Rattle.crease_store.specs.Added.{covers}
use Rattle.crease_store.specs.InOrder.{segment_at, line_at, with_in_order, with_all_in_order}

-- ---- the pieces once a crease is added

abbrev pub uncovered : Stretch → List Piece → List Piece
uncovered s pieces = filter (λ q. not (covers s (stretch_of q.segment))) pieces

-- the parts of an old piece that s does not cover
abbrev pub rest_of : Stretch → List Point → Piece → List Piece
rest_of s cuts p = uncovered s (parts_of p cuts)

abbrev pub rests_of : Stretch → List Point → List Piece → List Piece
rests_of s cuts pieces = flat_map (rest_of s cuts) pieces

-- what is left of these pieces, which s touches, and s itself, all cut at these points
abbrev pub new_parts : List Piece → Kind → Segment → List Point → List Piece
new_parts pieces kind s cuts =
    rests_of (stretch_of s) cuts pieces ++ parts_of (record { kind = kind; segment = s }) cuts

-- the same of those among all pieces
abbrev pub new_pieces : List Piece → Kind → Segment → List Point → List Piece
new_pieces pieces kind s cuts = new_parts (touched (stretch_of s) pieces) kind s cuts

-- these and the pieces that s does not touch
abbrev pub pieces_with : List Piece → Kind → Segment → List Point → List Piece
pieces_with pieces kind s cuts =
    with_all_in_order segment_at (untouched (stretch_of s) pieces) (new_pieces pieces kind s cuts)

abbrev pub with_crease : PatternView → Kind → Segment → List Point → PatternView
with_crease pattern kind s cuts = record {
  corners = pattern.corners;
  pieces = pieces_with pattern.pieces kind s cuts;
  aux = pattern.aux;
}

abbrev pub with_line : PatternView → Segment → PatternView
with_line pattern s = record {
  corners = pattern.corners;
  pieces = pattern.pieces;
  aux = with_in_order line_at pattern.aux s;
}

-- ---- answers

-- unless it has too many pieces and auxiliary lines
abbrev pub if_it_fits : PatternView → Result PatternView StoreRefusal
if_it_fits new = if nat_le (size_of new) most_pieces then Ok new else Err (TooManyPieces (size_of new))

abbrev pub crease_cut : PatternView → Kind → Segment → Result (List Point) ℕ → Result PatternView StoreRefusal
crease_cut pattern kind s (Ok cuts) = if_it_fits (with_crease pattern kind s cuts)
crease_cut pattern kind s (Err n) = Err (Crossing n)

abbrev pub crease_added : PatternView → Kind → Segment → Result PatternView StoreRefusal
crease_added pattern kind s =
    if not (is_on_sheet pattern.corners (stretch_of s)) then Err OutsideSheet
    else if is_within_side pattern.corners (stretch_of s) then Err OnBorder
    else crease_cut pattern kind s (cuts_of s pattern.pieces)

abbrev pub line_added : PatternView → Segment → Result PatternView StoreRefusal
line_added pattern s =
    if not (is_on_sheet pattern.corners (stretch_of s)) then Err OutsideSheet
    else if_it_fits (with_line pattern s)

-- an edge of the sheet is there already
abbrev pub edge_added : PatternView → Segment → Result PatternView StoreRefusal
edge_added pattern s = if is_within_side pattern.corners (stretch_of s) then Ok pattern else Err EdgeOffBorder

abbrev pub segment_added : PatternView → Kind → Segment → Result PatternView StoreRefusal
segment_added pattern Edge s = edge_added pattern s
segment_added pattern Mountain s = crease_added pattern Mountain s
segment_added pattern Valley s = crease_added pattern Valley s
segment_added pattern Aux s = line_added pattern s
segment_added pattern Unassigned s = crease_added pattern Unassigned s

-- why there is no segment between two points
abbrev pub segment_refusal : Point → Point → StoreRefusal
segment_refusal from to =
    if is_same_position (position_of from) (position_of to) then ZeroLength else BadDirection

abbrev pub added_between : PatternView → Kind → Point → Point → Option Segment
    → Result PatternView StoreRefusal
added_between pattern kind from to None = Err (segment_refusal from to)
added_between pattern kind from to (Some s) = segment_added pattern kind s

-- the pattern with the new line, or the refusal
unfoldable pub add_of : PatternView → Kind → Point → Point → Result PatternView StoreRefusal
add_of pattern kind from to = added_between pattern kind from to (segment_of from to)
