-- How many pieces are put in order where a crease is added: their count fits 32 bits.
use Rattle.std.proofs.Common.{◌≡◌, ℕ, ◌+◌, ◌*◌, ◌^◌, ◌<◌, ◌≤◌, Bool, true, false, not, cond, List, [], ◌∷◌, length, length-append, refl, ap, arith}
use Rattle.std.specs.Prelude.{Option, None, Some, Ok}
use Rattle.std.specs.List.{filter}
use Rattle.plane_geometry.specs.declared.Point.{Point}
use Rattle.plane_geometry.specs.declared.Segment.{Segment}
use Rattle.plane_geometry.specs.Position.{position_of}
use Rattle.plane_geometry.specs.SegmentOf.{segment_of}
use Rattle.plane_geometry.specs.SegmentView.{stretch_of, lesser_end, greater_end}
use Rattle.plane_geometry.specs.Stretch.{Stretch, is_between, is_on}
use Rattle.plane_geometry.specs.Common.{common_of}
use Rattle.crease_model.specs.declared.Kind.{Kind}
use Rattle.crease_model.specs.declared.Piece.{Piece}
use Rattle.line_split.specs.Points.{with_point}
use Rattle.line_split.specs.Cuts.{with_point_on, with_ends, is_meeting, with_common, with_meeting, with_piece_cuts, points_or, cuts_from, cuts_of, is_touched, untouched, touched}
use Rattle.line_split.specs.LengthLaws.{with_point_length, flat_map_length}
use Rattle.line_split.specs.Parts.{inner_points, piece_on, pieces_between, parts_of}
use Rattle.crease_store.specs.Added.{covers}
use Rattle.crease_store.specs.InOrder.{segment_at}
use Rattle.crease_store.specs.Adding.{rest_of, rests_of, new_pieces, pieces_with}
use Rattle.crease_store.proofs.InOrderLaws.{placed_all_length}

-- ---- cut points

with_point_on_length : (s : Stretch) (points : List Point) (v : Point) → length (with_point_on s points v) ≤ length points + 1
with_point_on_length s points v =
    elim (is_on (position_of v) s) as (λ b. length (cond b (with_point points v) points) ≤ length points + 1)
    [ true ↦ with_point_length points v | false ↦ omega arith ]

some_is : (xs ys : List Point) → Some xs ≡ Some ys → xs ≡ ys
some_is xs ys e = cc

with_common_length : (points all : List Point) (o : Option Point) → with_common points o ≡ Some all → length all ≤ length points + 1
with_common_length points all None e = cc
with_common_length points all (Some v) e = omega (arith, with_point_length points v, ap length (some_is (with_point points v) all e))

with_meeting_length : (s u : Stretch) (points all : List Point) → with_meeting s points u ≡ Some all → length all ≤ length points + 1
with_meeting_length s u points all e = go (is_meeting s u) e
  where
    go : (b : Bool) → cond b (with_common points (common_of s u)) (Some points) ≡ Some all → length all ≤ length points + 1
    go true f = with_common_length points all (common_of s u) f
    go false f = omega (arith, ap length (some_is points all f))

piece_cuts_length : (s : Stretch) (u : Segment) (points all : List Point) → with_piece_cuts s points u ≡ Some all → length all ≤ length points + 3
piece_cuts_length s u points all e =
    omega (arith, with_meeting_length s (stretch_of u) (with_ends s points u) all e, with_point_on_length s points (lesser_end u), with_point_on_length s (with_point_on s points (lesser_end u)) (greater_end u))

cuts_from_length : (s : Stretch) (n : ℕ) (pieces : List Piece) (points all : List Point) → cuts_from s n pieces points ≡ Ok all → length all ≤ length points + 3 * length pieces
cuts_from_length s n [] points all e = let same : points ≡ all = cc in omega (arith, ap length same)
cuts_from_length s n (p ∷ ps) points all e = go (with_piece_cuts s points p.segment) refl e (λ more f. cuts_from_length s (n + 1) ps more all f)
  where
    go : (o : Option (List Point)) → with_piece_cuts s points p.segment ≡ o → points_or n o (cuts_from s (n + 1) ps) ≡ Ok all
        → ((more : List Point) → cuts_from s (n + 1) ps more ≡ Ok all → length all ≤ length more + 3 * length ps) → length all ≤ length points + 3 * length (p ∷ ps)
    go None f g rest = cc
    go (Some more) f g rest = omega (arith, rest more g, piece_cuts_length s p.segment points more f)

-- three at most for each piece, and the ends
cuts_length : (s : Segment) (pieces : List Piece) (cuts : List Point) → cuts_of s pieces ≡ Ok cuts → length cuts ≤ 2 + 3 * length pieces
unfolding cuts_of
cuts_length s pieces cuts e = cuts_from_length (stretch_of s) 1 pieces (lesser_end s ∷ greater_end s ∷ []) cuts e

-- ---- parts

filter_length : {X : Type 0} (keep : X → Bool) (xs : List X) → length (filter keep xs) ≤ length xs
filter_length keep [] = omega arith
filter_length keep (x ∷ xs) =
    let rest = filter_length keep xs in
    elim (keep x) as (λ b. length (cond b (x ∷ filter keep xs) (filter keep xs)) ≤ length (x ∷ xs)) [ true ↦ omega (arith, rest) | false ↦ omega (arith, rest) ]

piece_on_length : (kind : Kind) (o : Option Segment) → length (piece_on kind o) ≤ 1
piece_on_length kind None = omega arith
piece_on_length kind (Some s) = omega arith

between_length : (kind : Kind) (start : Point) (points : List Point) (end : Point) → length (pieces_between kind start points end) ≤ length points + 1
between_length kind start [] end = omega (arith, piece_on_length kind (segment_of start end))
between_length kind start (p ∷ ps) end =
    omega (arith, length-append (piece_on kind (segment_of start p)) (pieces_between kind p ps end), piece_on_length kind (segment_of start p), between_length kind p ps end)

parts_length : (p : Piece) (points : List Point) → length (parts_of p points) ≤ length points + 1
unfolding parts_of
parts_length p points =
    omega (arith, between_length p.kind (lesser_end p.segment) (inner_points (stretch_of p.segment) points) (greater_end p.segment), filter_length (λ (v : Point). is_between (position_of v) (stretch_of p.segment)) points)

-- ---- the pieces

pub few_with : (old : List Piece) (kind : Kind) (s : Segment) (cuts : List Point) → length old ≤ 2000 → cuts_of s old ≡ Ok cuts → length (pieces_with old kind s cuts) < 2 ^ 30
few_with old kind s cuts few cut =
    let S = stretch_of s in
    let new : Piece = record { kind = kind; segment = s } in
    let few_cuts : length cuts ≤ 6002 = omega (arith, few, cuts_length s old cuts cut) in
    let few_left : (p : Piece) → length (rest_of S cuts p) ≤ 6003 =
    λ p. let left = filter_length (λ (q : Piece). not (covers S (stretch_of q.segment))) (parts_of p cuts) in omega (arith, left, parts_length p cuts, few_cuts) in
    let few_rests : length (rests_of S cuts (touched S old)) ≤ 2000 * 6003 =
    omega (arith, flat_map_length (rest_of S cuts) 6003 few_left (filter (is_touched S) old), filter_length (is_touched S) old, few) in
    let few_kept : length (untouched S old) ≤ 2000 = omega (arith, filter_length (λ (p : Piece). not (is_touched S p)) old, few) in
    omega (arith, placed_all_length segment_at (untouched S old) (new_pieces old kind s cuts), length-append (rests_of S cuts (touched S old)) (parts_of new cuts), parts_length new cuts, few_rests, few_kept, few_cuts)
