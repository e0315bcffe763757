-- A segment is not cut by another that it does not touch.
use Rattle.std.proofs.Common.{◌≡◌, Bool, true, false, cond, not, ◌&&◌, ◌||◌, List, refl, ap, ◌∙◌}
use Rattle.std.specs.Prelude.{Some}
use Rattle.std.proofs.lemmas.Bool.{false_from_ne_true, or_left, or_right, both_ways}
use Rattle.plane_geometry.specs.declared.Point.{Point}
use Rattle.plane_geometry.specs.declared.Segment.{Segment}
use Rattle.plane_geometry.specs.Position.{position_of}
use Rattle.plane_geometry.specs.SegmentView.{stretch_of, lesser_end, greater_end}
use Rattle.plane_geometry.specs.Stretch.{Stretch, is_on, is_crossing, is_touching}
use Rattle.plane_geometry.specs.Common.{is_parallel, common_of}
use Rattle.line_split.specs.Points.{with_point}
use Rattle.line_split.specs.Cuts.{with_point_on, with_ends, with_common, with_piece_cuts}

off_by : (s : Stretch) (points : List Point) (v : Point) → is_on (position_of v) s ≡ false
    → with_point_on s points v ≡ points
off_by s points v e = ap (λ (b : Bool). cond b (with_point points v) points) e

and_false : (a b : Bool) → b ≡ false → (a && b) ≡ false
and_false true b e = e
and_false false b e = refl

pub untouched_cuts : (s : Stretch) (points : List Point) (u : Segment) → is_touching s (stretch_of u) ≡ false
    → with_piece_cuts s points u ≡ Some points
untouched_cuts s points u none =
    let U = stretch_of u in
    let left = is_on s.from U || is_on s.to U in
    let ends = is_on U.from s || is_on U.to s in
    let off_from : is_on U.from s ≡ false =
    false_from_ne_true (is_on U.from s)
    (λ e. both_ways (is_touching s U) none
    (or_right left (ends || is_crossing s U)
    (or_left ends (is_crossing s U) (or_left (is_on U.from s) (is_on U.to s) e)))) in
    let off_to : is_on U.to s ≡ false =
    false_from_ne_true (is_on U.to s)
    (λ e. both_ways (is_touching s U) none
    (or_right left (ends || is_crossing s U)
    (or_left ends (is_crossing s U) (or_right (is_on U.from s) (is_on U.to s) e)))) in
    let no_ends : with_ends s points u ≡ points =
    ap (λ (ps : List Point). with_point_on s ps (greater_end u)) (off_by s points (lesser_end u) off_from)
    ∙ off_by s points (greater_end u) off_to in
    ap (λ (b : Bool). cond b (with_common (with_ends s points u) (common_of s U))
    (Some (with_ends s points u))) (and_false (not (is_parallel s U)) (is_touching s U) none)
    ∙ ap Some no_ends
