-- Segments with a part of positive length in common are on one line.
use Rattle.std.proofs.Common.{◌≡◌, ℕ, ◌%◌, ◌<◌, ◌&&◌, sym, ap, ap₂, ◌∙◌, arith}
use Rattle.std.specs.Bool.{IsTrue}
use Rattle.std.proofs.lemmas.Bool.{and_parts}
use Rattle.surd_number.specs.declared.Sgn.{Sgn}
use Rattle.surd_number.specs.declared.Sgn.TheVariants.{Zero}
use Rattle.surd_number.specs.Number.{times_sign}
use Rattle.plane_geometry.specs.declared.Point.{Point}
use Rattle.plane_geometry.specs.declared.Segment.{Segment}
use Rattle.plane_geometry.specs.declared.Line.{Line}
use Rattle.plane_geometry.specs.Position.{Position, position_of}
use Rattle.plane_geometry.specs.Direction.{side_of, is_zero, turn_sign}
use Rattle.plane_geometry.specs.Stretch.{is_in_line, ShareTwoPoints}
use Rattle.plane_geometry.specs.SegmentView.{lesser_end, direction_number, stretch_of}
use Rattle.plane_geometry.specs.LineView.{line_number, side_of_line}
use Rattle.plane_geometry.specs.SideLaws.{order_of, product_by_zero}
use Rattle.plane_geometry.specs.StretchLaws.{zero_is, ends_order, to_in_line}
use Rattle.plane_geometry.specs.CommonLaws.{side_modulo, side_from_modulo}
use Rattle.plane_geometry.specs.CommonPointLaws.{side_on_line, overlapping_is}
use Rattle.plane_geometry.specs.LineLaws.{line_is}
use Rattle.layer_rules.specs.CreaseLines.{IsLineThrough}

pub line_of_is : (s : Segment) (l : Line) (q : Point) (n : ℕ) → q ≡ lesser_end s → n ≡ direction_number s
    → line_number l ≡ n % 8
    → ((p : Position) → side_of_line l p ≡ side_of (position_of q) (line_number l) p) → IsLineThrough s l
line_of_is s l q n start direction number sides p =
    let few : direction_number s < 16 = omega (arith, s.dir.in_range) in
    let from = position_of (lesser_end s) in
    let same : side_of_line l p ≡ side_of from (direction_number s % 8) p =
    sides p
    ∙ ap₂ (λ (t : Point) (k : ℕ). side_of (position_of t) k p) start (number ∙ ap (λ (k : ℕ). k % 8) direction) in (
      λ on. ap is_zero (side_from_modulo from (direction_number s) p few (sym same ∙ on)),
      λ e. same ∙ side_modulo from (direction_number s) p few (zero_is (side_of from (direction_number s) p) e),
    )

-- both ends of the second are in line with the first, so the two are parallel
in_line_too : (s u : Segment) → ShareTwoPoints (stretch_of s) (stretch_of u) → (p : Position)
    → IsTrue (is_in_line p (stretch_of s)) → IsTrue (is_in_line p (stretch_of u))
in_line_too s u common p e =
    let a = stretch_of s in
    let b = stretch_of u in
    let parts = and_parts (is_in_line b.from a && is_in_line b.to a) _
    ((overlapping_is a b s.stretch u.stretch).1 common) in
    let ends = and_parts (is_in_line b.from a) (is_in_line b.to a) parts.0 in
    let from = zero_is (side_of a.from a.dir b.from) ends.0 in
    let to = zero_is (side_of a.from a.dir b.to) ends.1 in
    let parallel : turn_sign b.dir a.dir ≡ Zero =
    sym (ap (λ (t : Sgn). times_sign t (turn_sign b.dir a.dir)) (ends_order b u.stretch))
    ∙ sym (side_on_line a b.from b.to b.dir s.stretch from to) ∙ to_in_line b u.stretch in
    ap is_zero
    (side_on_line a b.from p b.dir s.stretch from (zero_is (side_of a.from a.dir p) e)
    ∙ ap (times_sign (order_of b.from p)) parallel ∙ product_by_zero (order_of b.from p))

turned_round : (s u : Segment) → ShareTwoPoints (stretch_of s) (stretch_of u)
    → ShareTwoPoints (stretch_of u) (stretch_of s)
turned_round s u w = (w.0, w.1, w.2, w.4, w.3, w.6, w.5)

pub one_line : (s u : Segment) (l m : Line) → IsLineThrough s l → IsLineThrough u m
    → ShareTwoPoints (stretch_of s) (stretch_of u) → l ≡ m
one_line s u l m of_s of_u common =
    (line_is l m).1
    (λ p. (
      λ on. (of_u p).1 (in_line_too s u common p ((of_s p).0 on)),
      λ on. (of_s p).1 (in_line_too u s (turned_round s u common) p ((of_u p).0 on)),
    ))
