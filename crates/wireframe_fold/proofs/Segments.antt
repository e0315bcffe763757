-- The images of a segment's ends have a segment between them.
use Rattle.std.specs.Prelude.{Result, Err}
use Rattle.std.proofs.Common.{◌≡◌, ◌↔◌, ◌∙◌, ℕ, ◌<◌, true, [], ◌∷◌, pos, refl, sym, subst, arith}
use Rattle.std.proofs.lemmas.Bool.{both_ways}
use Rattle.surd_number.specs.declared.Sgn.TheVariants.{Zero}
use Rattle.surd_number.specs.Number.{whole, sign_of}
use Rattle.surd_number.specs.RingTool.{◌⊕◌, ◌⊝◌, ◌⊗◌, con, v0, v1, v2, v3}
use Rattle.surd_number.specs.NumberLaws.{number_ring}
use Rattle.surd_number.specs.SignLaws.{sign_of-same}
use Rattle.plane_geometry.specs.declared.Point.{Point}
use Rattle.plane_geometry.specs.declared.Segment.{Segment}
use Rattle.plane_geometry.specs.declared.SegmentFault.{SegmentFault}
use Rattle.plane_geometry.specs.declared.SegmentFault.TheVariants.{ZeroLength, BadDirection}
use Rattle.plane_geometry.specs.Position.{Position, position_of, vector_of, dot_of}
use Rattle.plane_geometry.specs.Direction.{direction_vector, is_along}
use Rattle.plane_geometry.specs.DirectionLaws.{along_parts}
use Rattle.plane_geometry.specs.Ends.{HaveBadDirection}
use Rattle.plane_geometry.specs.SegmentView.{lesser_end, greater_end}
use Rattle.isometry_map.specs.Linear.{direction_image}
use Rattle.isometry_map.specs.Motion.{Motion, image_by}
use Rattle.isometry_map.specs.Folded.{IsImage}
use Rattle.isometry_map.specs.MotionLaws.{directions_go_to_directions}
use Rattle.isometry_map.specs.ConvexLaws.{image_few, along_same}

-- from the image of one end to that of the other it goes in the image of the segment's direction
ends_along : (t : Motion) (s : Segment) (q r : Point) → t.linear < 16 → IsImage t (lesser_end s) q
    → IsImage t (greater_end s) r
    → is_along (direction_image t.linear s.dir.number) (position_of q) (position_of r) ≡ true
ends_along t s q r few at_q at_r =
    let n = s.dir.number in
    let p = position_of (lesser_end s) in
    let o = position_of (greater_end s) in
    along_same (direction_image t.linear n) (image_by t p) (image_by t o) (position_of q)
    (position_of r) at_q at_r
    ∙ directions_go_to_directions t n p o few (omega (arith, s.dir.in_range)) ∙ s.stretch.1

-- from a point to itself it goes in no direction
not_to_itself : (n : ℕ) (p : Position) → is_along n p p ≡ true → ⊥
not_to_itself n p e =
    let d = direction_vector n in
    let none : sign_of (dot_of d (vector_of p p)) ≡ Zero =
    sign_of-same (dot_of d (vector_of p p)) (whole (pos 0))
    (number_ring (d.x ∷ d.y ∷ p.x ∷ p.y ∷ []) (v0 ⊗ (v2 ⊝ v2) ⊕ v1 ⊗ (v3 ⊝ v3)) (con (whole (pos 0))) refl) in
    let some = (along_parts n p p e).1 in
    absurd (cc)

pub has_segment : (t : Motion) (s : Segment) (q r : Point) (o : Result Segment SegmentFault)
    (e : SegmentFault)
    → t.linear < 16 → IsImage t (lesser_end s) q → IsImage t (greater_end s) r → o ≡ Err e
    → ((o ≡ Err ZeroLength) ↔ (q ≡ r)) → ((o ≡ Err BadDirection) ↔ HaveBadDirection q r) → ⊥
has_segment t s q r o ZeroLength few at_q at_r at same bad =
    let n = direction_image t.linear s.dir.number in
    let P : Point → Type 0 = λ p. is_along n (position_of q) (position_of p) ≡ true in
    not_to_itself n (position_of q) (subst P (sym (same.0 at)) (ends_along t s q r few at_q at_r))
has_segment t s q r o BadDirection few at_q at_r at same bad =
    let n = direction_image t.linear s.dir.number in
    both_ways (is_along n (position_of q) (position_of r)) ((bad.0 at).1 n (image_few t.linear s.dir.number))
    (ends_along t s q r few at_q at_r)
