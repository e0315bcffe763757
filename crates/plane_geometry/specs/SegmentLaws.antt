-- Segments as values: points of one place are one point, and segments with the same ends are one segment.
use Rattle.std.proofs.Common.{◌≡◌, ℕ, Bool, true, false, None, Some, refl, sym, ap, ap₂, ◌∙◌, arith}
use Rattle.std.specs.Option.{option_and_then}
use Rattle.std.specs.Ordering.{is_lt}
use Rattle.std.proofs.lemmas.Bool.{and_from, false≢true, le-leb, false_from_ne_true, cond-true}
use mathlib.Core.HLevel.{is_prop→PathP}
use mathlib.Core.Bool.{Bool-set}
use Rattle.surd_number.specs.declared.Sgn.TheVariants.{Zero}
use Rattle.surd_number.specs.Number.{difference_of, sign_of}
use Rattle.surd_number.specs.NumberLaws.{same_from_difference}
use Rattle.surd_number.specs.SignLaws.{sign_of-zero}
use Rattle.surd_number.specs.SurdLaws.{surd_is}
use Rattle.surd_number.specs.Value.{number_of}
use Rattle.plane_geometry.specs.declared.Point.{Point}
use Rattle.plane_geometry.specs.declared.Segment.{Segment}
use Rattle.plane_geometry.specs.Position.{Position, position_of, compare_positions}
use Rattle.plane_geometry.specs.Direction.{is_along, direction_of, opposite_number}
use Rattle.plane_geometry.specs.Ends.{HasNoDirection}
use Rattle.plane_geometry.specs.Stretch.{Stretch}
use Rattle.plane_geometry.specs.Stored.{IsStretch}
use Rattle.plane_geometry.specs.SegmentView.{lesser_end, greater_end}
use Rattle.plane_geometry.specs.SegmentOf.{is_segment, segment_by, segment_from, segment_of}
use Rattle.plane_geometry.specs.SideLaws.{order_of, then_parts}
use Rattle.plane_geometry.specs.DirectionLaws.{along_unique, along_back, direction_found}
use Rattle.plane_geometry.specs.DirLaws.{dir_is}

-- ---- points

-- points in one place are one point
pub point_is : (p q : Point) → order_of (position_of p) (position_of q) ≡ Zero → p ≡ q
point_is p q e =
    let z = then_parts (sign_of (difference_of (number_of q.x) (number_of p.x)))
    (sign_of (difference_of (number_of q.y) (number_of p.y))) e in
    let x = surd_is q.x p.x
    (same_from_difference (number_of q.x) (number_of p.x)
    (sign_of-zero (difference_of (number_of q.x) (number_of p.x)) z.0)) in
    let y = surd_is q.y p.y
    (same_from_difference (number_of q.y) (number_of p.y)
    (sign_of-zero (difference_of (number_of q.y) (number_of p.y)) z.1)) in
    λ i. record { x = sym x i; y = sym y i }

-- ---- segments

stretch_prop : (t : Stretch) → IsProp (IsStretch t)
stretch_prop t = hlevel Bool-set

segment_from_parts : (s u : Segment) → s.from ≡ u.from → s.to ≡ u.to → s.dir ≡ u.dir → s ≡ u
segment_from_parts s u e f g =
    λ i. record {
      from = e i;
      to = f i;
      dir = g i;
      stretch = is_prop→PathP
          (λ j. IsStretch (record { from = position_of (e j); to = position_of (f j); dir = (g j).number }))
          (λ j. stretch_prop (record {
            from = position_of (e j);
            to = position_of (f j);
            dir = (g j).number;
          })) s.stretch u.stretch i;
    }

-- segments with the same ends are one segment
pub segment_is : (s u : Segment) → lesser_end s ≡ lesser_end u → greater_end s ≡ greater_end u → s ≡ u
segment_is s u e f =
    let along : is_along s.dir.number (position_of u.from) (position_of u.to)
    ≡ true = ap₂ (λ (p q : Point). is_along s.dir.number (position_of p) (position_of q)) (sym e) (sym f)
    ∙ s.stretch.1 in
    segment_from_parts s u e f
    (dir_is s.dir u.dir (along_unique s.dir.number u.dir.number (position_of u.from) (position_of u.to)
    (omega (arith, s.dir.in_range)) (omega (arith, u.dir.in_range)) along u.stretch.1))

-- ---- the segment between two points

segment_by_true : (p q : Point) (n : ℕ) (b : Bool) (h : is_segment p q n ≡ b) → b ≡ true → (s : Segment)
    → s.from ≡ p → s.to ≡ q → segment_by p q n b h ≡ Some s
segment_by_true p q n true h e s f g = ap Some (segment_is _ s (sym f) (sym g))
segment_by_true p q n false h e s f g = absurd (false≢true e)

pub segment_from_found : (s : Segment)
    → direction_of (position_of s.from) (position_of s.to) ≡ Some s.dir.number
    → segment_from s.from s.to ≡ Some s
segment_from_found s e =
    let n = s.dir.number in
    let test : is_segment s.from s.to n
    ≡ true = and_from _ _ (le-leb n 15 s.dir.in_range) (and_from _ _ s.stretch.0 s.stretch.1) in
    ap (λ o. option_and_then (λ n. segment_by s.from s.to n (is_segment s.from s.to n) refl) o) e
    ∙ segment_by_true s.from s.to n (is_segment s.from s.to n) refl test s refl refl

pub segment_from_none : (p q : Point) → direction_of (position_of p) (position_of q) ≡ None
    → segment_from p q ≡ None
segment_from_none p q e = ap (λ o. option_and_then (λ n. segment_by p q n (is_segment p q n) refl) o) e

-- the segment between the ends of a segment is that
pub segment_of-ends : (s : Segment) → segment_of (lesser_end s) (greater_end s) ≡ Some s
segment_of-ends s =
    let n = s.dir.number in
    cond-true (is_lt (compare_positions (position_of s.from) (position_of s.to))) (segment_from s.from s.to)
    (segment_from s.to s.from) s.stretch.0
    ∙ segment_from_found s
    (direction_found n (position_of s.from) (position_of s.to) (omega (arith, s.dir.in_range)) s.stretch.1
    (λ k less. false_from_ne_true (is_along k (position_of s.from) (position_of s.to)) (λ e.
    let same = along_unique k n (position_of s.from) (position_of s.to) (omega (arith, s.dir.in_range))
    (omega (arith, s.dir.in_range)) e s.stretch.1 in
    absurd (omega (arith, same, less)))))

-- ---- no direction

-- back it goes in none of the directions either
pub no_direction_back : (p q : Position) → HasNoDirection p q → HasNoDirection q p
no_direction_back p q none n few = sym (along_back n q p few) ∙ none (opposite_number n) (omega arith)
