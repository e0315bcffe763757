-- When `Segment::new` refuses.
use Rattle.std.proofs.Common.{◌≡◌, ◌≢◌, ◌↔◌, Bool, true, false, Result, Ok, Err, MatchResult, refl, sym, ap, ap₂, ◌∙◌, arith}
use Rattle.std.specs.Ordering.{is_lt}
use Rattle.std.proofs.lemmas.Bool.{both_ways}
use Rattle.surd_number.specs.declared.Sgn.{Sgn}
use Rattle.surd_number.specs.declared.Sgn.TheVariants.{Neg, Zero, Pos}
use Rattle.plane_geometry.specs.declared.Point.{Point}
use Rattle.plane_geometry.specs.declared.Segment.{Segment}
use Rattle.plane_geometry.specs.declared.SegmentFault.{SegmentFault}
use Rattle.plane_geometry.specs.declared.SegmentFault.TheVariants.{ZeroLength, BadDirection}
use Rattle.plane_geometry.specs.Position.{position_of, compare_positions}
use Rattle.plane_geometry.specs.Direction.{is_along, is_positive}
use Rattle.plane_geometry.specs.Ends.{HasNoDirection}
use Rattle.plane_geometry.specs.SegmentView.{lesser_end, greater_end}
use Rattle.plane_geometry.specs.SideLaws.{order_of, order_self, order_turned}
use Rattle.plane_geometry.specs.StretchLaws.{before_is}
use Rattle.plane_geometry.specs.SegmentLaws.{point_is, no_direction_back}
use Rattle.surd_number.specs.Number.{opposite_sign}

abbrev is_before : Point → Point → Bool
is_before p q = is_lt (compare_positions (position_of p) (position_of q))

-- what the two points in order give
abbrev InOrder : Result Segment SegmentFault → Point → Point → Type 0
InOrder r p q = MatchResult r (λ s. (lesser_end s ≡ p) × (greater_end s ≡ q))
    (λ e. (e ≡ BadDirection) × HasNoDirection (position_of p) (position_of q))

apart : (p q : Point) → is_before p q ≡ true → p ≢ q
apart p q e same =
    both_ways (is_before q q)
    (before_is (position_of q) (position_of q) ∙ ap is_positive (order_self (position_of q)))
    (ap (λ r. is_before r q) (sym same) ∙ e)

no_zero_length : (r : Result Segment SegmentFault) (p q : Point) → InOrder r p q → r ≢ Err ZeroLength
no_zero_length (Ok s) p q h e = cc
no_zero_length (Err f) p q h e =
    let g : f ≡ ZeroLength = cc in let k : BadDirection ≡ ZeroLength = sym h.0 ∙ g in cc

bad_direction_says : (r : Result Segment SegmentFault) (p q : Point) → InOrder r p q → r ≡ Err BadDirection
    → HasNoDirection (position_of p) (position_of q)
bad_direction_says (Ok s) p q h e = absurd (cc)
bad_direction_says (Err f) p q h e = h.1

bad_direction_where : (r : Result Segment SegmentFault) (p q : Point) → InOrder r p q
    → HasNoDirection (position_of p) (position_of q) → r ≡ Err BadDirection
bad_direction_where (Ok s) p q h none =
    absurd (both_ways (is_along s.dir.number (position_of s.from) (position_of s.to))
    (ap₂ (λ (a b : Point). is_along s.dir.number (position_of a) (position_of b)) h.0 h.1
    ∙ none s.dir.number (omega (arith, s.dir.in_range))) s.stretch.1)
bad_direction_where (Err f) p q h none = ap Err h.0

pub zero_length_in_order : (r : Result Segment SegmentFault) (p q : Point) → is_before p q ≡ true
    → InOrder r p q → (r ≡ Err ZeroLength) ↔ (p ≡ q)
zero_length_in_order r p q before h =
    ((λ e. absurd (no_zero_length r p q h e)), λ same. absurd (apart p q before same))

pub bad_direction_in_order : (r : Result Segment SegmentFault) (p q : Point) → is_before p q ≡ true
    → InOrder r p q → (r ≡ Err BadDirection) ↔ ((p ≢ q) × HasNoDirection (position_of p) (position_of q))
bad_direction_in_order r p q before h =
    ((λ e. (apart p q before, bad_direction_says r p q h e)), λ w. bad_direction_where r p q h w.1)

pub zero_length_turned : (r : Result Segment SegmentFault) (p q : Point) → is_before q p ≡ true
    → InOrder r q p → (r ≡ Err ZeroLength) ↔ (p ≡ q)
zero_length_turned r p q before h =
    ((λ e. absurd (no_zero_length r q p h e)), λ same. absurd (apart q p before (sym same)))

pub bad_direction_turned : (r : Result Segment SegmentFault) (p q : Point) → is_before q p ≡ true
    → InOrder r q p → (r ≡ Err BadDirection) ↔ ((p ≢ q) × HasNoDirection (position_of p) (position_of q))
bad_direction_turned r p q before h = (
  (λ e. (
    (λ same. apart q p before (sym same)),
    no_direction_back (position_of q) (position_of p) (bad_direction_says r q p h e),
  )),
  λ w. bad_direction_where r q p h (no_direction_back (position_of p) (position_of q) w.1),
)

-- neither before the other
pub no_order : (p q : Point) → is_before p q ≡ false → is_before q p ≡ false → p ≡ q
no_order p q e f = go (order_of (position_of p) (position_of q)) refl
  where
    go : (s : Sgn) → order_of (position_of p) (position_of q) ≡ s → p ≡ q
    go Neg g = absurd (both_ways (is_before q p) f
        (before_is (position_of q) (position_of p)
        ∙ ap is_positive (order_turned (position_of p) (position_of q) ∙ ap opposite_sign g)))
    go Zero g = point_is p q g
    go Pos g = absurd (both_ways (is_before p q) e
        (before_is (position_of p) (position_of q) ∙ ap is_positive g))

pub zero_length_here : (p q : Point) → is_before p q ≡ false → is_before q p ≡ false
    → (◌≡◌ {A = Result Segment SegmentFault} (Err ZeroLength) (Err ZeroLength)) ↔ (p ≡ q)
zero_length_here p q e f = ((λ _. no_order p q e f), λ _. refl)

pub bad_direction_not_here : (p q : Point) → is_before p q ≡ false → is_before q p ≡ false
    → (◌≡◌ {A = Result Segment SegmentFault} (Err ZeroLength) (Err BadDirection))
    ↔ ((p ≢ q) × HasNoDirection (position_of p) (position_of q))
bad_direction_not_here p q e f = ((λ g. absurd (cc)), λ w. absurd (w.0 (no_order p q e f)))
