-- What `meet` computes with Wides, and when it refuses.
use Rattle.std.proofs.Common.{◌≡◌, ℕ, zero, suc, ◌+◌, ◌*◌, ◌^◌, ◌<◌, ◌≤◌, ℤ, pos, unsigned_abs, arith, Result, Ok, Err, MatchResult, IfOk, ap, subst, lit≤}
use Rattle.std.proofs.lemmas.Nat.{mul-le}
use Rattle.surd_number.specs.Number.{Number, IsSame, difference_of, product_of, unit_inverse_of, FitsOver}
use Rattle.surd_number.specs.Stored.{IsWide, IsSurd}
use Rattle.surd_number.specs.Value.{number_of, wide_number_of}
use Rattle.surd_number.specs.Exact.{IsSurdOf}
use Rattle.surd_number.specs.NumberLaws.{product_of-same, difference_of-same, IsSame-trans, IsSame-sym, IsSame-refl}
use Rattle.surd_number.specs.FitsLaws.{fits_times, wide_from_fits}
use Rattle.plane_geometry.specs.declared.Point.{Point}
use Rattle.plane_geometry.specs.declared.Line.{Line}
use Rattle.plane_geometry.specs.declared.meeting.MeetFault.{MeetFault}
use Rattle.plane_geometry.specs.declared.meeting.MeetFault.TheVariants.{OutOfRange}
use Rattle.plane_geometry.specs.Position.{Position, position_of, cross_of}
use Rattle.plane_geometry.specs.Direction.{direction_vector}
use Rattle.plane_geometry.specs.LineView.{line_number, line_offset, IsOnLine, IsPoint, HasNoCommonPoint}
use Rattle.plane_geometry.specs.Common.{meeting_of}
use Rattle.plane_geometry.specs.MeetLaws.{meeting_on_first, meeting_on_second, meeting_only, on_line_offset, on_line_from_offset}

-- ---- quotients by units

quotient_case : (c d : ℤ) (k : ℕ) (w : Number) → unsigned_abs c + 2 * unsigned_abs d ≤ 8 → k ≤ 4
    → FitsOver (2 ^ 60) 16 w → IsWide (product_of w (record { a = c; b = d; k = k }))
quotient_case c d k w few few_places f =
    let size = unsigned_abs c + 2 * unsigned_abs d in
    let bound : 2 ^ 60 * size ≤ 2 ^ 60 * 8 = mul-le (2 ^ 60) size (2 ^ 60) 8 (omega arith) few in
    wide_from_fits (2 ^ 60 * size) (16 + k) (product_of w (record { a = c; b = d; k = k })) (omega arith)
    (omega arith) (fits_times (2 ^ 60) 16 c d k w f)

-- the quotient of a coordinate by a unit is a Wide's
pub wide_quotient : (i j : ℕ) (w : Number) → i ≤ 1 → j ≤ 3 → FitsOver (2 ^ 60) 16 w
    → IsWide (product_of w (unit_inverse_of i j))
wide_quotient zero zero w few few_roots f = quotient_case (pos 1) (pos 0) 0 w (lit≤ tt) (lit≤ tt) f
wide_quotient zero (suc zero) w few few_roots f = quotient_case (pos 0) (pos 1) 1 w (lit≤ tt) (lit≤ tt) f
wide_quotient zero (suc (suc zero)) w few few_roots f =
    quotient_case (pos 2) (pos 0) 2 w (lit≤ tt) (lit≤ tt) f
wide_quotient zero (suc (suc (suc zero))) w few few_roots f =
    quotient_case (pos 0) (pos 2) 3 w (lit≤ tt) (lit≤ tt) f
wide_quotient zero (suc (suc (suc (suc j)))) w few few_roots f = absurd (omega arith)
wide_quotient (suc zero) zero w few few_roots f = quotient_case (pos 1) (pos 1) 0 w (lit≤ tt) (lit≤ tt) f
wide_quotient (suc zero) (suc zero) w few few_roots f =
    quotient_case (pos 2) (pos 1) 1 w (lit≤ tt) (lit≤ tt) f
wide_quotient (suc zero) (suc (suc zero)) w few few_roots f =
    quotient_case (pos 2) (pos 2) 2 w (lit≤ tt) (lit≤ tt) f
wide_quotient (suc zero) (suc (suc (suc zero))) w few few_roots f =
    quotient_case (pos 4) (pos 2) 3 w (lit≤ tt) (lit≤ tt) f
wide_quotient (suc zero) (suc (suc (suc (suc j)))) w few few_roots f = absurd (omega arith)
wide_quotient (suc (suc i)) j w few few_roots f = absurd (omega arith)

-- ---- coordinates

pub coordinate_by : (r m n p q : Number) → IsSame r (difference_of m n) → IsSame m p → IsSame n q
    → IsSame r (difference_of p q)
coordinate_by r m n p q e f g =
    IsSame-trans r (difference_of m n) (difference_of p q) e (difference_of-same m n p q f g)

-- the coordinate of the common point
pub coordinate_is : (r c o u a b a' b' : Number) (i j i' j' : ℕ) → i ≡ i' → j ≡ j' → a ≡ a' → b ≡ b'
    → IsSame c (difference_of (product_of a o) (product_of b u))
    → IsSame r (product_of c (unit_inverse_of i j))
    → IsSame r (product_of (difference_of (product_of a' o) (product_of b' u)) (unit_inverse_of i' j'))
coordinate_is r c o u a b a' b' i j i' j' p q f g e h =
    let e' : IsSame c (difference_of (product_of a' o) (product_of b' u)) =
    subst (λ y. IsSame c (difference_of (product_of a' o) (product_of y u))) g
    (subst (λ x. IsSame c (difference_of (product_of x o) (product_of b u))) f e) in
    let h' : IsSame r (product_of c (unit_inverse_of i' j')) =
    subst (λ y. IsSame r (product_of c (unit_inverse_of i' y))) q
    (subst (λ x. IsSame r (product_of c (unit_inverse_of x j))) p h) in
    let d = difference_of (product_of a' o) (product_of b' u) in
    IsSame-trans r (product_of c (unit_inverse_of i' j')) (product_of d (unit_inverse_of i' j')) h'
    (product_of-same c (unit_inverse_of i' j') d (unit_inverse_of i' j') e'
    (IsSame-refl (unit_inverse_of i' j')))

-- ---- the answers

-- the point at p, or out of range where p is not of two Surds
abbrev pub IsPointAt : Result Point MeetFault → Number → Number → Type 0
IsPointAt r x y = MatchResult r (λ p. IsSurdOf p.x x × IsSurdOf p.y y)
    (λ e. (e ≡ OutOfRange) × (¬ (IsSurd x × IsSurd y)))

surd_same : (x y : Number) → IsSame x y → IsSurd x → IsSurd y
surd_same x y e (f, g, h) = (f, g, IsSame-trans f x y h e)

pub point_at_same : (r : Result Point MeetFault) (x y z w : Number) → IsSame x z → IsSame y w
    → IsPointAt r x y → IsPointAt r z w
point_at_same (Ok p) x y z w e f h =
    (IsSame-trans (number_of p.x) x z h.0 e, IsSame-trans (number_of p.y) y w h.1 f)
point_at_same (Err k) x y z w e f h =
    (h.0, λ s. h.1 (surd_same z x (IsSame-sym x z e) s.0, surd_same w y (IsSame-sym y w f) s.1))

cross_same : (d p q : Position) → IsSame p.x q.x → IsSame p.y q.y → IsSame (cross_of d p) (cross_of d q)
cross_same d p q e f =
    difference_of-same (product_of d.x p.y) (product_of d.y p.x) (product_of d.x q.y) (product_of d.y q.x)
    (product_of-same d.x p.y d.x q.y (IsSame-refl d.x) f)
    (product_of-same d.y p.x d.y q.x (IsSame-refl d.y) e)

on_line_same : (l : Line) (p q : Position) → IsSame p.x q.x → IsSame p.y q.y → IsOnLine q l → IsOnLine p l
on_line_same l p q e f h =
    let d = direction_vector (line_number l) in
    let o = wide_number_of (line_offset l) in
    on_line_from_offset l p
    (IsSame-trans (cross_of d p) (cross_of d q) o (cross_same d p q e f) (on_line_offset l q h))

pub is_point : (p : Point) → IsPoint (position_of p)
is_point p = (
  (number_of p.x, p.x.stored, IsSame-refl (number_of p.x)),
  (number_of p.y, p.y.stored, IsSame-refl (number_of p.y)),
)

module _ (l m : Line) (less : line_number l < line_number m) where
  pub point_on_both : (r : Result Point MeetFault) → IsPointAt r (meeting_of l m).x (meeting_of l m).y
      → IfOk r (λ p. IsOnLine (position_of p) l × IsOnLine (position_of p) m)
  point_on_both (Ok p) h = (
    on_line_same l (position_of p) (meeting_of l m) h.0 h.1 (meeting_on_first l m less),
    on_line_same m (position_of p) (meeting_of l m) h.0 h.1 (meeting_on_second l m less),
  )
  point_on_both (Err e) h = tt

  pub no_point : (r : Result Point MeetFault) → IsPointAt r (meeting_of l m).x (meeting_of l m).y
      → r ≡ Err OutOfRange → HasNoCommonPoint l m
  no_point (Ok p) h e = absurd (cc)
  no_point (Err k) h e = λ q f g s.
      let at = meeting_only l m less q f g in
      h.1 (surd_same q.x (meeting_of l m).x at.0 s.0, surd_same q.y (meeting_of l m).y at.1 s.1)

  pub where_no_point : (r : Result Point MeetFault) → IsPointAt r (meeting_of l m).x (meeting_of l m).y
      → HasNoCommonPoint l m → r ≡ Err OutOfRange
  where_no_point (Ok p) h none =
      let on = point_on_both (Ok p) h in absurd (none (position_of p) on.0 on.1 (is_point p))
  where_no_point (Err k) h none = ap Err h.0

-- the lines turned
pub no_point_turned : (l m : Line) → HasNoCommonPoint l m → HasNoCommonPoint m l
no_point_turned l m none = λ p f g s. none p g f s

pub on_turned : (l m : Line) (r : Result Point MeetFault)
    → IfOk r (λ p. IsOnLine (position_of p) l × IsOnLine (position_of p) m)
    → IfOk r (λ p. IsOnLine (position_of p) m × IsOnLine (position_of p) l)
on_turned l m (Ok p) h = (h.1, h.0)
on_turned l m (Err e) h = tt
