-- Laws of stretches: which points are on them, and what two of them have in common.
use Rattle.std.proofs.Common.{◌≡◌, ℕ, Bool, true, false, not, ◌&&◌, ◌||◌, ◌⊎◌, inl, inr, refl, sym, ap, ap₂, subst, ◌∙◌}
use Rattle.std.proofs.lemmas.Bool.{true≢false, false≢true, and_parts, or_cases, and_from, or_left, or_right, not-true, not_from_false}
use Rattle.std.specs.Ordering.{is_lt, is_eq}
use Rattle.surd_number.specs.declared.Sgn.{Sgn}
use Rattle.surd_number.specs.declared.Sgn.TheVariants.{Neg, Zero, Pos}
use Rattle.surd_number.specs.Number.{sign_of, ordering_of, opposite_sign}
use Rattle.plane_geometry.specs.Position.{Position, vector_of, dot_of, compare_positions, is_same_position}
use Rattle.plane_geometry.specs.Direction.{direction_vector, side_of, is_positive, is_negative, is_zero}
use Rattle.plane_geometry.specs.Stored.{IsStretch}
use Rattle.plane_geometry.specs.Stretch.{Stretch, is_between, is_end, is_on}
use Rattle.plane_geometry.specs.SideLaws.{may_sum, order_of, compare_is, order_self, order_turned, order_chain, side_chain, side_same, sum_from_zero, sum_to_zero}

-- ---- tests of signs

pub positive_is : (s : Sgn) → is_positive s ≡ true → s ≡ Pos
positive_is Pos e = refl
positive_is _ e = absurd (false≢true e)

pub negative_is : (s : Sgn) → is_negative s ≡ true → s ≡ Neg
negative_is Neg e = refl
negative_is _ e = absurd (false≢true e)

pub zero_is : (s : Sgn) → is_zero s ≡ true → s ≡ Zero
zero_is Zero e = refl
zero_is _ e = absurd (false≢true e)

before_sign : (s : Sgn) → is_lt (ordering_of (opposite_sign s)) ≡ is_positive s
before_sign Neg = refl
before_sign Zero = refl
before_sign Pos = refl

same_sign : (s : Sgn) → is_eq (ordering_of (opposite_sign s)) ≡ is_zero s
same_sign Neg = refl
same_sign Zero = refl
same_sign Pos = refl

opposite_zero : (s : Sgn) → is_zero (opposite_sign s) ≡ is_zero s
opposite_zero Neg = refl
opposite_zero Zero = refl
opposite_zero Pos = refl

pub before_is : (p q : Position) → is_lt (compare_positions p q) ≡ is_positive (order_of p q)
before_is p q = ap is_lt (compare_is p q ∙ ap ordering_of (order_turned p q)) ∙ before_sign (order_of p q)

pub same_is : (p q : Position) → is_same_position p q ≡ is_zero (order_of p q)
same_is p q = ap is_eq (compare_is p q ∙ ap ordering_of (order_turned p q)) ∙ same_sign (order_of p q)

pub same_is_turned : (p q : Position) → is_same_position p q ≡ is_zero (order_of q p)
same_is_turned p q = same_is p q ∙ ap is_zero (order_turned q p) ∙ opposite_zero (order_of q p)

-- ---- chains in the order of points

pos_first : (t r : Sgn) → is_negative t ≡ false → may_sum Pos t r ≡ true → r ≡ Pos
pos_first Neg r e f = absurd (true≢false e)
pos_first Zero r e f = sum_to_zero Pos r f
pos_first Pos Pos e f = refl
pos_first Pos _ e f = absurd (false≢true f)

pos_last : (s r : Sgn) → is_negative s ≡ false → may_sum s Pos r ≡ true → r ≡ Pos
pos_last Neg r e f = absurd (true≢false e)
pos_last Zero r e f = sum_from_zero Pos r f
pos_last Pos Pos e f = refl
pos_last Pos _ e f = absurd (false≢true f)

pub before_then : (p q r : Position) → order_of p q ≡ Pos → is_negative (order_of q r) ≡ false
    → order_of p r ≡ Pos
before_then p q r e f =
    pos_first (order_of q r) (order_of p r) f
    (subst (λ s. may_sum s (order_of q r) (order_of p r) ≡ true) e (order_chain p q r))

pub then_before : (p q r : Position) → is_negative (order_of p q) ≡ false → order_of q r ≡ Pos
    → order_of p r ≡ Pos
then_before p q r e f =
    pos_last (order_of p q) (order_of p r) e
    (subst (λ s. may_sum (order_of p q) s (order_of p r) ≡ true) f (order_chain p q r))

-- points that are the same have the same place in the order
pub order_from : (p q r : Position) → order_of p q ≡ Zero → order_of p r ≡ order_of q r
order_from p q r e =
    sum_from_zero (order_of q r) (order_of p r)
    (subst (λ s. may_sum s (order_of q r) (order_of p r) ≡ true) e (order_chain p q r))

pub order_to : (p q r : Position) → order_of q r ≡ Zero → order_of p r ≡ order_of p q
order_to p q r e = sum_to_zero (order_of p q) (order_of p r)
    (subst (λ s. may_sum (order_of p q) s (order_of p r) ≡ true) e (order_chain p q r))

pub turned_zero : (p q : Position) → order_of p q ≡ Zero → order_of q p ≡ Zero
turned_zero p q e = order_turned p q ∙ ap opposite_sign e

-- and are on the same side
pub side_to : (p : Position) (n : ℕ) (q r : Position) → side_of q n r ≡ Zero → side_of p n r ≡ side_of p n q
side_to p n q r e = sum_to_zero (side_of p n q) (side_of p n r)
    (subst (λ s. may_sum (side_of p n q) s (side_of p n r) ≡ true) e (side_chain p n q r))

pub side_self : (p : Position) (n : ℕ) → side_of p n p ≡ Zero
side_self p n = side_same p n p (order_self p)

-- ---- which points are on a stretch

-- on the line of the stretch, and not beyond an end
pub record LiesOn (p : Position) (s : Stretch) : Type 0 where
  pub in_line : side_of s.from s.dir p ≡ Zero
  pub after_from : is_negative (order_of s.from p) ≡ false
  pub before_to : is_negative (order_of p s.to) ≡ false

on_table : (z a b : Sgn) → (a ≡ Zero → z ≡ Zero) → (b ≡ Zero → z ≡ Zero) → may_sum a b Pos ≡ true
    → ((is_zero a || is_zero b) || (is_zero z && (is_positive a && is_positive b)))
    ≡ (is_zero z && (not (is_negative a) && not (is_negative b)))
on_table z Neg Neg f g e = absurd (false≢true e)
on_table z Neg Zero f g e = absurd (false≢true e)
on_table Neg Neg Pos f g e = refl
on_table Zero Neg Pos f g e = refl
on_table Pos Neg Pos f g e = refl
on_table z Zero Neg f g e = absurd (false≢true e)
on_table z Zero Zero f g e = absurd (false≢true e)
on_table Neg Zero Pos f g e = let h : Neg ≡ Zero = f refl in cc
on_table Zero Zero Pos f g e = refl
on_table Pos Zero Pos f g e = let h : Pos ≡ Zero = f refl in cc
on_table Neg Pos Neg f g e = refl
on_table Zero Pos Neg f g e = refl
on_table Pos Pos Neg f g e = refl
on_table Neg Pos Zero f g e = let h : Neg ≡ Zero = g refl in cc
on_table Zero Pos Zero f g e = refl
on_table Pos Pos Zero f g e = let h : Pos ≡ Zero = g refl in cc
on_table Neg Pos Pos f g e = refl
on_table Zero Pos Pos f g e = refl
on_table Pos Pos Pos f g e = refl

-- what both ends of a stretch are to each other
pub ends_order : (s : Stretch) → IsStretch s → order_of s.from s.to ≡ Pos
ends_order s h = positive_is (order_of s.from s.to) (sym (before_is s.from s.to) ∙ h.0)

pub to_in_line : (s : Stretch) → IsStretch s → side_of s.from s.dir s.to ≡ Zero
to_in_line s h = zero_is (side_of s.from s.dir s.to) (and_parts (is_zero (side_of s.from s.dir s.to)) _ h.1).0

pub along_sign : (s : Stretch) → IsStretch s
    → sign_of (dot_of (direction_vector s.dir) (vector_of s.from s.to)) ≡ Pos
along_sign s h = positive_is _ (and_parts (is_zero (side_of s.from s.dir s.to)) _ h.1).1

pub end_is : (p : Position) (s : Stretch)
    → is_end p s ≡ (is_zero (order_of s.from p) || is_zero (order_of p s.to))
end_is p s = ap₂ ◌||◌ (same_is_turned p s.from) (same_is p s.to)

between_is : (p : Position) (s : Stretch)
    → is_between p s ≡ (is_zero (side_of s.from s.dir p)
    && (is_positive (order_of s.from p) && is_positive (order_of p s.to)))
between_is p s = ap (λ (b : Bool). is_zero (side_of s.from s.dir p) && b)
    (ap₂ ◌&&◌ (before_is s.from p) (before_is p s.to))

on_is : (p : Position) (s : Stretch) → IsStretch s
    → is_on p s ≡ (is_zero (side_of s.from s.dir p)
    && (not (is_negative (order_of s.from p)) && not (is_negative (order_of p s.to))))
on_is p s h =
    ap₂ ◌||◌ (end_is p s) (between_is p s)
    ∙ on_table (side_of s.from s.dir p) (order_of s.from p) (order_of p s.to)
    (λ e. side_same s.from s.dir p e)
    (λ e. sym (side_to s.from s.dir p s.to (side_same p s.dir s.to e)) ∙ to_in_line s h)
    (subst (λ r. may_sum (order_of s.from p) (order_of p s.to) r ≡ true) (ends_order s h)
    (order_chain s.from p s.to))

pub on_parts : (p : Position) (s : Stretch) → IsStretch s → is_on p s ≡ true → LiesOn p s
on_parts p s h e =
    let k = and_parts (is_zero (side_of s.from s.dir p)) _ (sym (on_is p s h) ∙ e) in
    let l = and_parts (not (is_negative (order_of s.from p))) _ k.1 in
    record { in_line = zero_is _ k.0; after_from = not-true _ l.0; before_to = not-true _ l.1 }

pub on_from_parts : (p : Position) (s : Stretch) → IsStretch s → LiesOn p s → is_on p s ≡ true
on_from_parts p s h l =
    on_is p s h ∙ and_from _ _ (ap is_zero l.in_line)
    (and_from _ _ (not_from_false _ l.after_from) (not_from_false _ l.before_to))

pub end_parts : (p : Position) (s : Stretch) → is_end p s ≡ true
    → (order_of s.from p ≡ Zero) ⊎ (order_of p s.to ≡ Zero)
end_parts p s e =
    elim (or_cases _ _ (sym (end_is p s) ∙ e)) [ inl l ↦ inl (zero_is _ l) | inr r ↦ inr (zero_is _ r) ]

pub end_from : (p : Position) (s : Stretch) → order_of s.from p ≡ Zero → is_end p s ≡ true
end_from p s e = end_is p s ∙ or_left _ _ (ap is_zero e)

pub end_to : (p : Position) (s : Stretch) → order_of p s.to ≡ Zero → is_end p s ≡ true
end_to p s e = end_is p s ∙ or_right _ _ (ap is_zero e)

pub from_end : (s : Stretch) → is_end s.from s ≡ true
from_end s = end_from s.from s (order_self s.from)

pub to_end : (s : Stretch) → is_end s.to s ≡ true
to_end s = end_to s.to s (order_self s.to)
