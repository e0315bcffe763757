-- A list in strictly ascending order is determined by what is in it.
use Rattle.std.proofs.Common.{◌≡◌, Bool, true, false, cond, ◌⊎◌, inl, inr, List, [], ◌∷◌, map, refl, sym, ap, ap₂, subst, ◌∙◌}
use Rattle.std.specs.List.{filter}
use Rattle.std.specs.Ordering.{is_lt, ordering_then}
use Rattle.std.proofs.lemmas.Bool.{and_parts, and_from, false≢true}
use Rattle.surd_number.specs.declared.Sgn.{Sgn}
use Rattle.surd_number.specs.declared.Sgn.TheVariants.{Neg, Zero, Pos}
use Rattle.surd_number.specs.Number.{ordering_of, opposite_sign}
use Rattle.plane_geometry.specs.declared.Segment.{Segment}
use Rattle.plane_geometry.specs.Direction.{is_positive, is_negative}
use Rattle.plane_geometry.specs.Stretch.{Stretch}
use Rattle.plane_geometry.specs.SegmentView.{stretch_of}
use Rattle.plane_geometry.specs.SideLaws.{order_of, compare_is, order_self, order_turned}
use Rattle.plane_geometry.specs.StretchLaws.{before_is, before_then, order_from, turned_zero}
use Rattle.plane_geometry.specs.Position.{compare_positions}
use Rattle.plane_geometry.specs.Order.{compare_stretches, is_before}
use Rattle.crease_model.specs.Rules.{is_ascending}
use Rattle.line_split.specs.MemberLaws.{Member, filter_member}

-- ---- which segment stands before which

-- by the lesser ends, or with one lesser end by the greater ones
StandsBefore : Stretch → Stretch → Type 0
StandsBefore s u = (order_of s.from u.from ≡ Pos) ⊎ ((order_of s.from u.from ≡ Zero) × (order_of s.to u.to ≡ Pos))

then_before_parts : (a b : Sgn) → is_lt (ordering_then (ordering_of (opposite_sign a)) (ordering_of (opposite_sign b))) ≡ true → (a ≡ Pos) ⊎ ((a ≡ Zero) × (b ≡ Pos))
then_before_parts Pos b e = inl refl
then_before_parts Zero Pos e = inr (refl, refl)
then_before_parts Zero Zero e = absurd (false≢true e)
then_before_parts Zero Neg e = absurd (false≢true e)
then_before_parts Neg b e = absurd (false≢true e)

before_parts : (s u : Stretch) → is_lt (compare_stretches s u) ≡ true → StandsBefore s u
unfolding StandsBefore
before_parts s u e =
    then_before_parts (order_of s.from u.from) (order_of s.to u.to)
    (sym (ap is_lt (ap₂ ordering_then (compare_is s.from u.from ∙ ap ordering_of (order_turned s.from u.from)) (compare_is s.to u.to ∙ ap ordering_of (order_turned s.to u.to)))) ∙ e)

then_before_from : (a b : Sgn) → (a ≡ Pos) ⊎ ((a ≡ Zero) × (b ≡ Pos)) → is_lt (ordering_then (ordering_of (opposite_sign a)) (ordering_of (opposite_sign b))) ≡ true
then_before_from a b (inl e) = ap (λ (t : Sgn). is_lt (ordering_then (ordering_of (opposite_sign t)) (ordering_of (opposite_sign b)))) e
then_before_from a b (inr e) = ap₂ (λ (t r : Sgn). is_lt (ordering_then (ordering_of (opposite_sign t)) (ordering_of (opposite_sign r)))) e.0 e.1

before_from : (s u : Stretch) → StandsBefore s u → is_lt (compare_stretches s u) ≡ true
unfolding StandsBefore
before_from s u e =
    ap is_lt (ap₂ ordering_then (compare_is s.from u.from ∙ ap ordering_of (order_turned s.from u.from)) (compare_is s.to u.to ∙ ap ordering_of (order_turned s.to u.to)))
    ∙ then_before_from (order_of s.from u.from) (order_of s.to u.to) e

not_before_itself : (s : Stretch) → StandsBefore s s → ⊥
unfolding StandsBefore
not_before_itself s (inl e) = let h : Zero ≡ Pos = sym (order_self s.from) ∙ e in cc
not_before_itself s (inr e) = let h : Zero ≡ Pos = sym (order_self s.to) ∙ e.1 in cc

before_chain : (s t u : Stretch) → StandsBefore s t → StandsBefore t u → StandsBefore s u
unfolding StandsBefore
before_chain s t u (inl e) (inl f) = inl (before_then s.from t.from u.from e (ap is_negative f))
before_chain s t u (inl e) (inr f) = inl (before_then s.from t.from u.from e (ap is_negative f.0))
before_chain s t u (inr e) (inl f) = inl (order_from s.from t.from u.from e.0 ∙ f)
before_chain s t u (inr e) (inr f) = inr (order_from s.from t.from u.from e.0 ∙ f.0, before_then s.to t.to u.to e.1 (ap is_negative f.1))

pub before_by_from : (s u : Segment) → order_of (stretch_of s).from (stretch_of u).from ≡ Pos → is_before s u ≡ true
unfolding StandsBefore
before_by_from s u e = before_from (stretch_of s) (stretch_of u) (inl e)

-- the lesser end of a segment that stands before another does not come after that of the other
pub before_begins : (s u : Segment) → is_before s u ≡ true → is_lt (compare_positions (stretch_of u).from (stretch_of s).from) ≡ false
unfolding StandsBefore
before_begins s u e =
    before_is (stretch_of u).from (stretch_of s).from
    ∙ elim (before_parts (stretch_of s) (stretch_of u) e) [
      | inl f ↦ ap is_positive (order_turned (stretch_of s).from (stretch_of u).from ∙ ap opposite_sign f)
      | inr f ↦ ap is_positive (turned_zero (stretch_of s).from (stretch_of u).from f.0)
    ]

-- ---- lists

module _ {X : Type 0} (segment_at : X → Segment) where
  Before : X → X → Type 0
  Before x y = StandsBefore (stretch_of (segment_at x)) (stretch_of (segment_at y))

  -- the first stands before each later one
  before_later : (x : X) (xs : List X) (z : X) → is_ascending (map segment_at (x ∷ xs)) ≡ true → Member xs z → Before x z
  unfolding Before
  before_later x [] z up m = absurd m
  before_later x (y ∷ ys) z up m =
      let k = and_parts (is_before (segment_at x) (segment_at y)) (is_ascending (map segment_at (y ∷ ys))) up in
      let first = before_parts (stretch_of (segment_at x)) (stretch_of (segment_at y)) k.0 in
      elim m [
        | inl e ↦ subst (λ (t : X). StandsBefore (stretch_of (segment_at x)) (stretch_of (segment_at t))) e first
        | inr n ↦ before_chain (stretch_of (segment_at x)) (stretch_of (segment_at y)) (stretch_of (segment_at z)) first (before_later y ys z k.1 n)
      ]

  pub first_before : (x : X) (xs : List X) (z : X) → is_ascending (map segment_at (x ∷ xs)) ≡ true → Member xs z → is_before (segment_at x) (segment_at z) ≡ true
  unfolding Before
  first_before x xs z up m = before_from (stretch_of (segment_at x)) (stretch_of (segment_at z)) (before_later x xs z up m)

  -- an element that stands before each of a list goes first
  pub ascending_first : (x : X) (xs : List X) → ((z : X) → Member xs z → is_before (segment_at x) (segment_at z) ≡ true) → is_ascending (map segment_at xs) ≡ true → is_ascending (map segment_at (x ∷ xs)) ≡ true
  ascending_first x [] before up = refl
  ascending_first x (y ∷ ys) before up = and_from (is_before (segment_at x) (segment_at y)) (is_ascending (map segment_at (y ∷ ys))) (before y (inl refl)) up

  -- it is none of them
  pub differs_later : (x : X) (xs : List X) (z : X) → is_ascending (map segment_at (x ∷ xs)) ≡ true → Member xs z → segment_at x ≡ segment_at z → ⊥
  unfolding Before
  differs_later x xs z up m same =
      not_before_itself (stretch_of (segment_at x)) (subst (λ (t : Segment). StandsBefore (stretch_of (segment_at x)) (stretch_of t)) (sym same) (before_later x xs z up m))

  pub ascending_rest : (x : X) (xs : List X) → is_ascending (map segment_at (x ∷ xs)) ≡ true → is_ascending (map segment_at xs) ≡ true
  ascending_rest x [] up = refl
  ascending_rest x (y ∷ ys) up = (and_parts (is_before (segment_at x) (segment_at y)) (is_ascending (map segment_at (y ∷ ys))) up).1

  same_first : (x y : X) (xs ys : List X) → is_ascending (map segment_at (x ∷ xs)) ≡ true → is_ascending (map segment_at (y ∷ ys)) ≡ true → Member (y ∷ ys) x → Member (x ∷ xs) y → x ≡ y
  unfolding Before
  same_first x y xs ys up_x up_y (inl e) n = sym e
  same_first x y xs ys up_x up_y (inr m) (inl f) = f
  same_first x y xs ys up_x up_y (inr m) (inr n) =
      let a = before_later x xs y up_x n in
      let b = before_later y ys x up_y m in
      absurd (not_before_itself (stretch_of (segment_at x)) (before_chain (stretch_of (segment_at x)) (stretch_of (segment_at y)) (stretch_of (segment_at x)) a b))

  -- what is in the rest of one list is in the rest of the other
  in_rest : (x y : X) (xs ys : List X) (z : X) → is_ascending (map segment_at (x ∷ xs)) ≡ true → x ≡ y → Member xs z → Member (y ∷ ys) z → Member ys z
  unfolding Before
  in_rest x y xs ys z up same m (inl e) =
      absurd (not_before_itself (stretch_of (segment_at x)) (subst (λ (t : X). StandsBefore (stretch_of (segment_at x)) (stretch_of (segment_at t))) (sym (same ∙ e)) (before_later x xs z up m)))
  in_rest x y xs ys z up same m (inr n) = n

  pub one_ascending : (xs ys : List X) → is_ascending (map segment_at xs) ≡ true → is_ascending (map segment_at ys) ≡ true → ((z : X) → Member xs z → Member ys z) → ((z : X) → Member ys z → Member xs z) → xs ≡ ys
  one_ascending [] [] up_x up_y to from = refl
  one_ascending [] (y ∷ ys) up_x up_y to from = absurd (from y (inl refl))
  one_ascending (x ∷ xs) [] up_x up_y to from = absurd (to x (inl refl))
  one_ascending (x ∷ xs) (y ∷ ys) up_x up_y to from =
      let same = same_first x y xs ys up_x up_y (to x (inl refl)) (from y (inl refl)) in
      ap₂ ◌∷◌ same (one_ascending xs ys (ascending_rest x xs up_x) (ascending_rest y ys up_y)
      (λ z m. in_rest x y xs ys z up_x same m (to z (inr m)))
      (λ z m. in_rest y x ys xs z up_y (sym same) m (from z (inr m))))

  -- ---- with some left out

  pub filter_ascends : (keep : X → Bool) (xs : List X) → is_ascending (map segment_at xs) ≡ true → is_ascending (map segment_at (filter keep xs)) ≡ true
  filter_ascends keep [] up = refl
  filter_ascends keep (x ∷ xs) up =
      let rest = filter_ascends keep xs (ascending_rest x xs up) in
      elim (keep x) as (λ b. is_ascending (map segment_at (cond b (x ∷ filter keep xs) (filter keep xs))) ≡ true) [
        | true ↦ ascending_first x (filter keep xs) (λ z m. first_before x xs z up (filter_member keep xs z m).0) rest
        | false ↦ rest
      ]
