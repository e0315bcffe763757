-- Two segments that meet at ends alone don't leave a point in one direction.
use Rattle.std.proofs.Common.{◌≡◌, ℕ, ◌+◌, ◌%◌, true, false, not, ◌&&◌, ◌⊎◌, inl, inr, refl, sym, ap, ◌∙◌, arith}
use Rattle.std.proofs.lemmas.Bool.{and_parts, and_from, not-true, both_ways}
use Rattle.surd_number.specs.declared.Sgn.{Sgn}
use Rattle.surd_number.specs.declared.Sgn.TheVariants.{Neg, Zero, Pos}
use Rattle.surd_number.specs.Number.{opposite_sign, times_sign}
use Rattle.plane_geometry.specs.declared.Point.{Point}
use Rattle.plane_geometry.specs.declared.Segment.{Segment}
use Rattle.plane_geometry.specs.Position.{position_of, vector_of}
use Rattle.plane_geometry.specs.Direction.{direction_vector, side_of, is_negative, is_along, opposite_number}
use Rattle.plane_geometry.specs.SegmentView.{lesser_end, greater_end, direction_number, stretch_of}
use Rattle.plane_geometry.specs.Stored.{IsStretch}
use Rattle.plane_geometry.specs.Stretch.{Stretch, is_end, is_crossing, has_same_ends, ends_at_ends, MeetAtEnds}
use Rattle.plane_geometry.specs.SideLaws.{lex_sign, order_of, order_self, order_turned, side_same, side_from, square_sign, along_lex}
use Rattle.plane_geometry.specs.StretchLaws.{order_from, order_to, turned_zero, side_to, LiesOn, ends_order, to_in_line, along_sign, on_from_parts, end_from, end_to}
use Rattle.plane_geometry.specs.CommonPointLaws.{from_lies, to_lies, meeting_is}
use Rattle.plane_geometry.specs.DirectionLaws.{along_parts, along_back}

-- ---- stretches on one ray

module _ (s u : Stretch) (h : IsStretch s) (k : IsStretch u) (meets : MeetAtEnds s u)
    (same : s.dir ≡ u.dir) where
  not_same : has_same_ends s u ≡ false
  not_same =
      let e = (meeting_is s u h k).1 meets in
      let a = and_parts (not (is_crossing s u))
      (not (has_same_ends s u) && (ends_at_ends s u && ends_at_ends u s)) e in
      not-true _ (and_parts (not (has_same_ends s u)) (ends_at_ends s u && ends_at_ends u s) a.1).0

  -- both go on from one point, and s doesn't end after u
  not_onward : order_of u.from s.from ≡ Zero → is_negative (order_of s.to u.to) ≡ false → ⊥
  not_onward from least =
      let in_line : side_of u.from s.dir s.to
      ≡ Zero = side_from u.from s.dir s.from s.to (side_same u.from s.dir s.from from) ∙ to_in_line s h in
      let lies : LiesOn s.to u =
      record {
        in_line = ap (λ (n : ℕ). side_of u.from n s.to) (sym same) ∙ in_line;
        after_from = ap is_negative (order_from u.from s.from s.to from ∙ ends_order s h);
        before_to = least;
      } in
      let end = (meets s.to (on_from_parts s.to s h (to_lies s h)) (on_from_parts s.to u k lies)).1 in
      both_ways (has_same_ends s u) not_same
      (and_from (is_end s.from u) (is_end s.to u) (end_from s.from u from) end)

  -- both arrive at one point, and s doesn't begin before u
  not_back : order_of s.to u.to ≡ Zero → is_negative (order_of u.from s.from) ≡ false → ⊥
  not_back to least =
      let n = u.dir in
      let line : side_of s.from n s.to ≡ Zero = ap (λ (m : ℕ). side_of s.from m s.to) (sym same)
      ∙ to_in_line s h in
      let lies : LiesOn s.from u =
      record {
        in_line = sym (side_to u.from n s.from s.to line)
            ∙ sym (side_to u.from n s.to u.to (side_same s.to n u.to to)) ∙ to_in_line u k;
        after_from = least;
        before_to = ap is_negative (order_to s.from s.to u.to to ∙ ends_order s h);
      } in
      let end = (meets s.from (on_from_parts s.from s h (from_lies s h)) (on_from_parts s.from u k lies)).1 in
      both_ways (has_same_ends s u) not_same
      (and_from (is_end s.from u) (is_end s.to u) end (end_to s.to u to))

swapped : (s u : Stretch) → MeetAtEnds s u → MeetAtEnds u s
swapped s u w p on_u on_s = let h = w p on_s on_u in (h.1, h.0)

module _ (s u : Stretch) (h : IsStretch s) (k : IsStretch u) (meets : MeetAtEnds s u)
    (same : s.dir ≡ u.dir) where
  no_start : order_of u.from s.from ≡ Zero → ⊥
  no_start from = go (order_of s.to u.to) refl
    where
      go : (r : Sgn) → order_of s.to u.to ≡ r → ⊥
      go Neg e = not_onward u s k h (swapped s u meets) (sym same) (turned_zero u.from s.from from)
          (ap is_negative (order_turned s.to u.to ∙ ap opposite_sign e))
      go Zero e = not_onward s u h k meets same from (ap is_negative e)
      go Pos e = not_onward s u h k meets same from (ap is_negative e)

  no_arrival : order_of s.to u.to ≡ Zero → ⊥
  no_arrival to = go (order_of u.from s.from) refl
    where
      go : (r : Sgn) → order_of u.from s.from ≡ r → ⊥
      go Neg e = not_back u s k h (swapped s u meets) (sym same) (turned_zero s.to u.to to)
          (ap is_negative (order_turned u.from s.from ∙ ap opposite_sign e))
      go Zero e = not_back s u h k meets same to (ap is_negative e)
      go Pos e = not_back s u h k meets same to (ap is_negative e)

-- ---- opposite directions

-- each segment runs up from its lesser end
pub runs_up : (s : Segment) → lex_sign (direction_vector (direction_number s)) ≡ Pos
runs_up s =
    let S = stretch_of s in
    sym (along_lex (direction_vector S.dir) (vector_of S.from S.to) (square_sign S.dir)
    (to_in_line S s.stretch)
    ∙ ap (λ (t : Sgn). times_sign t (lex_sign (direction_vector S.dir))) (along_sign S s.stretch))
    ∙ ends_order S s.stretch

-- segments are never in opposite directions, each from its lesser end
not_opposite : (s u : Segment) → direction_number s ≡ opposite_number (direction_number u) → ⊥
not_opposite s u e =
    let n = direction_number s in
    let U = stretch_of u in
    let back : is_along n U.to U.from ≡ true = ap (λ (m : ℕ). is_along m U.to U.from) e
    ∙ along_back U.dir U.from U.to (omega (arith, u.dir.in_range)) ∙ u.stretch.1 in
    let parts = along_parts n U.to U.from back in
    let later : order_of U.to U.from ≡ Pos =
    along_lex (direction_vector n) (vector_of U.to U.from) (square_sign n) parts.0
    ∙ ap (λ (t : Sgn). times_sign t (lex_sign (direction_vector n))) parts.1
    ∙ runs_up s in
    let clash : Pos ≡ Neg = sym (ends_order U u.stretch) ∙ order_turned U.to U.from
    ∙ ap opposite_sign later in
    cc

-- ---- segments at one point

-- the segment leaves v in this direction: in its own from its lesser end,
-- in the opposite one from its greater
abbrev pub LeavesIn : Point → ℕ → Segment → Type 0
LeavesIn v n s =
    ((lesser_end s ≡ v) × (n ≡ direction_number s % 16))
    ⊎ ((greater_end s ≡ v) × (n ≡ (direction_number s + 8) % 16))

one_place : (v p q : Point) → p ≡ v → q ≡ v → order_of (position_of q) (position_of p) ≡ Zero
one_place v p q e f =
    ap (λ (t : Point). order_of (position_of t) (position_of p)) (f ∙ sym e) ∙ order_self (position_of p)

pub leave_apart : (v : Point) (n : ℕ) (s u : Segment) → MeetAtEnds (stretch_of s) (stretch_of u)
    → LeavesIn v n s → LeavesIn v n u → ⊥
leave_apart v n s u meets (inl a) (inl b) =
    no_start (stretch_of s) (stretch_of u) s.stretch u.stretch meets
    (omega (arith, sym a.1 ∙ b.1, s.dir.in_range, u.dir.in_range))
    (one_place v (lesser_end s) (lesser_end u) a.0 b.0)
leave_apart v n s u meets (inl a) (inr b) =
    not_opposite s u (omega (arith, sym a.1 ∙ b.1, s.dir.in_range))
leave_apart v n s u meets (inr a) (inl b) =
    not_opposite u s (omega (arith, sym a.1 ∙ b.1, u.dir.in_range))
leave_apart v n s u meets (inr a) (inr b) =
    no_arrival (stretch_of s) (stretch_of u) s.stretch u.stretch meets
    (omega (arith, sym a.1 ∙ b.1, s.dir.in_range, u.dir.in_range))
    (one_place v (greater_end u) (greater_end s) b.0 a.0)
