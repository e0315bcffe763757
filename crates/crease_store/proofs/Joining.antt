-- A segment and one that goes on from it in its direction make one segment.
use Rattle.std.proofs.Common.{◌≡◌, ℕ, true, false, ◌⊎◌, inl, inr, [], ◌∷◌, pos, refl, sym, ap, ◌∙◌}
use Rattle.surd_number.specs.declared.Sgn.{Sgn}
use Rattle.surd_number.specs.declared.Sgn.TheVariants.{Neg, Zero, Pos}
use Rattle.surd_number.specs.Number.{Number, IsSame, whole, sum_of, difference_of, product_of, opposite_sign}
use Rattle.surd_number.specs.RingTool.{◌⊕◌, ◌⊝◌, ◌⊗◌, con, v0, v1, v2, v3, v4, v5}
use Rattle.surd_number.specs.NumberLaws.{number_ring_from_two}
use Rattle.surd_number.specs.SignLaws.{sign_of-sum_positive}
use Rattle.plane_geometry.specs.declared.Segment.{Segment}
use Rattle.plane_geometry.specs.Position.{Position, position_of}
use Rattle.plane_geometry.specs.Direction.{direction_vector, side_of, is_positive, is_negative, is_along}
use Rattle.plane_geometry.specs.DirectionLaws.{along_is_multiple}
use Rattle.plane_geometry.specs.Stored.{IsStretch}
use Rattle.plane_geometry.specs.Stretch.{Stretch, is_on}
use Rattle.plane_geometry.specs.SegmentView.{stretch_of, lesser_end, greater_end, direction_number}
use Rattle.plane_geometry.specs.SideLaws.{order_of, order_turned, side_from}
use Rattle.plane_geometry.specs.StretchLaws.{LiesOn, before_is, before_then, then_before, ends_order, to_in_line, on_parts, on_from_parts}
use Rattle.plane_geometry.specs.CommonPointLaws.{LiesBetween, line_through}

-- ---- directions

multiples_add : (x y z m n d : Number) → IsSame (difference_of y x) (product_of m d) → IsSame (difference_of z y) (product_of n d) → IsSame (difference_of z x) (product_of (sum_of m n) d)
multiples_add x y z m n d h k =
    number_ring_from_two (x ∷ y ∷ z ∷ m ∷ n ∷ d ∷ [])
    (v1 ⊝ v0) (v3 ⊗ v5) (con (whole (pos 1)))
    (v2 ⊝ v1) (v4 ⊗ v5) (con (whole (pos 1)))
    (v2 ⊝ v0) ((v3 ⊕ v4) ⊗ v5) refl h k

along_then : (n : ℕ) (p q r : Position) → is_along n p q ≡ true → is_along n q r ≡ true → is_along n p r ≡ true
along_then n p q r e f =
    let d = direction_vector n in
    let a = (along_is_multiple n p q).0 e in
    let b = (along_is_multiple n q r).0 f in
    (along_is_multiple n p r).1 (sum_of a.0 b.0, sign_of-sum_positive a.0 b.0 a.1 b.1, (multiples_add p.x q.x r.x a.0 b.0 d.x a.2.0 b.2.0, multiples_add p.y q.y r.y a.0 b.0 d.y a.2.1 b.2.1))

-- ---- stretches

-- from the lesser end of s to the greater of u
abbrev pub stretch_joined : Stretch → Stretch → Stretch
stretch_joined s u = record { from = s.from; to = u.to; dir = s.dir }

module _ (s u : Stretch) (h : IsStretch s) (k : IsStretch u) (at : s.to ≡ u.from) (same : s.dir ≡ u.dir) where
  order_on : order_of s.to u.to ≡ Pos
  order_on = ap (λ p. order_of p u.to) at ∙ ends_order u k

  joined_order : order_of s.from u.to ≡ Pos
  joined_order = before_then s.from s.to u.to (ends_order s h) (ap is_negative order_on)

  is_stretch_joined : IsStretch (stretch_joined s u)
  is_stretch_joined =
      let on : is_along s.dir s.to u.to ≡ true = ap (λ p. is_along s.dir p u.to) at ∙ ap (λ n. is_along n u.from u.to) same ∙ k.1 in
      (before_is s.from u.to ∙ ap is_positive joined_order, along_then s.dir s.from s.to u.to h.1 on)

  -- where they join is strictly between the ends
  joint_between : LiesBetween s.to (stretch_joined s u)
  joint_between = record { in_line = to_in_line s h; after_from = ends_order s h; before_to = order_on }

  -- what is on the whole is on one of them
  on_one : (v : Position) → is_on v (stretch_joined s u) ≡ true → (is_on v s ≡ true) ⊎ (is_on v u ≡ true)
  on_one v e = go (order_of v s.to) refl
    where
      l : LiesOn v (stretch_joined s u)
      l = on_parts v (stretch_joined s u) is_stretch_joined e

      on_first : is_negative (order_of v s.to) ≡ false → is_on v s ≡ true
      on_first f = on_from_parts v s h (record { in_line = l.in_line; after_from = l.after_from; before_to = f })

      on_second : order_of v s.to ≡ Neg → is_on v u ≡ true
      on_second f =
          on_from_parts v u k (record {
            in_line = sym (ap (λ p. side_of p s.dir v) at ∙ ap (λ n. side_of u.from n v) same) ∙ line_through s s.to v (to_in_line s h) l.in_line;
            after_from = sym (ap (λ p. is_negative (order_of p v)) at) ∙ ap is_negative (order_turned v s.to ∙ ap opposite_sign f);
            before_to = l.before_to;
          })

      go : (t : Sgn) → order_of v s.to ≡ t → (is_on v s ≡ true) ⊎ (is_on v u ≡ true)
      go Neg f = inr (on_second f)
      go Zero f = inl (on_first (ap is_negative f))
      go Pos f = inl (on_first (ap is_negative f))

  -- what is on one of them is on the whole
  on_whole_first : (v : Position) → is_on v s ≡ true → is_on v (stretch_joined s u) ≡ true
  on_whole_first v e =
      let l = on_parts v s h e in
      on_from_parts v (stretch_joined s u) is_stretch_joined (record {
        in_line = l.in_line;
        after_from = l.after_from;
        before_to = ap is_negative (then_before v s.to u.to l.before_to order_on);
      })

  on_whole_second : (v : Position) → is_on v u ≡ true → is_on v (stretch_joined s u) ≡ true
  on_whole_second v e =
      let l = on_parts v u k e in
      on_from_parts v (stretch_joined s u) is_stretch_joined (record {
        in_line = side_from s.from s.dir s.to v (to_in_line s h) ∙ ap (λ p. side_of p s.dir v) at ∙ ap (λ n. side_of u.from n v) same ∙ l.in_line;
        after_from = ap is_negative (before_then s.from s.to v (ends_order s h) (ap (λ p. is_negative (order_of p v)) at ∙ l.after_from));
        before_to = l.before_to;
      })

-- ---- segments

pub joined : (s u : Segment) → greater_end s ≡ lesser_end u → direction_number s ≡ direction_number u → Segment
joined s u at same = record {
  from = s.from;
  to = u.to;
  dir = s.dir;
  stretch = is_stretch_joined (stretch_of s) (stretch_of u) s.stretch u.stretch (ap position_of at) same;
}

module _ (s u : Segment) (at : greater_end s ≡ lesser_end u) (same : direction_number s ≡ direction_number u) where
  pub joined_from : lesser_end (joined s u at same) ≡ lesser_end s
  unfolding joined
  joined_from = refl

  pub joined_to_end : greater_end (joined s u at same) ≡ greater_end u
  unfolding joined
  joined_to_end = refl

  pub joined_direction : direction_number (joined s u at same) ≡ direction_number s
  unfolding joined
  joined_direction = refl

  pub joined_on : (v : Position) → is_on v (stretch_of (joined s u at same)) ≡ true → (is_on v (stretch_of s) ≡ true) ⊎ (is_on v (stretch_of u) ≡ true)
  unfolding joined
  joined_on = on_one (stretch_of s) (stretch_of u) s.stretch u.stretch (ap position_of at) same

  pub first_on_joined : (v : Position) → is_on v (stretch_of s) ≡ true → is_on v (stretch_of (joined s u at same)) ≡ true
  unfolding joined
  first_on_joined = on_whole_first (stretch_of s) (stretch_of u) s.stretch u.stretch (ap position_of at) same

  pub second_on_joined : (v : Position) → is_on v (stretch_of u) ≡ true → is_on v (stretch_of (joined s u at same)) ≡ true
  unfolding joined
  second_on_joined = on_whole_second (stretch_of s) (stretch_of u) s.stretch u.stretch (ap position_of at) same

  pub joined_between : LiesBetween (position_of (greater_end s)) (stretch_of (joined s u at same))
  unfolding joined
  joined_between = joint_between (stretch_of s) (stretch_of u) s.stretch u.stretch (ap position_of at) same
