-- The fan of a point of a pattern is just the rays in which pieces leave it, by ascending direction.
use Rattle.std.proofs.Common.{◌≡◌, ℕ, ◌+◌, ◌<◌, ◌≤◌, length, Bool, true, false, cond, ltb, ◌⊎◌, inl, inr, List, [], ◌∷◌, Option, None, Some, refl, sym, ap, subst, ◌∙◌, arith}
use Rattle.std.specs.Prelude.{Contains}
use Rattle.std.specs.List.Sorted.{IsStrictlySortedBy}
use Rattle.std.specs.declared.cmp.Ordering.TheVariants.{Less}
use Rattle.std.proofs.lemmas.Bool.{cond_both, cond-true, cond-false, ltb-true, ltb-false}
use Rattle.std.proofs.lemmas.Cmp.{ranked}
use Rattle.plane_geometry.specs.declared.Point.{Point}
use Rattle.plane_geometry.specs.Position.{position_of, is_same_position}
use Rattle.plane_geometry.specs.Direction.{is_zero}
use Rattle.plane_geometry.specs.SegmentView.{lesser_end, greater_end, direction_number, stretch_of}
use Rattle.plane_geometry.specs.SideLaws.{order_of, order_self}
use Rattle.plane_geometry.specs.StretchLaws.{same_is, zero_is, ends_order}
use Rattle.plane_geometry.specs.SegmentLaws.{point_is}
use Rattle.plane_geometry.specs.Stretch.{MeetAtEnds}
use Rattle.crease_model.specs.declared.Piece.{Piece}
use Rattle.crease_model.specs.Rules.{AllMeetAtEnds}
use Rattle.line_split.specs.MemberLaws.{Member, member, contained, all_member}
use Rattle.line_split.specs.SortedLaws.{before_members, sorted_cons, sorted_rest, sorted_none, sorted_single, one_sorted}
use Rattle.vertex_checks.specs.declared.fans.Ray.{Ray}
use Rattle.vertex_checks.specs.Fan.{ray_number, ray_of, Leaves, compare_rays, IsFan, ray_at, with_ray, with_ray_if, fan_from, fan_of}
use Rattle.vertex_checks.specs.Laws.{DirectionsDiffer, FanIsOne, FanIsSmall}
use Rattle.vertex_checks.proofs.SortedLists.{cmp_less}
use Rattle.vertex_checks.proofs.LeavesApart.{leave_apart, leave_once}

-- ---- the order of rays

pub ray_before : (q r : Ray) → ray_number q < ray_number r → compare_rays q r ≡ Less
ray_before q r less = cmp_less (ray_number q) (ray_number r) less

pub before_ray : (q r : Ray) → compare_rays q r ≡ Less → ray_number q < ray_number r
before_ray q r e = ranked (ray_number q) (ray_number r) Less (sym e)

not_itself : (r : Ray) → compare_rays r r ≡ Less → ⊥
not_itself r e = let less = before_ray r r e in omega (arith, less)

not_both : (q r : Ray) → compare_rays q r ≡ Less → compare_rays r q ≡ Less → ⊥
not_both q r e f = let less = before_ray q r e in let more = before_ray r q f in omega (arith, less, more)

-- ---- one more ray

with_ray_new : (qs : List Ray) (r : Ray) → Member (with_ray qs r) r
with_ray_new [] r = inl refl
with_ray_new (q ∷ qs) r =
    cond_both (ltb (ray_number r) (ray_number q)) (r ∷ q ∷ qs) (q ∷ with_ray qs r) (λ rs. Member rs r)
    (λ e. inl refl) (λ e. inr (with_ray_new qs r))

with_ray_old : (qs : List Ray) (r z : Ray) → Member qs z → Member (with_ray qs r) z
with_ray_old [] r z m = absurd m
with_ray_old (q ∷ qs) r z m =
    cond_both (ltb (ray_number r) (ray_number q)) (r ∷ q ∷ qs) (q ∷ with_ray qs r) (λ rs. Member rs z)
    (λ e. inr m) (λ e. elim m [ inl f ↦ inl f | inr n ↦ inr (with_ray_old qs r z n) ])

with_ray_either : (qs : List Ray) (r z : Ray) → Member (with_ray qs r) z → (r ≡ z) ⊎ Member qs z
with_ray_either [] r z = λ m. m
with_ray_either (q ∷ qs) r z =
    cond_both (ltb (ray_number r) (ray_number q)) (r ∷ q ∷ qs) (q ∷ with_ray qs r)
    (λ rs. Member rs z → (r ≡ z) ⊎ Member (q ∷ qs) z)
    (λ e m. m)
    (λ e m. elim m [
      | inl f ↦ inr (inl f)
      | inr n ↦ elim
          (with_ray_either qs r z n) [ inl f ↦ inl f | inr k ↦ inr (inr k) ]
    ])

-- no ray of the list has the number of r
abbrev IsNew : List Ray → Ray → Type 0
IsNew qs r = (q : Ray) → Member qs q → ray_number q ≡ ray_number r → ⊥

with_ray_sorted : (qs : List Ray) (r : Ray) → IsStrictlySortedBy compare_rays qs → IsNew qs r
    → IsStrictlySortedBy compare_rays (with_ray qs r)
with_ray_sorted [] r up new = sorted_single compare_rays r
with_ray_sorted (q ∷ qs) r up new =
    cond_both (ltb (ray_number r) (ray_number q)) (r ∷ q ∷ qs) (q ∷ with_ray qs r)
    (λ rs. IsStrictlySortedBy compare_rays rs)
    (λ e. sorted_cons compare_rays r (q ∷ qs) (first (ltb-true (ray_number r) (ray_number q) e)) up)
    (λ e. sorted_cons compare_rays q (with_ray qs r) (later (ltb-false (ray_number r) (ray_number q) e))
    (with_ray_sorted qs r (sorted_rest compare_rays q qs up) (λ z m. new z (inr m))))
  where
    first : ray_number r < ray_number q → (z : Ray) → Member (q ∷ qs) z → compare_rays r z ≡ Less
    first less z (inl e) = ray_before r z (omega (arith, less, ap ray_number e))
    first less z (inr m) =
        let more = before_ray q z (before_members compare_rays q qs z up m)
        in ray_before r z (omega (arith, less, more))

    later : ray_number q ≤ ray_number r → (z : Ray) → Member (with_ray qs r) z → compare_rays q z ≡ Less
    later least z m =
        elim (with_ray_either qs r z m) [
          | inl e ↦ ray_before q z
              (let differs = new q (inl refl) in omega (arith, least, differs, ap ray_number e))
          | inr n ↦ before_members compare_rays q qs z up n
        ]

-- ---- how a piece leaves a point

pub same_point : (p q : Point) → is_same_position (position_of p) (position_of q) ≡ true → p ≡ q
same_point p q e = point_is p q
    (zero_is (order_of (position_of p) (position_of q)) (sym (same_is (position_of p) (position_of q)) ∙ e))

pub same_itself : (p : Point) → is_same_position (position_of p) (position_of p) ≡ true
same_itself p = same_is (position_of p) (position_of p) ∙ ap is_zero (order_self (position_of p))

module _ (v : Point) (p : Piece) where
  abbrev pub low : Point
  low = lesser_end p.segment

  abbrev pub high : Point
  high = greater_end p.segment

  abbrev pub begins : Bool
  begins = is_same_position (position_of low) (position_of v)

  abbrev pub arrives : Bool
  arrives = is_same_position (position_of high) (position_of v)

  abbrev pub onward : Ray
  onward = ray_of p (direction_number p.segment)

  abbrev pub back : Ray
  back = ray_of p (direction_number p.segment + 8)

  pub ends_differ : is_same_position (position_of low) (position_of high) ≡ false
  ends_differ = same_is (position_of low) (position_of high)
      ∙ ap is_zero (ends_order (stretch_of p.segment) p.segment.stretch)

  pub leaves : (r : Ray) → ray_at v p ≡ Some r → Leaves v p r
  leaves r =
      cond_both begins (Some onward) (cond arrives (Some back) None)
      (λ (o : Option Ray). o ≡ Some r → Leaves v p r)
      (λ e f. inl (same_point low v e, cc))
      (λ e. cond_both arrives (Some back) None (λ (o : Option Ray). o ≡ Some r → Leaves v p r)
      (λ f g. inr (same_point high v f, cc)) (λ f g. absurd (cc)))

  pub left : (r : Ray) → Leaves v p r → ray_at v p ≡ Some r
  left r (inl h) = cond-true begins (Some onward) (cond arrives (Some back) None)
      (ap (λ (t : Point). is_same_position (position_of low) (position_of t)) (sym h.0) ∙ same_itself low)
      ∙ ap Some (sym h.1)
  left r (inr h) =
      cond-false begins (Some onward) (cond arrives (Some back) None)
      (ap (λ (t : Point). is_same_position (position_of low) (position_of t)) (sym h.0) ∙ ends_differ)
      ∙ cond-true arrives (Some back) None
      (ap (λ (t : Point). is_same_position (position_of high) (position_of t)) (sym h.0)
      ∙ same_itself high)
      ∙ ap Some (sym h.1)

-- ---- of all pieces

module _ (v : Point) where
  -- a ray is among those of the pieces
  abbrev IsRay : List Piece → Ray → Type 0
  IsRay ps r = (p : Piece) × Member ps p × (ray_at v p ≡ Some r)

  old_ray : (qs : List Ray) (o : Option Ray) (z : Ray) → Member qs z → Member (with_ray_if qs o) z
  old_ray qs None z m = m
  old_ray qs (Some r) z m = with_ray_old qs r z m

  new_ray : (qs : List Ray) (o : Option Ray) (z : Ray) → o ≡ Some z → Member (with_ray_if qs o) z
  new_ray qs None z e = absurd (cc)
  new_ray qs (Some r) z e =
      let same : r ≡ z = cc in subst (λ (t : Ray). Member (with_ray qs r) t) same (with_ray_new qs r)

  either_ray : (qs : List Ray) (o : Option Ray) (z : Ray) → Member (with_ray_if qs o) z
      → (o ≡ Some z) ⊎ Member qs z
  either_ray qs None z m = inr m
  either_ray qs (Some r) z m = elim (with_ray_either qs r z m) [ inl e ↦ inl (ap Some e) | inr n ↦ inr n ]

  old : (ps : List Piece) (qs : List Ray) (z : Ray) → Member qs z → Member (fan_from v ps qs) z
  old [] qs z m = m
  old (p ∷ ps) qs z m = old ps (with_ray_if qs (ray_at v p)) z (old_ray qs (ray_at v p) z m)

  new : (ps : List Piece) (qs : List Ray) (p : Piece) (z : Ray) → Member ps p → ray_at v p ≡ Some z
      → Member (fan_from v ps qs) z
  new [] qs p z m e = absurd m
  new (x ∷ ps) qs p z (inl f) e =
      old ps (with_ray_if qs (ray_at v x)) z (new_ray qs (ray_at v x) z (ap (ray_at v) f ∙ e))
  new (x ∷ ps) qs p z (inr m) e = new ps (with_ray_if qs (ray_at v x)) p z m e

  either : (ps : List Piece) (qs : List Ray) (z : Ray) → Member (fan_from v ps qs) z
      → IsRay ps z ⊎ Member qs z
  either [] qs z m = inr m
  either (p ∷ ps) qs z m =
      elim (either ps (with_ray_if qs (ray_at v p)) z m) [
        | inl h ↦ inl (h.0, inr h.1, h.2)
        | inr n ↦ elim (either_ray qs (ray_at v p) z n) [ inl e ↦ inl (p, inl refl, e) | inr k ↦ inr k ]
      ]

  -- no ray of the pieces has the number of one in the list
  abbrev AreNew : List Piece → List Ray → Type 0
  AreNew ps qs = (p : Piece) (r : Ray) → Member ps p → ray_at v p ≡ Some r → IsNew qs r

  step_sorted : (qs : List Ray) (o : Option Ray) → IsStrictlySortedBy compare_rays qs
      → ((r : Ray) → o ≡ Some r → IsNew qs r) → IsStrictlySortedBy compare_rays (with_ray_if qs o)
  step_sorted qs None up new = up
  step_sorted qs (Some r) up new = with_ray_sorted qs r up (new r refl)

  step_new : (p : Piece) (ps : List Piece) (qs : List Ray) → AllMeetAtEnds (p ∷ ps) → AreNew (p ∷ ps) qs
      → AreNew ps (with_ray_if qs (ray_at v p))
  step_new p ps qs all new q r m e z n same =
      elim (either_ray qs (ray_at v p) z n) [
        | inl f ↦ leave_apart v p q
            (all_member (λ (x : Piece). MeetAtEnds (stretch_of p.segment) (stretch_of x.segment)) ps q all.0
            m) z r (leaves v p z f) (leaves v q r e) same
        | inr k ↦ new q r (inr m) e z k same
      ]

  sorted : (ps : List Piece) (qs : List Ray) → AllMeetAtEnds ps → IsStrictlySortedBy compare_rays qs
      → AreNew ps qs → IsStrictlySortedBy compare_rays (fan_from v ps qs)
  sorted [] qs all up new = up
  sorted (p ∷ ps) qs all up new =
      sorted ps (with_ray_if qs (ray_at v p)) all.1
      (step_sorted qs (ray_at v p) up (λ r e. new p r (inl refl) e)) (step_new p ps qs all new)

  from_either : (ps : List Piece) (r : Ray) → IsRay ps r ⊎ Member [] r
      → (p : Piece) × Contains ps p × Leaves v p r
  from_either ps r (inl h) = (h.0, contained ps h.0 h.1, leaves v h.0 r h.2)
  from_either ps r (inr n) = absurd n

  pub fan_is : (ps : List Piece) → AllMeetAtEnds ps → IsFan ps v (fan_of v ps)
  unfolding fan_of
  fan_is ps all = record {
    rays = λ r. (
      λ c. from_either ps r (either ps [] r (member (fan_from v ps []) r c)),
      λ h. contained (fan_from v ps []) r (new ps [] h.0 r (member ps h.0 h.1) (left v h.0 r h.2)),
    );
    order = sorted ps [] all (sorted_none compare_rays) (λ p r m e q n. absurd n);
  }

  pub one_fan : (ps : List Piece) (fan other : List Ray) → IsFan ps v fan → IsFan ps v other → fan ≡ other
  one_fan ps fan other h k =
      one_sorted compare_rays not_itself not_both fan other h.order k.order
      (λ z m. member other z ((k.rays z).1 ((h.rays z).0 (contained fan z m))))
      (λ z m. member fan z ((h.rays z).1 ((k.rays z).0 (contained other z m))))

pub fan_is_one : FanIsOne
fan_is_one pattern v rules =
    let here = fan_is v pattern.pieces rules.meetings in
    (here, λ fan h. one_fan v pattern.pieces fan (fan_of v pattern.pieces) h here)

pub directions_differ : DirectionsDiffer
directions_differ pattern v p q r t rules a b l k e =
    leave_once v pattern.pieces p q r t rules.meetings (member pattern.pieces p a)
    (member pattern.pieces q b) l k e

-- ascending rays from direction low on
few_from : (low : ℕ) (fan : List Ray) → low ≤ 16 → IsStrictlySortedBy compare_rays fan
    → ((r : Ray) → Member fan r → low ≤ ray_number r) → length fan + low ≤ 16
few_from low [] few up from = omega (arith, few)
few_from low (q ∷ qs) few up from =
    let rest =
    few_from (ray_number q + 1) qs (omega (arith, q.dir.in_range)) (sorted_rest compare_rays q qs up)
    (λ r m. omega (arith, before_ray q r (before_members compare_rays q qs r up m))) in
    omega (arith, rest, from q (inl refl))

pub fan_is_small : FanIsSmall
fan_is_small pieces v fan h = omega (arith, few_from 0 fan (omega arith) h.order (λ r m. omega arith))
