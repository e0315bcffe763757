-- Laws of ascending points.
use Rattle.std.proofs.Common.{◌≡◌, Bool, true, ◌⊎◌, inl, inr, List, [], ◌∷◌, refl, sym, ap, subst, ◌∙◌}
use Rattle.std.specs.List.{filter}
use Rattle.std.specs.Ordering.{is_lt}
use Rattle.std.specs.declared.cmp.Ordering.{Ordering}
use Rattle.std.proofs.lemmas.Bool.{and_parts, and_from, cond_both}
use Rattle.surd_number.specs.declared.Sgn.{Sgn}
use Rattle.surd_number.specs.declared.Sgn.TheVariants.{Neg, Zero, Pos}
use Rattle.surd_number.specs.Number.{ordering_of, opposite_sign}
use Rattle.plane_geometry.specs.declared.Point.{Point}
use Rattle.plane_geometry.specs.Position.{position_of, compare_positions}
use Rattle.plane_geometry.specs.Direction.{is_positive, is_negative}
use Rattle.plane_geometry.specs.SideLaws.{order_of, compare_is, order_self, order_turned}
use Rattle.plane_geometry.specs.StretchLaws.{before_is, positive_is, before_then}
use Rattle.plane_geometry.specs.SegmentLaws.{point_is}
use Rattle.line_split.specs.MemberLaws.{Member, filter_member}
use Rattle.line_split.specs.Points.{by_order, with_point, is_rising}

-- Pos where p stands before q
abbrev pub point_order : Point → Point → Sgn
point_order p q = order_of (position_of p) (position_of q)

-- ---- points that ascend

pub rising_rest : (p : Point) (ps : List Point) → is_rising (p ∷ ps) ≡ true → is_rising ps ≡ true
rising_rest p [] up = refl
rising_rest p (q ∷ qs) up =
    (and_parts (is_lt (compare_positions (position_of p) (position_of q))) (is_rising (q ∷ qs)) up).1

pub rising_next : (p q : Point) (qs : List Point) → is_rising (p ∷ q ∷ qs) ≡ true → point_order p q ≡ Pos
rising_next p q qs up =
    positive_is _ (sym (before_is (position_of p) (position_of q))
    ∙ (and_parts (is_lt (compare_positions (position_of p) (position_of q))) (is_rising (q ∷ qs)) up).0)

-- the first stands before each later one
pub rising_later : (p : Point) (ps : List Point) (z : Point) → is_rising (p ∷ ps) ≡ true → Member ps z
    → point_order p z ≡ Pos
rising_later p [] z up m = absurd m
rising_later p (q ∷ qs) z up (inl e) = subst (λ (t : Point). point_order p t ≡ Pos) e (rising_next p q qs up)
rising_later p (q ∷ qs) z up (inr m) =
    before_then (position_of p) (position_of q) (position_of z) (rising_next p q qs up)
    (ap is_negative (rising_later q qs z (rising_rest p (q ∷ qs) up) m))

pub rising_from : (p : Point) (ps : List Point) → ((z : Point) → Member ps z → point_order p z ≡ Pos)
    → is_rising ps ≡ true → is_rising (p ∷ ps) ≡ true
rising_from p [] before up = refl
rising_from p (q ∷ qs) before up =
    and_from _ _ (before_is (position_of p) (position_of q) ∙ ap is_positive (before q (inl refl))) up

pub filter_rising : (test : Point → Bool) (ps : List Point) → is_rising ps ≡ true
    → is_rising (filter test ps) ≡ true
filter_rising test [] up = refl
filter_rising test (p ∷ ps) up =
    let rest = filter_rising test ps (rising_rest p ps up) in
    cond_both (test p) (p ∷ filter test ps) (filter test ps) (λ qs. is_rising qs ≡ true)
    (λ e. rising_from p (filter test ps) (λ z m. rising_later p ps z up (filter_member test ps z m).0) rest)
    (λ e. rest)

-- no point stands before itself, and of two points just one before the other
pub not_before_itself : (p : Point) → point_order p p ≡ Pos → ⊥
not_before_itself p e = let h : Zero ≡ Pos = sym (order_self (position_of p)) ∙ e in cc

pub not_before_each_other : (p q : Point) → point_order p q ≡ Pos → point_order q p ≡ Pos → ⊥
not_before_each_other p q e f =
    let h : Neg ≡ Pos = sym (order_turned (position_of p) (position_of q) ∙ ap opposite_sign e) ∙ f in cc

-- ---- one more point

-- where v goes in a list that begins with p
data Placed (p : Point) (ps : List Point) (v : Point) (all : List Point) : Type 0 where
  first : point_order v p ≡ Pos → v ∷ p ∷ ps ≡ all → Placed p ps v all
  there : p ≡ v → p ∷ ps ≡ all → Placed p ps v all
  later : point_order p v ≡ Pos → p ∷ with_point ps v ≡ all → Placed p ps v all

placed : (p : Point) (ps : List Point) (v : Point) → Placed p ps v (with_point (p ∷ ps) v)
placed p ps v = go (point_order p v) refl
  where
    by : (s : Sgn) → point_order p v ≡ s
        → by_order (ordering_of s) (v ∷ p ∷ ps) (p ∷ ps) (p ∷ with_point ps v) ≡ with_point (p ∷ ps) v
    by s e =
        ap (λ (o : Ordering). by_order o (v ∷ p ∷ ps) (p ∷ ps) (p ∷ with_point ps v))
        (sym (compare_is (position_of v) (position_of p) ∙ ap ordering_of e))

    go : (s : Sgn) → point_order p v ≡ s → Placed p ps v (with_point (p ∷ ps) v)
    go Neg e = first (order_turned (position_of p) (position_of v) ∙ ap opposite_sign e) (by Neg e)
    go Zero e = there (point_is p v e) (by Zero e)
    go Pos e = later e (by Pos e)

pub with_point_new : (ps : List Point) (v : Point) → Member (with_point ps v) v
with_point_new [] v = inl refl
with_point_new (p ∷ ps) v =
    elim (placed p ps v) [
      | first e f ↦ subst (λ xs. Member xs v) f (inl refl)
      | there e f ↦ subst (λ xs. Member xs v) f (inl e)
      | later e f ↦ subst (λ xs. Member xs v) f (inr (with_point_new ps v))
    ]

pub with_point_old : (ps : List Point) (v z : Point) → Member ps z → Member (with_point ps v) z
with_point_old [] v z m = absurd m
with_point_old (p ∷ ps) v z m =
    elim (placed p ps v) [
      | first e f ↦ subst (λ xs. Member xs z) f (inr m)
      | there e f ↦ subst (λ xs. Member xs z) f m
      | later e f ↦
          subst (λ xs. Member xs z) f (elim m [ inl g ↦ inl g | inr n ↦ inr (with_point_old ps v z n) ])
    ]

pub with_point_either : (ps : List Point) (v z : Point) → Member (with_point ps v) z → (v ≡ z) ⊎ Member ps z
with_point_either [] v z m = m
with_point_either (p ∷ ps) v z m =
    elim (placed p ps v) [
      | first e f ↦ subst (λ xs. Member xs z) (sym f) m
      | there e f ↦ inr (subst (λ xs. Member xs z) (sym f) m)
      | later e f ↦ later_either (subst (λ xs. Member xs z) (sym f) m) (with_point_either ps v z)
    ]
  where
    later_either : Member (p ∷ with_point ps v) z → (Member (with_point ps v) z → (v ≡ z) ⊎ Member ps z)
        → (v ≡ z) ⊎ Member (p ∷ ps) z
    later_either (inl e) rest = inr (inl e)
    later_either (inr n) rest = elim (rest n) [ inl e ↦ inl e | inr k ↦ inr (inr k) ]

pub with_point_rising : (ps : List Point) (v : Point) → is_rising ps ≡ true
    → is_rising (with_point ps v) ≡ true
with_point_rising [] v up = refl
with_point_rising (p ∷ ps) v up =
    elim (placed p ps v) [
      | first e f ↦ subst (λ xs. is_rising xs ≡ true) f (rising_from v (p ∷ ps) (before_all e) up)
      | there e f ↦ subst (λ xs. is_rising xs ≡ true) f up
      | later e f ↦
          subst (λ xs. is_rising xs ≡ true) f
          (rising_from p (with_point ps v) (λ z m. after e z (with_point_either ps v z m))
          (with_point_rising ps v (rising_rest p ps up)))
    ]
  where
    before_all : point_order v p ≡ Pos → (z : Point) → Member (p ∷ ps) z → point_order v z ≡ Pos
    before_all e z (inl f) = subst (λ (t : Point). point_order v t ≡ Pos) f e
    before_all e z (inr m) =
        before_then (position_of v) (position_of p) (position_of z) e
        (ap is_negative (rising_later p ps z up m))

    after : point_order p v ≡ Pos → (z : Point) → (v ≡ z) ⊎ Member ps z → point_order p z ≡ Pos
    after e z (inl f) = subst (λ (t : Point). point_order p t ≡ Pos) f e
    after e z (inr m) = rising_later p ps z up m
