-- Of ascending points those that cut a piece stand together.
use Rattle.std.proofs.Common.{◌≡◌, ℕ, zero, suc, ◌<◌, ◌≤◌, Bool, true, false, ◌&&◌, cond, List, [], ◌∷◌, length, take, drop, get_or, refl, sym, ap, ◌∙◌, arith}
use Rattle.std.specs.List.{filter}
use Rattle.std.specs.List.Sorted.{IsPartitionedBy, IsPartitionPoint}
use Rattle.std.proofs.lemmas.Bool.{and_parts, false_from_ne_true, both_ways}
use Rattle.surd_number.specs.declared.Sgn.TheVariants.{Pos}
use Rattle.plane_geometry.specs.declared.Point.{Point}
use Rattle.plane_geometry.specs.Position.{position_of}
use Rattle.plane_geometry.specs.Direction.{is_negative, is_positive}
use Rattle.plane_geometry.specs.SegmentView.{stretch_of, lesser_end, greater_end}
use Rattle.plane_geometry.specs.Stretch.{is_between, is_in_line}
use Rattle.plane_geometry.specs.StretchLaws.{before_is, positive_is, before_then}
use Rattle.crease_model.specs.declared.Piece.{Piece}
use Rattle.line_split.specs.Points.{is_rising}
use Rattle.line_split.specs.PointLaws.{point_order, rising_rest, rising_next, not_before_each_other}
use Rattle.line_split.specs.Parts.{inner_points, pieces_between, parts_of}
use Rattle.crease_store.specs.Rising.{comes_before}

-- ---- a test on a front and on the rest

module _ {X : Type 0} (test : X → Bool) where
  left_out : (x : X) (xs : List X) → test x ≡ false → filter test xs ≡ filter test (x ∷ xs)
  left_out x xs e = sym (ap (λ (b : Bool). cond b (x ∷ filter test xs) (filter test xs)) e)

  kept_in : (x : X) (xs ys : List X) → filter test xs ≡ filter test ys → filter test (x ∷ xs) ≡ filter test (x ∷ ys)
  kept_in x xs ys e = ap (λ (l : List X). cond (test x) (x ∷ l) l) e

  -- what is dropped fails
  pub filter_dropped : (xs : List X) (i : ℕ) → ((k : ℕ) (d : X) → k < i → k < length xs → test (get_or xs k d) ≡ false) → filter test (drop i xs) ≡ filter test xs
  filter_dropped [] zero fails = refl
  filter_dropped [] (suc i) fails = refl
  filter_dropped (x ∷ xs) zero fails = refl
  filter_dropped (x ∷ xs) (suc i) fails =
      filter_dropped xs i (λ k d less few. fails (suc k) d (omega (arith, less)) (omega (arith, few))) ∙ left_out x xs (fails 0 x (omega arith) (omega arith))

  none_pass : (xs : List X) → ((k : ℕ) (d : X) → k < length xs → test (get_or xs k d) ≡ false) → [] ≡ filter test xs
  none_pass [] fails = refl
  none_pass (x ∷ xs) fails = none_pass xs (λ k d few. fails (suc k) d (omega (arith, few))) ∙ left_out x xs (fails 0 x (omega arith))

  -- what is behind those taken fails
  pub filter_taken : (xs : List X) (i : ℕ) → ((k : ℕ) (d : X) → i ≤ k → k < length xs → test (get_or xs k d) ≡ false) → filter test (take i xs) ≡ filter test xs
  filter_taken [] zero fails = refl
  filter_taken [] (suc i) fails = refl
  filter_taken (x ∷ xs) zero fails = none_pass (x ∷ xs) (λ k d few. fails k d (omega arith) few)
  filter_taken (x ∷ xs) (suc i) fails =
      kept_in x (take i xs) xs (filter_taken xs i (λ k d more few. fails (suc k) d (omega (arith, more)) (omega (arith, few))))

-- ---- ascending points

before_from : (p q : Point) → point_order p q ≡ Pos → comes_before p q ≡ true
before_from p q e = before_is (position_of p) (position_of q) ∙ ap is_positive e

before_chain : (p q r : Point) → point_order p q ≡ Pos → comes_before q r ≡ true → comes_before p r ≡ true
before_chain p q r e f =
    before_from p r (before_then (position_of p) (position_of q) (position_of r) e (ap is_negative (positive_is _ (sym (before_is (position_of q) (position_of r)) ∙ f))))

pub points_part : (w : Point) (points : List Point) → is_rising points ≡ true → IsPartitionedBy (λ v. comes_before v w) points
points_part w [] up i j d low high e = absurd (omega arith)
points_part w (p ∷ ps) up zero zero d low high e = e
points_part w (p ∷ []) up zero (suc j) d low high e = absurd (omega arith)
points_part w (p ∷ q ∷ qs) up zero (suc j) d low high e =
    before_chain p q w (rising_next p q qs up) (points_part w (q ∷ qs) (rising_rest p (q ∷ qs) up) zero j d (omega arith) (omega arith) e)
points_part w (p ∷ ps) up (suc i) zero d low high e = absurd (omega arith)
points_part w (p ∷ ps) up (suc i) (suc j) d low high e = points_part w ps (rising_rest p ps up) i j d (omega arith) (omega arith) e

rising_dropped : (points : List Point) (i : ℕ) → is_rising points ≡ true → is_rising (drop i points) ≡ true
rising_dropped [] zero up = refl
rising_dropped [] (suc i) up = refl
rising_dropped (p ∷ ps) zero up = up
rising_dropped (p ∷ ps) (suc i) up = rising_dropped ps i (rising_rest p ps up)

pub rest_part : (w : Point) (points : List Point) (i : ℕ) → is_rising points ≡ true → IsPartitionedBy (λ v. comes_before v w) (drop i points)
rest_part w points i up = points_part w (drop i points) (rising_dropped points i up)

-- ---- a piece

abbrev pub IsPlaceOf : Point → List Point → ℕ → Type 0
IsPlaceOf w points i = IsPartitionPoint (λ v. comes_before v w ≡ true) (λ v. comes_before v w ≡ false) points i

module _ (p : Piece) (points rest : List Point) (start end : ℕ) (first : IsPlaceOf (lesser_end p.segment) points start) (behind : rest ≡ drop start points) (last : IsPlaceOf (greater_end p.segment) rest end) where
  abbrev inner : Point → Bool
  inner v = is_between (position_of v) (stretch_of p.segment)

  bounds : (v : Point) → inner v ≡ true → (comes_before (lesser_end p.segment) v ≡ true) × (comes_before v (greater_end p.segment) ≡ true)
  bounds v e =
      let k = and_parts (is_in_line (position_of v) (stretch_of p.segment)) (comes_before (lesser_end p.segment) v && comes_before v (greater_end p.segment)) e in
      and_parts (comes_before (lesser_end p.segment) v) (comes_before v (greater_end p.segment)) k.1

  not_both : (v w : Point) → comes_before v w ≡ true → comes_before w v ≡ true → ⊥
  not_both v w e f =
      let a = positive_is _ (sym (before_is (position_of v) (position_of w)) ∙ e) in
      let b = positive_is _ (sym (before_is (position_of w) (position_of v)) ∙ f) in
      not_before_each_other v w a b

  too_early : (v : Point) → comes_before v (lesser_end p.segment) ≡ true → inner v ≡ false
  too_early v e = false_from_ne_true (inner v) (λ f. not_both v (lesser_end p.segment) e (bounds v f).0)

  too_late : (v : Point) → comes_before v (greater_end p.segment) ≡ false → inner v ≡ false
  too_late v e = false_from_ne_true (inner v) (λ f. both_ways _ e (bounds v f).1)

  same_inner : inner_points (stretch_of p.segment) (take end rest) ≡ inner_points (stretch_of p.segment) points
  same_inner =
      filter_taken inner rest end (λ k d more few. too_late (get_or rest k d) (last.1 k d more few))
      ∙ ap (filter inner) behind
      ∙ filter_dropped inner points start (λ k d less few. too_early (get_or points k d) (first.0 k d (omega arith) less))

  pub own_cuts_cut : parts_of p (take end rest) ≡ parts_of p points
  unfolding parts_of
  own_cuts_cut = ap (λ (l : List Point). pieces_between p.kind (lesser_end p.segment) l (greater_end p.segment)) same_inner
