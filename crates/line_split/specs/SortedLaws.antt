-- Lists in which each element stands before all later ones, and points sorted, each once.
use Rattle.std.proofs.Common.{◌≡◌, Bool, true, ◌&&◌, inl, inr, List, [], ◌∷◌, ◌++◌, refl, sym, ap, ap₂, subst, ◌∙◌}
use Rattle.std.specs.Prelude.{Contains}
use Rattle.std.specs.List.{dedup}
use Rattle.std.specs.List.Retain.{IsFiltered, DiffersFromLast}
use Rattle.std.specs.List.Sorted.{IsSorted, IsPermutation, IsStrictlySortedBy}
use Rattle.std.specs.Cmp.{IsTotalOrder, IsEquivalence}
use Rattle.std.specs.Ordering.{ordering_then, is_eq, is_lt}
use Rattle.std.specs.declared.cmp.Ordering.{Ordering}
use Rattle.std.specs.declared.cmp.Ordering.TheVariants.{Less, Equal, Greater}
use Rattle.std.proofs.lemmas.Bool.{false≢true}
use Rattle.std.proofs.lemmas.Cmp.{on_total, then_total, eq_by_cmp_equiv}
use Rattle.std.proofs.lemmas.List.Filters.{dedup_is}
use Rattle.std.proofs.lemmas.List.Kept.{Contains-dedup, Contains-from_dedup, IsStrictlySortedBy-dedup}
use Rattle.std.proofs.lemmas.List.Sorted.{Contains-permutation, IsPermutation-sym}
use Rattle.surd_number.specs.declared.Sgn.TheVariants.{Pos}
use Rattle.surd_number.specs.Number.{compare_of}
use Rattle.surd_number.specs.SurdLaws.{surd_eq_is, compare_surds_total}
use Rattle.surd_number.specs.Value.{number_of}
use Rattle.plane_geometry.specs.declared.Point.{Point}
use Rattle.plane_geometry.specs.Position.{position_of, compare_points}
use Rattle.plane_geometry.specs.Direction.{is_positive}
use Rattle.plane_geometry.specs.SideLaws.{order_of}
use Rattle.plane_geometry.specs.StretchLaws.{before_is, same_is, positive_is, zero_is}
use Rattle.plane_geometry.specs.SegmentLaws.{point_is}
use Rattle.line_split.specs.MemberLaws.{Member, member, contained, all_member, all_from_members, member_either}
use Rattle.line_split.specs.Points.{equal_points, is_rising}
use Rattle.line_split.specs.PointLaws.{point_order, rising_rest, rising_later, not_before_itself, not_before_each_other}

-- ---- ascending lists

module _ {X : Type 0} (compare : X → X → Ordering) where
  pub before_members : (x : X) (xs : List X) (z : X) → IsStrictlySortedBy compare (x ∷ xs) → Member xs z
      → compare x z ≡ Less
  unfolding IsStrictlySortedBy
  before_members x xs z up m = all_member (λ y. compare x y ≡ Less) xs z up.0 m

  pub sorted_cons : (x : X) (xs : List X) → ((z : X) → Member xs z → compare x z ≡ Less)
      → IsStrictlySortedBy compare xs → IsStrictlySortedBy compare (x ∷ xs)
  unfolding IsStrictlySortedBy
  sorted_cons x xs before up = (all_from_members (λ y. compare x y ≡ Less) xs before, up)

  pub sorted_rest : (x : X) (xs : List X) → IsStrictlySortedBy compare (x ∷ xs)
      → IsStrictlySortedBy compare xs
  unfolding IsStrictlySortedBy
  sorted_rest x xs up = up.1

  pub sorted_none : IsStrictlySortedBy compare []
  unfolding IsStrictlySortedBy
  sorted_none = tt

  pub sorted_single : (x : X) → IsStrictlySortedBy compare (x ∷ [])
  sorted_single x = sorted_cons x [] (λ z m. absurd m) sorted_none

  pub sorted_joined : (xs ys : List X) → IsStrictlySortedBy compare xs → IsStrictlySortedBy compare ys
      → ((x y : X) → Member xs x → Member ys y → compare x y ≡ Less) → IsStrictlySortedBy compare (xs ++ ys)
  sorted_joined [] ys up up' before = up'
  sorted_joined (x ∷ xs) ys up up' before =
      sorted_cons x (xs ++ ys)
      (λ z m. elim (member_either xs ys z m)
      [ inl n ↦ before_members x xs z up n | inr n ↦ before x z (inl refl) n ])
      (sorted_joined xs ys (sorted_rest x xs up) up' (λ y z m n. before y z (inr m) n))

  -- ascending lists with the same elements are one list
  module _ (not_itself : (x : X) → compare x x ≡ Less → ⊥)
      (not_both : (x y : X) → compare x y ≡ Less → compare y x ≡ Less → ⊥) where
    abbrev Has : List X → List X → Type 0
    Has xs ys = (z : X) → Member ys z → Member xs z

    same_first : (x y : X) (xs ys : List X) → IsStrictlySortedBy compare (x ∷ xs)
        → IsStrictlySortedBy compare (y ∷ ys) → Member (y ∷ ys) x → Member (x ∷ xs) y → x ≡ y
    same_first x y xs ys up up' (inl e) n = sym e
    same_first x y xs ys up up' (inr m) (inl e) = e
    same_first x y xs ys up up' (inr m) (inr n) =
        absurd (not_both x y (before_members x xs y up n) (before_members y ys x up' m))

    later : (x y z : X) (xs ys : List X) → IsStrictlySortedBy compare (x ∷ xs) → x ≡ y → Member xs z
        → Member (y ∷ ys) z → Member ys z
    later x y z xs ys up same m (inl e) =
        absurd (not_itself x (subst (λ (t : X). compare x t ≡ Less) (sym (same ∙ e))
        (before_members x xs z up m)))
    later x y z xs ys up same m (inr n) = n

    pub one_sorted : (xs ys : List X) → IsStrictlySortedBy compare xs → IsStrictlySortedBy compare ys
        → Has ys xs → Has xs ys → xs ≡ ys
    one_sorted [] [] up up' to from = refl
    one_sorted [] (y ∷ ys) up up' to from = absurd (from y (inl refl))
    one_sorted (x ∷ xs) [] up up' to from = absurd (to x (inl refl))
    one_sorted (x ∷ xs) (y ∷ ys) up up' to from =
        let same : x ≡ y = same_first x y xs ys up up' (to x (inl refl)) (from y (inl refl)) in
        ap₂ ◌∷◌ same
        (one_sorted xs ys (sorted_rest x xs up) (sorted_rest y ys up')
        (λ z m. later x y z xs ys up same m (to z (inr m)))
        (λ z m. later y x z ys xs up' (sym same) m (from z (inr m))))

-- ---- the order of points, and their equality

both_equal : (o p : Ordering) → (is_eq o && is_eq p) ≡ is_eq (ordering_then o p)
both_equal Less p = refl
both_equal Equal p = refl
both_equal Greater p = refl

-- equal points have equal triples
pub equal_is : (p q : Point) → equal_points p q ≡ is_eq (compare_points p q)
equal_is p q =
    ap₂ ◌&&◌ (surd_eq_is p.x q.x) (surd_eq_is p.y q.y)
    ∙ both_equal (compare_of (number_of p.x) (number_of q.x)) (compare_of (number_of p.y) (number_of q.y))

points_total : IsTotalOrder compare_points
points_total = then_total (on_total (λ (p : Point). p.x) compare_surds_total)
    (on_total (λ (p : Point). p.y) compare_surds_total)

equal_equiv : IsEquivalence equal_points
equal_equiv = subst (λ (E : Point → Point → Bool). IsEquivalence E) (λ i p q. sym (equal_is p q) i)
    (eq_by_cmp_equiv points_total)

pub equal_point : (p q : Point) → equal_points p q ≡ true → p ≡ q
equal_point p q e = point_is p q
    (zero_is (order_of (position_of p) (position_of q))
    (sym (same_is (position_of p) (position_of q)) ∙ sym (equal_is p q) ∙ e))

order_before : (p q : Point) → compare_points p q ≡ Less → point_order p q ≡ Pos
order_before p q e =
    positive_is (point_order p q) (sym (before_is (position_of p) (position_of q)) ∙ ap is_lt e)

before_order : (p q : Point) → point_order p q ≡ Pos → compare_points p q ≡ Less
before_order p q e =
    less_is (compare_points p q) (before_is (position_of p) (position_of q) ∙ ap is_positive e)
  where
    less_is : (o : Ordering) → is_lt o ≡ true → o ≡ Less
    less_is Less f = refl
    less_is Equal f = absurd (false≢true f)
    less_is Greater f = absurd (false≢true f)

rising_sorted : (vs : List Point) → is_rising vs ≡ true → IsStrictlySortedBy compare_points vs
rising_sorted [] up = sorted_none compare_points
rising_sorted (v ∷ vs) up =
    sorted_cons compare_points v vs (λ z m. before_order v z (rising_later v vs z up m))
    (rising_sorted vs (rising_rest v vs up))

-- points that were sorted, and kept where they differ from the one before
module _ (points sorted final : List Point) (moved : IsPermutation points sorted)
    (up : IsSorted compare_points sorted)
    (kept : IsFiltered (DiffersFromLast equal_points) [] sorted final) where
  final_is : final ≡ dedup equal_points sorted
  final_is = dedup_is equal_points sorted final kept

  final_sorted : IsStrictlySortedBy compare_points final
  final_sorted =
      subst (λ vs. IsStrictlySortedBy compare_points vs) (sym final_is)
      (IsStrictlySortedBy-dedup points_total equal_is sorted up)

  from_final : (z : Point) → Member final z → Member points z
  from_final z m =
      let there = Contains-from_dedup equal_points sorted z
      (subst (λ vs. Contains vs z) final_is (contained final z m)) in
      member points z (Contains-permutation sorted points z (IsPermutation-sym points sorted moved) there)

  to_final : (z : Point) → Member points z → Member final z
  to_final z m =
      let there = Contains-permutation points sorted z moved (contained points z m) in
      member final z (subst (λ vs. Contains vs z) (sym final_is)
      (Contains-dedup equal_equiv equal_point sorted z there))

  -- they are the ascending list of the same points
  pub sorted_once : (all : List Point) → is_rising all ≡ true → ((z : Point) → Member points z → Member all z)
      → ((z : Point) → Member all z → Member points z) → final ≡ all
  sorted_once all rises to from =
      one_sorted compare_points (λ p e. not_before_itself p (order_before p p e))
      (λ p q e f. not_before_each_other p q (order_before p q e) (order_before q p f))
      final all final_sorted (rising_sorted all rises) (λ z m. to z (from_final z m))
      (λ z m. to_final z (from z m))
