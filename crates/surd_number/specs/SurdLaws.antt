-- Surds as values: those of one value are one Surd, and their order is total.
use Rattle.std.specs.Prelude.{ℕ, Result, Ok, Err, IfOk}
use Rattle.std.proofs.Common.{◌≡◌, ◌↔◌, ◌∙◌, [], ◌∷◌, ◌&&◌, Decides, int_eq, nat_eq, ◌*ℤ◌, ap, ap₂, sym, refl}
use Rattle.std.specs.Cmp.{IsTotalOrder, both_tied, unsigned_ties}
use Rattle.std.specs.declared.cmp.Ordering.{Ordering}
use Rattle.std.specs.declared.cmp.Ordering.TheVariants.{Less, Equal, Greater}
use Rattle.std.specs.Ordering.{is_eq, eq_by_cmp, ordering_then, int_cmp, nat_cmp}
use Rattle.std.proofs.lemmas.Bool.{false≢true}
use Rattle.std.proofs.lemmas.Bool.Decides.{Decides-and, Decides-int_eq, Decides-eqb, same_from_decides}
use Rattle.std.proofs.lemmas.Cmp.{on_total, then_total, int_cmp_total, nat_cmp_total}
use Rattle.std.proofs.Math.Bridge.{le_prop}
use mathlib.Core.HLevel.{is_prop→PathP, Π_prop}
use Rattle.surd_number.specs.declared.Surd.{Surd}
use Rattle.surd_number.specs.declared.Wide.{Wide}
use Rattle.surd_number.specs.declared.OutOfRange.{OutOfRange}
use Rattle.surd_number.specs.Number.{Number, power, IsSame, IsCanonical, sum_of, product_of, half_of, unit_of, unit_inverse_of, root_two, half_root}
use Rattle.surd_number.specs.NumberLaws.{IsSame-trans, canonical-same, sum_of-same, half_of-sum_itself, unit_quotient, number_ring_from}
use Rattle.surd_number.specs.RingTool.{◌⊗◌, con, v0, v1}
use Rattle.surd_number.specs.SignLaws.{compare_of-equal, compare_of_total}
use Rattle.surd_number.specs.Stored.{IsStored, IsStoredWide}
use Rattle.surd_number.specs.Value.{number_of, wide_number_of}
use Rattle.surd_number.specs.Exact.{IsExactly}
use Rattle.surd_number.specs.Order.{compare_surds, compare_triples, compare_wides}

canonical_prop : (x : Number) → IsProp (IsCanonical x)
canonical_prop x = Π_prop (λ y. Π_prop (λ same. le_prop))

stored_prop : (x : Number) → IsProp (IsStored x)
stored_prop x = hlevel (canonical_prop x, le_prop)

-- two Surds of one value are one Surd
pub surd_is : (x y : Surd) → IsSame (number_of x) (number_of y) → x ≡ y
surd_is x y same =
    let p : number_of x ≡ number_of y = canonical-same (number_of x) (number_of y) x.stored.0 y.stored.0 same
    in
    λ i. record {
      a = (p i).a;
      b = (p i).b;
      k = (p i).k;
      stored = is_prop→PathP (λ j. IsStored (p j)) (λ j. stored_prop (p j)) x.stored y.stored i;
    }

stored_wide_prop : (x : Number) → IsProp (IsStoredWide x)
stored_wide_prop x = hlevel (canonical_prop x, le_prop)

-- two Wides of one value are one Wide
pub wide_is : (x y : Wide) → IsSame (wide_number_of x) (wide_number_of y) → x ≡ y
wide_is x y same =
    let p : wide_number_of x
    ≡ wide_number_of y = canonical-same (wide_number_of x) (wide_number_of y) x.stored.0 y.stored.0 same
    in
    λ i. record {
      a = (p i).a;
      b = (p i).b;
      k = (p i).k;
      stored = is_prop→PathP (λ j. IsStoredWide (p j)) (λ j. stored_wide_prop (p j)) x.stored y.stored i;
    }

-- ---- order

pub compare_surds_total : IsTotalOrder compare_surds
compare_surds_total = on_total number_of compare_of_total

compare_triples_total : IsTotalOrder compare_triples
compare_triples_total =
    then_total (on_total (λ (x : Number). x.a) int_cmp_total)
    (then_total (on_total (λ (x : Number). x.b) int_cmp_total) (on_total (λ (x : Number). x.k) nat_cmp_total))

pub compare_wides_total : IsTotalOrder compare_wides
compare_wides_total = on_total wide_number_of compare_triples_total

is_eq_says : (o : Ordering) → Decides (is_eq o) (o ≡ Equal)
is_eq_says Less = ((λ e. absurd (false≢true e)), λ e. cc)
is_eq_says Equal = ((λ e. refl), λ e. refl)
is_eq_says Greater = ((λ e. absurd (false≢true e)), λ e. cc)

-- what `==` on the parts of two canonical triples says
parts_say : (x y : Number) → IsCanonical x → IsCanonical y
    → Decides (int_eq x.a y.a && (int_eq x.b y.b && nat_eq x.k y.k)) (IsSame x y)
parts_say x y least_x least_y =
    let d = Decides-and (int_eq x.a y.a) (int_eq x.b y.b && nat_eq x.k y.k) (Decides-int_eq x.a y.a)
    (Decides-and (int_eq x.b y.b) (nat_eq x.k y.k) (Decides-int_eq x.b y.b) (Decides-eqb x.k y.k)) in (
      (λ e. let q = d.0 e in
          (ap₂ (λ m j. m *ℤ power j) q.0 (sym q.1.1), ap₂ (λ m j. m *ℤ power j) q.1.0 (sym q.1.1))),
      λ same. let e = canonical-same x y least_x least_y same
          in d.1 (ap (λ (z : Number). z.a) e, (ap (λ (z : Number). z.b) e, ap (λ (z : Number). z.k) e)),
    )

-- `==` on Surds says that they have one value
pub surd_eq_says : (x y : Surd)
    → Decides (int_eq x.a y.a && (int_eq x.b y.b && nat_eq x.k y.k)) (IsSame (number_of x) (number_of y))
surd_eq_says x y = parts_say (number_of x) (number_of y) x.stored.0 y.stored.0

pub wide_eq_says : (x y : Wide)
    → Decides (int_eq x.a y.a && (int_eq x.b y.b && nat_eq x.k y.k))
    (IsSame (wide_number_of x) (wide_number_of y))
wide_eq_says x y = parts_say (wide_number_of x) (wide_number_of y) x.stored.0 y.stored.0

-- and so does an order that answers Equal
pub surd_eq_is : (x y : Surd)
    → (int_eq x.a y.a && (int_eq x.b y.b && nat_eq x.k y.k)) ≡ eq_by_cmp compare_surds x y
surd_eq_is x y = same_from_decides _ _ (surd_eq_says x y) values
  where
    values : Decides (eq_by_cmp compare_surds x y) (IsSame (number_of x) (number_of y))
    values =
        let d = is_eq_says (compare_surds x y) in
        let tie = compare_of-equal (number_of x) (number_of y) in
        ((λ e. tie.0 (d.0 e)), λ same. d.1 (tie.1 same))

-- `==` on the parts of two triples says that their order ties them
parts_tie : (x y : Number)
    → (int_eq x.a y.a && (int_eq x.b y.b && nat_eq x.k y.k)) ≡ is_eq (compare_triples x y)
parts_tie x y =
    both_tied (int_eq x.a y.a) (int_eq x.b y.b && nat_eq x.k y.k) (int_cmp x.a y.a)
    (ordering_then (int_cmp x.b y.b) (nat_cmp x.k y.k)) refl
    (both_tied (int_eq x.b y.b) (nat_eq x.k y.k) (int_cmp x.b y.b) (nat_cmp x.k y.k) refl
    (unsigned_ties x.k y.k))

pub wide_eq_is : (v w : Wide)
    → (int_eq v.a w.a && (int_eq v.b w.b && nat_eq v.k w.k)) ≡ eq_by_cmp compare_wides v w
wide_eq_is v w = parts_tie (wide_number_of v) (wide_number_of w)

-- Wides are tied exactly where they have one value
pub compare_wides-equal : (v w : Wide)
    → (compare_wides v w ≡ Equal) ↔ IsSame (wide_number_of v) (wide_number_of w)
compare_wides-equal v w =
    let tie = wide_eq_is v w in
    let says = wide_eq_says v w in
    let equal = is_eq_says (compare_wides v w) in
    ((λ e. says.0 (tie ∙ equal.1 e)), λ same. equal.0 (sym tie ∙ says.1 same))

-- an exact product with a unit's inverse is the quotient by the unit
pub exactly_quotient : (i j : ℕ) (x : Number) (r : Result Surd OutOfRange)
    → IsExactly r (product_of x (unit_inverse_of i j))
    → IfOk r (λ q. IsSame (product_of (number_of q) (unit_of i j)) x)
exactly_quotient i j x (Ok q) h = (unit_quotient i j (number_of q) x).1 h
exactly_quotient i j x (Err e) h = tt

-- twice an exact half is the number
pub exactly_half : (x : Number) (r : Result Surd OutOfRange) → IsExactly r (half_of x)
    → IfOk r (λ h. IsSame (sum_of (number_of h) (number_of h)) x)
exactly_half x (Ok h) e =
    IsSame-trans (sum_of (number_of h) (number_of h)) (sum_of (half_of x) (half_of x)) x
    (sum_of-same (number_of h) (number_of h) (half_of x) (half_of x) e e) (half_of-sum_itself x)
exactly_half x (Err f) e = tt

-- a product with sqrt 2 / 2, times sqrt 2, is the number
pub half_root_times_root : (r x : Number) → IsSame r (product_of x half_root)
    → IsSame (product_of r root_two) x
half_root_times_root r x e =
    number_ring_from (r ∷ x ∷ []) v0 (v1 ⊗ con half_root) (con root_two) (v0 ⊗ con root_two) v1 refl e
