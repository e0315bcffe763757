-- Bounds on a number's numerators over a chosen power of two: how they grow under sums and products with units, and
-- that within a Wide's limits they say that some Wide has the number.
use Rattle.std.proofs.Common.{◌≡◌, [], ◌∷◌, ℕ, zero, suc, ◌+◌, ◌-◌, ◌*◌, ◌^◌, ◌≤◌, ℤ, pos, negsuc, neg_ℤ, unsigned_abs, ◌+ℤ◌, ◌*ℤ◌, refl, ap, subst, sym, ◌∙◌, arith, lit<, lit≤, add-zero, pow-add}
use Rattle.std.proofs.lemmas.Int.{ints, unsigned_abs-mul}
use Rattle.std.proofs.lemmas.Nat.{mul-le, pow_pos}
use Rattle.std.proofs.Math.Nat.{pow-le-pow_right, le_of_mul-le-mul_right}
use Rattle.std.proofs.Math.Bridge.{le_prop}
use mathlib.Core.HLevel.{is_prop→PathP}
use lib.IntN.{ℤ_set}
use Rattle.surd_number.specs.RingTool.{◌⊕◌, ◌⊗◌, v0, v1, v2}
use Rattle.surd_number.specs.IntRing.{int_ring}
use Rattle.surd_number.specs.NumberLaws.{IsSame-refl, IsSame-sym, IsSame-trans, sum_of-same, negative_of-same, product_of-same, scaled-same, aligned-same}
use Rattle.surd_number.specs.Number.{Number, power, IsSame, IsCanonical, IsWithin, FitsOver, sum_of, negative_of, difference_of, product_of, unit_of, tangent, half_root}
use Rattle.surd_number.specs.Stored.{IsStored, IsStoredWide, IsSurd, IsWide}
use Rattle.surd_number.specs.CanonicalLaws.{unsigned_abs-neg, reduction_of}

same_prop : (x y : Number) → IsProp (IsSame x y)
same_prop x y = hlevel ℤ_set

-- a number has one such form at most
pub fits_prop : (most places : ℕ) (x : Number) → IsProp (FitsOver most places x)
fits_prop most places x f g =
    let form_f : Number = record { a = f.a; b = f.b; k = places } in
    let form_g : Number = record { a = g.a; b = g.b; k = places } in
    let e = aligned-same form_f form_g refl (IsSame-trans form_f x form_g (IsSame-sym x form_f f.same) g.same)
    in
    λ i. record {
      a = e.0 i;
      b = e.1 i;
      same = is_prop→PathP (λ j. IsSame x (record { a = e.0 j; b = e.1 j; k = places }))
          (λ j. same_prop x (record { a = e.0 j; b = e.1 j; k = places })) f.same g.same i;
      a_fits = is_prop→PathP (λ j. unsigned_abs (e.0 j) ≤ most) (λ j. le_prop) f.a_fits g.a_fits i;
      b_fits = is_prop→PathP (λ j. unsigned_abs (e.1 j) ≤ most) (λ j. le_prop) f.b_fits g.b_fits i;
    }

-- ---- the same number, a greater bound, more places

pub fits_same : (most places : ℕ) (x y : Number) → IsSame y x → FitsOver most places x
    → FitsOver most places y
fits_same most places x y same h =
    record {
      a = h.a;
      b = h.b;
      same = IsSame-trans y x (record { a = h.a; b = h.b; k = places }) same h.same;
      a_fits = h.a_fits;
      b_fits = h.b_fits;
    }

pub fits_more : (most more places : ℕ) (x : Number) → most ≤ more → FitsOver most places x
    → FitsOver more places x
fits_more most more places x less h =
    record {
      a = h.a;
      b = h.b;
      same = h.same;
      a_fits = omega (arith, h.a_fits);
      b_fits = omega (arith, h.b_fits);
    }

pub product_bound : (m n : ℤ) (i j : ℕ) → unsigned_abs m ≤ i → unsigned_abs n ≤ j
    → unsigned_abs (m *ℤ n) ≤ i * j
product_bound m n i j h h' = rw (unsigned_abs-mul m n) (mul-le (unsigned_abs m) (unsigned_abs n) i j h h')

pub fits_finer : (most places j : ℕ) (x : Number) → FitsOver most places x
    → FitsOver (most * 2 ^ j) (places + j) x
fits_finer most places j x h =
    let form : Number = record { a = h.a; b = h.b; k = places } in
    record {
      a = h.a *ℤ power j;
      b = h.b *ℤ power j;
      same = IsSame-trans x form (record { a = h.a *ℤ power j; b = h.b *ℤ power j; k = places + j }) h.same
          (IsSame-sym (record { a = h.a *ℤ power j; b = h.b *ℤ power j; k = places + j }) form
          (scaled-same form j));
      a_fits = product_bound h.a (power j) most (2 ^ j) h.a_fits (omega arith);
      b_fits = product_bound h.b (power j) most (2 ^ j) h.b_fits (omega arith);
    }

-- a number within limits
pub fits_from_within : (bits places : ℕ) (x : Number) → IsWithin bits places x
    → FitsOver (2 ^ bits * 2 ^ places) places x
fits_from_within bits places x h =
    let j = places - x.k in
    let own : FitsOver (2 ^ bits) x.k x = record {
      a = x.a;
      b = x.b;
      same = IsSame-refl x;
      a_fits = h.0;
      b_fits = h.1;
    } in
    let here : x.k + j ≡ places = omega (arith, h.2) in
    let P : ℕ → Type 0 = λ k. FitsOver (2 ^ bits * 2 ^ j) k x in
    fits_more (2 ^ bits * 2 ^ j) (2 ^ bits * 2 ^ places) places x
    (mul-le (2 ^ bits) (2 ^ j) (2 ^ bits) (2 ^ places) (omega arith)
    (pow-le-pow_right (lit< tt) (omega arith)))
    (subst P here (fits_finer (2 ^ bits) x.k j x own))

-- ---- sums

pub sum_bound : (m n : ℤ) (i j : ℕ) → unsigned_abs m ≤ i → unsigned_abs n ≤ j → unsigned_abs (m +ℤ n) ≤ i + j
sum_bound m n i j h h' = omega (arith, ints)

sum_aligned : (m n P : ℤ) → (m *ℤ P +ℤ n *ℤ P) *ℤ P ≡ (m +ℤ n) *ℤ (P *ℤ P)
sum_aligned m n P = int_ring (m ∷ n ∷ P ∷ []) ((v0 ⊗ v2 ⊕ v1 ⊗ v2) ⊗ v2) ((v0 ⊕ v1) ⊗ (v2 ⊗ v2)) refl

pub fits_sum : (m n places : ℕ) (x y : Number) → FitsOver m places x → FitsOver n places y
    → FitsOver (m + n) places (sum_of x y)
fits_sum m n places x y h h' =
    let u : Number = record { a = h.a; b = h.b; k = places } in
    let v : Number = record { a = h'.a; b = h'.b; k = places } in
    let w : Number = record { a = h.a +ℤ h'.a; b = h.b +ℤ h'.b; k = places } in
    let aligned : IsSame (sum_of u v) w = simp (pow-add 2)
    (sum_aligned h.a h'.a (power places), sum_aligned h.b h'.b (power places)) in
    record {
      a = h.a +ℤ h'.a;
      b = h.b +ℤ h'.b;
      same = IsSame-trans (sum_of x y) (sum_of u v) w (sum_of-same x y u v h.same h'.same) aligned;
      a_fits = sum_bound h.a h'.a m n h.a_fits h'.a_fits;
      b_fits = sum_bound h.b h'.b m n h.b_fits h'.b_fits;
    }

pub fits_negative : (most places : ℕ) (x : Number) → FitsOver most places x
    → FitsOver most places (negative_of x)
fits_negative most places x h =
    record {
      a = neg_ℤ h.a;
      b = neg_ℤ h.b;
      same = negative_of-same x (record { a = h.a; b = h.b; k = places }) h.same;
      a_fits = rw (unsigned_abs-neg h.a) h.a_fits;
      b_fits = rw (unsigned_abs-neg h.b) h.b_fits;
    }

pub fits_difference : (m n places : ℕ) (x y : Number) → FitsOver m places x → FitsOver n places y
    → FitsOver (m + n) places (difference_of x y)
fits_difference m n places x y h h' = fits_sum m n places x (negative_of y) h (fits_negative n places y h')

-- ---- products

twice_bound : (m : ℤ) (i : ℕ) → unsigned_abs m ≤ i → unsigned_abs (pos 2 *ℤ m) ≤ 2 * i
twice_bound m i h = product_bound (pos 2) m 2 i (omega arith) h

pub fits_product : (m n places places' : ℕ) (x y : Number) → FitsOver m places x → FitsOver n places' y
    → FitsOver (3 * (m * n)) (places + places') (product_of x y)
fits_product m n places places' x y h h' =
    let u : Number = record { a = h.a; b = h.b; k = places } in
    let v : Number = record { a = h'.a; b = h'.b; k = places' } in
    let both : (p q : ℤ) → unsigned_abs p ≤ m → unsigned_abs q ≤ n
    → unsigned_abs (p *ℤ q) ≤ m * n = λ p q f f'. product_bound p q m n f f' in
    record {
      a = h.a *ℤ h'.a +ℤ pos 2 *ℤ (h.b *ℤ h'.b);
      b = h.a *ℤ h'.b +ℤ h.b *ℤ h'.a;
      same = product_of-same x y u v h.same h'.same;
      a_fits =
          let s = sum_bound (h.a *ℤ h'.a) (pos 2 *ℤ (h.b *ℤ h'.b)) (m * n) (2 * (m * n))
          (both h.a h'.a h.a_fits h'.a_fits)
          (twice_bound (h.b *ℤ h'.b) (m * n) (both h.b h'.b h.b_fits h'.b_fits)) in
          omega arith;
      b_fits =
          let s = sum_bound (h.a *ℤ h'.b) (h.b *ℤ h'.a) (m * n) (m * n) (both h.a h'.b h.a_fits h'.b_fits)
          (both h.b h'.a h.b_fits h'.a_fits) in
          omega arith;
    }

-- a product with the number (c + d * sqrt 2) / 2^k
pub fits_times : (most places : ℕ) (c d : ℤ) (k : ℕ) (x : Number) → FitsOver most places x
    → FitsOver (most * (unsigned_abs c + 2 * unsigned_abs d)) (places + k)
    (product_of x (record { a = c; b = d; k = k }))
fits_times most places c d k x h =
    let u : Number = record { a = h.a; b = h.b; k = places } in
    let v : Number = record { a = c; b = d; k = k } in
    let by_c : (p : ℤ) → unsigned_abs p ≤ most
    → unsigned_abs (p *ℤ c) ≤ most * unsigned_abs c =
    λ p f. product_bound p c most (unsigned_abs c) f (omega arith) in
    let by_d : (p : ℤ) → unsigned_abs p ≤ most
    → unsigned_abs (p *ℤ d) ≤ most * unsigned_abs d =
    λ p f. product_bound p d most (unsigned_abs d) f (omega arith) in
    record {
      a = h.a *ℤ c +ℤ pos 2 *ℤ (h.b *ℤ d);
      b = h.a *ℤ d +ℤ h.b *ℤ c;
      same = product_of-same x v u v h.same (IsSame-refl v);
      a_fits =
          let s = sum_bound (h.a *ℤ c) (pos 2 *ℤ (h.b *ℤ d)) (most * unsigned_abs c)
          (2 * (most * unsigned_abs d)) (by_c h.a h.a_fits)
          (twice_bound (h.b *ℤ d) (most * unsigned_abs d) (by_d h.b h.b_fits)) in
          omega arith;
      b_fits =
          let s = sum_bound (h.a *ℤ d) (h.b *ℤ c) (most * unsigned_abs d) (most * unsigned_abs c)
          (by_d h.a h.a_fits) (by_c h.b h.b_fits) in
          omega arith;
    }

unit_case : (most places n : ℕ) (c d : ℤ) (x : Number) → unsigned_abs c + 2 * unsigned_abs d ≤ n
    → FitsOver most places x → FitsOver (n * most) places (product_of x (record { a = c; b = d; k = 0 }))
unit_case most places n c d x few h =
    let y : Number = product_of x (record { a = c; b = d; k = 0 }) in
    let size = unsigned_abs c + 2 * unsigned_abs d in
    let P : ℕ → Type 0 = λ p. FitsOver (most * size) p y in
    let at_most : most * size ≤ most * n = mul-le most size most n (omega arith) few in
    fits_more (most * size) (n * most) places y (omega arith)
    (subst P (add-zero places) (fits_times most places c d 0 x h))

-- a product with sqrt 2 - 1
pub fits_tangent : (most places : ℕ) (x : Number) → FitsOver most places x
    → FitsOver (3 * most) places (product_of x tangent)
fits_tangent most places x h = unit_case most places 3 (negsuc 0) (pos 1) x (lit≤ tt) h

-- a product with a unit
pub fits_unit : (i j most places : ℕ) (x : Number) → i ≤ 1 → j ≤ 3 → FitsOver most places x
    → FitsOver (8 * most) places (product_of x (unit_of i j))
fits_unit zero zero most places x few few_roots h = unit_case most places 8 (pos 1) (pos 0) x (lit≤ tt) h
fits_unit zero (suc zero) most places x few few_roots h =
    unit_case most places 8 (pos 0) (pos 1) x (lit≤ tt) h
fits_unit zero (suc (suc zero)) most places x few few_roots h =
    unit_case most places 8 (pos 2) (pos 0) x (lit≤ tt) h
fits_unit zero (suc (suc (suc zero))) most places x few few_roots h =
    unit_case most places 8 (pos 0) (pos 2) x (lit≤ tt) h
fits_unit zero (suc (suc (suc (suc j)))) most places x few few_roots h = absurd (omega arith)
fits_unit (suc zero) zero most places x few few_roots h =
    unit_case most places 8 (negsuc 0) (pos 1) x (lit≤ tt) h
fits_unit (suc zero) (suc zero) most places x few few_roots h =
    unit_case most places 8 (pos 2) (negsuc 0) x (lit≤ tt) h
fits_unit (suc zero) (suc (suc zero)) most places x few few_roots h =
    unit_case most places 8 (negsuc 1) (pos 2) x (lit≤ tt) h
fits_unit (suc zero) (suc (suc (suc zero))) most places x few few_roots h =
    unit_case most places 8 (pos 4) (negsuc 1) x (lit≤ tt) h
fits_unit (suc zero) (suc (suc (suc (suc j)))) most places x few few_roots h = absurd (omega arith)
fits_unit (suc (suc i)) j most places x few few_roots h = absurd (omega arith)

-- a product with sqrt 2 / 2
pub fits_half_root : (most places : ℕ) (x : Number) → FitsOver most places x
    → FitsOver (2 * most) (places + 1) (product_of x half_root)
fits_half_root most places x h =
    fits_more (most * 2) (2 * most) (places + 1) (product_of x half_root) (omega arith)
    (fits_times most places (pos 0) (pos 1) 1 x h)

-- ---- the limits

not_greater : (m n : ℤ) (k j most : ℕ) → 2 ^ k ≤ 2 ^ j → m *ℤ power j ≡ n *ℤ power k → unsigned_abs n ≤ most
    → unsigned_abs m ≤ most
not_greater m n k j most less e h =
    let sizes : unsigned_abs m * 2 ^ j ≡ unsigned_abs n * 2 ^ k = sym (unsigned_abs-mul m (power j))
    ∙ ap unsigned_abs e ∙ unsigned_abs-mul n (power k) in
    let bound : unsigned_abs n * 2 ^ k ≤ most * 2 ^ j = mul-le (unsigned_abs n) (2 ^ k) most (2 ^ j) h less in
    le_of_mul-le-mul_right (omega arith) (pow_pos j)

-- the canonical triple of a number with a bound keeps the bound
pub within_from_fits : (most places bits limit : ℕ) (x : Number) → IsCanonical x → most ≤ 2 ^ bits
    → places ≤ limit → FitsOver most places x → IsWithin bits limit x
within_from_fits most places bits limit x least few few_places h =
    let powers : 2 ^ x.k ≤ 2 ^ places = pow-le-pow_right (lit< tt) fewer in (
      not_greater x.a h.a x.k places (2 ^ bits) powers h.same.0 (omega (arith, h.a_fits)),
      not_greater x.b h.b x.k places (2 ^ bits) powers h.same.1 (omega (arith, h.b_fits)),
      omega (arith, fewer),
    )
  where
    form : Number
    form = record { a = h.a; b = h.b; k = places }

    fewer : x.k ≤ places
    fewer = least form (IsSame-sym x form h.same)

pub wide_from_fits : (most places : ℕ) (x : Number) → most ≤ 2 ^ 80 → places ≤ 20 → FitsOver most places x
    → IsWide x
wide_from_fits most places x few few_places h =
    let r = reduction_of (record { a = h.a; b = h.b; k = places }) in (
      r.form,
      (
        r.least,
        (
          omega (arith, r.a_not_greater, h.a_fits),
          omega (arith, r.b_not_greater, h.b_fits),
          omega (arith, r.k_not_greater),
        ),
      ),
      IsSame-trans r.form (record { a = h.a; b = h.b; k = places }) x r.same
          (IsSame-sym x (record { a = h.a; b = h.b; k = places }) h.same),
    )

pub surd_from_fits : (most places : ℕ) (x : Number) → most ≤ 2 ^ 36 → places ≤ 16 → FitsOver most places x
    → IsSurd x
surd_from_fits most places x few few_places h =
    let r = reduction_of (record { a = h.a; b = h.b; k = places }) in (
      r.form,
      (
        r.least,
        (
          omega (arith, r.a_not_greater, h.a_fits),
          omega (arith, r.b_not_greater, h.b_fits),
          omega (arith, r.k_not_greater),
        ),
      ),
      IsSame-trans r.form (record { a = h.a; b = h.b; k = places }) x r.same
          (IsSame-sym x (record { a = h.a; b = h.b; k = places }) h.same),
    )

-- ---- what the two types of stored numbers keep

pub fits_stored : (x : Number) → IsStored x → FitsOver (2 ^ 52) 16 x
fits_stored x h = fits_from_within 36 16 x h.1

pub fits_stored_wide : (x : Number) → IsStoredWide x → FitsOver (2 ^ 100) 20 x
fits_stored_wide x h = fits_from_within 80 20 x h.1
