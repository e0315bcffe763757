-- What edges and limits keep, and that what is computed with them fits.
use Rattle.std.proofs.Common.{◌≡◌, ◌↔◌, ℕ, zero, suc, ◌+◌, ◌*◌, ◌^◌, ◌≤◌, true, [], ◌∷◌, pos, refl, sym, subst, ◌∙◌, arith, lit≤}
use Rattle.std.proofs.Math.Logic.{∥∥₁_elim}
use Rattle.std.proofs.lemmas.Bool.{false≢true}
use lib.IntN.{ℤ_set}
use Rattle.surd_number.specs.declared.Sgn.{Sgn}
use Rattle.surd_number.specs.declared.Sgn.TheVariants.{Neg, Zero, Pos}
use Rattle.surd_number.specs.Number.{Number, IsSame, IsCanonical, IsWithin, IsLess, whole, difference_of, product_of, sign_of, tangent, unit_of, unit_inverse_of, FitsOver}
use Rattle.surd_number.specs.Stored.{IsWide}
use Rattle.surd_number.specs.Value.{wide_number_of}
use Rattle.surd_number.specs.RingTool.{◌⊗◌, con, v0, v1}
use Rattle.surd_number.specs.NumberLaws.{number_ring_from, product_of-same, IsSame-refl, IsSame-trans}
use Rattle.surd_number.specs.SignLaws.{sign_of-same}
use Rattle.surd_number.specs.FitsLaws.{fits_prop, fits_same, fits_more, fits_finer, fits_difference, fits_times, fits_unit, fits_tangent, within_from_fits, wide_from_fits}
use Rattle.plane_geometry.specs.Direction.{is_negative}
use Rattle.open_region.specs.declared.edge.Edge.{Edge}
use Rattle.open_region.specs.declared.interval.Limit.{Limit}
use Rattle.open_region.specs.Stored.{IsEdge, IsLimit}
use Rattle.open_region.specs.EdgeView.{line_offset_of, limit_of}

-- ---- what is kept

same_prop : (x y : Number) → IsProp (IsSame x y)
same_prop x y = hlevel ℤ_set

pub edge_fits : (e : Edge) → FitsOver (6 * 2 ^ 52) 16 (line_offset_of e)
edge_fits e = ∥∥₁_elim e.sound (fits_prop (6 * 2 ^ 52) 16 (line_offset_of e))
    (λ (h : IsEdge (wide_number_of e.offset) (wide_number_of e.scaled)). h.fits)

edge_product : (e : Edge) → IsSame (wide_number_of e.scaled) (product_of (line_offset_of e) tangent)
edge_product e = ∥∥₁_elim e.sound
    (same_prop (wide_number_of e.scaled) (product_of (line_offset_of e) tangent))
    (λ (h : IsEdge (wide_number_of e.offset) (wide_number_of e.scaled)). h.product)

pub scaled_fits : (e : Edge) → FitsOver (18 * 2 ^ 52) 16 (wide_number_of e.scaled)
scaled_fits e = fits_same (18 * 2 ^ 52) 16 (product_of (line_offset_of e) tangent) (wide_number_of e.scaled)
    (edge_product e) (fits_tangent (6 * 2 ^ 52) 16 (line_offset_of e) (edge_fits e))

pub offset_fits : (e : Edge) → FitsOver (18 * 2 ^ 52) 16 (line_offset_of e)
offset_fits e = fits_more (6 * 2 ^ 52) (18 * 2 ^ 52) 16 (line_offset_of e) (lit≤ tt) (edge_fits e)

-- small enough to be compared
pub compared_fits : (x : Number) → FitsOver (18 * 2 ^ 52) 16 x → FitsOver (2 ^ 62) 19 x
compared_fits x f = fits_more (18 * 2 ^ 52 * 2 ^ 3) (2 ^ 62) 19 x (lit≤ tt)
    (fits_finer (18 * 2 ^ 52) 16 3 x f)

pub limit_fits : (l : Limit) → FitsOver (2 ^ 62) 19 (limit_of l)
limit_fits l = ∥∥₁_elim l.fits (fits_prop (2 ^ 62) 19 (limit_of l))
    (λ (h : IsLimit (wide_number_of l.value)). h)

-- the product with sqrt 2 - 1 that an edge keeps
pub scaled_is : (e : Edge) (u : Number) → u ≡ tangent
    → IsSame (wide_number_of e.scaled) (product_of u (line_offset_of e))
scaled_is e u at =
    subst (λ (t : Number). IsSame (wide_number_of e.scaled) (product_of t (line_offset_of e))) (sym at)
    (number_ring_from (wide_number_of e.scaled ∷ line_offset_of e ∷ []) v0 (v1 ⊗ con tangent)
    (con (whole (pos 1))) v0 (con tangent ⊗ v1) refl (edge_product e))

pub offset_is : (e : Edge) (u : Number) → u ≡ whole (pos 1)
    → IsSame (line_offset_of e) (product_of u (line_offset_of e))
offset_is e u at =
    subst (λ (t : Number). IsSame (line_offset_of e) (product_of t (line_offset_of e))) (sym at)
    (number_ring_from (line_offset_of e ∷ []) v0 v0 (con (whole (pos 0))) v0 (con (whole (pos 1)) ⊗ v0) refl
    (IsSame-refl (line_offset_of e)))

pub wide_scaled : (w : Number) → FitsOver (6 * 2 ^ 52) 16 w → IsWide (product_of w (unit_of 1 0))
wide_scaled w f = wide_from_fits (8 * (6 * 2 ^ 52)) 16 (product_of w (unit_of 1 0)) (lit≤ tt) (lit≤ tt)
    (fits_unit 1 0 (6 * 2 ^ 52) 16 w (lit≤ tt) (lit≤ tt) f)

-- ---- comparisons

pub wide_difference : (m n : Number) → FitsOver (2 ^ 62) 19 m → FitsOver (2 ^ 62) 19 n
    → IsWide (difference_of m n)
wide_difference m n f g =
    wide_from_fits (2 ^ 62 + 2 ^ 62) 19 (difference_of m n) (lit≤ tt) (lit≤ tt)
    (fits_difference (2 ^ 62) (2 ^ 62) 19 m n f g)

pub sign_told : (r m n : Number) → IsCanonical r → IsSame r (difference_of m n) → FitsOver (2 ^ 62) 19 m
    → FitsOver (2 ^ 62) 19 n → IsWithin 63 20 r
sign_told r m n least e f g =
    within_from_fits (2 ^ 62 + 2 ^ 62) 19 63 20 r least (lit≤ tt) (lit≤ tt)
    (fits_same (2 ^ 62 + 2 ^ 62) 19 (difference_of m n) r e
    (fits_difference (2 ^ 62) (2 ^ 62) 19 m n f g))

negative_told : (s : Sgn) → (is_negative s ≡ true) ↔ (s ≡ Neg)
negative_told Neg = (λ e. refl, λ e. refl)
negative_told Zero = (λ e. absurd (false≢true e), λ e. cc)
negative_told Pos = (λ e. absurd (false≢true e), λ e. cc)

-- the sign of the difference tells which is less
pub less_told : (r m n : Number) (s : Sgn) → s ≡ sign_of r → IsSame r (difference_of m n)
    → (is_negative s ≡ true) ↔ IsLess m n
less_told r m n s at e =
    let there : s ≡ sign_of (difference_of m n) = at ∙ sign_of-same r (difference_of m n) e in
    let h = negative_told s in
    (λ t. sym there ∙ h.0 t, λ less. h.1 (there ∙ less))

-- ---- quotients by units

quotient_fits : (i j most : ℕ) (x : Number) → i ≤ 1 → j ≤ 3 → FitsOver most 16 x
    → FitsOver (24 * most) 19 (product_of x (unit_inverse_of i j))
quotient_fits zero zero most x few few_roots f =
    fits_more (most * 1 * 2 ^ 3) (24 * most) 19 (product_of x (unit_inverse_of 0 0)) (omega arith)
    (fits_finer (most * 1) 16 3 (product_of x (unit_inverse_of 0 0))
    (fits_times most 16 (pos 1) (pos 0) 0 x f))
quotient_fits zero (suc zero) most x few few_roots f =
    fits_more (most * 2 * 2 ^ 2) (24 * most) 19 (product_of x (unit_inverse_of 0 1)) (omega arith)
    (fits_finer (most * 2) 17 2 (product_of x (unit_inverse_of 0 1))
    (fits_times most 16 (pos 0) (pos 1) 1 x f))
quotient_fits zero (suc (suc zero)) most x few few_roots f =
    fits_more (most * 2 * 2 ^ 1) (24 * most) 19 (product_of x (unit_inverse_of 0 2)) (omega arith)
    (fits_finer (most * 2) 18 1 (product_of x (unit_inverse_of 0 2))
    (fits_times most 16 (pos 2) (pos 0) 2 x f))
quotient_fits zero (suc (suc (suc zero))) most x few few_roots f =
    fits_more (most * 4) (24 * most) 19 (product_of x (unit_inverse_of 0 3)) (omega arith)
    (fits_times most 16 (pos 0) (pos 2) 3 x f)
quotient_fits zero (suc (suc (suc (suc j)))) most x few few_roots f = absurd (omega arith)
quotient_fits (suc zero) zero most x few few_roots f =
    fits_more (most * 3 * 2 ^ 3) (24 * most) 19 (product_of x (unit_inverse_of 1 0)) (omega arith)
    (fits_finer (most * 3) 16 3 (product_of x (unit_inverse_of 1 0))
    (fits_times most 16 (pos 1) (pos 1) 0 x f))
quotient_fits (suc zero) (suc zero) most x few few_roots f =
    fits_more (most * 4 * 2 ^ 2) (24 * most) 19 (product_of x (unit_inverse_of 1 1)) (omega arith)
    (fits_finer (most * 4) 17 2 (product_of x (unit_inverse_of 1 1))
    (fits_times most 16 (pos 2) (pos 1) 1 x f))
quotient_fits (suc zero) (suc (suc zero)) most x few few_roots f =
    fits_more (most * 6 * 2 ^ 1) (24 * most) 19 (product_of x (unit_inverse_of 1 2)) (omega arith)
    (fits_finer (most * 6) 18 1 (product_of x (unit_inverse_of 1 2))
    (fits_times most 16 (pos 2) (pos 2) 2 x f))
quotient_fits (suc zero) (suc (suc (suc zero))) most x few few_roots f =
    fits_more (most * 8) (24 * most) 19 (product_of x (unit_inverse_of 1 3)) (omega arith)
    (fits_times most 16 (pos 4) (pos 2) 3 x f)
quotient_fits (suc zero) (suc (suc (suc (suc j)))) most x few few_roots f = absurd (omega arith)
quotient_fits (suc (suc i)) j most x few few_roots f = absurd (omega arith)

abbrev wide_most : ℕ
wide_most = 18 * 2 ^ 52 + 18 * 2 ^ 52

module _ (m n : Number) (f : FitsOver (18 * 2 ^ 52) 16 m) (g : FitsOver (18 * 2 ^ 52) 16 n) where
  pub wide_numerator : IsWide (difference_of m n)
  wide_numerator = wide_from_fits wide_most 16 (difference_of m n) (lit≤ tt) (lit≤ tt)
      (fits_difference (18 * 2 ^ 52) (18 * 2 ^ 52) 16 m n f g)

  numerator_fits : (w : Number) → IsSame w (difference_of m n) → FitsOver wide_most 16 w
  numerator_fits w e =
      fits_same wide_most 16 (difference_of m n) w e (fits_difference (18 * 2 ^ 52) (18 * 2 ^ 52) 16 m n f g)

  pub wide_quotient : (w : Number) (i j : ℕ) → i ≤ 1 → j ≤ 3 → IsSame w (difference_of m n)
      → IsWide (product_of w (unit_inverse_of i j))
  wide_quotient w i j few few_roots e =
      wide_from_fits (24 * wide_most) 19 (product_of w (unit_inverse_of i j)) (lit≤ tt) (lit≤ tt)
      (quotient_fits i j wide_most w few few_roots (numerator_fits w e))

  pub quotient_is_limit : (r w : Number) (i j : ℕ) → i ≤ 1 → j ≤ 3 → IsSame w (difference_of m n)
      → IsSame r (product_of w (unit_inverse_of i j)) → IsLimit r
  quotient_is_limit r w i j few few_roots e h =
      fits_more (24 * wide_most) (2 ^ 62) 19 r (lit≤ tt)
      (fits_same (24 * wide_most) 19 (product_of w (unit_inverse_of i j)) r h
      (quotient_fits i j wide_most w few few_roots (numerator_fits w e)))

pub quotient_is : (m n r w : Number) (i j : ℕ) → IsSame w (difference_of m n)
    → IsSame r (product_of w (unit_inverse_of i j))
    → IsSame r (product_of (difference_of m n) (unit_inverse_of i j))
quotient_is m n r w i j e h =
    IsSame-trans r (product_of w (unit_inverse_of i j))
    (product_of (difference_of m n) (unit_inverse_of i j)) h
    (product_of-same w (unit_inverse_of i j) (difference_of m n) (unit_inverse_of i j) e
    (IsSame-refl (unit_inverse_of i j)))
