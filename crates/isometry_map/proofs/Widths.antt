-- What is computed with Wides fits: bounds of numerators over powers of two.
use Rattle.std.proofs.Common.{ℕ, zero, suc, ◌+◌, ◌*◌, ◌^◌, ◌%◌, ◌<◌, ◌≤◌, Bool, true, false, cond, [], ◌∷◌, ℤ, pos, unsigned_abs, refl, subst, arith, lit≤, add-zero, get_or}
use Rattle.std.proofs.lemmas.Nat.{mul-le}
use Rattle.surd_number.specs.Number.{Number, IsSame, sum_of, difference_of, product_of, negative_of, half_root, FitsOver}
use Rattle.surd_number.specs.Stored.{IsWide}
use Rattle.surd_number.specs.RingTool.{◌⊗◌, ⊖◌, v0, v1}
use Rattle.surd_number.specs.NumberLaws.{number_ring}
use Rattle.surd_number.specs.FitsLaws.{fits_same, fits_more, fits_finer, fits_sum, fits_difference, fits_negative, fits_times, fits_half_root, wide_from_fits}
use Rattle.plane_geometry.specs.Position.{Position, vector_of}
use Rattle.plane_geometry.specs.Direction.{one, nought}
use Rattle.plane_geometry.specs.Multiple.{IsSameVector}
use Rattle.isometry_map.specs.declared.wide_points.Entry.{Entry}
use Rattle.isometry_map.specs.declared.wide_points.Entry.TheVariants.{Nought, One, HalfRoot, MinusOne, MinusHalfRoot}
use Rattle.isometry_map.specs.Entry.{entry_number}
use Rattle.isometry_map.specs.Linear.{is_reflection}
use Rattle.isometry_map.specs.Matrix.{Matrix, cosines, cosine, sine, rotation_matrix, reflection_matrix, matrix_of, image_of}

-- ---- sums and differences over 2^18

pub wide_difference : (x y : Number) → FitsOver (2 ^ 76) 18 x → FitsOver (2 ^ 76) 18 y
    → IsWide (difference_of x y)
wide_difference x y f g =
    wide_from_fits (2 ^ 76 + 2 ^ 76) 18 (difference_of x y) (lit≤ tt) (lit≤ tt)
    (fits_difference (2 ^ 76) (2 ^ 76) 18 x y f g)

pub wide_sum : (x y : Number) → FitsOver (2 ^ 76) 18 x → FitsOver (2 ^ 76) 18 y → IsWide (sum_of x y)
wide_sum x y f g = wide_from_fits (2 ^ 76 + 2 ^ 76) 18 (sum_of x y) (lit≤ tt) (lit≤ tt)
    (fits_sum (2 ^ 76) (2 ^ 76) 18 x y f g)

pub nought_fits : (most : ℕ) (x : Number) → IsSame x nought → FitsOver most 18 x
nought_fits most x e =
    fits_same most 18 nought x e (record {
      a = pos 0;
      b = pos 0;
      same = (refl, refl);
      a_fits = omega arith;
      b_fits = omega arith;
    })

pub wide_half_root : (w : Number) → FitsOver (2 ^ 70) 17 w → IsWide (product_of w half_root)
wide_half_root w f =
    wide_from_fits (2 * 2 ^ 70) 18 (product_of w half_root) (lit≤ tt) (lit≤ tt)
    (fits_half_root (2 ^ 70) 17 w f)

pub more_places : (w : Number) → FitsOver (2 ^ 70) 17 w → FitsOver (2 ^ 72) 18 w
more_places w f = fits_more (2 ^ 70 * 2 ^ 1) (2 ^ 72) 18 w (lit≤ tt) (fits_finer (2 ^ 70) 17 1 w f)

pub root_fits : (r w : Number) → IsSame r (product_of w half_root) → FitsOver (2 ^ 70) 17 w
    → FitsOver (2 ^ 72) 18 r
root_fits r w e f =
    fits_more (2 * 2 ^ 70) (2 ^ 72) 18 r (lit≤ tt)
    (fits_same (2 * 2 ^ 70) 18 (product_of w half_root) r e (fits_half_root (2 ^ 70) 17 w f))

-- ---- products with entries of matrices

-- a number with which a product is at most twice as great over one more place
pub record IsEntry (u : Number) : Type 0 where
  pub bound : (most places : ℕ) (w : Number) → FitsOver most places w
      → FitsOver (2 * most) (places + 1) (product_of u w)

turned_product : (u w : Number) → IsSame (product_of u w) (product_of w u)
turned_product u w = number_ring (u ∷ w ∷ []) (v0 ⊗ v1) (v1 ⊗ v0) refl

whole_entry : (c : ℤ) → unsigned_abs c ≤ 1 → IsEntry (record { a = c; b = pos 0; k = 0 })
whole_entry c small = record { bound = bound }
  where
    bound : (most places : ℕ) (w : Number) → FitsOver most places w
        → FitsOver (2 * most) (places + 1) (product_of (record { a = c; b = pos 0; k = 0 }) w)
    bound most places w f =
        let u : Number = record { a = c; b = pos 0; k = 0 } in
        let size = unsigned_abs c + 2 * unsigned_abs (pos 0) in
        let P : ℕ → Type 0 = λ p. FitsOver (most * 2 ^ 1 * size) p (product_of w u) in
        let at_most : most * 2 ^ 1 * size ≤ most * 2 ^ 1 * 1 = mul-le (most * 2 ^ 1) size (most * 2 ^ 1) 1
        (omega arith) (omega arith) in
        fits_same (2 * most) (places + 1) (product_of w u) (product_of u w) (turned_product u w)
        (fits_more (most * 2 ^ 1 * size) (2 * most) (places + 1) (product_of w u) (omega arith)
        (subst P (add-zero (places + 1))
        (fits_times (most * 2 ^ 1) (places + 1) c (pos 0) 0 w (fits_finer most places 1 w f))))

root_entry : IsEntry half_root
root_entry = record {
  bound = λ most places w f. fits_same (2 * most) (places + 1) (product_of w half_root)
      (product_of half_root w) (turned_product half_root w) (fits_half_root most places w f);
}

negative_entry : (u : Number) → IsEntry u → IsEntry (negative_of u)
negative_entry u h = record {
  bound = λ most places w f.
      fits_same (2 * most) (places + 1) (negative_of (product_of u w)) (product_of (negative_of u) w)
      (number_ring (u ∷ w ∷ []) ((⊖ v0) ⊗ v1) (⊖ (v0 ⊗ v1)) refl)
      (fits_negative (2 * most) (places + 1) (product_of u w) (h.bound most places w f));
}

entry_at : (k : ℕ) → k < 8 → IsEntry (get_or cosines k nought)
entry_at zero few = whole_entry (pos 1) (lit≤ tt)
entry_at (suc zero) few = root_entry
entry_at (suc (suc zero)) few = whole_entry (pos 0) (lit≤ tt)
entry_at (suc (suc (suc zero))) few = negative_entry half_root root_entry
entry_at (suc (suc (suc (suc zero)))) few = negative_entry one (whole_entry (pos 1) (lit≤ tt))
entry_at (suc (suc (suc (suc (suc zero))))) few = negative_entry half_root root_entry
entry_at (suc (suc (suc (suc (suc (suc zero)))))) few = whole_entry (pos 0) (lit≤ tt)
entry_at (suc (suc (suc (suc (suc (suc (suc zero))))))) few = root_entry
entry_at (suc (suc (suc (suc (suc (suc (suc (suc k)))))))) few = absurd (omega arith)

pub cosine_entry : (n : ℕ) → IsEntry (cosine n)
cosine_entry n = entry_at (n % 8) (omega arith)

pub record HasEntries (m : Matrix) : Type 0 where
  pub xx : IsEntry m.xx
  pub xy : IsEntry m.xy
  pub yx : IsEntry m.yx
  pub yy : IsEntry m.yy

pub matrix_entries : (n : ℕ) → HasEntries (matrix_of n)
matrix_entries n = go (is_reflection n)
  where
    go : (b : Bool) → HasEntries (cond b (reflection_matrix n) (rotation_matrix n))
    go true = record {
      xx = cosine_entry n;
      xy = cosine_entry (n + 6);
      yx = cosine_entry (n + 6);
      yy = negative_entry (cosine n) (cosine_entry n);
    }
    go false = record {
      xx = cosine_entry n;
      xy = negative_entry (sine n) (cosine_entry (n + 6));
      yx = cosine_entry (n + 6);
      yy = cosine_entry n;
    }

-- ---- points

-- over 2^places, both coordinates have whole numerators of at most `most` in absolute value
abbrev pub FitWithin : ℕ → ℕ → Position → Type 0
FitWithin most places v = FitsOver most places v.x × FitsOver most places v.y

pub image_fits : (n most places : ℕ) (v : Position) → FitWithin most places v
    → FitWithin (4 * most) (places + 1) (image_of (matrix_of n) v)
image_fits n most places v f =
    let m = matrix_of n in
    let e = matrix_entries n in
    let sum : (a b : Number) → IsEntry a → IsEntry b
    → FitsOver (4 * most) (places + 1) (sum_of (product_of a v.x) (product_of b v.y)) =
    λ a b h g. fits_more (2 * most + 2 * most) (4 * most) (places + 1)
    (sum_of (product_of a v.x) (product_of b v.y)) (omega arith)
    (fits_sum (2 * most) (2 * most) (places + 1) (product_of a v.x) (product_of b v.y)
    (h.bound most places v.x f.0) (g.bound most places v.y f.1)) in
    (sum m.xx m.xy e.xx e.xy, sum m.yx m.yy e.yx e.yy)

pub point_more : (most more places : ℕ) (v : Position) → most ≤ more → FitWithin most places v
    → FitWithin more places v
point_more most more places v less f =
    (fits_more most more places v.x less f.0, fits_more most more places v.y less f.1)

pub point_finer : (most places j : ℕ) (v : Position) → FitWithin most places v
    → FitWithin (most * 2 ^ j) (places + j) v
point_finer most places j v f = (fits_finer most places j v.x f.0, fits_finer most places j v.y f.1)

pub point_same : (most places : ℕ) (u v : Position) → IsSameVector u v → FitWithin most places v
    → FitWithin most places u
point_same most places u v e f =
    (fits_same most places v.x u.x e.0 f.0, fits_same most places v.y u.y e.1 f.1)

pub vector_fits : (m n places : ℕ) (p q : Position) → FitWithin m places p → FitWithin n places q
    → FitWithin (n + m) places (vector_of p q)
vector_fits m n places p q f g =
    (fits_difference n m places q.x p.x g.0 f.0, fits_difference n m places q.y p.y g.1 f.1)

-- ---- images, by what the code computes them of

entry_is : (entry : Entry) → IsEntry (entry_number entry)
entry_is Nought = whole_entry (pos 0) (lit≤ tt)
entry_is One = whole_entry (pos 1) (lit≤ tt)
entry_is HalfRoot = root_entry
entry_is MinusOne = negative_entry one (whole_entry (pos 1) (lit≤ tt))
entry_is MinusHalfRoot = negative_entry half_root root_entry

pub scaled_fits : (entry : Entry) (r x : Number) → IsSame r (product_of (entry_number entry) x)
    → FitsOver (2 ^ 70) 17 x → FitsOver (2 ^ 76) 18 r
scaled_fits entry r x e f =
    fits_more (2 * 2 ^ 70) (2 ^ 76) 18 r (lit≤ tt)
    (fits_same (2 * 2 ^ 70) 18 (product_of (entry_number entry) x) r e
    ((entry_is entry).bound (2 ^ 70) 17 x f))

-- of a point of two Surds
pub stored_fits : (x : Number) → FitsOver (2 ^ 52) 16 x → FitsOver (2 ^ 70) 17 x
stored_fits x f = fits_more (2 ^ 52 * 2 ^ 1) (2 ^ 70) 17 x (lit≤ tt) (fits_finer (2 ^ 52) 16 1 x f)

pub stored_image_fits : (n : ℕ) (u v : Position) → IsSameVector u (image_of (matrix_of n) v)
    → FitWithin (2 ^ 52) 16 v → FitWithin (2 ^ 72) 18 u
stored_image_fits n u v e f =
    point_same (2 ^ 72) 18 u (image_of (matrix_of n) v) e
    (point_more (4 * 2 ^ 52 * 2 ^ 1) (2 ^ 72) 18 (image_of (matrix_of n) v) (lit≤ tt)
    (point_finer (4 * 2 ^ 52) 17 1 (image_of (matrix_of n) v) (image_fits n (2 ^ 52) 16 v f)))

-- of the point of a line on an axis
pub axis_fits : (v : Position) → FitWithin (6 * 2 ^ 52) 16 v → FitWithin (2 ^ 70) 17 v
axis_fits v f = point_more (6 * 2 ^ 52 * 2 ^ 1) (2 ^ 70) 17 v (lit≤ tt) (point_finer (6 * 2 ^ 52) 16 1 v f)

pub axis_fits_more : (v : Position) → FitWithin (6 * 2 ^ 52) 16 v → FitWithin (2 ^ 72) 18 v
axis_fits_more v f =
    point_more (6 * 2 ^ 52 * 2 ^ 2) (2 ^ 72) 18 v (lit≤ tt) (point_finer (6 * 2 ^ 52) 16 2 v f)

pub axis_image_fits : (n : ℕ) (u v : Position) → IsSameVector u (image_of (matrix_of n) v)
    → FitWithin (6 * 2 ^ 52) 16 v → FitWithin (2 ^ 72) 18 u
axis_image_fits n u v e f =
    point_same (2 ^ 72) 18 u (image_of (matrix_of n) v) e
    (point_more (4 * (6 * 2 ^ 52) * 2 ^ 1) (2 ^ 72) 18 (image_of (matrix_of n) v) (lit≤ tt)
    (point_finer (4 * (6 * 2 ^ 52)) 17 1 (image_of (matrix_of n) v) (image_fits n (6 * 2 ^ 52) 16 v f)))

-- ---- offsets of lines

pub offset_fits_more : (o : Number) → FitsOver (6 * 2 ^ 52) 16 o → FitsOver (2 ^ 72) 18 o
offset_fits_more o f =
    fits_more (6 * 2 ^ 52 * 2 ^ 2) (2 ^ 72) 18 o (lit≤ tt) (fits_finer (6 * 2 ^ 52) 16 2 o f)

pub negative_offset_fits : (r o : Number) → IsSame r (negative_of o) → FitsOver (6 * 2 ^ 52) 16 o
    → FitsOver (6 * 2 ^ 52) 16 r
negative_offset_fits r o e f =
    fits_same (6 * 2 ^ 52) 16 (negative_of o) r e (fits_negative (6 * 2 ^ 52) 16 o f)

pub nought_over : (z : Number) → IsSame z nought → FitsOver (6 * 2 ^ 52) 16 z
nought_over z e = fits_same (6 * 2 ^ 52) 16 nought z e
    (record { a = pos 0; b = pos 0; same = (refl, refl); a_fits = lit≤ tt; b_fits = lit≤ tt })
