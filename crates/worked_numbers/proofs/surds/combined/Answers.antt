-- Each step keeps a bound over 2^16 that is far within a Wide's limits.
use Rattle.std.proofs.Common.{ℕ, ◌+◌, ◌*◌, ◌^◌, ◌≤◌, lit≤}
use Rattle.surd_number.specs.Number.{sum_of, difference_of, product_of, unit_of, half_root, FitsOver}
use Rattle.surd_number.specs.Exact.{IsWideOf}
use Rattle.surd_number.specs.Value.{wide_number_of}
use Rattle.surd_number.specs.declared.Wide.{Wide}
use Rattle.surd_number.specs.FitsLaws.{fits_same, fits_sum, fits_difference, fits_unit, fits_half_root, wide_from_fits}
use Rattle.worked_numbers.proofs.surds.combined.Goals as goal

pub plus-requires : goal.plus-requires
plus-requires c =
    let x = wide_number_of c.of-x.result in
    let y = wide_number_of c.of.result in
    wide_from_fits (2 ^ 53) 16 (sum_of x y) (lit≤ tt) (lit≤ tt)
    (fits_sum (2 ^ 52) (2 ^ 52) 16 x y c.of-x.ensures.fits c.of.ensures.fits)

sum_fits : (x y s : Wide) → IsWideOf s (sum_of (wide_number_of x) (wide_number_of y))
    → FitsOver (2 ^ 52) 16 (wide_number_of x) → FitsOver (2 ^ 52) 16 (wide_number_of y)
    → FitsOver (2 ^ 53) 16 (wide_number_of s)
sum_fits x y s value h h' =
    fits_same (2 ^ 53) 16 (sum_of (wide_number_of x) (wide_number_of y)) (wide_number_of s) value
    (fits_sum (2 ^ 52) (2 ^ 52) 16 (wide_number_of x) (wide_number_of y) h h')

product_fits : (i j : ℕ) (s : Wide) → i ≤ 1 → j ≤ 3 → FitsOver (2 ^ 53) 16 (wide_number_of s)
    → FitsOver (2 ^ 56) 16 (product_of (wide_number_of s) (unit_of i j))
product_fits i j s few few_roots h = fits_unit i j (2 ^ 53) 16 (wide_number_of s) few few_roots h

difference_fits : (p x : Wide) → FitsOver (2 ^ 56) 16 (wide_number_of p)
    → FitsOver (2 ^ 52) 16 (wide_number_of x)
    → FitsOver (2 ^ 56 + 2 ^ 52) 16 (difference_of (wide_number_of p) (wide_number_of x))
difference_fits p x h h' = fits_difference (2 ^ 56) (2 ^ 52) 16 (wide_number_of p) (wide_number_of x) h h'

pub times_unit-requires-clause-fits : goal.times_unit-requires-clause-fits
times_unit-requires-clause-fits c =
    let s = c.plus.result in
    wide_from_fits (2 ^ 56) 16 (product_of (wide_number_of s) (unit_of c.args.i c.args.j)) (lit≤ tt) (lit≤ tt)
    (product_fits c.args.i c.args.j s c.requires.few c.requires.few_roots
    (sum_fits c.of-x.result c.of.result s c.plus.ensures c.of-x.ensures.fits c.of.ensures.fits))

pub minus-requires : goal.minus-requires
minus-requires c =
    let x = c.of-x.result in
    let s = c.plus.result in
    let p = c.times_unit.result in
    let product = product_fits c.args.i c.args.j s c.requires.few c.requires.few_roots
    (sum_fits x c.of.result s c.plus.ensures c.of-x.ensures.fits c.of.ensures.fits) in
    let held = fits_same (2 ^ 56) 16 (product_of (wide_number_of s) (unit_of c.args.i c.args.j))
    (wide_number_of p) c.times_unit.ensures product in
    wide_from_fits (2 ^ 56 + 2 ^ 52) 16 (difference_of (wide_number_of p) (wide_number_of x)) (lit≤ tt)
    (lit≤ tt) (difference_fits p x held c.of-x.ensures.fits)

pub half_root-requires : goal.half_root-requires
half_root-requires c =
    let x = c.of-x.result in
    let s = c.plus.result in
    let p = c.times_unit.result in
    let d = wide_number_of c.minus.result in
    let product = product_fits c.args.i c.args.j s c.requires.few c.requires.few_roots
    (sum_fits x c.of.result s c.plus.ensures c.of-x.ensures.fits c.of.ensures.fits) in
    let held = fits_same (2 ^ 56) 16 (product_of (wide_number_of s) (unit_of c.args.i c.args.j))
    (wide_number_of p) c.times_unit.ensures product in
    let difference = fits_same (2 ^ 56 + 2 ^ 52) 16
    (difference_of (wide_number_of p) (wide_number_of x)) d c.minus.ensures
    (difference_fits p x held c.of-x.ensures.fits) in
    wide_from_fits (2 * (2 ^ 56 + 2 ^ 52)) 17 (product_of d half_root) (lit≤ tt) (lit≤ tt)
    (fits_half_root (2 ^ 56 + 2 ^ 52) 16 d difference)
