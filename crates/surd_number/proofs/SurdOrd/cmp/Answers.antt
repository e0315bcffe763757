use Rattle.std.proofs.Common.{◌≡◌, ℕ, ◌*◌, ◌^◌, ◌≤◌, ℤ, unsigned_abs, neg_ℤ, ◌+ℤ◌, ◌*ℤ◌, ap₂, sym, subst, ◌∙◌, lit<, arith}
use Rattle.std.proofs.Math.Nat.{pow-le-pow_right}
use Rattle.surd_number.specs.Number.{Number, power, difference_of}
use Rattle.surd_number.specs.CanonicalLaws.{unsigned_abs-neg}
use Rattle.surd_number.specs.FitsLaws.{sum_bound, product_bound}
use Rattle.surd_number.specs.Value.{number_of, triple_number_of}
use Rattle.surd_number.proofs.SurdOrd.cmp.Goals as goal

-- a numerator of the difference of two Surds
cross_bound : (m n : ℤ) (j k : ℕ) → unsigned_abs m ≤ 2 ^ 36 → unsigned_abs n ≤ 2 ^ 36 → j ≤ 16 → k ≤ 16
    → unsigned_abs (m *ℤ power k +ℤ neg_ℤ n *ℤ power j) ≤ 2 ^ 63
cross_bound m n j k few few' places places' =
    let first = product_bound m (power k) (2 ^ 36) (2 ^ 16) few (pow-le-pow_right (lit< tt) places') in
    let second = product_bound (neg_ℤ n) (power j) (2 ^ 36) (2 ^ 16) (rw (unsigned_abs-neg n) few')
    (pow-le-pow_right (lit< tt) places) in
    omega (
      arith,
      sum_bound (m *ℤ power k) (neg_ℤ n *ℤ power j) (2 ^ 36 * 2 ^ 16)
          (2 ^ 36 * 2 ^ 16) first second,
    )

pub sgn-requires-clause-few_bits_a : goal.sgn-requires-clause-few_bits_a
sgn-requires-clause-few_bits_a c =
    let x = number_of c.args.self.now in
    let y = number_of c.args.other.now in
    let value : triple_number_of c.minus.result ≡ difference_of x y = c.minus.ensures
    ∙ ap₂ difference_of c.triple.ensures c.triple-2.ensures in
    let mine = c.args.self.now.stored.1 in
    let others = c.args.other.now.stored.1 in
    let P : Number → Type 0 = λ z. unsigned_abs z.a ≤ 2 ^ 63 in
    subst P (sym value) (cross_bound x.a y.a x.k y.k mine.0 others.0 mine.2 others.2)

pub sgn-requires-clause-few_bits_b : goal.sgn-requires-clause-few_bits_b
sgn-requires-clause-few_bits_b c =
    let x = number_of c.args.self.now in
    let y = number_of c.args.other.now in
    let value : triple_number_of c.minus.result ≡ difference_of x y = c.minus.ensures
    ∙ ap₂ difference_of c.triple.ensures c.triple-2.ensures in
    let mine = c.args.self.now.stored.1 in
    let others = c.args.other.now.stored.1 in
    let P : Number → Type 0 = λ z. unsigned_abs z.b ≤ 2 ^ 63 in
    subst P (sym value) (cross_bound x.b y.b x.k y.k mine.1 others.1 mine.2 others.2)
