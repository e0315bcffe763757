use Rattle.std.proofs.Common.{arith}
use Rattle.cp_text.proofs.DigitValues.{digit_fits}
use Rattle.cp_text.proofs.number_reading.exact_value.Goals as goal

pub overflow_mul-n : goal.overflow_mul-n
overflow_mul-n c = omega
    (arith, digit_fits c.loop-b.n 0 c.loop-b.b-index c.loop-b.invariant.bound (omega arith) (omega arith))

pub overflow_add-n : goal.overflow_add-n
overflow_add-n c = omega (
  arith,
  digit_fits c.loop-b.n c.digit_value.result c.loop-b.b-index c.loop-b.invariant.bound
      (omega arith) c.digit_value.ensures.bound,
)
