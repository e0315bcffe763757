use Rattle.std.proofs.Common.{arith, ◌∙◌, sym}
use Rattle.cp_text.proofs.DigitValues.{trim_zero, trim_digit, trim_none}
use Rattle.cp_text.proofs.number_reading.trim_zeros.Goals as goal
use Rattle.cp_text.proofs.number_reading.trim_zeros.Goals.{then-loop-end-test+else-digits-end-eq48, else-loop-end-test}

pub loop-end-preserved : goal.loop-end-preserved
loop-end-preserved c = record {
  value = trim_zero c.loop-end.end c.args.digits.now
      (omega arith) c.loop-end.invariant.bound c.if-digits-end-eq48.true ∙ c.loop-end.invariant.value;
  bound = omega arith;
}

pub returns : goal.returns
returns c =
    let whole = c.loop-end.invariant.value in
    elim c.loop-end-test.branch [
      | then-loop-end-test+else-digits-end-eq48 w ↦
          sym (trim_digit c.loop-end.end c.args.digits.now
          (omega arith) c.loop-end.invariant.bound w.if-digits-end-eq48.false) ∙ whole
      | else-loop-end-test w ↦ sym (trim_none c.loop-end.end c.args.digits.now (omega arith)) ∙ whole
    ]
