use Rattle.std.proofs.Common.{◌≡◌, ◌+◌, ◌-◌, ◌*◌, ◌^◌, min, get_or, drop, arith, ap, ◌∙◌, sym}
use Rattle.std.proofs.lemmas.List.{drop_more}
use Rattle.cp_text.specs.Digits.{digits_value}
use Rattle.cp_text.proofs.DigitValues.{bounded_value}
use Rattle.cp_text.proofs.number_reading.bounded_value.Goals as goal

pub loop-b-preserved : goal.loop-b-preserved
loop-b-preserved c =
    let ds = c.args.digits.now in
    let i = c.loop-b.b-index in
    let n = 10 * c.loop-b.n + (get_or ds i 0 - 48) in
    let next : c.min-n.result ≡ min n (2 ^ 37) = cc (c.min-n.ensures, c.digit_value.ensures.value) in
    record {
      value =
          ap (λ m. min (digits_value m (drop (i + 1) ds)) (2 ^ 37)) next
          ∙ bounded_value n (2 ^ 37) (drop (i + 1) ds)
          ∙ sym (ap (λ bs. min (digits_value c.loop-b.n bs) (2 ^ 37)) (drop_more ds i 0 (omega arith)))
          ∙ c.loop-b.invariant.value;
      bound = omega (arith, next);
    }
