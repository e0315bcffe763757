use Rattle.std.proofs.Common.{◌≡◌, ◌++◌, take, drop}
use Rattle.cp_text.specs.Digits.{leading_digits, behind_digits}
use Rattle.cp_text.proofs.number_reading.digits_len.Given as goal

abbrev pub invariant-loop-i : goal.invariant-loop-i
invariant-loop-i l = record {
  digits : take l.i l.text ++ leading_digits (drop l.i l.text) ≡ leading_digits l.text;
  rest : behind_digits (drop l.i l.text) ≡ behind_digits l.text;
}
