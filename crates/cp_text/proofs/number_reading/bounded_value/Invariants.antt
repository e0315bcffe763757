use Rattle.std.proofs.Common.{◌≡◌, ◌≤◌, ◌^◌, min, drop}
use Rattle.cp_text.specs.Digits.{digits_value}
use Rattle.cp_text.proofs.number_reading.bounded_value.Given as goal

abbrev pub invariant-loop-b : goal.invariant-loop-b
invariant-loop-b l = record {
  value : min (digits_value l.n (drop l.b-index l.digits)) (2 ^ 37) ≡ min (digits_value 0 l.digits) (2 ^ 37);
  bound : l.n ≤ 2 ^ 37;
}
