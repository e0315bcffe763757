use Rattle.std.proofs.Common.{◌≡◌, ◌≤◌, ◌+◌, ◌*◌, ◌^◌, drop}
use Rattle.cp_text.specs.Digits.{digits_value}
use Rattle.cp_text.proofs.number_reading.exact_value.Given as goal

abbrev pub invariant-loop-b : goal.invariant-loop-b
invariant-loop-b l = record {
  value : digits_value l.n (drop l.b-index l.digits) ≡ digits_value 0 l.digits;
  bound : l.n + 23 ≤ 23 * 10 ^ l.b-index;
}
