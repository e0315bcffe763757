use Rattle.std.proofs.Common.{◌≡◌, drop}
use Rattle.std.specs.List.{list_all}
use Rattle.cp_text.specs.Digits.{is_digit}
use Rattle.cp_text.proofs.number_reading.is_digits.Given as goal

abbrev pub invariant-loop-b : goal.invariant-loop-b
invariant-loop-b l = list_all is_digit (drop l.b-index l.word) ≡ list_all is_digit l.word
