use Rattle.std.proofs.Common.{◌≡◌, ◌++◌}
use Rattle.cp_text.specs.Digits.{padded_digits}
use Rattle.cp_text.specs.Growth.{KeepsFront}
use Rattle.cp_text.proofs.number_writing.put_padded.Given as goal

abbrev pub invariant-loop-place : goal.invariant-loop-place
invariant-loop-place l = record {
  written : l.out.items ++ padded_digits l.place l.n ≡ l.initial.out.items ++ padded_digits l.places l.n;
  kept : KeepsFront l.initial.out.items l.out.items;
}
