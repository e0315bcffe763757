use Rattle.std.proofs.Common.{◌≡◌, ◌-◌, map}
use Rattle.std.specs.List.{range_with_len}
use Rattle.cp_text.specs.Sample.{sample_line}
use Rattle.cp_text.proofs.samples.sample.Given as goal

abbrev pub invariant-loop-k : goal.invariant-loop-k
invariant-loop-k l = l.lines.items ≡ map (sample_line l.n) (range_with_len 1 (l.k - 1))
