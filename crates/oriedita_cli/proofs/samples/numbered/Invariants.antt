use Rattle.std.proofs.Common.{◌≡◌, ◌+◌, ◌++◌, drop}
use Rattle.oriedita_cli.specs.Samples.{numbered_from}
use Rattle.oriedita_cli.proofs.samples.numbered.Given as goal

abbrev pub invariant-loop-line : goal.invariant-loop-line
invariant-loop-line l = record {
  rest : l.list.items ++ numbered_from (l.number + 1) (drop l.line-index l.lines) ≡ numbered_from 1 l.lines;
  number : l.number ≡ l.line-index;
}
