use Rattle.std.proofs.Common.{◌≡◌, drop}
use Rattle.crease_store.specs.Loading.{load_from, load_of}
use Rattle.crease_store.proofs.loading.load_lines.Given as goal

abbrev pub invariant-loop-line : goal.invariant-loop-line
invariant-loop-line l = load_from (drop l.line-index l.lines) l.loaded ≡ load_of l.pattern l.lines
