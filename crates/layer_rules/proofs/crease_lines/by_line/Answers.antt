use Rattle.std.proofs.Common.{arith, rules}
use Rattle.std.proofs.lemmas.List.Sorted.{length_permutation}
use Rattle.std.proofs.lemmas.Slice.Zip.{AllZip-long}
use Rattle.layer_rules.specs.CreaseLines.{IsWithLine}
use Rattle.layer_rules.proofs.CreasesOnLine.{by_line_is}
use Rattle.layer_rules.proofs.crease_lines.by_line.Goals as goal

pub returns-clause-lined : goal.returns-clause-lined
returns-clause-lined c =
    by_line_is c.args.creases.now c.in_ok-lined.lined.items c.sort_by_key.new.self.items c.in_ok-lined.ensures
    c.in_ok-sort_by_key.ensures.permutation c.in_ok-sort_by_key.ensures.sorted (λ a r q k. search rules)

pub returns-clause-count : goal.returns-clause-count
returns-clause-count c =
    omega (
      arith,
      length_permutation c.in_ok-lined.lined.items c.sort_by_key.new.self.items c.in_ok-sort_by_key.ensures.permutation,
      AllZip-long IsWithLine c.args.creases.now c.in_ok-lined.lined.items c.in_ok-lined.ensures,
    )
