use Rattle.std.proofs.Common.{◌≡◌, length, arith}
use Rattle.std.proofs.lemmas.List.Sorted.{length_permutation}
use Rattle.wireframe_fold.proofs.SideLines.{counted}
use Rattle.wireframe_fold.proofs.lines.count_different.Goals as goal

pub returns-clause-different : goal.returns-clause-different
returns-clause-different c =
    let count : c.len.result
    ≡ length c.dedup.new.self.items = omega (arith, c.len.ensures, c.dedup.new.self.ok.0) in
    counted c.args.lines.items c.sorted-lines.result.items c.dedup.new.self.items c.len.result
    c.sorted-lines.ensures.same c.sorted-lines.ensures.order c.dedup.ensures.filtered count

pub returns-clause-few : goal.returns-clause-few
returns-clause-few c =
    omega (
      arith,
      c.len.ensures,
      c.dedup.ensures.bound,
      c.sorted-lines.result.ok.0,
      length_permutation c.args.lines.items c.sorted-lines.result.items c.sorted-lines.ensures.same,
    )
