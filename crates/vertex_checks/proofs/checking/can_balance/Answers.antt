use Rattle.std.proofs.Common.{◌+◌, sym, ◌∙◌}
use Rattle.vertex_checks.specs.Faults.{balances}
use Rattle.vertex_checks.proofs.SortedLists.{any_later}
use Rattle.vertex_checks.proofs.checking.can_balance.Goals as goal

pub loop-x-preserved : goal.loop-x-preserved
loop-x-preserved c =
    let u = c.args.u in
    sym (any_later (balances c.args.m c.args.v u) c.loop-x.x (u + 1) c.loop-x-test.true
    (sym c.differ_by_two.ensures ∙ c.if-differ_by_two.false))
    ∙ c.loop-x.invariant
