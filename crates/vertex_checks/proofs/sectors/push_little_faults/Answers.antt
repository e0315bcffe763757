use Rattle.std.proofs.Common.{length}
use Rattle.vertex_checks.specs.Faults.{little_fault_at, vertex_fault}
use Rattle.vertex_checks.proofs.SortedLists.{one_more}
use Rattle.vertex_checks.proofs.sectors.push_little_faults.Goals as goal

pub loop-k-preserved : goal.loop-k-preserved
loop-k-preserved c =
    let fan = c.args.fan.now in
    one_more (vertex_fault c.args.v.now) (little_fault_at fan) c.loop-k.k
    (length fan) c.loop-k.faults.items c.push_little_fault.new.faults.items _
    c.loop-k-test.true c.in_ok-push_little_fault.ensures c.loop-k.invariant
