use Rattle.std.proofs.Common.{◌↔◌, List, length, sym, ap, subst, arith}
use Rattle.std.specs.Prelude.{Contains}
use Rattle.vertex_checks.specs.Faults.{IsFault, KawasakiIsByAngles, IsInOrder}
use Rattle.vertex_checks.specs.declared.faults.VertexFault.{VertexFault}
use Rattle.vertex_checks.proofs.Lengths.{few_faults}
use Rattle.vertex_checks.proofs.FaultLaws.{faults_are, by_angles}
use Rattle.vertex_checks.proofs.OrderLaws.{faults_sorted}
use Rattle.vertex_checks.proofs.checking.check.Goals as goal

pub returns-clause-found : goal.returns-clause-found
returns-clause-found c =
    let pattern = c.args.pattern.now in
    subst (λ (fs : List VertexFault). (f : VertexFault) → Contains fs f ↔ IsFault pattern f)
    (sym c.in_ok-faults.ensures) (faults_are pattern c.pieces-pieces.ensures.rules)

pub returns-clause-angles : goal.returns-clause-angles
returns-clause-angles c =
    subst (λ (fs : List VertexFault). KawasakiIsByAngles c.args.pattern.now fs) (sym c.in_ok-faults.ensures)
    (by_angles c.args.pattern.now c.pieces-pieces.ensures.rules)

pub returns-clause-order : goal.returns-clause-order
returns-clause-order c =
    subst (λ (fs : List VertexFault). IsInOrder fs) (sym c.in_ok-faults.ensures)
    (faults_sorted c.args.pattern.now c.pieces-pieces.ensures.rules)

pub returns-clause-few : goal.returns-clause-few
returns-clause-few c =
    omega (
      arith,
      ap length c.in_ok-faults.ensures,
      few_faults c.args.pattern.now c.pieces-pieces.ensures.rules,
    )
