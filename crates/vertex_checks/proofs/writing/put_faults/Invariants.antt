use Rattle.std.proofs.Common.{◌≡◌, ◌++◌, drop}
use Rattle.cp_text.specs.Growth.{KeepsFront}
use Rattle.vertex_checks.specs.Text.{faults_text}
use Rattle.vertex_checks.proofs.writing.put_faults.Given as goal

abbrev pub invariant-loop-fault : goal.invariant-loop-fault
invariant-loop-fault l = record {
  written : l.out.items ++ faults_text (drop l.fault-index l.faults) ≡ l.initial.out.items
      ++ faults_text l.faults;
  kept : KeepsFront l.initial.out.items l.out.items;
}
